use Rattle.std.proofs.Common.{◌∙◌, take-add, arith}
use Rattle.std.proofs.lemmas.Grind.{common_steps}
use Rattle.std.proofs.KnownBytes.{Appends-trans}
use Rattle.bk_base.proofs.all.write_all.Goals as goal

pub loop-at-preserved : goal.loop-at-preserved
loop-at-preserved g c = record {
  within = grind (arith, common_steps);
  taken = record {
    bytes =
        rw (take-add c.loop-at.at c.in_ok-n.n c.args.bytes.now)
        (Appends-trans _ _ _ _ _ c.loop-at.invariant.taken.bytes (rw c.split_at.ensures.back at c.in_ok-n.ensures.bytes.bytes));
    told = c.in_ok-n.ensures.cause.told ∙ c.loop-at.invariant.taken.told;
  };
  untouched = λ none. absurd (omega (arith, c.in_ok-n.ensures.bytes.least));
}
