use Rattle.std.proofs.Common.{◌≡◌, ◌<◌, ◌+◌, ◌==◌, ◌∙◌, ℕ, Bool, true, false, [], refl, sym, ap, subst, arith}
use Rattle.std.proofs.lemmas.Bool.Decides.{nat_tests}
use Rattle.std.specs.Prelude.{slice_index_or}
use Rattle.bk_object.specs.Rows.{in_row}
use Rattle.bk_access.specs.Held.{puts}
use Rattle.bk_access.proofs.access.next_put_in.Goals as goal

-- a number below the next one is that one, or is below it
last : (P : ℕ → Type 0) (k at : ℕ) → k < at + 1 → P at → (k < at → P k) → P k
last P k at high here before = by (k == at) refl
  where
    by : (b : Bool) → (k == at) ≡ b → P k
    by true is = let same : at ≡ k = grind (arith, nat_tests, is) in subst P same here
    by false is = before (grind (arith, nat_tests, is, high))

pub loop-at-preserved : goal.loop-at-preserved
loop-at-preserved c = record {
  within = omega (arith, c.loop-at.invariant.within);
  first = λ k low high. last (λ n. puts (in_row (slice_index_or c.args.rows.now.items n []) c.args.subject) ≡ false) k c.loop-at.at high
      (ap puts (sym c.modes_in.ensures.value) ∙ sym c.puts.ensures ∙ c.if-not-puts.true) (c.loop-at.invariant.first k low);
}
