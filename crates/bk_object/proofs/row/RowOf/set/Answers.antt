use Rattle.std.proofs.Common.{◌/◌, ◌%◌, ◌*◌, ◌+◌, set, get_or, ◌∙◌, ap, arith}
use Rattle.bk_object.specs.Pairs.{split_pairs}
use Rattle.bk_object.proofs.RowLemmas.{set_low, set_high}
use Rattle.bk_object.proofs.row.RowOf.set.Goals as goal
use Rattle.bk_object.proofs.row.RowOf.set.Goals.{then-subject-eq0, else-subject-eq0}

pub returns : goal.returns
returns g c = elim c.if-subject-eq0.branch [
  | then-subject-eq0 w ↦
      let even = w.if-subject-eq0.true in let low = c.requires.subject in let whole = c.self.told in
      ap (λ pair. split_pairs (set c.self.inside.pairs (c.args.subject / 2) pair)) (w.self-is ∙ ap (λ bits. get_or c.self.inside.pairs (c.args.subject / 2) 0 / 16 * 16 + bits) (w.bits.ensures tt))
      ∙ set_low c.self.inside.pairs (c.args.subject / 2) c.args.subject c.args.modes (omega (arith, even)) (omega (arith, whole, low)) c.requires.modes
      ∙ ap (λ row. set row c.args.subject c.args.modes) c.self.view_is
  | else-subject-eq0 w ↦
      let odd = w.if-subject-eq0.false in let low = c.requires.subject in let whole = c.self.told in
      ap (λ pair. split_pairs (set c.self.inside.pairs (c.args.subject / 2) pair)) (w.self-is ∙ ap (λ bits. get_or c.self.inside.pairs (c.args.subject / 2) 0 % 16 + 16 * bits) (w.bits-else-subject-eq0.ensures tt))
      ∙ set_high c.self.inside.pairs (c.args.subject / 2) c.args.subject c.args.modes (omega (arith, odd)) (omega (arith, whole, low)) c.requires.modes
      ∙ ap (λ row. set row c.args.subject c.args.modes) c.self.view_is
]
