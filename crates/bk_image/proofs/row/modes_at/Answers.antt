use Rattle.std.proofs.Common.{◌/◌, ◌∙◌, sym, arith}
use Rattle.bk_object.specs.Modes.{no_modes}
use Rattle.bk_object.proofs.RowLemmas.{low_at, high_at}
use Rattle.bk_image.proofs.row.modes_at.Goals as goal

pub returns-then-subject-eq0-clause-value : goal.returns-then-subject-eq0-clause-value
returns-then-subject-eq0-clause-value c =
    let even = c.if-subject-eq0.true in
    let h = c.from_bits_retain.ensures tt in
    (λ i. record { 0 = h i }) ∙ sym (low_at c.args.pairs.now (c.args.subject / 2) c.args.subject no_modes (omega (arith, even)) (omega (arith, c.requires)))

pub returns-else-subject-eq0-clause-value : goal.returns-else-subject-eq0-clause-value
returns-else-subject-eq0-clause-value c =
    let odd = c.if-subject-eq0.false in
    let h = c.from_bits_retain-else-subject-eq0.ensures tt in
    (λ i. record { 0 = h i }) ∙ sym (high_at c.args.pairs.now (c.args.subject / 2) c.args.subject no_modes (omega (arith, odd)) (omega (arith, c.requires)))
