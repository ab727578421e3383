use Rattle.std.proofs.Common.{◌/◌, ◌∙◌, length, ap, sym, arith}
use Rattle.bk_object.specs.Modes.{no_modes}
use Rattle.bk_object.specs.Rows.{in_row}
use Rattle.bk_object.proofs.RowLemmas.{length-split_pairs, low_at, high_at}
use Rattle.bk_object.proofs.row.RowOf.get.Goals as goal

pub returns-then-subject-eq0-clause-value : goal.returns-then-subject-eq0-clause-value
returns-then-subject-eq0-clause-value g c =
    let even = c.if-subject-eq0.true in let low = c.requires in let whole = c.self.invariant.whole in
    let h = c.from_bits_retain.ensures tt in
    (λ i. record { 0 = h i })
    ∙ sym (low_at c.self.inside.pairs (c.args.subject / 2) c.args.subject no_modes (omega (arith, even)) (omega (arith, whole, low)))
    ∙ ap (λ row. in_row row c.args.subject) c.self.view_is

pub returns-else-subject-eq0-clause-value : goal.returns-else-subject-eq0-clause-value
returns-else-subject-eq0-clause-value g c =
    let odd = c.if-subject-eq0.false in let low = c.requires in let whole = c.self.invariant.whole in
    let h = c.from_bits_retain-else-subject-eq0.ensures tt in
    (λ i. record { 0 = h i })
    ∙ sym (high_at c.self.inside.pairs (c.args.subject / 2) c.args.subject no_modes (omega (arith, odd)) (omega (arith, whole, low)))
    ∙ ap (λ row. in_row row c.args.subject) c.self.view_is

pub returns-then-subject-eq0-clause-sets : goal.returns-then-subject-eq0-clause-sets
returns-then-subject-eq0-clause-sets g c =
    let whole = c.self.invariant.whole in
    let sets = length-split_pairs c.self.inside.pairs in
    let same = ap length c.self.view_is in
    omega (arith, whole, sets, same)

pub returns-else-subject-eq0-clause-sets : goal.returns-else-subject-eq0-clause-sets
returns-else-subject-eq0-clause-sets g c =
    let whole = c.self.invariant.whole in
    let sets = length-split_pairs c.self.inside.pairs in
    let same = ap length c.self.view_is in
    omega (arith, whole, sets, same)
