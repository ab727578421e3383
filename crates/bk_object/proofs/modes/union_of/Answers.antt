use Rattle.std.proofs.Common.{◌%◌, ap₂, ◌∙◌}
use Rattle.std.specs.Int.RustNames.{bit_or}
use Rattle.bk_object.proofs.ModeLemmas.{or-union}
use Rattle.bk_object.proofs.modes.union_of.Goals as goal

pub returns-clause-value : goal.returns-clause-value
returns-clause-value c =
    let bits = c.from_bits_retain.ensures tt ∙ ap₂ (λ a b. bit_or a b % 16) (c.bits.ensures tt) (c.bits-2.ensures tt) ∙ or-union c.args.a.0 c.args.b.0 in
    λ i. record { 0 = bits i }
