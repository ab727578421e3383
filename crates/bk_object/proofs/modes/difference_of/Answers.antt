use Rattle.std.proofs.Common.{◌<◌, ◌^◌, ◌%◌, ap₂, ◌∙◌, subst, arith, w8}
use Rattle.std.specs.Int.{bit_not}
use Rattle.std.specs.Int.RustNames.{bit_and}
use Rattle.bk_object.proofs.ModeLemmas.{and-without}
use Rattle.bk_object.proofs.modes.difference_of.Goals as goal

pub returns-clause-value : goal.returns-clause-value
returns-clause-value c =
    let small : c.args.b.0 < 2 ^ 8 = subst (λ n. n < 2 ^ 8) (c.bits-2.ensures tt) (let below = c.bits-2.type_inv in omega (arith, below)) in
    let bits = c.from_bits_retain.ensures tt ∙ ap₂ (λ a b. bit_and a (bit_not w8 b) % 16) (c.bits.ensures tt) (c.bits-2.ensures tt) ∙ and-without c.args.a.0 c.args.b.0 small in
    λ i. record { 0 = bits i }
