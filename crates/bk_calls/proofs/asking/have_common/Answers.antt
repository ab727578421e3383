use Rattle.std.proofs.Common.{◌%◌, ◌==◌, ap₂, ◌∙◌}
use Rattle.std.specs.Prelude.{not}
use Rattle.std.specs.Int.RustNames.{bit_and}
use Rattle.bk_calls.proofs.HeldBits.{and-any}
use Rattle.bk_calls.proofs.asking.have_common.Goals as goal

pub returns : goal.returns
returns c = ap₂ (λ a b. not (bit_and a b % 16 == 0)) (c.bits.ensures tt) (c.bits-2.ensures tt) ∙ and-any c.args.a.0 c.args.b.0
