use Rattle.std.proofs.Common.{◌∙◌, ap}
use Rattle.bk_isa.specs.Decode.{decode_of}
use Rattle.bk_isa.proofs.Inverse.{decode_of-code_of}
use Rattle.bk_isa.proofs.codes.encode.Goals as goal

pub returns-clause-again : goal.returns-clause-again
returns-clause-again c = ap decode_of c.spelt.ensures ∙ decode_of-code_of c.args.instr c.requires
