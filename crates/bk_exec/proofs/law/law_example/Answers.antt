use Rattle.std.proofs.Common.{refl}
use Rattle.bk_space.specs.AddrSpace.{page_at, read_at, write_at}
use Rattle.bk_space.specs.Registers.{reg, with_reg, moved}
use Rattle.bk_operand.specs.Part.{reading, writing, next_word}
use Rattle.bk_operand.specs.Operand.{located, pointed, fetched, stored}
use Rattle.bk_exec.specs.Operands.{sourced, moved_to, moving, double_of}
use Rattle.bk_exec.specs.Exec.{executed, running, exec}
use Rattle.bk_exec.proofs.law.law_example.Goals as goal

pub returns : goal.returns
unfolding page_at read_at write_at reg with_reg moved reading writing next_word located pointed fetched stored sourced moved_to moving double_of executed running exec
returns c = record { moved = refl; cut_off = refl }
