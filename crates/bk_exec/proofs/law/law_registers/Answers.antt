use Rattle.bk_exec.proofs.CountedRegisters.{exec_alike}
use Rattle.bk_exec.proofs.law.law_registers.Goals as goal

pub returns : goal.returns
returns c = exec_alike
