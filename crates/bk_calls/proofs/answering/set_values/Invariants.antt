use Rattle.std.proofs.Common.{◌≡◌, drop}
use Rattle.bk_state.specs.Answers.{taking_from, with_values}
use Rattle.bk_calls.proofs.answering.set_values.Given as goal

abbrev pub invariant-loop-n : goal.invariant-loop-n
invariant-loop-n l =
    record l.process { registers = record l.process.registers { general = taking_from l.n (drop l.n l.values) l.process.registers.general } }
    ≡ with_values l.values l.initial.process
