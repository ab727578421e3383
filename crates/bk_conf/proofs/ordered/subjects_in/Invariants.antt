use Rattle.std.proofs.Common.{◌≡◌, ◌++◌, drop}
use Rattle.bk_conf.specs.Ordered.{subjects_from}
use Rattle.bk_conf.specs.Views.{said_of}
use Rattle.bk_conf.proofs.ordered.subjects_in.Given as goal

abbrev pub invariant-loop-number : goal.invariant-loop-number
invariant-loop-number l =
    l.subjects.items ++ subjects_from (said_of l.said) l.number (drop l.number l.said.subjects.items)
    ≡ subjects_from (said_of l.said) 0 l.said.subjects.items
