use Rattle.std.proofs.Common.{◌≡◌, ◌++◌}
use Rattle.bk_conf.specs.Ordered.{windows_in}
use Rattle.bk_conf.proofs.ordered.windows_in.Given as goal

abbrev pub invariant-loop-key : goal.invariant-loop-key
invariant-loop-key l = l.shown.items ++ windows_in l.key-iterator l.subject ≡ windows_in l.windows.entries l.subject
