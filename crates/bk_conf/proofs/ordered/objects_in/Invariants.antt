use Rattle.std.proofs.Common.{◌≡◌, ◌++◌}
use Rattle.std.specs.Prelude.{map}
use Rattle.bk_conf.specs.Ordered.{object_in}
use Rattle.bk_conf.specs.Views.{said_of}
use Rattle.bk_conf.proofs.ordered.objects_in.Given as goal

abbrev pub invariant-loop-path : goal.invariant-loop-path
invariant-loop-path l = l.objects.items ++ map (object_in (said_of l.said)) l.path-iterator ≡ map (object_in (said_of l.said)) l.said.objects.entries
