use Rattle.std.proofs.Common.{◌≡◌}
use Rattle.std.specs.FinMap.{len}
use Rattle.bk_store.specs.Stored.{without_group}
use Rattle.bk_store.proofs.store.Store.delete_group.Given as goal

-- what is to stay is there
abbrev pub invariant-loop-path : goal.invariant-loop-path
invariant-loop-path l = without_group l.path l.self ≡ without_group l.path l.fn.self

abbrev pub decreases-loop-path : goal.decreases-loop-path
decreases-loop-path l = len l.self.objects
