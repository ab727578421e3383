use Rattle.std.proofs.Common.{◌≡◌, ◌++◌, drop}
use Rattle.bk_conf.specs.Built.{listings_of}
use Rattle.bk_conf.proofs.building.list_all.Given as goal

abbrev pub invariant-loop-named : goal.invariant-loop-named
invariant-loop-named l = l.out.items ++ listings_of (drop l.named-index l.programs) ≡ listings_of l.programs
