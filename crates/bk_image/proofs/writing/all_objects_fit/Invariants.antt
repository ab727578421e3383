use Rattle.std.proofs.Common.{◌≡◌, drop}
use Rattle.std.specs.List.{list_all}
use Rattle.bk_image.specs.Writing.{object_fits}
use Rattle.bk_image.proofs.writing.all_objects_fit.Given as goal

abbrev pub invariant-loop-o : goal.invariant-loop-o
invariant-loop-o l = list_all (object_fits l.version) (drop l.o-index l.objects) ≡ list_all (object_fits l.version) l.objects
