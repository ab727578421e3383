use Rattle.std.proofs.Common.{◌≡◌, ◌++◌, take, drop, true}
use Rattle.std.specs.Prelude.{All, flat_map}
use Rattle.std.specs.List.{list_all}
use Rattle.bk_image.specs.Spelling.{object_bytes}
use Rattle.bk_image.specs.Writing.{object_fits, ObjectFits}
use Rattle.bk_image.proofs.put.put_objects.Given as goal

abbrev pub invariant-loop-o : goal.invariant-loop-o
invariant-loop-o l = record {
  text : l.out.items ≡ l.fn.out.items ++ flat_map (object_bytes l.version) (take l.o-index l.objects);
  fits : All ObjectFits (take l.o-index l.objects);
  left : list_all (object_fits l.version) (drop l.o-index l.objects) ≡ true;
}
