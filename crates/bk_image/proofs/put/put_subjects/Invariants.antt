use Rattle.std.proofs.Common.{◌≡◌, ◌++◌, take, drop, true}
use Rattle.std.specs.Prelude.{All, flat_map}
use Rattle.std.specs.List.{list_all}
use Rattle.bk_image.specs.Spelling.{subject_bytes}
use Rattle.bk_image.specs.Writing.{windows_fit, SubjectFits}
use Rattle.bk_image.proofs.put.put_subjects.Given as goal

abbrev pub invariant-loop-s : goal.invariant-loop-s
invariant-loop-s l = record {
  text : l.out.items ≡ l.fn.out.items ++ flat_map subject_bytes (take l.s-index l.subjects);
  fits : All SubjectFits (take l.s-index l.subjects);
  left : list_all windows_fit (drop l.s-index l.subjects) ≡ true;
}
