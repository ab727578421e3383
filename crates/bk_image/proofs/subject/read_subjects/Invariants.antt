use Rattle.std.proofs.Common.{◌≡◌, ◌-◌, [], length}
use Rattle.bk_image.specs.Parts.{each_of}
use Rattle.bk_image.specs.Views.{rest_of}
use Rattle.bk_image.specs.Subjects.{subject_at}
use Rattle.bk_image.proofs.subject.read_subjects.Given as goal

abbrev pub invariant-loop : goal.invariant-loop
invariant-loop l = record {
  exact : each_of (subject_at l.levels) (l.count - l.counter) l.subjects.items (rest_of l.rest) ≡ each_of (subject_at l.levels) l.count [] (rest_of l.initial.rest);
  few : length l.subjects.items ≡ l.counter;
}
