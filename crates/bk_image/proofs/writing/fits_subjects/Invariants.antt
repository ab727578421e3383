use Rattle.std.proofs.Common.{◌≡◌, ℕ, ◌<◌, ◌≤◌, length}
use Rattle.bk_object.specs.Rows.{in_row}
use Rattle.bk_image.proofs.writing.fits_subjects.Given as goal

abbrev pub invariant-loop-subject : goal.invariant-loop-subject
invariant-loop-subject l = record {
  none : (subject : ℕ) → l.subjects ≤ subject → subject < l.subject → (in_row l.row subject).0 ≡ 0;
  sets : 0 < l.subject → length l.row ≡ 64;
}
