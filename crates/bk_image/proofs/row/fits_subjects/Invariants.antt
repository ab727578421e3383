use Rattle.std.proofs.Common.{◌≡◌}
use Rattle.bk_object.specs.Pairs.{split_pairs}
use Rattle.bk_image.specs.Objects.{fits_subjects}
use Rattle.bk_image.proofs.row.fits_subjects.Given as goal

abbrev pub invariant-loop-subject : goal.invariant-loop-subject
invariant-loop-subject l = fits_subjects l.subject (split_pairs l.pairs) ≡ fits_subjects l.subjects (split_pairs l.pairs)
