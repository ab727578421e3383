use Rattle.std.proofs.Common.{◌≡◌, drop}
use Rattle.bk_object.specs.Pairs.{split_pairs}
use Rattle.bk_image.specs.Objects.{fits_modes}
use Rattle.bk_image.proofs.row.fits_modes.Given as goal

abbrev pub invariant-loop-subject : goal.invariant-loop-subject
invariant-loop-subject l = fits_modes l.kind (drop l.subject (split_pairs l.pairs)) ≡ fits_modes l.kind (split_pairs l.pairs)
