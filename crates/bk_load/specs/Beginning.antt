-- What an image's state has beside its objects and accesses.
use Rattle.std.specs.Prelude.{◌≡◌, map}
use Rattle.bk_state.specs.Start.{state_of}
use Rattle.bk_state.specs.declared.clearance.Clearance.{Clearance}
use Rattle.bk_state.specs.declared.image.Image.{Image}
use Rattle.bk_state.specs.declared.image.SubjectRec.{SubjectRec}
use Rattle.bk_load.specs.declared.beginning.Beginning.{Beginning}

-- the numbers of a subject's levels
abbrev pub clearance_from : SubjectRec → Clearance
clearance_from s = record { greatest = s.f_s; current = s.f_c }

-- the levels of the subjects are the image's, and the rest is the state's, but for the list of levels, the objects and the
-- accesses
pub record HasBegun (image : Image) (b : Beginning) : Type 0 where
  pub clearances : b.clearances.items ≡ map clearance_from image.subjects
  pub lines : b.lines.items ≡ (state_of image).fixed.lines
  pub turns : b.turns ≡ (state_of image).fixed.turns
  pub schedule : b.schedule.items ≡ (state_of image).fixed.schedule
  pub processes : b.processes.items ≡ (state_of image).processes
