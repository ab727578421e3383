-- The state of an accepted image is secure.
use Rattle.bk_state.specs.Secure.{Secure}
use Rattle.bk_state.specs.Start.{state_of}
use Rattle.bk_state.specs.declared.image.Image.{Image}
use Rattle.bk_image.specs.Accepted.{IsAccepted}
use Rattle.bk_image.proofs.SecureObjects.{root_secure, parents_secure, levels_secure}
use Rattle.bk_image.proofs.SecureKinds.{kinds_secure, lines_secure}
use Rattle.bk_image.proofs.SecureCells.{limits_secure, no_limits_secure, quotas_secure}
use Rattle.bk_image.proofs.SecureRows.{rows_secure}
use Rattle.bk_image.proofs.SecureAccess.{access_secure, naming_secure}
use Rattle.bk_image.proofs.SecureShape.{shape_secure, distinct_secure}
use Rattle.bk_image.proofs.SecureSubjects.{processes_secure, clearances_secure, entries_secure}

pub accepted_secure : (image : Image) → IsAccepted image → Secure (state_of image)
accepted_secure image accepted = record {
  processes = processes_secure image;
  shape = shape_secure image accepted;
  distinct = distinct_secure image accepted;
  root = root_secure image accepted;
  parents = parents_secure image accepted;
  clearances = clearances_secure image accepted;
  levels = levels_secure image accepted;
  kinds = kinds_secure image accepted;
  lines = lines_secure image accepted;
  limits = limits_secure image accepted;
  no_limits = no_limits_secure image accepted;
  quotas = quotas_secure image accepted;
  rows = rows_secure image accepted;
  access = access_secure image accepted;
  naming = naming_secure image accepted;
  entries = entries_secure image accepted;
}
