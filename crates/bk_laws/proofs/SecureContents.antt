-- Contents that become others which fit the kind keep a secure state secure: those of one object, those of the segment that
-- a window shows, and those of a line on which bytes arrive.
use Rattle.std.proofs.Common.{◌≡◌, ℕ, Bool, true, false, List, Option, Some, None, refl, sym, ◌∙◌, subst}
use Rattle.std.specs.Prelude.{option_map, slice_get, if◌then◌else◌}
use Rattle.bk_path.specs.Paths.{Path, is_same}
use Rattle.bk_space.specs.AddrSpace.{Write, applied, page_number}
use Rattle.bk_process.specs.declared.process.Process.{Process}
use Rattle.bk_base.specs.Maps.{map_values}
use Rattle.bk_state.specs.State.{State, Object, Contents, find}
use Rattle.bk_state.specs.Start.{is_line}
use Rattle.bk_state.specs.Secure.{Secure, FitsKind}
use Rattle.bk_state.specs.RowCalls.{changed_at}
use Rattle.bk_state.specs.Contents.{with_contents}
use Rattle.bk_system.specs.Arrivals.{typed, taking, arrived}
use Rattle.bk_system.specs.Turn.{stored_in, written_by, written, with_pushes}
use Rattle.bk_laws.proofs.Changes.{find-changed_at, facts_at-contents, find-arrived, facts_at-arrived, changed_at-is}
use Rattle.bk_laws.proofs.Tests.{some_same}
use Rattle.bk_laws.proofs.Fits.{KeepsFit, fits_stored, fits_typed}
use Rattle.bk_laws.proofs.SecureFrame.{secure_same_facts}

-- the contents of the object fit its kind
abbrev FitsOwn : State → Object → Type 0
FitsOwn v o = FitsKind v.fixed o.facts.kind o.facts o.contents

-- what an object that was there becomes fits
fits_changed : (v : State) (change : Object → Object) → Secure v → ((o : Object) → FitsOwn v o → FitsOwn v (change o)) →
    (path : Path) (o : Option Object) → find v path ≡ o → (x : Object) → option_map change o ≡ Some x → FitsOwn v x
fits_changed v change sec fits path None there x is = cc
fits_changed v change sec fits path (Some o) there x is = subst (FitsOwn v) (some_same is) (fits o (sec.kinds path o there))

-- ---- the contents of one object

pub secure_contents : (v : State) (path : Path) (change : Contents → Contents) → Secure v → KeepsFit change → Secure (changed_at v path (with_contents change))
secure_contents v path change sec fits =
    subst Secure (sym (changed_at-is v path (with_contents change)))
    (secure_same_facts v _ sec (facts_at-contents v path change) (λ q x is. by q x (is_same q path) (sym (find-changed_at v path (with_contents change) q) ∙ is)))
  where
    by : (q : Path) (x : Object) (b : Bool) → (if b then option_map (with_contents change) (find v path) else find v q) ≡ Some x → FitsOwn v x
    by q x true is = fits_changed v (with_contents change) sec (λ o. fits v.fixed o.facts.kind o.facts o.contents) path (find v path) refl x is
    by q x false is = sec.kinds q x is

-- ---- the write of an instruction, and those of a reflection

secure_written_by : (v : State) (w : Write) (o : Option (Option Path)) → Secure v → Secure (written_by v w o)
secure_written_by v w None sec = sec
secure_written_by v w (Some None) sec = sec
secure_written_by v w (Some (Some path)) sec = secure_contents v path (stored_in w) sec (fits_stored w)

-- a write of a process through its windows
pub secure_written : (windows : List (Option Path)) (v : State) (w : Write) → Secure v → Secure (written windows v w)
unfolding written
secure_written windows v w sec = secure_written_by v w (slice_get windows (page_number w.mode w.space w.addr)) sec

pub secure_applied : (windows : List (Option Path)) (v : State) (w : Option Write) → Secure v → Secure (applied (written windows) v w)
secure_applied windows v None sec = sec
secure_applied windows v (Some w) sec = secure_written windows v w sec

pub secure_with_pushes : (v : State) (p : Process) → Secure v → Secure (with_pushes v p)
secure_with_pushes v p sec = secure_written p.windows _ _ (secure_written p.windows v _ sec)

-- ---- bytes that arrive on a line

module _ (v : State) (line : ℕ) (bytes : List ℕ) where
  fits_taking : (o : Object) → FitsOwn v o → FitsOwn v (taking line bytes o)
  fits_taking o fits = by (is_line line o.facts.kind)
    where
      by : (b : Bool) → FitsKind v.fixed o.facts.kind o.facts (if b then typed bytes o.contents else o.contents)
      by true = fits_typed bytes v.fixed o.facts.kind o.facts o.contents fits
      by false = fits

  pub secure_arrived : Secure v → Secure (arrived v line bytes)
  unfolding arrived
  secure_arrived sec = secure_same_facts v (map_values (taking line bytes) v.objects) sec (facts_at-arrived v line bytes)
      (λ q x is. fits_changed v (taking line bytes) sec fits_taking q (find v q) refl x (sym (find-arrived v line bytes q) ∙ is))
