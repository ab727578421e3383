-- The rows of the state of an accepted image: modes of the kind, and only for subjects that are there.
use Rattle.std.proofs.Common.{◌≡◌, ℕ, ◌+◌, ◌-◌, ◌/◌, ◌%◌, ◌<◌, ◌≤◌, Bool, true, false, not, ◌&&◌, ◌||◌, ◌==◌, List, length, map, drop, get_or, Some, refl, sym}
use Rattle.std.proofs.Common.{ap, subst, ◌∙◌, ◌⊎◌, inl, inr, arith}
use Rattle.std.proofs.lemmas.Bool.{cases_lt}
use Rattle.std.proofs.lemmas.List.{get_or-drop, length-map}
use Rattle.bk_object.specs.Modes.{AccessMode, Read, Execute, Write, Append, has, is_within, no_modes}
use Rattle.bk_object.specs.Kinds.{kind_modes}
use Rattle.bk_object.specs.Rows.{in_row}
use Rattle.bk_object.specs.declared.facts.Facts.{Facts}
use Rattle.bk_object.specs.declared.modes.Modes.{Modes}
use Rattle.bk_path.specs.Paths.{Path}
use Rattle.bk_state.specs.State.{facts_at as facts_in_state}
use Rattle.bk_state.specs.Start.{state_of}
use Rattle.bk_state.specs.declared.image.Image.{Image}
use Rattle.bk_state.specs.declared.image.SubjectRec.{SubjectRec}
use Rattle.bk_image.specs.Objects.{objects_in, fits_modes, fits_subjects}
use Rattle.bk_image.specs.Accepted.{IsAccepted}
use Rattle.bk_image.proofs.SecureLists.{implied, all_at, zero_of}
use Rattle.bk_image.proofs.SecureFound.{found_facts}
use Rattle.bk_image.proofs.SecureObjects.{checked_at}

-- four tests that all hold
pub four : (a b c d : Bool) → (a && b && c && d) ≡ true → (a ≡ true) × (b ≡ true) × (c ≡ true) × (d ≡ true)
four true true true true h = (refl, refl, refl, refl)
four true true true false h = cc
four true true false d h = cc
four true false c d h = cc
four false b c d h = cc

abbrev asked : Modes → Modes → AccessMode → Bool
asked a b mode = not (has a mode) || has b mode

-- what a set has, each set has that it is within
pub within_has : (a b : Modes) (mode : AccessMode) → is_within a b ≡ true → has a mode ≡ true → has b mode ≡ true
within_has a b mode inside h = implied (has a mode) (has b mode) (by mode (four (asked a b Read) (asked a b Execute) (asked a b Write) (asked a b Append) inside)) h
  where
    by : (m : AccessMode) → (asked a b Read ≡ true) × (asked a b Execute ≡ true) × (asked a b Write ≡ true) × (asked a b Append ≡ true) → asked a b m ≡ true
    by Read all = all.0
    by Execute all = all.1
    by Write all = all.2
    by Append all = all.3

has_none : (modes : Modes) (mode : AccessMode) → (modes.0 == 0) ≡ true → has modes mode ≡ false
has_none modes mode none = by mode (zero_of modes.0 none)
  where
    by : (m : AccessMode) → modes.0 ≡ 0 → has modes m ≡ false
    by Read e = ap (λ n. n % 2 == 1) e
    by Execute e = ap (λ n. n / 2 % 2 == 1) e
    by Write e = ap (λ n. n / 4 % 2 == 1) e
    by Append e = ap (λ n. n / 8 % 2 == 1) e

-- past the subjects a row has nothing
past_subjects : (subjects : ℕ) (row : List Modes) (s : ℕ) (mode : AccessMode) → fits_subjects subjects row ≡ true → subjects ≤ s → has (in_row row s) mode ≡ false
past_subjects subjects row s mode fits le =
    has_none (in_row row s) mode (subst (λ modes. (modes.0 == 0) ≡ true) place (all_at (λ modes. modes.0 == 0) (drop subjects row) (s - subjects) no_modes refl fits))
  where
    place : get_or (drop subjects row) (s - subjects) no_modes ≡ in_row row s
    place =
        let same : subjects + (s - subjects) ≡ s = omega arith in
        get_or-drop subjects row (s - subjects) no_modes ∙ ap (λ n. get_or row n no_modes) same

pub rows_secure : (image : Image) → IsAccepted image → (path : Path) (facts : Facts) (s : ℕ) (mode : AccessMode) → facts_in_state (state_of image) path ≡ Some facts → has (in_row facts.row s) mode ≡ true →
    (has (kind_modes facts.kind) mode ≡ true) × (s < length (state_of image).fixed.subjects)
unfolding state_of objects_in
rows_secure image accepted path facts s mode is h =
    let f = found_facts image.objects path facts is in
    let c = checked_at image accepted f.o f.stands in
    let modes : fits_modes facts.kind facts.row ≡ true = subst (λ x. fits_modes x.kind x.row ≡ true) f.facts_are c.modes in
    let subjects : fits_subjects (length image.subjects) facts.row ≡ true = subst (λ x. fits_subjects (length image.subjects) x.row ≡ true) f.facts_are c.subjects in (
      within_has (in_row facts.row s) (kind_modes facts.kind) mode (all_at (λ m. is_within m (kind_modes facts.kind)) facts.row s no_modes refl modes) h,
      there subjects (cases_lt s (length image.subjects)),
    )
  where
    there : fits_subjects (length image.subjects) facts.row ≡ true → (s < length image.subjects) ⊎ (length image.subjects ≤ s) → s < length (map (λ (x : SubjectRec). x.f_s) image.subjects)
    there fits (inl lt) = omega (arith, length-map image.subjects (λ (x : SubjectRec). x.f_s))
    there fits (inr le) = absurd (cc (sym h ∙ past_subjects (length image.subjects) facts.row s mode fits le))
