-- Holds: by which modes a subject holds an object at the start.
use Rattle.std.specs.Prelude.{ℕ, Bool, true, not, ◌&&◌, ◌||◌, ◌==◌, nat_lt, List, [], ◌∷◌, length, map, slice_index, Option, Some, None, is_none}
use Rattle.std.specs.Ordering.{is_lt}
use Rattle.bk_level.specs.Levels.{Level, dominates, level_at}
use Rattle.bk_path.specs.Paths.{Path, path_cmp, is_root, parent}
use Rattle.bk_object.specs.Kinds.{kind_modes}
use Rattle.bk_object.specs.Rows.{in_row}
use Rattle.bk_object.specs.Modes.{AccessMode, Read, Execute, Write, Append, has, is_within}
use Rattle.bk_object.specs.declared.modes.Modes.{Modes}
use Rattle.bk_quota.specs.Charges.{passes}
use Rattle.bk_state.specs.Allowed.{is_simple, is_star}
use Rattle.bk_state.specs.declared.image.Hold.{Hold}
use Rattle.bk_state.specs.declared.image.SubjectRec.{SubjectRec}
use Rattle.bk_image.specs.declared.fault.ImageField.TheVariants as field
use Rattle.bk_image.specs.Parts.{Rest, Reads, Check, checked, last, is_outside}
use Rattle.bk_image.specs.Numbers.{byte, path_in, path_at}
use Rattle.bk_image.specs.Objects.{Objects, facts_at}

-- subject, modes, path
abbrev pub hold_of : List ℕ → Hold
hold_of b = record { subject = byte b 0; modes = record { 0 = byte b 1 }; path = path_at b 2 }

-- the subject's number is above the last one's, or is the same and the path stands above the last one's
abbrev pub hold_follows : Option Hold → Hold → Bool
hold_follows None hold = true
hold_follows (Some last) hold = nat_lt last.subject hold.subject || last.subject == hold.subject && is_lt (path_cmp last.path hold.path)

-- the subject's greatest level
abbrev pub greatest_in : List Level → List SubjectRec → ℕ → Level
greatest_in levels subjects n = level_at levels (slice_index (map (λ (s : SubjectRec). s.f_s) subjects) n)

-- its current level
abbrev pub current_in : List Level → List SubjectRec → ℕ → Level
current_in levels subjects n = level_at levels (slice_index (map (λ (s : SubjectRec). s.f_c) subjects) n)

-- each mode of the set passes the test
abbrev pub each_mode : (AccessMode → Bool) → Modes → Bool
each_mode test modes = asks Read && asks Execute && asks Write && asks Append
  where
    asks : AccessMode → Bool
    asks mode = not (has modes mode) || test mode

-- the simple security condition and the *-property hold of each mode of the set
abbrev pub fits_ss : Modes → (greatest object : Level) → Bool
fits_ss modes greatest object = each_mode (λ mode. is_simple mode greatest object) modes

-- the same of the *-property
abbrev pub fits_star : Modes → (current object : Level) → Bool
fits_star modes current object = each_mode (λ mode. is_star mode current object) modes

-- the current level dominates that of the object at the parent
abbrev pub dominates_parent : List Level → Objects → (current : Level) → Path → Bool
dominates_parent levels objects current path = passes (λ above. dominates current (level_at levels above.level)) (facts_at objects (parent path))

-- of the levels, the subjects, all objects, the holds before, whether the words are a path, and the hold
abbrev pub hold_checks : List Level → List SubjectRec → Objects → List Hold → (is_path : Bool) → Hold → List Check
hold_checks levels subjects objects before is_path hold =
    (field.Subject, not (nat_lt hold.subject (length subjects)))
    ∷ (field.Modes, is_outside 1 15 hold.modes.0)
    ∷ (field.Path, not is_path)
    ∷ (field.Path, not (hold_follows (last before) hold))
    ∷ (field.Exists, is_none (facts_at objects hold.path))
    ∷ (field.Kind, not (passes (λ facts. is_within hold.modes (kind_modes facts.kind)) (facts_at objects hold.path)))
    ∷ (field.Row, not (passes (λ facts. is_within hold.modes (in_row facts.row hold.subject)) (facts_at objects hold.path)))
    ∷ (field.Ss, not (passes (λ facts. fits_ss hold.modes (greatest_in levels subjects hold.subject) (level_at levels facts.level)) (facts_at objects hold.path)))
    ∷ (field.Star, not (passes (λ facts. fits_star hold.modes (current_in levels subjects hold.subject) (level_at levels facts.level)) (facts_at objects hold.path)))
    ∷ (field.Parent, not (is_root hold.path) && not (dominates_parent levels objects (current_in levels subjects hold.subject) hold.path))
    ∷ []

-- six bytes
unfoldable pub hold_at : List Level → List SubjectRec → Objects → List Hold → Rest → Reads Hold
hold_at levels subjects objects before = checked 6 (λ b. hold_checks levels subjects objects before (not (is_none (path_in b 2))) (hold_of b)) hold_of
