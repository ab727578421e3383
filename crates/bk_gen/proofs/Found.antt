-- The facts that are found in a list of objects, and the checks of an object and of a hold by what is found.
use Rattle.std.proofs.Common.{◌≡◌, ℕ, true, false, not, ◌&&◌, ◌==◌, Bool, cond, List, [], ◌∷◌, Option, Some, None, Ok, ap, ◌∙◌, refl, length, map}
use Rattle.std.specs.Prelude.{nat_lt, is_none, option_map, unwrap_or, if◌then◌else◌, ◌||◌, ◌*◌}
use Rattle.std.specs.Ordering.{eq_by_cmp}
use Rattle.std.specs.FinMap as finmap
use Rattle.bk_level.specs.Levels.{Level, dominates, level_at as level_in}
use Rattle.bk_object.specs.Kinds.{is_directory, kind_modes}
use Rattle.bk_object.specs.Modes.{is_within}
use Rattle.bk_object.specs.Rows.{in_row}
use Rattle.bk_object.specs.declared.facts.Facts.{Facts}
use Rattle.bk_path.specs.Paths.{Path, path_cmp, is_root, parent}
use Rattle.bk_quota.specs.Charges.{passes}
use Rattle.bk_state.specs.Start.{object_from}
use Rattle.bk_state.specs.declared.image.Hold.{Hold}
use Rattle.bk_state.specs.declared.image.ObjectRec.{ObjectRec}
use Rattle.bk_state.specs.declared.image.SubjectRec.{SubjectRec}
use Rattle.bk_image.specs.declared.fault.ImageField.TheVariants as field
use Rattle.bk_image.specs.Parts.{Rest, Reads, Check, ◌>>=◌, first_failing, part, checked, last, is_outside}
use Rattle.bk_image.specs.Numbers.{words_of, path_in}
use Rattle.bk_image.specs.Subjects.{is_listed}
use Rattle.bk_image.specs.Objects.{Told, objects_in, facts_at, has_cell, told_by, object_of, path_follows, fits_kind, fits_cell, fits_modes}
use Rattle.bk_image.specs.Objects.{fits_subjects, room, words_checks, count_in, object_at}
use Rattle.bk_image.specs.Versions.{record_size}
use Rattle.bk_image.specs.declared.version.Version.{Version}
use Rattle.bk_image.specs.Holds.{hold_of, hold_follows, hold_at, greatest_in, current_in, fits_ss, fits_star}
use Rattle.bk_image.proofs.SecureFound.{get_listed}

-- the facts of the first object of the path
abbrev pub found : List ObjectRec → Path → Option Facts
found [] path = None
found (o ∷ objects) path = if eq_by_cmp path_cmp path o.path then Some o.facts else found objects path

listed_is : (objects : List ObjectRec) (path : Path) → option_map (λ o. o.facts) (finmap.find path_cmp path (map (λ o. (o.path, object_from o)) objects)) ≡ found objects path
listed_is [] path = refl
listed_is (o ∷ objects) path = by (eq_by_cmp path_cmp path o.path) (listed_is objects path)
  where
    by : (b : Bool) → option_map (λ o. o.facts) (finmap.find path_cmp path (map (λ o. (o.path, object_from o)) objects)) ≡ found objects path
        → option_map (λ o. o.facts) (cond b (Some (object_from o)) (finmap.find path_cmp path (map (λ o. (o.path, object_from o)) objects))) ≡ cond b (Some o.facts) (found objects path)
    by true rest = refl
    by false rest = rest

-- the map of the objects has what is found in their list
pub facts_are : (objects : List ObjectRec) (path : Path) → facts_at (objects_in objects) path ≡ found objects path
facts_are objects path = ap (option_map (λ o. o.facts)) (get_listed objects path) ∙ listed_is objects path

-- ---- objects

-- whether an object has a cell, by the facts of the object at its parent
abbrev pub has_cell_by : (above : Option Facts) → ObjectRec → Bool
has_cell_by above o = is_root o.path || is_directory o.facts.kind && not (unwrap_or (option_map (λ facts. facts.level) above) 0 == o.facts.level)

-- the checks of an object, by the facts of the object at its parent
abbrev pub checks_by : (above : Option Facts) → List Level → (subjects lines : ℕ) → List ObjectRec → Told → ObjectRec → List Check
checks_by above levels subjects lines before told o =
    (field.Path, not told.path)
    ∷ (field.Path, not (path_follows (last before) o.path))
    ∷ (field.Parent, not (is_root o.path) && not (passes (λ above. is_directory above.kind) above))
    ∷ (field.Kind, not told.kind)
    ∷ (field.Kind, is_root o.path && not (is_directory o.facts.kind))
    ∷ (field.Blocks, not (fits_kind lines before o.facts.kind o.facts.blocks))
    ∷ (field.Level, not (is_listed levels o.facts.level))
    ∷ (field.Level, not (is_root o.path) && not (passes (λ above. dominates (level_in levels o.facts.level) (level_in levels above.level)) above))
    ∷ (field.Zero, not told.zero)
    ∷ (field.Quota, not (fits_cell (has_cell_by above o) o.facts.quota))
    ∷ (field.Row, not (fits_modes o.facts.kind o.facts.row))
    ∷ (field.Row, not (fits_subjects subjects o.facts.row))
    ∷ (field.Contents, nat_lt (room o.facts) told.count)
    ∷ []

-- the checks of an object's bytes
abbrev pub fails_by : Version → List Level → (subjects lines : ℕ) → List ObjectRec → List ℕ → List Check
fails_by version levels subjects lines before b =
    checks_by (found before (parent (object_of version b []).path)) levels subjects lines before (told_by version b) (object_of version b [])

-- an object that is read with the checks of its bytes
abbrev reading : Version → (List ObjectRec → List ℕ → List Check) → List ObjectRec → Rest → Reads ObjectRec
reading version fails before rest = do
  b ← checked (record_size version) (fails before) (λ b. b) rest
  w ← part (2 * count_in version b.0) b.1
  passed ← first_failing rest.at (words_checks (words_of w.0))
  Ok (object_of version b.0 (words_of w.0), w.1)

-- an object that is read by what is found
abbrev pub object_by : Version → List Level → (subjects lines : ℕ) → List ObjectRec → Rest → Reads ObjectRec
object_by version levels subjects lines = reading version (fails_by version levels subjects lines)

pub object_at_is : (version : Version) (levels : List Level) (subjects lines : ℕ) → object_at version levels subjects lines ≡ object_by version levels subjects lines
unfolding object_at
object_at_is version levels subjects lines = λ i.
    reading version (λ before b. checks_by (facts_are before (parent (object_of version b []).path) i) levels subjects lines before (told_by version b) (object_of version b []))

pub has_cell_is : (objects : List ObjectRec) (o : ObjectRec) → has_cell (objects_in objects) o ≡ has_cell_by (found objects (parent o.path)) o
has_cell_is objects o = ap (λ above. has_cell_by above o) (facts_are objects (parent o.path))

-- ---- holds

-- the checks of a hold, by the facts of its object and of the object at the parent
abbrev pub hold_checks_by : (held above : Option Facts) → List Level → List SubjectRec → List Hold → (is_path : Bool) → Hold → List Check
hold_checks_by held above levels subjects before is_path hold =
    (field.Subject, not (nat_lt hold.subject (length subjects)))
    ∷ (field.Modes, is_outside 1 15 hold.modes.0)
    ∷ (field.Path, not is_path)
    ∷ (field.Path, not (hold_follows (last before) hold))
    ∷ (field.Exists, is_none held)
    ∷ (field.Kind, not (passes (λ facts. is_within hold.modes (kind_modes facts.kind)) held))
    ∷ (field.Row, not (passes (λ facts. is_within hold.modes (in_row facts.row hold.subject)) held))
    ∷ (field.Ss, not (passes (λ facts. fits_ss hold.modes (greatest_in levels subjects hold.subject) (level_in levels facts.level)) held))
    ∷ (field.Star, not (passes (λ facts. fits_star hold.modes (current_in levels subjects hold.subject) (level_in levels facts.level)) held))
    ∷ (field.Parent, not (is_root hold.path) && not (passes (λ above. dominates (current_in levels subjects hold.subject) (level_in levels above.level)) above))
    ∷ []

-- a hold that is read by what is found
abbrev pub hold_by : List Level → List SubjectRec → List ObjectRec → List Hold → Rest → Reads Hold
hold_by levels subjects objects before =
    checked 6 (λ b. hold_checks_by (found objects (hold_of b).path) (found objects (parent (hold_of b).path)) levels subjects before (not (is_none (path_in b 2))) (hold_of b)) hold_of

pub hold_at_is : (levels : List Level) (subjects : List SubjectRec) (objects : List ObjectRec) → hold_at levels subjects (objects_in objects) ≡ hold_by levels subjects objects
unfolding hold_at
hold_at_is levels subjects objects = λ i before.
    checked 6 (λ b. hold_checks_by (facts_are objects (hold_of b).path i) (facts_are objects (parent (hold_of b).path) i) levels subjects before (not (is_none (path_in b 2))) (hold_of b)) hold_of
