-- The current access set of the state of an accepted image: what is held is granted, and the levels allow it.
use Rattle.std.proofs.Common.{◌≡◌, ℕ, Bool, true, false, not, ◌&&◌, ◌||◌, [], ◌∷◌, sym, ap, subst, ◌∙◌}
use Rattle.std.specs.Prelude.{flat_map}
use Rattle.std.specs.Ordering.{eq_by_cmp}
use Rattle.std.specs.List.{list_any}
use Rattle.std.specs.FinSet as set
use Rattle.std.proofs.lemmas.Bool.{and_from}
use Rattle.bk_level.specs.Levels.{Level, dominates, level_at}
use Rattle.bk_object.specs.Modes.{AccessMode, Read, Execute, Write, Append, has, is_within}
use Rattle.bk_object.specs.Rows.{in_row}
use Rattle.bk_object.specs.declared.modes.Modes.{Modes}
use Rattle.bk_path.specs.Paths.{Path, is_root}
use Rattle.bk_quota.specs.Charges.{passes}
use Rattle.bk_state.specs.State.{Triple, triple_cmp, holds, facts_at as facts_in_state, current_level, level_of}
use Rattle.bk_state.specs.Allowed.{allows, is_allowed, is_simple, is_star}
use Rattle.bk_state.specs.Start.{state_of, triples_from}
use Rattle.bk_state.specs.declared.image.Hold.{Hold}
use Rattle.bk_state.specs.declared.image.Image.{Image}
use Rattle.bk_state.proofs.Orders.{triple_total}
use Rattle.bk_state.proofs.Triples.{same_triple}
use Rattle.bk_image.specs.Objects.{objects_in, facts_at}
use Rattle.bk_image.specs.Holds.{greatest_in, current_in, each_mode, fits_ss, fits_star, dominates_parent}
use Rattle.bk_image.specs.Accepted.{IsAccepted}
use Rattle.bk_image.proofs.SecureLists.{Stands, implied, not_false, passes_some, any_joined, any_kept}
use Rattle.bk_image.proofs.SecureRows.{four, within_has}

-- the hold by which a subject holds the object by the mode
pub record Held (image : Image) (s : ℕ) (path : Path) (mode : AccessMode) : Type 0 where
  pub hold : Hold
  pub stands : Stands image.holds hold
  pub subject : s ≡ hold.subject
  pub path_is : path ≡ hold.path
  pub has_mode : has hold.modes mode ≡ true

pub held : (image : Image) (s : ℕ) (path : Path) (mode : AccessMode) → holds (state_of image) s path mode ≡ true → Held image s path mode
unfolding state_of
held image s path mode h =
    let test = λ (t : Triple). eq_by_cmp triple_cmp (s, path, mode) t in
    let listed : list_any test (flat_map triples_from image.holds) ≡ true = sym (set.contains-from_list triple_total (flat_map triples_from image.holds) (s, path, mode)) ∙ h in
    let (hold, stands, one) = any_joined test triples_from image.holds listed in
    let (by_mode, has_it, ties) = any_kept test (λ x. (hold.subject, hold.path, x)) (has hold.modes) (Read ∷ Execute ∷ Write ∷ Append ∷ []) one in
    let (subject, path_is, mode_is) = same_triple (s, path, mode) (hold.subject, hold.path, by_mode) ties in
    record { hold = hold; stands = stands; subject = subject; path_is = path_is; has_mode = subst (λ m. has hold.modes m ≡ true) (sym mode_is) has_it }

-- a mode of a set of which each passes
each_at : (test : AccessMode → Bool) (modes : Modes) (mode : AccessMode) → each_mode test modes ≡ true → has modes mode ≡ true → test mode ≡ true
each_at test modes mode each h = implied (has modes mode) (test mode) (by mode) h
  where
    asks : AccessMode → Bool
    asks mode = not (has modes mode) || test mode

    all : (asks Read ≡ true) × (asks Execute ≡ true) × (asks Write ≡ true) × (asks Append ≡ true)
    all = four (asks Read) (asks Execute) (asks Write) (asks Append) each

    by : (m : AccessMode) → asks m ≡ true
    by Read = all.0
    by Execute = all.1
    by Write = all.2
    by Append = all.3

-- the two tests of a hold are those of each of its modes
allowed : (mode : AccessMode) (modes : Modes) (greatest current object : Level) → has modes mode ≡ true → fits_ss modes greatest object ≡ true → fits_star modes current object ≡ true → allows mode greatest current object ≡ true
allowed mode modes greatest current object h ss star =
    and_from _ _ (each_at (λ m. is_simple m greatest object) modes mode ss h) (each_at (λ m. is_star m current object) modes mode star h)

-- what a hold's checks say of each of its modes, at the hold's own subject and path
hold_access : (image : Image) → IsAccepted image → (hold : Hold) → Stands image.holds hold → (mode : AccessMode) → has hold.modes mode ≡ true →
    passes (λ facts. has (in_row facts.row hold.subject) mode && allows mode (greatest_in image.levels image.subjects hold.subject) (current_in image.levels image.subjects hold.subject) (level_at image.levels facts.level))
    (facts_at (objects_in image.objects) hold.path) ≡ true
hold_access image accepted hold at mode h =
    let c = accepted.holds at.front hold at.tail at.whole in
    let greatest = greatest_in image.levels image.subjects hold.subject in
    let current = current_in image.levels image.subjects hold.subject in
    let objects = facts_at (objects_in image.objects) hold.path in
    let (facts, there, row) = passes_some (λ facts. is_within hold.modes (in_row facts.row hold.subject)) objects (not_false _ c.1.1.1.1.1.1.0) in
    let ss : fits_ss hold.modes greatest (level_at image.levels facts.level) ≡ true =
    ap (passes (λ f. fits_ss hold.modes greatest (level_at image.levels f.level))) (sym there) ∙ not_false _ c.1.1.1.1.1.1.1.0 in
    let star : fits_star hold.modes current (level_at image.levels facts.level) ≡ true =
    ap (passes (λ f. fits_star hold.modes current (level_at image.levels f.level))) (sym there) ∙ not_false _ c.1.1.1.1.1.1.1.1.0 in
    ap (passes (λ f. has (in_row f.row hold.subject) mode && allows mode greatest current (level_at image.levels f.level))) there
    ∙ and_from _ _ (within_has hold.modes (in_row facts.row hold.subject) mode row h) (allowed mode hold.modes greatest current (level_at image.levels facts.level) h ss star)

pub access_secure : (image : Image) → IsAccepted image → (s : ℕ) (path : Path) (mode : AccessMode) → holds (state_of image) s path mode ≡ true →
    passes (λ facts. has (in_row facts.row s) mode && is_allowed (state_of image) s facts mode) (facts_in_state (state_of image) path) ≡ true
unfolding state_of objects_in
access_secure image accepted s path mode h =
    let held_by = held image s path mode h in
    subst (λ (n : ℕ). passes (λ facts. has (in_row facts.row n) mode && is_allowed (state_of image) n facts mode) (facts_in_state (state_of image) path) ≡ true) (sym held_by.subject)
    (subst (λ p. passes (λ facts. has (in_row facts.row held_by.hold.subject) mode && is_allowed (state_of image) held_by.hold.subject facts mode) (facts_in_state (state_of image) p) ≡ true) (sym held_by.path_is)
    (hold_access image accepted held_by.hold held_by.stands mode held_by.has_mode))

pub naming_secure : (image : Image) → IsAccepted image → (s entry : ℕ) (path : Path) (mode : AccessMode) → holds (state_of image) s (entry ∷ path) mode ≡ true →
    passes (λ above. dominates (current_level (state_of image) s) (level_of (state_of image) above)) (facts_in_state (state_of image) path) ≡ true
unfolding state_of objects_in
naming_secure image accepted s entry path mode h =
    let held_by = held image s (entry ∷ path) mode h in
    let hold = held_by.hold in
    let at = held_by.stands in
    let c = accepted.holds at.front hold at.tail at.whole in
    let current = current_in image.levels image.subjects hold.subject in
    subst (λ (n : ℕ). passes (λ above. dominates (current_level (state_of image) n) (level_of (state_of image) above)) (facts_in_state (state_of image) path) ≡ true) (sym held_by.subject)
    (not_false _ (subst (λ p. not (is_root p) && not (dominates_parent image.levels (objects_in image.objects) current p) ≡ false) (sym held_by.path_is) c.1.1.1.1.1.1.1.1.1.0))
