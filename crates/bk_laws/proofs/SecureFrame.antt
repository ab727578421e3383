-- What keeps a secure state secure: objects with the same facts but for their rows, whose contents fit; current accesses that
-- rows, levels and names allow; and as many processes, which are sound.
use Rattle.std.proofs.Common.{◌≡◌, ℕ, ◌%◌, ◌<◌, Bool, true, ◌&&◌, List, [], ◌∷◌, length, Some, refl, sym, ap, ◌∙◌, subst, ◌==◌, inl, inr}
use Rattle.std.specs.Prelude.{option_map}
use Rattle.std.specs.FinMap as map
use Rattle.std.specs.FinSet as set
use Rattle.std.specs.List.{list_all}
use Rattle.bk_level.specs.Levels.{dominates}
use Rattle.bk_path.specs.Paths.{Path, path_cmp}
use Rattle.bk_object.specs.Modes.{AccessMode, has}
use Rattle.bk_object.specs.Kinds.{kind_modes, is_directory}
use Rattle.bk_object.specs.Rows.{in_row, most_subjects}
use Rattle.bk_object.specs.declared.Modes.{Modes}
use Rattle.bk_object.specs.declared.Facts.{Facts}
use Rattle.bk_process.specs.declared.process.Process.{Process}
use Rattle.bk_quota.specs.Charges.{passes}
use Rattle.bk_state.specs.State.{State, Object, triple_cmp, facts_at, holds, current_level, level_of}
use Rattle.bk_state.specs.Secure.{Secure, FitsKind, HasCell, is_whole}
use Rattle.bk_state.specs.Allowed.{is_allowed}
use Rattle.bk_laws.proofs.Changes.{with_objects, moved}
use Rattle.bk_laws.proofs.Shapes.{shape, shape_at, shape_back, passes-shape, is_upgraded-same, quota_at-same, used-same}

-- an object's row has the mode for the subject, and the levels allow it
abbrev pub may_hold : State → (s : ℕ) → AccessMode → Facts → Bool
may_hold v s mode facts = has (in_row facts.row s) mode && is_allowed v s facts mode

-- the subject's current level dominates that of a directory with these facts
abbrev pub is_above : State → (s : ℕ) → (directory : Facts) → Bool
is_above v s directory = dominates (current_level v s) (level_of v directory)

-- a row has all its places, and what it has for a subject is a mode of the kind, and the subject is there
abbrev pub RowFits : State → Facts → (row : List Modes) → Type 0
RowFits v facts row = (length row ≡ most_subjects) ×
    ((s : ℕ) (mode : AccessMode) → has (in_row row s) mode ≡ true → (has (kind_modes facts.kind) mode ≡ true) × (s < length v.fixed.subjects))

-- the rows of a secure state fit
pub rows_fit : (v : State) → Secure v → (path : Path) (facts : Facts) → facts_at v path ≡ Some facts → RowFits v facts facts.row
rows_fit v sec path facts is = (sec.shape.rows path facts is, λ s mode h. sec.rows path facts s mode is h)

abbrev pub is_even : ℕ → Bool
is_even entry = entry % 2 == 0

-- each fault entry of the process is even
abbrev pub has_even_entries : Process → Bool
has_even_entries process = list_all is_even process.entries

-- what a secure state says of one process, and of all
abbrev pub IsSound : Process → Type 0
IsSound process = (has_even_entries process ≡ true) × (is_whole process ≡ true)

abbrev pub AreSound : List Process → Type 0
AreSound processes = (list_all has_even_entries processes ≡ true) × (list_all is_whole processes ≡ true)

pub are_sound : (v : State) → Secure v → AreSound v.processes
are_sound v sec = (sec.entries, sec.shape.processes)

module _ (v : State) (objects : map.FinMap path_cmp Object) (access : set.FinSet triple_cmp) (processes : List Process)
    (sec : Secure v) (same : (q : Path) → shape_at (moved v v.current objects access processes) q ≡ shape_at v q) where
  abbrev w : State
  w = moved v v.current objects access processes

  as_before : (t : Facts → Bool) (path : Path) → ((f : Facts) → t (shape f) ≡ t f) → passes t (facts_at v path) ≡ true → passes t (facts_at w path) ≡ true
  as_before t path blind h = sym (passes-shape t (facts_at w path) blind) ∙ ap (passes t) (same path) ∙ passes-shape t (facts_at v path) blind ∙ h

  parents : (entry : ℕ) (path : Path) (facts : Facts) → (g : Facts) × ((facts_at v (entry ∷ path) ≡ Some g) × (shape facts ≡ shape g)) →
      passes (λ above. is_directory above.kind && dominates (level_of v facts) (level_of v above)) (facts_at w path) ≡ true
  parents entry path facts (g, (there, alike)) =
      as_before (λ above. is_directory above.kind && dominates (level_of v facts) (level_of v above)) path (λ f. refl)
      (subst (λ n. passes (λ above. is_directory above.kind && dominates (level_of v (record facts { level = n })) (level_of v above)) (facts_at v path) ≡ true)
      (sym (ap (λ f. f.level) alike)) (sec.parents entry path g there))

  has_cell : (path : Path) → HasCell w path → HasCell v path
  has_cell path (inl root) = inl root
  has_cell path (inr up) = inr (sym (is_upgraded-same w v same path) ∙ up)

  had_cell : (path : Path) → HasCell v path → HasCell w path
  had_cell path (inl root) = inl root
  had_cell path (inr up) = inr (is_upgraded-same w v same path ∙ up)

  -- the same shapes, contents and rows that fit, accesses that are allowed, and processes of the subjects
  pub secure_frame :
      ((q : Path) (o : Object) → map.get objects q ≡ Some o → FitsKind v.fixed o.facts.kind o.facts o.contents) →
      ((q : Path) (facts : Facts) → facts_at w q ≡ Some facts → RowFits v facts facts.row) →
      ((s : ℕ) (q : Path) (mode : AccessMode) → holds w s q mode ≡ true → passes (may_hold v s mode) (facts_at w q) ≡ true) →
      ((s entry : ℕ) (q : Path) (mode : AccessMode) → holds w s (entry ∷ q) mode ≡ true → passes (is_above v s) (facts_at v q) ≡ true) →
      length processes ≡ length v.fixed.subjects → AreSound processes → Secure w
  secure_frame kinds rows allowed named many sound = record {
    processes = many;
    shape = record { current = sec.shape.current; listed = sec.shape.listed; rows = λ path facts is. (rows path facts is).0; processes = sound.1 };
    distinct = sec.distinct;
    root = as_before (λ f. is_directory f.kind) [] (λ f. refl) sec.root;
    parents = λ entry path facts is. parents entry path facts (shape_back _ _ facts (same (entry ∷ path)) is);
    clearances = sec.clearances;
    levels = λ path facts is. let (g, (there, alike)) = shape_back _ _ facts (same path) is in rw (ap (λ f. f.level) alike) (sec.levels path g there);
    kinds = kinds;
    lines = λ path q f h n isf ish kf kh.
        let (g, (there, alike)) = shape_back _ _ f (same path) isf in
        let (k, (there', alike')) = shape_back _ _ h (same q) ish in
        sec.lines path q g k n there there' (sym (ap (λ f. f.kind) alike) ∙ kf) (sym (ap (λ f. f.kind) alike') ∙ kh);
    limits = λ path cell. rw (quota_at-same w v same path) (sec.limits path (has_cell path cell));
    no_limits = λ path none. quota_at-same w v same path ∙ sec.no_limits path (λ cell. none (had_cell path cell));
    quotas = λ path cell. rw (used-same w v same path, quota_at-same w v same path) (sec.quotas path (has_cell path cell));
    rows = λ path facts s mode is h. (rows path facts is).1 s mode h;
    access = allowed;
    naming = λ s entry path mode h. as_before (is_above v s) path (λ f. refl) (named s entry path mode h);
    entries = sound.0;
  }

-- other objects alone
pub secure_reshaped : (v : State) (objects : map.FinMap path_cmp Object) → Secure v → ((q : Path) → shape_at (with_objects v objects) q ≡ shape_at v q) →
    ((q : Path) (o : Object) → map.get objects q ≡ Some o → FitsKind v.fixed o.facts.kind o.facts o.contents) →
    ((q : Path) (facts : Facts) → facts_at (with_objects v objects) q ≡ Some facts → RowFits v facts facts.row) →
    ((s : ℕ) (q : Path) (mode : AccessMode) → holds v s q mode ≡ true → passes (may_hold v s mode) (facts_at (with_objects v objects) q) ≡ true) →
    Secure (with_objects v objects)
secure_reshaped v objects sec same kinds rows allowed = secure_frame v objects v.access v.processes sec same kinds rows allowed sec.naming sec.processes (are_sound v sec)

-- other accesses and other processes
pub secure_beside : (v : State) (access : set.FinSet triple_cmp) (processes : List Process) → Secure v →
    ((s : ℕ) (q : Path) (mode : AccessMode) → set.contains access (s, q, mode) ≡ true → passes (may_hold v s mode) (facts_at v q) ≡ true) →
    ((s entry : ℕ) (q : Path) (mode : AccessMode) → set.contains access (s, entry ∷ q, mode) ≡ true → passes (is_above v s) (facts_at v q) ≡ true) →
    length processes ≡ length v.fixed.subjects → AreSound processes →
    Secure (record v { access = access; processes = processes })
secure_beside v access processes sec = secure_frame v v.objects access processes sec (λ q. refl) sec.kinds (rows_fit v sec)

-- other objects whose facts are the same at every path, and whose contents fit their kinds
pub secure_same_facts : (v : State) (objects : map.FinMap path_cmp Object) → Secure v →
    ((q : Path) → facts_at (with_objects v objects) q ≡ facts_at v q) →
    ((q : Path) (o : Object) → map.get objects q ≡ Some o → FitsKind v.fixed o.facts.kind o.facts o.contents) → Secure (with_objects v objects)
secure_same_facts v objects sec same kinds = secure_reshaped v objects sec (λ q. ap (option_map shape) (same q)) kinds
    (λ q facts is. rows_fit v sec q facts (sym (same q) ∙ is))
    (λ s q mode h. subst (λ a. passes (may_hold v s mode) a ≡ true) (sym (same q)) (sec.access s q mode h))
