-- The next object of an accepted image can be created in a store that has those before it.
use Rattle.std.proofs.Common.{◌≡◌, ◌≢◌, ℕ, ◌+◌, ◌<◌, ◌≤◌, Bool, true, false, not, ◌&&◌, ◌||◌, ◌==◌, List, [], ◌∷◌, length, get_or, Option}
use Rattle.std.proofs.Common.{Some, None, refl, sym, ap, subst, ◌∙◌, arith}
use Rattle.std.specs.Prelude.{option_map}
use Rattle.std.specs.FinMap as map
use Rattle.std.proofs.lemmas.Bool.Decides.{nat_tests}
use Rattle.bk_level.proofs.LevelOrder.{and_first}
use Rattle.bk_level.specs.Levels.{dominates, level_at}
use Rattle.bk_object.specs.Kinds.{is_directory}
use Rattle.bk_object.specs.declared.kind.Kind.{Kind}
use Rattle.bk_object.specs.declared.kind.Kind.TheVariants.{Directory, Segment, Mailbox, Line}
use Rattle.bk_object.specs.declared.facts.Facts.{Facts}
use Rattle.bk_path.specs.Paths.{Path, parent, is_root}
use Rattle.bk_quota.specs.Charges.{passes, charge_of, governing_in, level_in, quota_in, used_in}
use Rattle.bk_quota.proofs.GoverningLemmas.{governing-cell}
use Rattle.bk_state.specs.State.{Object}
use Rattle.bk_state.specs.Start.{state_of, object_from, is_line}
use Rattle.bk_state.specs.declared.image.Image.{Image}
use Rattle.bk_state.specs.declared.image.ObjectRec.{ObjectRec}
use Rattle.bk_image.specs.Accepted.{IsAccepted}
use Rattle.bk_image.specs.Objects.{Objects, objects_in, facts_at, fits_cell, fits_kind, has_cell, level_above}
use Rattle.bk_image.proofs.SecureLists.{Stands, all_three, le_of, lt_of, not_true, passes_some, stands_any, within, zero_of}
use Rattle.bk_image.proofs.SecureFound.{found}
use Rattle.bk_image.proofs.SecureObjects.{above, checked_at}
use Rattle.bk_image.proofs.SecureKinds.{line_is}
use Rattle.bk_image.proofs.SecureCells.{quotas_secure}
use Rattle.bk_store.specs.Stored.{Entry, Stored, level_number, object_of, objects_of, IsFreeLine}
use Rattle.bk_store.proofs.Stands.{get-objects_of}
use Rattle.bk_tree.specs.Kept.{HasBlocks, HasQuota}
use Rattle.bk_load.specs.Loading.{CanTake, HasFront, HasOneMore}
use Rattle.bk_load.proofs.Parts.{facts_of, fits-part}
use Rattle.bk_load.proofs.Mapped.{fits-stored, level-same, passes-same}
use Rattle.bk_load.proofs.Fronts.{below_root, front_part, in_whole, next_front, next_object, not_before, stands_at}

blocks_fit : (lines : ℕ) (before : List ObjectRec) (kind : Kind) (blocks : ℕ) → fits_kind lines before kind blocks ≡ true → HasBlocks kind blocks
blocks_fit lines before Directory blocks fits = zero_of blocks fits
blocks_fit lines before Segment blocks fits = within 1 128 blocks (not_true _ fits)
blocks_fit lines before Mailbox blocks fits = zero_of blocks fits
blocks_fit lines before (Line n) blocks fits = zero_of blocks (all_three _ _ _ fits).0

quota_fits : (b : Bool) (quota : ℕ) → fits_cell b quota ≡ true → HasQuota b quota
quota_fits true quota fits = within 1 3904 quota (not_true _ fits)
quota_fits false quota fits = zero_of quota fits

-- below root, an object has a cell where it is a directory of another level than its parent's
cell_is : (objects : Objects) (o : ObjectRec) → o.path ≢ [] → has_cell objects o ≡ (is_directory o.facts.kind && not (level_in facts_of objects (parent o.path) == o.facts.level))
cell_is objects o not_root = ap (λ b. b || is_directory o.facts.kind && not (level_above objects o.path == o.facts.level)) (by o.path not_root)
  where
    by : (p : Path) → p ≢ [] → is_root p ≡ false
    by [] h = absurd (h refl)
    by (entry ∷ p) h = refl

nothing_there : {A B : Type 0} (f : A → B) (o : Option A) → option_map f o ≡ None → o ≡ None
nothing_there f None h = refl
nothing_there f (Some x) h = cc

number_is : (kind : Kind) (n : ℕ) → kind ≡ Line n → is_line n kind ≡ true
number_is kind n is = ap (is_line n) is ∙ itself n
  where
    itself : (k : ℕ) → (k == k) ≡ true
    itself k = grind (arith, nat_tests)

-- no cell of all objects is overdrawn
limit : (image : Image) → IsAccepted image → (path : Path) →
    used_in facts_of (objects_in image.objects) (governing_in facts_of (objects_in image.objects) path) ≤ quota_in facts_of (objects_in image.objects) (governing_in facts_of (objects_in image.objects) path)
unfolding state_of objects_in
limit image accepted path = quotas_secure image accepted (governing_in facts_of (state_of image).objects path) (governing-cell facts_of (state_of image).objects path)

module _ (image : Image) (accepted : IsAccepted image) (o : ObjectRec) (at : Stands image.objects o) where
  -- the cell that governs the parent has room
  cell_fits : (entry : ℕ) (path : Path) → o.path ≡ entry ∷ path →
      used_in facts_of (objects_in at.front) (governing_in facts_of (objects_in at.front) path) + charge_of o.facts (level_in facts_of (objects_in at.front) path) ≤ quota_in facts_of (objects_in at.front) (governing_in facts_of (objects_in at.front) path)
  cell_fits entry path is =
      let all = objects_in image.objects in
      let before = objects_in at.front in
      let test = λ (x : Facts). is_directory x.kind && dominates (level_at image.levels o.facts.level) (level_at image.levels x.level) in
      let (facts, there, _) = passes_some test (facts_at before path) (above image accepted o at entry path is) in
      let none : map.get before (entry ∷ path) ≡ None = ap (map.get before) (sym is) ∙ not_before image accepted o at in
      fits-part before all (front_part image accepted o at) entry path (object_from o) (facts, there) none (ap (facts_at all) (sym is) ∙ in_whole image accepted o at) (limit image accepted path)

  module _ (v : Stored) (words : List ℕ) (objects : objects_of v words ≡ objects_in at.front) (levels : v.levels ≡ image.levels) (lines : v.lines ≡ image.lines) where
    passes-front : (test : Facts → Bool) (p : Path) → passes (λ (e : Entry). test e.facts) (map.get v.objects p) ≡ passes test (facts_at (objects_in at.front) p)
    passes-front test p = passes-same words v test p ∙ ap (λ m. passes test (facts_at m p)) objects

    level-front : (p : Path) → level_number v p ≡ level_in facts_of (objects_in at.front) p
    level-front p = sym (level-same words v p) ∙ ap (λ m. level_in facts_of m p) objects

    free_there : map.get v.objects o.path ≡ None
    free_there = nothing_there (object_of words) (map.get v.objects o.path) (sym (get-objects_of v words o.path) ∙ ap (λ m. map.get m o.path) objects ∙ not_before image accepted o at)

    line_free : IsFreeLine v o.facts.kind
    line_free n is =
        let (low, fresh) = line_is image.lines at.front o.facts.kind o.facts.blocks n (checked_at image accepted o at).kind is in (
          subst (λ lines. n < lines) (sym lines) low,
          λ path e there same.
              let object : map.get (objects_in at.front) path ≡ Some (object_of words e) = ap (λ m. map.get m path) (sym objects) ∙ get-objects_of v words path ∙ ap (option_map (object_of words)) there in
              let f = found at.front path (object_of words e) object in
              let kind : f.o.facts.kind ≡ Line n = ap (λ (x : Object). x.facts.kind) f.object_is ∙ same in
              cc (sym (stands_any (λ (x : ObjectRec). is_line n x.facts.kind) at.front f.o f.stands (number_is f.o.facts.kind n kind)) ∙ fresh),
        )

    below : (entry : ℕ) (path : Path) → o.path ≡ entry ∷ path → passes (λ (x : Facts). is_directory x.kind) (facts_at (objects_in at.front) path) ≡ true
    below entry path is =
        let test = λ (x : Facts). is_directory x.kind && dominates (level_at image.levels o.facts.level) (level_at image.levels x.level) in
        let (facts, there, passed) = passes_some test (facts_at (objects_in at.front) path) (above image accepted o at entry path is) in
        ap (passes (λ (x : Facts). is_directory x.kind)) there ∙ and_first (is_directory facts.kind) _ passed

    takes : o.path ≢ [] → (p : Path) → o.path ≡ p → CanTake v o
    takes not_root [] is = absurd (not_root is)
    takes not_root (entry ∷ path) is =
        let c = checked_at image accepted o at in
        let up : parent o.path ≡ path = ap parent is in
        let cell : fits_cell (is_directory o.facts.kind && not (level_number v (parent o.path) == o.facts.level)) o.facts.quota ≡ true =
        ap (λ n. fits_cell (is_directory o.facts.kind && not (n == o.facts.level)) o.facts.quota) (level-front (parent o.path))
        ∙ ap (λ b. fits_cell b o.facts.quota) (sym (cell_is (objects_in at.front) o not_root)) ∙ c.quota in
        record {
          below_root = not_root;
          above = passes-front (λ (x : Facts). is_directory x.kind) (parent o.path) ∙ ap (λ p. passes (λ (x : Facts). is_directory x.kind) (facts_at (objects_in at.front) p)) up ∙ below entry path is;
          fit = record { blocks = blocks_fit image.lines at.front o.facts.kind o.facts.blocks c.kind; quota = quota_fits _ o.facts.quota cell };
          level = subst (λ levels. o.facts.level < length levels) (sym levels) (lt_of o.facts.level (length image.levels) c.listed);
          line = line_free;
          free = free_there;
          charge = fits-stored words v o.path o.facts (subst (λ (p : Path). FitsIn (objects_of v words) p) (sym up) (subst (λ m. FitsIn m path) (sym objects) (cell_fits entry path is)));
          words = le_of (length o.words) _ c.words;
        }
      where
        FitsIn : Objects → Path → Type 0
        FitsIn m p = used_in facts_of m (governing_in facts_of m p) + charge_of o.facts (level_in facts_of m p) ≤ quota_in facts_of m (governing_in facts_of m p)

-- so the next one can be taken
pub can_take : (image : Image) → IsAccepted image → (i : ℕ) (o : ObjectRec) → 1 ≤ i → i < length image.objects → o ≡ get_or image.objects i o → (v : Stored) (words : List ℕ) → HasFront image i v words → CanTake v o
can_take image accepted i o some lt is v words front = takes image accepted o (stands_at image.objects i o lt is) v words front.objects front.levels front.lines (below_root image accepted i o some lt is) o.path refl

-- and the next front is there
pub front_next : (image : Image) → IsAccepted image → (i : ℕ) (o : ObjectRec) → i < length image.objects → o ≡ get_or image.objects i o → (v w : Stored) (words now : List ℕ) → HasFront image i v words → HasOneMore v w words now o → HasFront image (i + 1) w now
front_next image accepted i o lt is v w words now front more = record {
  objects = more.objects ∙ ap (λ m. map.insert m o.path (object_from o)) front.objects ∙ next_object image accepted o (stands_at image.objects i o lt is) ∙ ap objects_in (sym (next_front image.objects i o lt is));
  access = more.access ∙ front.access;
  levels = more.levels ∙ front.levels;
  lines = more.lines ∙ front.lines;
}
