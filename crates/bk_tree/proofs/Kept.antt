-- What the tables keep once an object comes or has another row.
use Rattle.std.proofs.Common.{◌≡◌, ◌≢◌, ℕ, suc, ◌+◌, ◌-◌, ◌<◌, ◌≤◌, Bool, true, false, List, [], ◌∷◌, ◌++◌, length, replicate, set, take, drop, Option, Some, None, refl, sym, ap, ◌∙◌, subst, arith, length-set, length-append}
use Rattle.std.specs.Prelude.{slice_get, zero, IsNone, IsTrue, ◌↔◌}
use Rattle.std.specs.List.{insert as put_in}
use Rattle.std.specs.FinMap.{get, insert}
use Rattle.std.proofs.lemmas.Option.{slice_get_within, same_Some}
use Rattle.std.proofs.lemmas.List.{length-take-le, length-drop, length-replicate}
use Rattle.bk_object.specs.Kinds.{is_directory}
use Rattle.bk_tree.specs.Down.{down_to_1}
use Rattle.bk_object.specs.declared.Facts.{Facts}
use Rattle.bk_object.specs.declared.modes.Modes.{Modes}
use Rattle.bk_path.specs.Paths.{Path, parent, IsPath}
use Rattle.bk_quota.specs.Charges.{charge_of, governing_in, level_in, quota_in, used_in}
use Rattle.bk_quota.specs.Usage.{Usage, charged}
use Rattle.bk_tree.specs.declared.place.Placed.{Placed}
use Rattle.bk_tree.specs.declared.place.Object.{Object}
use Rattle.bk_tree.specs.declared.order.Entry.{Entry}
use Rattle.bk_tree.specs.Objects.{Objects, facts_of}
use Rattle.bk_tree.specs.Kept.{cell_in, Fits, HasDirectory, IsFit}
use Rattle.bk_path.specs.Keys.{key_of}
use Rattle.bk_tree.specs.Order.{rank}
use Rattle.bk_tree.specs.Places.{tree_of}
use Rattle.bk_tree.specs.Whole.{Finds, IsCounted, IsIndex, IsVacant, IsWhole}
use Rattle.bk_tree.proofs.Found.{is_there, stands}
use Rattle.bk_tree.proofs.Changed.{begun-places, begun-tree, held, held_path, row-map, row-tree}
use Rattle.bk_tree.proofs.Created.{created_free, created_map, created_tree}
use Rattle.bk_tree.proofs.CellLemmas.{usage, AreSlotsApart, counted-begun, counted-more, counted-row, payer_cell}
use Rattle.bk_tree.proofs.Indexed.{finds, index-begun, index-insert, index-row}
use Rattle.bk_tree.proofs.OrderLemmas.{rank-within}
use Rattle.bk_tree.proofs.Vacant.{none_free, popped, vacant-begun, vacant-pop, vacant-put, down_length}

length-put_in : (xs : List Entry) (i : ℕ) (x : Entry) → i ≤ length xs → length (put_in xs i x) ≡ suc (length xs)
length-put_in xs i x le =
    let both = length-append (take i xs) (x ∷ drop i xs) in
    let front = length-take-le i xs le in
    let rest = length-drop i xs in
    omega (arith, both, front, rest, le)

module _ (places : List (Option Object)) (cells : List Usage) (order : List Entry) (free : List ℕ) (entries frees : ℕ) (whole : IsWhole places cells order free entries frees) where
  abbrev pub t : Objects
  t = tree_of places

  pub finding : Finds t order
  finding = finds t order whole.index

  pub slots_differ : AreSlotsApart t
  slots_differ p q a b hp hq same = held_path p q a.facts b.facts (sym (stands places p a.slot a.facts hp) ∙ ap (slice_get places) same ∙ stands places q b.slot b.facts hq)

  -- the counter of the one who pays
  pub paying : (p : Path) (n : ℕ) → ((a : Placed) × (get t (governing_in facts_of t p) ≡ Some a) × (a.slot ≡ n)) → slice_get cells n ≡ Some (cell_in t (governing_in facts_of t p))
  paying p n (a, there, slot) = ap (slice_get cells) (sym slot) ∙ payer_cell t cells whole.counted p a there

  -- the last of the free places
  pub slot_within : (new : List ℕ) (slot : ℕ) → free ≡ new ++ slot ∷ [] → slot < length places
  slot_within new slot is = let none : Option Object = None in slice_get_within places slot none (popped places new slot (subst (IsVacant places) is whole.vacant))

  -- where the charge fits, a place is free
  pub some_left : (path : Path) (facts : Facts) → path ≢ [] → HasDirectory t (parent path) → IsFit facts (level_in facts_of t (parent path)) → IsNone (get t path) → Fits t path facts → 1 ≤ length free
  some_left path facts below above fit none fits = by free refl
    where
      by : (xs : List ℕ) → free ≡ xs → 1 ≤ length free
      by [] is =
          let left : Option ℕ = None in
          absurd (cc (created_free places whole.tree t refl path facts below above fit none fits places refl left (none_free places (subst (IsVacant places) is whole.vacant))))
      by (s ∷ xs) is = let long = ap length is in omega (arith, long)

  -- an object comes
  module _ (path : Path) (facts : Facts) (valid : IsPath path) (below : path ≢ []) (above : HasDirectory t (parent path)) (fit : IsFit facts (level_in facts_of t (parent path))) (none : IsNone (get t path)) (fits : Fits t path facts)
      (n charge slot : ℕ) (payer : (a : Placed) × (get t (governing_in facts_of t (parent path)) ≡ Some a) × (a.slot ≡ n)) (is_charge : charge ≡ charge_of facts (level_in facts_of t (parent path)))
      (new : List ℕ) (is_free : free ≡ new ++ slot ∷ []) (one two : List Usage)
      (is_one : one ≡ set cells n (charged (cell_in t (governing_in facts_of t (parent path))) charge true)) (is_two : two ≡ set one slot (record { limit = facts.quota; used = 1 }))
      (put : List (Option Object)) (is_put : put ≡ set places slot (held path facts)) (list : List Entry) (is_list : list ≡ put_in order (rank (key_of path) order) (record { key = key_of path; slot = slot }))
      (entries' frees' : ℕ) (more : entries ≤ entries') (same : frees ≤ frees') where
    vacant_was : IsVacant places (new ++ slot ∷ [])
    vacant_was = subst (IsVacant places) is_free whole.vacant

    at : slice_get places slot ≡ Some None
    at = popped places new slot vacant_was

    abbrev pub x : Placed
    x = record { slot = slot; facts = facts }

    pub map_now : tree_of put ≡ insert t path x
    map_now = created_map places whole.tree t refl path facts below above fit none fits put slot at is_put

    gone : get t path ≡ None
    gone = by (get t path) none
      where
        by : (o : Option Placed) → IsNone o → o ≡ None
        by None h = refl
        by (Some a) h = cc

    counted_now : (path : Path) → path ≢ [] → HasDirectory t (parent path) → get t path ≡ None → (a : Placed) → get t (governing_in facts_of t (parent path)) ≡ Some a →
        one ≡ set cells a.slot (usage (quota_in facts_of t (governing_in facts_of t (parent path))) (used_in facts_of t (governing_in facts_of t (parent path)) + charge_of facts (level_in facts_of t (parent path)))) → IsCounted (insert t path x) two
    counted_now [] below above gone a there is = absurd (below refl)
    counted_now (e ∷ p) below above gone a there is =
        let none : Option Object = None in
        counted-more t whole.tree.kept e p x gone above a there cells one two whole.counted slots_differ
        (λ q b h same. absurd (cc (sym at ∙ ap (slice_get places) (sym same) ∙ stands places q b.slot b.facts h))) is is_two
        (let lt = slice_get_within places slot none at in let long = whole.cells_of in omega (arith, lt, long))

    pub whole_now : IsWhole put two list new entries' frees'
    whole_now = record {
      tree = created_tree places whole.tree t refl path facts below above fit none fits put slot at is_put;
      index = subst (λ m. IsIndex m list) (sym map_now) (subst (IsIndex (insert t path x)) (sym is_list) (index-insert t order whole.index path valid x gone));
      counted = subst (λ m. IsCounted m two) (sym map_now) (counted_now path below above gone payer.0 payer.1
          (is_one ∙ (λ i. set cells (sym payer.2 i) (usage (quota_in facts_of t (governing_in facts_of t (parent path))) (used_in facts_of t (governing_in facts_of t (parent path)) + is_charge i)))));
      vacant = subst (λ ps. IsVacant ps new) (sym is_put) (vacant-pop places new slot vacant_was (record { path = path; facts = facts }));
      cells_of = ap length is_two ∙ length-set one slot _ ∙ ap length is_one ∙ length-set cells n _ ∙ whole.cells_of ∙ sym long_put;
      shared =
          let entered = ap length is_list ∙ length-put_in order (rank (key_of path) order) (record { key = key_of path; slot = slot }) (rank-within (key_of path) order) in
          let was = whole.shared in
          let frees = ap length is_free ∙ length-append new (slot ∷ []) in
          omega (arith, entered, was, frees, long_put);
      room_entered = let was = whole.room_entered in omega (arith, was, more, long_put);
      room_free = let was = whole.room_free in omega (arith, was, same, long_put);
    }
      where
        long_put : length put ≡ length places
        long_put = ap length is_put ∙ length-set places slot _

  -- an object has another row
  module _ (seen new : List (Option Object)) (k : ℕ) (a : Object) (row : List Modes) (same : seen ≡ places) (at_seen : slice_get seen k ≡ Some (Some a)) (new_is : new ≡ set places k (held a.path (record a.facts { row = row }))) where
    old_at : slice_get places k ≡ Some (Some a)
    old_at = ap (λ xs. slice_get xs k) (sym same) ∙ at_seen

    there : get t a.path ≡ Some (record { slot = k; facts = a.facts })
    there = is_there places whole.tree.apart k a old_at

    pub whole_row : IsWhole new cells order free entries frees
    whole_row = record {
      tree = row-tree places seen new whole.tree t refl k a row same at_seen new_is;
      index = subst (λ m. IsIndex m order) (sym row_now) (index-row t order whole.index a.path ((whole.index.entered a.path (record { slot = k; facts = a.facts }) there).valid) (record { slot = k; facts = a.facts }) (record { slot = k; facts = record a.facts { row = row } }) there refl);
      counted = subst (λ m. IsCounted m cells) (sym row_now) (counted-row t a.path (record { slot = k; facts = a.facts }) (record { slot = k; facts = record a.facts { row = row } }) cells whole.tree.kept there refl refl whole.counted);
      vacant = subst (λ ps. IsVacant ps free) (sym new_is) (vacant-put places free k a (record { path = a.path; facts = record a.facts { row = row } }) whole.vacant old_at);
      cells_of = whole.cells_of ∙ sym long_new;
      shared = whole.shared ∙ sym long_new;
      room_entered = let was = whole.room_entered in omega (arith, was, long_new);
      room_free = let was = whole.room_free in omega (arith, was, long_new);
    }
      where
        row_now : tree_of new ≡ insert t a.path (record { slot = k; facts = record a.facts { row = row } })
        row_now = row-map places seen new whole.tree t refl k a row same at_seen new_is a.path a.facts there

        long_new : length new ≡ length places
        long_new = ap length new_is ∙ length-set places k _

-- root alone
pub begun_whole : (root : Facts) (slots : ℕ) → 1 ≤ root.quota → root.quota ≤ 3904 → is_directory root.kind ≡ true → slots ≡ root.quota →
    (places : List (Option Object)) → places ≡ set (replicate slots None) 0 (held [] root) → (cells : List Usage) → cells ≡ replicate slots (usage root.quota 1) →
    (order : List Entry) → order ≡ record { key = key_of []; slot = 0 } ∷ [] → (free : List ℕ) → free ≡ down_to_1 (slots - 1) → (entries frees : ℕ) → slots ≤ entries → slots ≤ frees → IsWhole places cells order free entries frees
begun_whole root slots some most kind same places is_places cells is_cells order is_order free is_free entries frees room_e room_f = rw (is_places, is_cells, is_order, is_free) (record {
  tree = begun-tree slots root many (omega (arith, most, same)) kind same;
  index = subst (λ m. IsIndex m (record { key = key_of []; slot = 0 } ∷ [])) (sym (begun-places slots root many)) (index-begun root refl);
  counted = subst (λ m. IsCounted m (replicate slots (usage root.quota 1))) (sym (begun-places slots root many)) (counted-begun root slots some many);
  vacant = vacant-begun slots (record { path = []; facts = root }) many;
  cells_of = length-replicate slots (usage root.quota 1) ∙ sym long;
  shared = let down = down_length (slots - 1) in omega (arith, down, long, many);
  room_entered = omega (arith, long, room_e);
  room_free = omega (arith, long, room_f);
})
  where
    many : 1 ≤ slots
    many = omega (arith, some, same)

    long : length (set (replicate slots None) 0 (held [] root)) ≡ slots
    long = length-set (replicate slots None) 0 (held [] root) ∙ length-replicate {A = Option Object} slots None

-- a cell that is put where it stands
pub set_itself : (xs : List Usage) (n : ℕ) (c : Usage) → slice_get xs n ≡ Some c → set xs n c ≡ xs
set_itself [] n c h = refl
set_itself (x ∷ xs) zero c h = λ i. sym (same_Some x c h) i ∷ xs
set_itself (x ∷ xs) (suc n) c h = λ i. x ∷ set_itself xs n c h i

-- the counter without a charge that wasn't taken
pub not_charged : (cells new : List Usage) (n charge : ℕ) (cell : Usage) (taken : Bool) → taken ≡ false → slice_get cells n ≡ Some cell → new ≡ set cells n (charged cell charge taken) → new ≡ cells
not_charged cells new n charge c taken refused stood is = is ∙ ap (λ b. set cells n (charged c charge b)) refused ∙ set_itself cells n c stood

-- whether the charge fits, at the counter
pub fits_then : (m : Objects) (path : Path) (facts : Facts) (charge : ℕ) (taken : Bool) → charge ≡ charge_of facts (level_in facts_of m (parent path)) →
    IsTrue taken ↔ ((cell_in m (governing_in facts_of m (parent path))).used + charge ≤ (cell_in m (governing_in facts_of m (parent path))).limit) → taken ≡ true → Fits m path facts
fits_then m path facts charge taken is exactly passed = subst (λ n. used_in facts_of m (governing_in facts_of m (parent path)) + n ≤ quota_in facts_of m (governing_in facts_of m (parent path))) is (exactly.0 passed)

pub fits_not : (m : Objects) (path : Path) (facts : Facts) (charge : ℕ) (taken : Bool) → charge ≡ charge_of facts (level_in facts_of m (parent path)) →
    IsTrue taken ↔ ((cell_in m (governing_in facts_of m (parent path))).used + charge ≤ (cell_in m (governing_in facts_of m (parent path))).limit) → taken ≡ false → Fits m path facts → ⊥
fits_not m path facts charge taken is exactly refused fits =
    absurd (cc (sym refused ∙ exactly.1 (subst (λ n. used_in facts_of m (governing_in facts_of m (parent path)) + n ≤ quota_in facts_of m (governing_in facts_of m (parent path))) (sym is) fits)))
