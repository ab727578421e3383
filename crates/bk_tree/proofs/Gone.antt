-- What the tables keep once an object goes.
use Rattle.std.proofs.Common.{◌≡◌, ◌≢◌, ℕ, ◌+◌, ◌-◌, ◌<◌, ◌≤◌, Bool, true, false, cond, not, List, [], ◌∷◌, ◌++◌, length, set, Option, Some, None, refl, sym, ap, ◌∙◌, subst, arith, length-set, length-append}
use Rattle.std.specs.Prelude.{slice_get, IsSome}
use Rattle.std.specs.List.{remove as taken_out}
use Rattle.std.specs.Ordering.{eq_by_cmp}
use Rattle.std.specs.FinMap.{find, get, insert, get-insert, same_map}
use Rattle.std.proofs.lemmas.Option.{same_Some}
use Rattle.bk_path.specs.Paths.{Path, path_cmp, is_same, parent}
use Rattle.bk_path.specs.Orders.{path_total, path_apart, same_path, is_same-itself, ties-same}
use Rattle.bk_quota.specs.Charges.{charge_of, governing_in, level_in, quota_in, used_in}
use Rattle.bk_quota.specs.Usage.{Usage}
use Rattle.bk_tree.specs.declared.place.Placed.{Placed}
use Rattle.bk_tree.specs.declared.place.Object.{Object}
use Rattle.bk_tree.specs.declared.order.Entry.{Entry}
use Rattle.bk_tree.specs.Objects.{CanGo, HasNoChild, Objects, IsAt, facts_of, without}
use Rattle.bk_tree.specs.Kept.{cell_in, HasDirectory, IsKept}
use Rattle.bk_path.specs.Keys.{key_of}
use Rattle.std.specs.Ordering.{nat_cmp}
use Rattle.bk_tree.specs.Order.{keyed, rank}
use Rattle.bk_tree.specs.Places.{tree_of}
use Rattle.bk_tree.specs.Whole.{IsCounted, IsIndex, IsVacant, IsWhole}
use Rattle.bk_tree.proofs.Found.{is_there, stands}
use Rattle.bk_tree.proofs.Added.{governing_there}
use Rattle.bk_tree.proofs.Keeping.{get_without, kept-without}
use Rattle.bk_tree.proofs.Changed.{held, held_path, leaf-map, leaf-tree}
use Rattle.bk_tree.proofs.CellLemmas.{usage, AreSlotsApart, counted-less, same_charge, same_gov, used_gov, old_more}
use Rattle.bk_tree.proofs.Indexed.{index-remove}
use Rattle.bk_tree.proofs.OrderLemmas.{Left, leaving, rising_from}
use Rattle.bk_tree.proofs.Vacant.{vacant-push}
use Rattle.bk_tree.proofs.Kept.{slots_differ}

module _ (places : List (Option Object)) (cells : List Usage) (order : List Entry) (free : List ℕ) (entries frees : ℕ) (whole : IsWhole places cells order free entries frees) where
  abbrev pub t : Objects
  t = tree_of places

  -- the leaf, with the object of its place
  abbrev pub leaf_here : (slot : ℕ) → CanGo t slot → (x : Object) → slice_get places slot ≡ Some (Some x) → CanGo t slot
  leaf_here slot leaf x at =
      let is : x.path ≡ leaf.path = held_path x.path leaf.path x.facts leaf.facts (sym at ∙ stands places leaf.path slot leaf.facts leaf.there) in
      record {
        path = x.path;
        facts = x.facts;
        there = is_there places whole.tree.apart slot x at;
        below_root = λ e. leaf.below_root (sym is ∙ e);
        childless = subst (HasNoChild t) (sym is) leaf.childless;
      }

  -- its parent is there
  pub parent_some : (slot : ℕ) (leaf : CanGo t slot) → IsSome (get t (parent leaf.path))
  parent_some slot leaf = by leaf.path leaf.below_root leaf.there
    where
      by : (path : Path) → path ≢ [] → IsAt t path slot leaf.facts → IsSome (get t (parent path))
      by [] below there = absurd (below refl)
      by (e ∷ p) below there = let d = whole.tree.kept.parents e p (record { slot = slot; facts = leaf.facts }) there in subst IsSome (sym d.1) refl

  -- an object goes
  module _ (slot : ℕ) (leaf : CanGo t slot) where
    abbrev pub less : Objects
    less = without t leaf.path

    abbrev pub a0 : Placed
    a0 = record { slot = slot; facts = leaf.facts }

    pub leaf_at : slice_get places slot ≡ Some (held leaf.path leaf.facts)
    leaf_at = stands places leaf.path slot leaf.facts leaf.there

    pub leaf_listed : find nat_cmp (key_of leaf.path) (keyed order) ≡ Some slot
    leaf_listed = (whole.index.entered leaf.path a0 leaf.there).there

    kept_less : IsKept less
    kept_less = kept-without t leaf.path whole.tree.kept leaf.childless

    get_less : (q : Path) → get less q ≡ cond (not (is_same q leaf.path)) (get t q) None
    get_less q = get_without t leaf.path whole.tree.kept leaf.childless q

    less_free : get less leaf.path ≡ None
    less_free = get_less leaf.path ∙ ap (λ b. cond (not b) (get t leaf.path) None) (is_same-itself leaf.path)

    again : insert less leaf.path a0 ≡ t
    again = same_map path_total path_apart _ _ (λ q. get-insert path_total less leaf.path a0 q ∙ ap (cond (eq_by_cmp path_cmp q leaf.path) (Some a0)) (get_less q) ∙ ap (λ b. cond b (Some a0) (cond (not (is_same q leaf.path)) (get t q) None)) (ties-same q leaf.path) ∙ by q (is_same q leaf.path) refl)
      where
        by : (q : Path) (b : Bool) → is_same q leaf.path ≡ b → cond b (Some a0) (cond (not b) (get t q) None) ≡ get t q
        by q true same = sym (ap (get t) (same_path q leaf.path same) ∙ leaf.there)
        by q false other = refl

    longer : (e : ℕ) (p : Path) → p ≢ e ∷ p
    longer e p same = let long = ap length same in absurd (omega (arith, long))

    parent_left : (e : ℕ) (p : Path) → leaf.path ≡ e ∷ p → (d : Placed) → get t p ≡ Some d → get less p ≡ Some d
    parent_left e p is d h = get_less p ∙ by (is_same p leaf.path) refl
      where
        by : (b : Bool) → is_same p leaf.path ≡ b → cond (not b) (get t p) None ≡ Some d
        by true same = absurd (longer e p (same_path p leaf.path same ∙ is))
        by false other = h

    module _ (n charge : ℕ) (payer : (a : Placed) × (get t (governing_in facts_of t (parent leaf.path)) ≡ Some a) × (a.slot ≡ n)) (is_charge : charge ≡ charge_of leaf.facts (level_in facts_of t (parent leaf.path))) where
      abbrev pub cell : Usage
      cell = cell_in t (governing_in facts_of t (parent leaf.path))

      -- the charge is in use, and what is left once it is given back
      abbrev Back : List Usage → Type 0
      Back one = (charge < cell.used) × (one ≡ set cells n (record cell { used = cell.used - charge }) → IsCounted less one)

      back : (e : ℕ) (p : Path) → leaf.path ≡ e ∷ p → (one : List Usage) → Back one
      back e p is one = (
        omega (arith, used, charge_now, some),
        λ is_one. counted-less less kept_less e p a0 free_p above c payer_less cells one (subst (λ m. IsCounted m cells) (sym again_p) whole.counted) (subst AreSlotsApart (sym again_p) (slots_differ places cells order free entries frees whole))
            (is_one ∙ (λ i. set cells (slot_same i) (usage (quota_in facts_of (sym again_p i) (gov_same i)) (used_in facts_of (sym again_p i) (gov_same i) - (is_charge ∙ charge_same) i)))),
      )
        where
          above_t : HasDirectory t p
          above_t = whole.tree.kept.parents e p a0 (ap (get t) (sym is) ∙ leaf.there)

          above : HasDirectory less p
          above = (above_t.0, parent_left e p is above_t.0 above_t.1, above_t.2)

          free_p : get less (e ∷ p) ≡ None
          free_p = ap (get less) (sym is) ∙ less_free

          again_p : insert less (e ∷ p) a0 ≡ t
          again_p = ap (λ q. insert less q a0) (sym is) ∙ again

          c : Placed
          c = (governing_there less kept_less.parents p above.0 above.1).0

          payer_less : get less (governing_in facts_of less p) ≡ Some c
          payer_less = (governing_there less kept_less.parents p above.0 above.1).1

          gov_t : governing_in facts_of t p ≡ governing_in facts_of less p
          gov_t = ap (λ m. governing_in facts_of m p) (sym again_p) ∙ same_gov less kept_less e p a0 free_p above c payer_less

          gov_same : governing_in facts_of t (parent leaf.path) ≡ governing_in facts_of less p
          gov_same = ap (λ q. governing_in facts_of t (parent q)) is ∙ gov_t

          at_gov : get t (governing_in facts_of less p) ≡ Some c
          at_gov = ap (λ m. get m (governing_in facts_of less p)) (sym again_p) ∙ old_more less kept_less e p a0 free_p above c payer_less (governing_in facts_of less p) c payer_less

          slot_same : n ≡ c.slot
          slot_same = sym payer.2 ∙ ap (λ (x : Placed). x.slot) (same_Some payer.0 c (sym payer.1 ∙ ap (get t) gov_same ∙ at_gov))

          charge_same : charge_of leaf.facts (level_in facts_of t (parent leaf.path)) ≡ charge_of leaf.facts (level_in facts_of less p)
          charge_same = ap (λ q. charge_of leaf.facts (level_in facts_of t (parent q))) is ∙ ap (λ m. charge_of leaf.facts (level_in facts_of m p)) (sym again_p) ∙ same_charge less kept_less e p a0 free_p above c payer_less

          used : cell.used ≡ used_in facts_of less (governing_in facts_of less p) + charge_of leaf.facts (level_in facts_of less p)
          used = (λ i. used_in facts_of (sym again_p i) (gov_same i)) ∙ used_gov less kept_less e p a0 free_p above c payer_less

          charge_now : charge ≡ charge_of leaf.facts (level_in facts_of less p)
          charge_now = is_charge ∙ charge_same

          some : 1 ≤ used_in facts_of less (governing_in facts_of less p)
          some = omega arith

      backed : (one : List Usage) (path : Path) → leaf.path ≡ path → Back one
      backed one [] is = absurd (leaf.below_root is)
      backed one (e ∷ p) is = back e p is one

      pub covered : charge < cell.used
      covered = (backed [] leaf.path refl).0

      module _ (one : List Usage) (is_one : one ≡ set cells n (record cell { used = cell.used - charge })) (list : List Entry) (is_list : list ≡ taken_out order (rank (key_of leaf.path) order))
          (put : List (Option Object)) (is_put : put ≡ set places slot None) (new : List ℕ) (is_new : new ≡ free ++ slot ∷ []) (entries' frees' : ℕ) (more : entries ≤ entries') (most : frees ≤ frees') where
        pub whole_less : IsWhole put one list new entries' frees'
        whole_less = record {
          tree = leaf-tree places put whole.tree t refl slot leaf is_put;
          index = subst (λ m. IsIndex m list) (sym map_less) (subst (IsIndex less) (sym is_list) (index-remove t order whole.index leaf.path ((whole.index.entered leaf.path a0 leaf.there).valid) a0 leaf.there));
          counted = subst (λ m. IsCounted m one) (sym map_less) ((backed one leaf.path refl).1 is_one);
          vacant = subst (λ ps. IsVacant ps new) (sym is_put) (subst (IsVacant (set places slot None)) (sym is_new) (vacant-push places free slot (record { path = leaf.path; facts = leaf.facts }) whole.vacant leaf_at));
          cells_of = ap length is_one ∙ length-set cells n _ ∙ whole.cells_of ∙ sym long_put;
          shared =
              let was = whole.shared in
              let fewer = out.fewer in
              let listed = ap length is_list in
              let frees = ap length is_new ∙ length-append free (slot ∷ []) in
              omega (arith, was, fewer, listed, frees, long_put);
          room_entered = let was = whole.room_entered in omega (arith, was, more, long_put);
          room_free = let was = whole.room_free in omega (arith, was, most, long_put);
        }
          where
            map_less : tree_of put ≡ less
            map_less = leaf-map places put whole.tree t refl slot leaf is_put leaf.path leaf.facts leaf.there

            long_put : length put ≡ length places
            long_put = ap length is_put ∙ length-set places slot None

            out : Left 0 (key_of leaf.path) order (taken_out order (rank (key_of leaf.path) order))
            out = leaving 0 (key_of leaf.path) slot order (rising_from 0 order whole.index.sorted) leaf_listed

    -- there is room for the slot among the free ones
    pub room_push : length free < frees
    room_push =
        let out = leaving 0 (key_of leaf.path) slot order (rising_from 0 order whole.index.sorted) leaf_listed in
        let within = out.within in
        let was = whole.shared in
        let room = whole.room_free in
        omega (arith, within, was, room)
