-- Ranks along the sorted list, and the last of a path's inferiors in it.
use Rattle.std.proofs.Common.{◌≡◌, ◌≢◌, ℕ, zero, suc, ◌-◌, ◌<◌, ◌≤◌, Bool, true, false, cond, List, [], ◌∷◌, length, Some, refl, sym, ap, ◌∙◌, arith}
use Rattle.std.proofs.Common.{nat_lt, get_or}
use Rattle.std.specs.Prelude.{slice_get, if◌then◌else◌}
use Rattle.std.specs.List.Sorted.{IsNonDecreasingBy, IsPartitionPoint}
use Rattle.std.specs.Ordering.{nat_cmp, eq_by_cmp}
use Rattle.std.proofs.lemmas.Option.{get_or_from_slice_get, slice_get-get_or}
use Rattle.bk_path.specs.Paths.{Path}
use Rattle.bk_tree.specs.declared.order.Entry.{Entry}
use Rattle.bk_path.specs.Keys.{key_of, past_of}
use Rattle.bk_tree.specs.Order.{rank, HasKey, IsLastOf, IsNoneOf}
use Rattle.bk_tree.proofs.OrderLemmas.{IsRising, rank-within, found, found-below, found-here, found-other, is_below, not_below, number_itself, same_number}

rising-at : (low : ℕ) (order : List Entry) (i : ℕ) (d : Entry) → IsRising low order → i < length order → low ≤ (get_or order i d).key
rising-at low [] i d rising lt = absurd (omega (arith, lt))
rising-at low (e ∷ es) zero d rising lt = rising.0
rising-at low (e ∷ es) (suc i) d rising lt = let rest = rising-at (suc e.key) es i d rising.1 (omega (arith, lt)) in omega (arith, rest, rising.0)

pub rises : (low : ℕ) (order : List Entry) → IsRising low order → IsNonDecreasingBy (λ (e : Entry). e.key) order
rises low [] rising i j d le lt = absurd (omega (arith, lt))
rises low (e ∷ es) rising zero zero d le lt = omega arith
rises low (e ∷ es) rising zero (suc j) d le lt = let rest = rising-at (suc e.key) es j d rising.1 (omega (arith, lt)) in omega (arith, rest)
rises low (e ∷ es) rising (suc i) zero d le lt = absurd (omega (arith, le))
rises low (e ∷ es) rising (suc i) (suc j) d le lt = rises (suc e.key) es rising.1 i j d (omega (arith, le)) (omega (arith, lt))

-- where the numbers below one end is its rank
pub rank-point : (k : ℕ) (order : List Entry) (i : ℕ) → i ≤ length order → IsPartitionPoint (λ (e : Entry). nat_lt e.key k ≡ true) (λ e. nat_lt e.key k ≡ false) order i → i ≡ rank k order
rank-point k [] i le point = omega (arith, le)
rank-point k (e ∷ es) zero le point = sym (ap (λ b. if b then suc (rank k es) else 0) (point.1 0 e (omega arith) (omega arith)))
rank-point k (e ∷ es) (suc i) le point =
    let here : nat_lt e.key k ≡ true = point.0 0 e (omega arith) (omega arith) in
    let rest = rank-point k es i (omega (arith, le)) (λ j d low high. point.0 (suc j) d (omega arith) (omega (arith, high)), λ j d low high. point.1 (suc j) d (omega (arith, low)) (omega (arith, high))) in
    ap suc rest ∙ sym (ap (λ b. if b then suc (rank k es) else 0) here)

-- a number that is found stands below the rank of any that is above it
pub key_below : (low k s b : ℕ) (order : List Entry) → IsRising low order → found k order ≡ Some s → k < b → (j : ℕ) × (j < rank b order) × (slice_get order j ≡ Some (record { key = k; slot = s }))
key_below low k s b [] rising there lt = cc
key_below low k s b (e ∷ es) rising there lt = by (nat_lt e.key b) refl (eq_by_cmp nat_cmp k e.key) refl (key_below (suc e.key) k s b es rising.1)
  where
    by : (t : Bool) → nat_lt e.key b ≡ t → (u : Bool) → eq_by_cmp nat_cmp k e.key ≡ u → (found k es ≡ Some s → k < b → (j : ℕ) × (j < rank b es) × (slice_get es j ≡ Some (record { key = k; slot = s }))) →
        (j : ℕ) × (j < (if t then suc (rank b es) else 0)) × (slice_get (e ∷ es) j ≡ Some (record { key = k; slot = s }))
    by true below true same rest =
        let is = same_number k e.key same in
        let slot : Some e.slot ≡ Some s = sym (found-here k e es is) ∙ there in
        let slot_is : e.slot ≡ s = cc slot in
        (0, omega arith, λ i. Some (record { key = sym is i; slot = slot_is i }))
    by true below false other rest =
        let differ : k ≢ e.key = λ same. absurd (cc (sym other ∙ ap (λ n. eq_by_cmp nat_cmp n e.key) same ∙ number_itself e.key)) in
        let (j, within, at) = rest (sym (found-other k e es differ) ∙ there) lt in
        (suc j, omega (arith, within), at)
    by false past u is rest =
        let least = not_below e.key b past in
        absurd (cc (sym (found-below k e.key (e ∷ es) (omega arith, rising.1) (omega (arith, lt, least))) ∙ there))

-- and what stands below a number's rank is found, and is below it
pub rank_below : (low b j : ℕ) (e : Entry) (order : List Entry) → IsRising low order → j < rank b order → slice_get order j ≡ Some e → (found e.key order ≡ Some e.slot) × (e.key < b)
rank_below low b j e [] rising lt at = cc
rank_below low b j e (f ∷ es) rising lt at = by (nat_lt f.key b) refl j lt at (λ j. rank_below (suc f.key) b j e es rising.1)
  where
    by : (t : Bool) → nat_lt f.key b ≡ t → (j : ℕ) → j < (if t then suc (rank b es) else 0) → slice_get (f ∷ es) j ≡ Some e →
        ((j : ℕ) → j < rank b es → slice_get es j ≡ Some e → (found e.key es ≡ Some e.slot) × (e.key < b)) → (found e.key (f ∷ es) ≡ Some e.slot) × (e.key < b)
    by true below zero lt at rest =
        let is : f ≡ e = cc at in
        let less = is_below f.key b below in
        let key : f.key ≡ e.key = ap (λ (x : Entry). x.key) is in
        (found-here e.key f es (sym key) ∙ ap (λ (x : Entry). Some x.slot) is, omega (arith, less, key))
    by true below (suc j) lt at rest =
        let found = rest j (omega (arith, lt)) at in
        (found-later found.0, found.1)
      where
        found-later : found e.key es ≡ Some e.slot → found e.key (f ∷ es) ≡ Some e.slot
        found-later there = later (eq_by_cmp nat_cmp e.key f.key) refl
          where
            later : (u : Bool) → eq_by_cmp nat_cmp e.key f.key ≡ u → found e.key (f ∷ es) ≡ Some e.slot
            later true same = let is = same_number e.key f.key same in absurd (cc (sym (found-below e.key (suc f.key) es rising.1 (omega (arith, is))) ∙ there))
            later false other = ap (λ u. cond u (Some f.slot) (found e.key es)) other ∙ there
    by false past j lt at rest = absurd (omega (arith, lt))

module _ (low : ℕ) (order : List Entry) (rising : IsRising low order) (of : Path) where
  pub none_behind : (end : ℕ) → end ≡ rank (past_of of) order → end ≡ 0 → IsNoneOf order of
  none_behind end is zero_is k s there lt =
      let (j, within, at) = key_below low k s (past_of of) order rising there lt in absurd (omega (arith, within, is, zero_is))

  module _ (end : ℕ) (d : Entry) (is : end ≡ rank (past_of of) order) (some : 1 ≤ end) where
    abbrev pub last : Entry
    last = get_or order (end - 1) d

    in_order : end - 1 < length order
    in_order = let within = rank-within (past_of of) order in omega (arith, within, is, some)

    at_last : slice_get order (end - 1) ≡ Some last
    at_last = slice_get-get_or order (end - 1) d in_order

    highest : (k s : ℕ) → HasKey order k s → k < past_of of → k ≤ last.key
    highest k s there lt =
        let (j, within, at) = key_below low k s (past_of of) order rising there lt in
        let le = rises low order rising j (end - 1) d (omega (arith, within, is)) in_order in
        let key : (get_or order j d).key ≡ k = ap (λ (e : Entry). e.key) (get_or_from_slice_get order j (record { key = k; slot = s }) d at) in
        omega (arith, le, key)

    pub last_none : last.key < key_of of → IsNoneOf order of
    last_none under k s there lt = let most = highest k s there lt in omega (arith, most, under)

    pub last_some : key_of of ≤ last.key → IsLastOf order of last.slot
    last_some from =
        let both = rank_below low (past_of of) (end - 1) last order rising (omega (arith, is, some)) at_last in
        record { key = last.key; there = both.0; from = from; to = both.1; last = highest }
