-- The sorted list: what is found in it, before and after an entry joins or leaves.
use Rattle.std.proofs.Common.{◌≡◌, ◌≢◌, ℕ, suc, ◌+◌, ◌<◌, ◌≤◌, Bool, true, false, cond, List, [], ◌∷◌, length, Option, Some, None, refl, sym, ap, ◌∙◌, arith}
use Rattle.std.proofs.Common.{is_eq, nat_lt, ◌==◌}
use Rattle.std.specs.Prelude.{slice_get, if◌then◌else◌}
use Rattle.std.specs.List.{insert, remove}
use Rattle.std.specs.Ordering.{nat_cmp, eq_by_cmp}
use Rattle.std.specs.Cmp.{nat_cmp_total, tied_itself}
use Rattle.std.specs.FinMap.{find, nat_cmp-IsAntisymmetric}
use Rattle.std.proofs.lemmas.Bool.Decides.{nat_tests}
use Rattle.bk_base.proofs.Totals.{tied}
use Rattle.bk_tree.specs.declared.order.Entry.{Entry}
use Rattle.std.specs.Prelude.{⊤}
use Rattle.std.specs.Cmp.{first_so, second_so}
use Rattle.std.proofs.Common.{nat_le, ◌&&◌}
use Rattle.bk_tree.specs.Order.{is_rising, keyed, rank, slot_if}

-- the numbers rise, from one on
abbrev pub IsRising : (low : ℕ) → List Entry → Type 0
IsRising low [] = ⊤
IsRising low (e ∷ es) = (low ≤ e.key) × IsRising (suc e.key) es

pub rising_from : (low : ℕ) (order : List Entry) → is_rising low order ≡ true → IsRising low order
rising_from low [] h = tt
rising_from low (e ∷ es) h =
    let test = first_so (nat_le low e.key) (is_rising (suc e.key) es) h in
    let le : low ≤ e.key = grind (arith, nat_tests, test) in
    (le, rising_from (suc e.key) es (second_so (nat_le low e.key) (is_rising (suc e.key) es) h))

pub rising_to : (low : ℕ) (order : List Entry) → IsRising low order → is_rising low order ≡ true
rising_to low [] h = refl
rising_to low (e ∷ es) h =
    let le = h.0 in
    let test : nat_le low e.key ≡ true = grind (arith, nat_tests, le) in
    (λ i. test i && rising_to (suc e.key) es h.1 i)

-- numbers that compare as equal are the same, and no others do
pub same_number : (m n : ℕ) → eq_by_cmp nat_cmp m n ≡ true → m ≡ n
same_number m n e = nat_cmp-IsAntisymmetric m n (tied (nat_cmp m n) e)

pub number_itself : (n : ℕ) → eq_by_cmp nat_cmp n n ≡ true
number_itself n = ap is_eq (tied_itself nat_cmp_total n)

pub other_number : (m n : ℕ) → m ≢ n → eq_by_cmp nat_cmp m n ≡ false
other_number m n differ = by (eq_by_cmp nat_cmp m n) refl
  where
    by : (b : Bool) → eq_by_cmp nat_cmp m n ≡ b → b ≡ false
    by true e = absurd (differ (same_number m n e))
    by false e = refl

-- what is found under a number in a list
abbrev pub found : ℕ → List Entry → Option ℕ
found k order = find nat_cmp k (keyed order)

pub found-other : (k : ℕ) (e : Entry) (es : List Entry) → k ≢ e.key → found k (e ∷ es) ≡ found k es
found-other k e es differ = ap (λ b. cond b (Some e.slot) (found k es)) (other_number k e.key differ)

pub found-here : (k : ℕ) (e : Entry) (es : List Entry) → k ≡ e.key → found k (e ∷ es) ≡ Some e.slot
found-here k e es same = ap (λ b. cond b (Some e.slot) (found k es)) (ap (λ n. eq_by_cmp nat_cmp n e.key) same ∙ number_itself e.key)

-- none stands below the lowest
pub found-below : (k low : ℕ) (order : List Entry) → IsRising low order → k < low → found k order ≡ None
found-below k low [] rising lt = refl
found-below k low (e ∷ es) rising lt = found-other k e es (λ same. absurd (omega (arith, same, lt, rising.0))) ∙ found-below k (suc e.key) es rising.1 (omega (arith, lt, rising.0))

pub lower : (low less : ℕ) (order : List Entry) → less ≤ low → IsRising low order → IsRising less order
lower low less [] le rising = tt
lower low less (e ∷ es) le rising = (omega (arith, le, rising.0), rising.1)

pub not_below : (m n : ℕ) → nat_lt m n ≡ false → n ≤ m
not_below m n e = grind (arith, nat_tests, e)

pub is_below : (m n : ℕ) → nat_lt m n ≡ true → m < n
is_below m n e = grind (arith, nat_tests, e)

-- what is found stands at the number's rank
pub found-rank : (k low : ℕ) (order : List Entry) → IsRising low order → found k order ≡ slot_if k (slice_get order (rank k order))
found-rank k low [] rising = refl
found-rank k low (e ∷ es) rising = by (nat_lt e.key k) refl (found-rank k (suc e.key) es rising.1)
  where
    by : (b : Bool) → nat_lt e.key k ≡ b → found k es ≡ slot_if k (slice_get es (rank k es)) → found k (e ∷ es) ≡ slot_if k (slice_get (e ∷ es) (if b then suc (rank k es) else 0))
    by true lt rest = let less = is_below e.key k lt in found-other k e es (λ same. absurd (omega (arith, same, less))) ∙ rest
    by false ge rest = at (e.key == k) refl
      where
        at : (b : Bool) → (e.key == k) ≡ b → found k (e ∷ es) ≡ (if b then Some e.slot else None)
        at true same = found-here k e es (let is : k ≡ e.key = grind (arith, nat_tests, same) in is)
        at false other =
            let differ : k ≢ e.key = λ same. absurd (grind (arith, nat_tests, other, same)) in
            let least = not_below e.key k ge in
            found-other k e es differ ∙ found-below k (suc e.key) es rising.1 (omega (arith, least))

pub rank-within : (k : ℕ) (order : List Entry) → rank k order ≤ length order
rank-within k [] = omega arith
rank-within k (e ∷ es) = by (nat_lt e.key k) (rank-within k es)
  where
    by : (b : Bool) → rank k es ≤ length es → (if b then suc (rank k es) else 0) ≤ suc (length es)
    by true rest = omega (arith, rest)
    by false rest = omega arith

-- an entry joins
pub record Entered (low k s : ℕ) (order new : List Entry) : Type 0 where
  pub rising : IsRising low new
  pub each : (q : ℕ) → found q new ≡ cond (eq_by_cmp nat_cmp q k) (Some s) (found q order)

pub entering : (low k s : ℕ) (order : List Entry) → IsRising low order → low ≤ k → found k order ≡ None → Entered low k s order (insert order (rank k order) (record { key = k; slot = s }))
entering low k s [] rising le none = record { rising = (le, tt); each = λ q. refl }
entering low k s (e ∷ es) rising le none = by (nat_lt e.key k) refl (entering (suc e.key) k s es rising.1)
  where
    x : Entry
    x = record { key = k; slot = s }

    differ : k ≢ e.key
    differ same = absurd (cc (sym none ∙ found-here k e es same))

    by : (b : Bool) → nat_lt e.key k ≡ b → (suc e.key ≤ k → found k es ≡ None → Entered (suc e.key) k s es (insert es (rank k es) x)) → Entered low k s (e ∷ es) (insert (e ∷ es) (if b then suc (rank k es) else 0) x)
    by true lt rest =
        let less = is_below e.key k lt in
        let after = rest (omega (arith, less)) (sym (found-other k e es differ) ∙ none) in
        record { rising = (rising.0, after.rising); each = λ q. ap (cond (eq_by_cmp nat_cmp q e.key) (Some e.slot)) (after.each q) ∙ turn q (eq_by_cmp nat_cmp q e.key) (eq_by_cmp nat_cmp q k) refl refl }
      where
        turn : (q : ℕ) (a b : Bool) → eq_by_cmp nat_cmp q e.key ≡ a → eq_by_cmp nat_cmp q k ≡ b → cond a (Some e.slot) (cond b (Some s) (found q es)) ≡ cond b (Some s) (cond a (Some e.slot) (found q es))
        turn q true true f g = absurd (differ (sym (same_number q k g) ∙ same_number q e.key f))
        turn q true false f g = refl
        turn q false true f g = refl
        turn q false false f g = refl
    by false ge rest = let least = not_below e.key k ge in record { rising = (le, (omega (arith, least, differ), rising.1)); each = λ q. refl }

-- an entry leaves
pub record Left (low k : ℕ) (order new : List Entry) : Type 0 where
  pub rising : IsRising low new
  pub each : (q : ℕ) → found q new ≡ cond (eq_by_cmp nat_cmp q k) None (found q order)
  pub fewer : length new + 1 ≡ length order
  pub within : rank k order < length order

-- the same, where the rank is told
abbrev LeftAt : (low k : ℕ) (order : List Entry) (at : ℕ) → Type 0
LeftAt low k order at = IsRising low (remove order at) × ((q : ℕ) → found q (remove order at) ≡ cond (eq_by_cmp nat_cmp q k) None (found q order)) × (length (remove order at) + 1 ≡ length order) × (at < length order)

left : (low k s : ℕ) (order : List Entry) → IsRising low order → found k order ≡ Some s → LeftAt low k order (rank k order)
left low k s [] rising there = cc
left low k s (e ∷ es) rising there = by (nat_lt e.key k) refl (left (suc e.key) k s es rising.1)
  where
    by : (b : Bool) → nat_lt e.key k ≡ b → (found k es ≡ Some s → LeftAt (suc e.key) k es (rank k es)) → LeftAt low k (e ∷ es) (if b then suc (rank k es) else 0)
    by true lt rest =
        let less = is_below e.key k lt in
        let differ : k ≢ e.key = λ same. absurd (omega (arith, same, less)) in
        let after = rest (sym (found-other k e es differ) ∙ there) in
        let fewer = after.2 in
        let within = after.3 in
        ((rising.0, after.0), λ q. ap (cond (eq_by_cmp nat_cmp q e.key) (Some e.slot)) (after.1 q) ∙ turn differ q (eq_by_cmp nat_cmp q e.key) (eq_by_cmp nat_cmp q k) refl refl, omega (arith, fewer), omega (arith, within))
      where
        turn : k ≢ e.key → (q : ℕ) (a b : Bool) → eq_by_cmp nat_cmp q e.key ≡ a → eq_by_cmp nat_cmp q k ≡ b → cond a (Some e.slot) (cond b None (found q es)) ≡ cond b None (cond a (Some e.slot) (found q es))
        turn differ q true true f g = absurd (differ (sym (same_number q k g) ∙ same_number q e.key f))
        turn differ q true false f g = refl
        turn differ q false true f g = refl
        turn differ q false false f g = refl
    by false ge rest = at (eq_by_cmp nat_cmp k e.key) refl
      where
        least : k ≤ e.key
        least = not_below e.key k ge

        at : (b : Bool) → eq_by_cmp nat_cmp k e.key ≡ b → LeftAt low k (e ∷ es) 0
        at false other =
            let differ : k ≢ e.key = λ same. absurd (cc (sym other ∙ ap (λ n. eq_by_cmp nat_cmp n e.key) same ∙ number_itself e.key)) in
            absurd (cc (sym (found-other k e es differ ∙ found-below k (suc e.key) es rising.1 (omega (arith, least))) ∙ there))
        at true same =
            let is = same_number k e.key same in
            (lower (suc e.key) low es (omega (arith, rising.0)) rising.1, λ q. gone is q (eq_by_cmp nat_cmp q k) refl, omega arith, omega arith)
          where
            gone : k ≡ e.key → (q : ℕ) (b : Bool) → eq_by_cmp nat_cmp q k ≡ b → found q es ≡ cond b None (found q (e ∷ es))
            gone is q true f = let one = same_number q k f in found-below q (suc e.key) es rising.1 (omega (arith, one, is))
            gone is q false f = sym (found-other q e es (λ one. absurd (cc (sym f ∙ ap (λ n. eq_by_cmp nat_cmp n k) (one ∙ sym is) ∙ number_itself k))))

pub leaving : (low k s : ℕ) (order : List Entry) → IsRising low order → found k order ≡ Some s → Left low k order (remove order (rank k order))
leaving low k s order rising there =
    let all = left low k s order rising there in
    record { rising = all.0; each = all.1; fewer = all.2; within = all.3 }
