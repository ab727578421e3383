-- The table of rows: the map that it stands for, at each key and after each write.
use Rattle.std.proofs.Common.{◌≡◌, ℕ, zero, suc, ◌+◌, ◌<◌, ◌≤◌, inl, inr, Bool, true, false, cond, ◌&&◌, List, [], ◌∷◌, ◌++◌, length, replicate}
use Rattle.std.proofs.Common.{set, get_or, refl, sym, ap, subst, ◌∙◌, ◌==◌, Option, None, Some, arith, ◌≢◌}
use Rattle.std.specs.Prelude.{if◌then◌else◌, not}
use Rattle.std.specs.Option.{unwrap_or}
use Rattle.std.specs.Ordering.{eq_by_cmp}
use Rattle.std.specs.FinMap as map
use Rattle.std.proofs.lemmas.Bool.{cases_lt}
use Rattle.std.proofs.lemmas.Bool.Decides.{nat_tests}
use Rattle.std.proofs.lemmas.List.{get_or-set_other, get_or-replicate, get_or_past, length-replicate, length-set}
use Rattle.std.proofs.lemmas.List.Elements.{All-get_or}
use Rattle.std.specs.List.{All}
use Rattle.std.proofs.lemmas.Grind.{get_or-set_at}
use Rattle.bk_object.specs.declared.modes.Modes.{Modes}
use Rattle.bk_object.specs.Modes.{no_modes}
use Rattle.bk_access.specs.Held.{Key, key_cmp, Held, modes_at, nothing_held, with_modes, cleared}
use Rattle.bk_access.specs.Table.{row_entries, table_entries, held_by}
use Rattle.bk_access.proofs.HeldLemmas.{key_total, key_apart, tie, shown, unwrap-shown, get-with_modes, get-cleared, not_same}

abbrev found : (s k : ℕ) → List (Key × Modes) → Option Modes
found s k entries = map.find key_cmp (s, k) entries

found-append : (s k : ℕ) (front rest : List (Key × Modes)) → found s k front ≡ None → found s k (front ++ rest) ≡ found s k rest
found-append s k [] rest none = refl
found-append s k (e ∷ front) rest none = by (eq_by_cmp key_cmp (s, k) e.0) none (found-append s k front rest)
  where
    by : (b : Bool) → cond b (Some e.1) (found s k front) ≡ None → (found s k front ≡ None → found s k (front ++ rest) ≡ found s k rest) → cond b (Some e.1) (found s k (front ++ rest)) ≡ found s k rest
    by true none later = cc
    by false none later = later none

found-front : (s k : ℕ) (front rest : List (Key × Modes)) → found s k rest ≡ None → found s k (front ++ rest) ≡ found s k front
found-front s k [] rest none = none
found-front s k (e ∷ front) rest none = ap (λ o. cond (eq_by_cmp key_cmp (s, k) e.0) (Some e.1) o) (found-front s k front rest none)

-- an entry of another key, or none
skipped : (s k t l : ℕ) (modes : Modes) (entries : List (Key × Modes)) → ¬ ((s ≡ t) × (k ≡ l)) →
    found s k (if modes.0 == 0 then entries else ((t, l), modes) ∷ entries) ≡ found s k entries
skipped s k t l modes entries other = by (modes.0 == 0)
  where
    by : (b : Bool) → found s k (if b then entries else ((t, l), modes) ∷ entries) ≡ found s k entries
    by true = refl
    by false = ap (λ b. cond b (Some modes) (found s k entries)) (tie s k t l ∙ not_same s t k l other)

row_other : (s k l t : ℕ) (row : List Modes) → k ≢ l → found s k (row_entries l t row) ≡ None
row_other s k l t [] other = refl
row_other s k l t (modes ∷ row) other = skipped s k t l modes (row_entries l (t + 1) row) (λ same. other same.1) ∙ row_other s k l (t + 1) row other

row_below : (s k t : ℕ) (row : List Modes) → s < t → found s k (row_entries k t row) ≡ None
row_below s k t [] below = refl
row_below s k t (modes ∷ row) below = skipped s k t k modes (row_entries k (t + 1) row) (λ same. let e = same.0 in absurd (omega (arith, e, below))) ∙ row_below s k (t + 1) row (omega (arith, below))

-- a row's entry for a subject is what the row has for it
row_at : (s k t j : ℕ) (row : List Modes) → s ≡ t + j → found s k (row_entries k t row) ≡ shown (get_or row j no_modes)
row_at s k t j [] is = refl
row_at s k t zero (modes ∷ row) is = by (modes.0 == 0)
  where
    rest : found s k (row_entries k (t + 1) row) ≡ None
    rest = row_below s k (t + 1) row (omega (arith, is))

    same : eq_by_cmp key_cmp (s, k) (t, k) ≡ true
    same =
        let subject : (s == t) ≡ true = grind (arith, nat_tests, is) in
        let slot : (k == k) ≡ true = grind (arith, nat_tests) in
        tie s k t k ∙ (λ i. subject i && slot i)

    by : (b : Bool) → found s k (if b then row_entries k (t + 1) row else ((t, k), modes) ∷ row_entries k (t + 1) row) ≡ (if b then None else Some modes)
    by true = rest
    by false = ap (λ b. cond b (Some modes) (found s k (row_entries k (t + 1) row))) same
row_at s k t (suc j) (modes ∷ row) is =
    skipped s k t k modes (row_entries k (t + 1) row) (λ same. let e = same.0 in absurd (omega (arith, e, is))) ∙ row_at s k (t + 1) j row (omega (arith, is))

table_below : (s k l : ℕ) (rows : List (List Modes)) → k < l → found s k (table_entries l rows) ≡ None
table_below s k l [] below = refl
table_below s k l (row ∷ rows) below =
    found-append s k (row_entries l 0 row) (table_entries (l + 1) rows) (row_other s k l 0 row (λ e. absurd (omega (arith, e, below))))
    ∙ table_below s k (l + 1) rows (omega (arith, below))

-- a table's entry for a subject and a slot is what the slot's row has for the subject
table_at : (s k l j : ℕ) (rows : List (List Modes)) → k ≡ l + j → found s k (table_entries l rows) ≡ shown (get_or (get_or rows j []) s no_modes)
table_at s k l j [] is = refl
table_at s k l zero (row ∷ rows) is =
    found-front s k (row_entries l 0 row) (table_entries (l + 1) rows) (table_below s k (l + 1) rows (omega (arith, is)))
    ∙ ap (λ m. found s k (row_entries m 0 row)) (let e : l ≡ k = omega (arith, is) in e)
    ∙ row_at s k 0 s row (omega arith)
table_at s k l (suc j) (row ∷ rows) is =
    found-append s k (row_entries l 0 row) (table_entries (l + 1) rows) (row_other s k l 0 row (λ e. absurd (omega (arith, e, is))))
    ∙ table_at s k (l + 1) j rows (omega (arith, is))

pub get-held_by : (rows : List (List Modes)) (s k : ℕ) → map.get (held_by rows).modes (s, k) ≡ shown (get_or (get_or rows k []) s no_modes)
get-held_by rows s k = map.get-from_entries key_total (table_entries 0 rows) (s, k) ∙ table_at s k 0 k rows (omega arith)

-- the look-up
pub modes_at-held_by : (rows : List (List Modes)) (s k : ℕ) → modes_at (held_by rows) s k ≡ get_or (get_or rows k []) s no_modes
modes_at-held_by rows s k = ap (λ o. unwrap_or o no_modes) (get-held_by rows s k) ∙ unwrap-shown (get_or (get_or rows k []) s no_modes)

-- two tables of as many rows that answer as two maps do
same_held : (rows : List (List Modes)) (held : Held) → length rows ≡ held.slots → ((s k : ℕ) → shown (get_or (get_or rows k []) s no_modes) ≡ map.get held.modes (s, k)) → held_by rows ≡ held
same_held rows held slots each = λ i. record { slots = slots i; modes = same i }
  where
    same : (held_by rows).modes ≡ held.modes
    same = map.same_map key_total key_apart (held_by rows).modes held.modes (λ q. get-held_by rows q.0 q.1 ∙ each q.0 q.1)

in_none : (s m : ℕ) → get_or (replicate m no_modes) s no_modes ≡ no_modes
in_none s m = elim (cases_lt s m) [
  | inl below ↦ get_or-replicate m s no_modes no_modes below
  | inr past ↦ get_or_past (replicate m no_modes) s no_modes (subst (λ l. l ≤ s) (sym (length-replicate m no_modes)) past)
]

-- no row has anything
pub held_by-none : (n m : ℕ) → held_by (replicate n (replicate m no_modes)) ≡ nothing_held n
held_by-none n m = same_held (replicate n (replicate m no_modes)) (nothing_held n) (length-replicate n (replicate m no_modes)) (λ s k. ap shown (cell s k) ∙ sym (map.get-empty key_cmp (s, k)))
  where
    cell : (s k : ℕ) → get_or (get_or (replicate n (replicate m no_modes)) k []) s no_modes ≡ no_modes
    cell s k = elim (cases_lt k n) [
      | inl below ↦ ap (λ row. get_or row s no_modes) (get_or-replicate n k (replicate m no_modes) [] below) ∙ in_none s m
      | inr past ↦ ap (λ row. get_or row s no_modes) (get_or_past (replicate n (replicate m no_modes)) k [] (subst (λ l. l ≤ k) (sym (length-replicate n (replicate m no_modes))) past))
    ]

-- a cell of a table in which one row was replaced
cell-set : (rows : List (List Modes)) (slot : ℕ) (row : List Modes) (s k : ℕ) → slot < length rows →
    get_or (get_or (set rows slot row) k []) s no_modes ≡ cond (k == slot) (get_or row s no_modes) (get_or (get_or rows k []) s no_modes)
cell-set rows slot row s k below = by (k == slot) refl
  where
    by : (b : Bool) → (k == slot) ≡ b → get_or (get_or (set rows slot row) k []) s no_modes ≡ cond b (get_or row s no_modes) (get_or (get_or rows k []) s no_modes)
    by true e = ap (λ r. get_or r s no_modes) (get_or-set_at rows slot k row [] (grind (arith, nat_tests, e)) below)
    by false e = ap (λ r. get_or r s no_modes) (get_or-set_other rows slot k row [] (grind (arith, nat_tests, e)))

in_row-set : (row : List Modes) (subject s : ℕ) (modes : Modes) → subject < length row → get_or (set row subject modes) s no_modes ≡ cond (s == subject) modes (get_or row s no_modes)
in_row-set row subject s modes below = by (s == subject) refl
  where
    by : (b : Bool) → (s == subject) ≡ b → get_or (set row subject modes) s no_modes ≡ cond b modes (get_or row s no_modes)
    by true e = get_or-set_at row subject s modes no_modes (grind (arith, nat_tests, e)) below
    by false e = get_or-set_other row subject s modes no_modes (grind (arith, nat_tests, e))

-- one subject's modes in one row are replaced
pub held_by-set : (rows : List (List Modes)) (subject slot : ℕ) (modes : Modes) → slot < length rows → subject < length (get_or rows slot []) →
    held_by (set rows slot (set (get_or rows slot []) subject modes)) ≡ with_modes subject slot modes (held_by rows)
held_by-set rows subject slot modes slot_below subject_below =
    same_held (set rows slot (set (get_or rows slot []) subject modes)) (with_modes subject slot modes (held_by rows)) (length-set rows slot (set (get_or rows slot []) subject modes)) (λ s k.
    ap shown (cell-set rows slot (set (get_or rows slot []) subject modes) s k slot_below ∙ ap (λ x. cond (k == slot) x (get_or (get_or rows k []) s no_modes)) (in_row-set (get_or rows slot []) subject s modes subject_below))
    ∙ by s k (s == subject) (k == slot) refl
    ∙ ap (cond ((s == subject) && (k == slot)) (shown modes)) (sym (get-held_by rows s k))
    ∙ sym (get-with_modes subject slot modes (held_by rows) s k))
  where
    by : (s k : ℕ) (a b : Bool) → (k == slot) ≡ b →
        shown (cond b (cond a modes (get_or (get_or rows slot []) s no_modes)) (get_or (get_or rows k []) s no_modes)) ≡ cond (a && b) (shown modes) (shown (get_or (get_or rows k []) s no_modes))
    by s k true true e = refl
    by s k false true e = ap (λ l. shown (get_or (get_or rows l []) s no_modes)) (let same : slot ≡ k = grind (arith, nat_tests, e) in same)
    by s k true false e = refl
    by s k false false e = refl

-- a row is replaced by one that has nothing
pub held_by-cleared : (rows : List (List Modes)) (slot m : ℕ) → slot < length rows → held_by (set rows slot (replicate m no_modes)) ≡ cleared slot (held_by rows)
held_by-cleared rows slot m below =
    same_held (set rows slot (replicate m no_modes)) (cleared slot (held_by rows)) (length-set rows slot (replicate m no_modes)) (λ s k.
    ap shown (cell-set rows slot (replicate m no_modes) s k below ∙ ap (λ x. cond (k == slot) x (get_or (get_or rows k []) s no_modes)) (in_none s m))
    ∙ by s k (k == slot)
    ∙ ap (λ x. cond (not (k == slot)) x None) (sym (get-held_by rows s k))
    ∙ sym (get-cleared slot (held_by rows) s k))
  where
    by : (s k : ℕ) (b : Bool) → shown (cond b no_modes (get_or (get_or rows k []) s no_modes)) ≡ cond (not b) (shown (get_or (get_or rows k []) s no_modes)) None
    by s k true = refl
    by s k false = refl

-- a cell of no row, or past a row's end
pub outside_rows : (rows : List (List Modes)) (m s k : ℕ) → All (λ row. length row ≡ m) rows → ¬ ((s < m) × (k < length rows)) → get_or (get_or rows k []) s no_modes ≡ no_modes
outside_rows rows m s k whole out = elim (cases_lt k (length rows)) [
  | inr past ↦ ap (λ row. get_or row s no_modes) (get_or_past rows k [] past)
  | inl inside ↦ elim (cases_lt s m) [
    | inl below ↦ absurd (out (below, inside))
    | inr above ↦ get_or_past (get_or rows k []) s no_modes (subst (λ n. n ≤ s) (sym (All-get_or (λ row. length row ≡ m) rows k [] inside whole)) above)
  ]
]
