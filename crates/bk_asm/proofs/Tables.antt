-- Look-ups and changes of the tables in memory, as those of the lists that they stand for.
use Rattle.std.proofs.Common.{◌≡◌, ℕ, List, [], ◌∷◌, cond, refl, ap}
use Rattle.std.specs.Prelude.{map, Some}
use Rattle.std.specs.Global.{Vec}
use Rattle.std.specs.declared.cmp.Ordering.{Ordering}
use Rattle.std.specs.declared.cmp.Ordering.TheVariants.{Less, Equal, Greater}
use Rattle.std.specs.Ordering.{nat_cmp, match_ordering}
use Rattle.std.specs.Cmp.Lexicographic.{slice_cmp}
use Rattle.std.specs.Map.{lookup}
use Rattle.std.specs.BTreeMap.{is_at, insert_entry}
use Rattle.std.specs.FinMap.Entries.{find, put, by_order}
use Rattle.bk_asm.specs.Names.{name_cmp, local_cmp}
use Rattle.bk_asm.specs.Seen.{entry_of}

-- how a name compares to a key
abbrev pub to_key : List ℕ → Vec ℕ → Ordering
to_key name key = slice_cmp nat_cmp name key.items

pub find_seen : (name : List ℕ) (entries : List (Vec ℕ × ℕ)) → lookup (is_at (to_key name)) entries ≡ find name_cmp name (map entry_of entries)
find_seen name [] = refl
find_seen name (entry ∷ entries) = ap (cond (is_at (to_key name) entry.0) (Some entry.1)) (find_seen name entries)

pub put_seen : (key : Vec ℕ) (value : ℕ) (entries : List (Vec ℕ × ℕ)) → map entry_of (insert_entry (λ x y. slice_cmp nat_cmp x.items y.items) entries key value)
    ≡ put name_cmp key.items value (map entry_of entries)
put_seen key value [] = refl
put_seen key value (entry ∷ entries) = by (to_key key.items entry.0) (put_seen key value entries) where
  by : (o : Ordering) → map entry_of (insert_entry (λ x y. slice_cmp nat_cmp x.items y.items) entries key value) ≡ put name_cmp key.items value (map entry_of entries)
      → map entry_of (match_ordering o ((key, value) ∷ entry ∷ entries) ((entry.0, value) ∷ entries) (entry ∷ insert_entry (λ x y. slice_cmp nat_cmp x.items y.items) entries key value))
      ≡ by_order o ((key.items, value) ∷ entry_of entry ∷ map entry_of entries) ((entry.0.items, value) ∷ map entry_of entries) (entry_of entry ∷ put name_cmp key.items value (map entry_of entries))
  by Less rest = refl
  by Equal rest = refl
  by Greater rest = ap (λ es. entry_of entry ∷ es) rest

pub put_local : (key : ℕ × ℕ) (value : ℕ) (entries : List ((ℕ × ℕ) × ℕ)) → insert_entry local_cmp entries key value ≡ put local_cmp key value entries
put_local key value [] = refl
put_local key value (entry ∷ entries) = by (local_cmp key entry.0) (put_local key value entries) where
  by : (o : Ordering) → insert_entry local_cmp entries key value ≡ put local_cmp key value entries
      → match_ordering o ((key, value) ∷ entry ∷ entries) ((entry.0, value) ∷ entries) (entry ∷ insert_entry local_cmp entries key value)
      ≡ by_order o ((key, value) ∷ entry ∷ entries) ((entry.0, value) ∷ entries) (entry ∷ put local_cmp key value entries)
  by Less rest = refl
  by Equal rest = refl
  by Greater rest = ap (λ es. entry ∷ es) rest

pub find_local : (key : ℕ × ℕ) (entries : List ((ℕ × ℕ) × ℕ)) → lookup (is_at (local_cmp key)) entries ≡ find local_cmp key entries
find_local key [] = refl
find_local key (entry ∷ entries) = ap (cond (is_at (local_cmp key) entry.0) (Some entry.1)) (find_local key entries)
