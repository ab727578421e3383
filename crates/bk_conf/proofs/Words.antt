-- The words of programs by their names, as the code keeps them.
use Rattle.std.proofs.Common.{◌≡◌, ℕ, List, [], ◌∷◌, refl, ap, cond}
use Rattle.std.specs.Prelude.{Vec, Some}
use Rattle.std.specs.BTreeMap.{insert_entry}
use Rattle.std.specs.Map.{lookup}
use Rattle.std.specs.Ordering.{nat_cmp, match_ordering, is_eq}
use Rattle.std.specs.Cmp.Lexicographic.{slice_cmp}
use Rattle.std.specs.declared.cmp.Ordering.{Ordering}
use Rattle.std.specs.declared.cmp.Ordering.TheVariants.{Less, Equal, Greater}
use Rattle.bk_conf.specs.Lines.{Text}
use Rattle.bk_conf.specs.Said.{value_at, name_cmp}
use Rattle.bk_conf.specs.Views.{words_of}

-- what is found by a name
pub value_at_words : {Z : Type 0} (entries : List (Vec ℕ Z × List ℕ)) (name : Text)
    → value_at name_cmp (words_of entries) name ≡ lookup (λ key. is_eq (slice_cmp nat_cmp name key.items)) entries
value_at_words [] name = refl
value_at_words (entry ∷ entries) name = ap (λ more. cond (is_eq (slice_cmp nat_cmp name entry.0.items)) (Some entry.1) more) (value_at_words entries name)

-- with the words of one more
pub insert_words : {Z : Type 0} (entries : List (Vec ℕ Z × List ℕ)) (name : Vec ℕ Z) (words : List ℕ)
    → words_of (insert_entry (λ a b. slice_cmp nat_cmp a.items b.items) entries name words) ≡ insert_entry name_cmp (words_of entries) name.items words
insert_words [] name words = refl
insert_words (entry ∷ entries) name words = by (slice_cmp nat_cmp name.items entry.0.items) (insert_words entries name words)
  where
    by : (order : Ordering)
        → words_of (insert_entry (λ a b. slice_cmp nat_cmp a.items b.items) entries name words) ≡ insert_entry name_cmp (words_of entries) name.items words
        → words_of (match_ordering order ((name, words) ∷ entry ∷ entries) ((entry.0, words) ∷ entries) (entry ∷ insert_entry (λ a b. slice_cmp nat_cmp a.items b.items) entries name words))
        ≡ match_ordering order ((name.items, words) ∷ words_of (entry ∷ entries)) ((entry.0.items, words) ∷ words_of entries) ((entry.0.items, entry.1) ∷ insert_entry name_cmp (words_of entries) name.items words)
    by Less more = refl
    by Equal more = refl
    by Greater more = ap (λ es. (entry.0.items, entry.1) ∷ es) more
