-- A path as the fields of the code: the two words that it is packed in.
use Rattle.std.specs.Prelude.{◌≡◌, ℕ, zero, suc, ◌+◌, ◌*◌, ◌/◌, ◌%◌, ◌^◌, ◌<◌, ◌≤◌, true, List, [], ◌∷◌, length, take, drop, reverse}
use Rattle.std.specs.Prelude.{get_or, ◌==◌, refl}
use Rattle.std.specs.Cmp.{first_so, second_so}
use Rattle.std.specs.List.{list_all}
use Rattle.std.proofs.Common.{ap, ◌∙◌, arith, length-take-le}
use Rattle.std.proofs.lemmas.Bool.Decides.{nat_tests}
use Rattle.std.proofs.lemmas.List.{reverse-reverse, length-reverse}
use Rattle.bk_path.specs.Paths.{Path, entries_of, entry_or_0, pack}
use Rattle.bk_path.specs.declared.path.Path.TheInside.{Inside}

-- the words have a depth, that many entries, and zeros
pub record IsPacked (words : Inside) : Type 0 where
  pub first : words.first < 2 ^ 16
  pub second : words.second < 2 ^ 16
  pub depth : words.first / 4096 ≤ 7
  pub zeros : list_all (λ entry. entry == 0) (drop (words.first / 4096) (entries_of words.first words.second)) ≡ true

-- the entries, the last one first
abbrev pub path_of : Inside → Path
path_of words = reverse (take (words.first / 4096) (entries_of words.first words.second))

-- the two words of a path, as the fields of the code
abbrev pub packed : Path → Inside
packed path = record { first = (pack path).0; second = (pack path).1 }

-- zeros are read as what stands past the end
all_zero : (xs : List ℕ) (i : ℕ) → list_all (λ entry. entry == 0) xs ≡ true → 0 ≡ get_or xs i 0
all_zero [] i zeros = refl
all_zero (x ∷ xs) zero zeros = grind (arith, nat_tests, first_so (x == 0) (list_all (λ entry. entry == 0) xs) zeros)
all_zero (x ∷ xs) (suc i) zeros = all_zero xs i (second_so (x == 0) (list_all (λ entry. entry == 0) xs) zeros)

-- what is cut off is zeros
cut_zeros : (depth : ℕ) (xs : List ℕ) (i : ℕ) → list_all (λ entry. entry == 0) (drop depth xs) ≡ true → get_or (take depth xs) i 0 ≡ get_or xs i 0
cut_zeros zero xs i zeros = all_zero xs i zeros
cut_zeros (suc depth) [] i zeros = refl
cut_zeros (suc depth) (x ∷ xs) zero zeros = refl
cut_zeros (suc depth) (x ∷ xs) (suc i) zeros = cut_zeros depth xs i zeros

first_word : (word depth : ℕ) → word < 2 ^ 16 → depth ≡ word / 4096 → 4096 * depth + 256 * (word / 256 % 16) + 16 * (word / 16 % 16) + word % 16 ≡ word
first_word word depth small is = omega arith

second_word : (word : ℕ) → word < 2 ^ 16 → 4096 * (word / 4096) + 256 * (word / 256 % 16) + 16 * (word / 16 % 16) + word % 16 ≡ word
second_word word small = omega arith

-- the words are got back from the entries
pub packed-path_of : (words : Inside) → IsPacked words → packed (path_of words) ≡ words
packed-path_of words is = λ i. record { first = first i; second = second i }
  where
    entry : (k : ℕ) → entry_or_0 (path_of words) k ≡ get_or (entries_of words.first words.second) k 0
    entry k = ap (λ xs. get_or xs k 0) (reverse-reverse (take (words.first / 4096) (entries_of words.first words.second))) ∙ cut_zeros (words.first / 4096) (entries_of words.first words.second) k is.zeros

    depth : length (path_of words) ≡ words.first / 4096
    depth = length-reverse (take (words.first / 4096) (entries_of words.first words.second)) ∙ length-take-le (words.first / 4096) (entries_of words.first words.second) is.depth

    first : (packed (path_of words)).first ≡ words.first
    first = (λ i. 4096 * length (path_of words) + 256 * entry 0 i + 16 * entry 1 i + entry 2 i) ∙ first_word words.first (length (path_of words)) is.first depth

    second : (packed (path_of words)).second ≡ words.second
    second = (λ i. 4096 * entry 3 i + 256 * entry 4 i + 16 * entry 5 i + entry 6 i) ∙ second_word words.second is.second
