-- The words of blocks after other blocks are written.
use Rattle.std.proofs.Common.{◌≡◌, ℕ, zero, suc, ◌+◌, ◌-◌, ◌*◌, ◌≤◌, List, [], ◌∷◌, ◌++◌, length, take, drop, replicate, ◌⊎◌, inl, inr, refl}
use Rattle.std.proofs.Common.{sym, ap, subst, ◌∙◌, arith}
use lib.Seq.{paste}
use mathlib.Core.List.{append_assoc}
use Rattle.std.proofs.lemmas.List.{length-take-le, length-drop, length-replicate, take-take, take_all, drop-drop, take-append-le}
use Rattle.std.proofs.lemmas.List.Edits.{drop-paste}
use Rattle.std.proofs.Math.Seq.{drop-append_seam}
use Rattle.bk_object.specs.Limits.{words_of_block}
use Rattle.bk_core.specs.Memory.{block_words, blocks_of_core, words_of_core, KeepsOthers, zeroed, slid}

-- so many words of a list from a place on
abbrev pub piece : List ℕ → ℕ → ℕ → List ℕ
piece xs at n = take n (drop at xs)

-- the words before, those written, those after
paste_is : (d : List ℕ) (at : ℕ) (s : List ℕ) (n : ℕ) → paste d at s n ≡ take at d ++ (take n s ++ drop (at + n) d)
paste_is d at s n = append_assoc (take at d) (take n s) (drop (at + n) d)

-- all that comes before the place
pub take-below : (d : List ℕ) (at : ℕ) (s : List ℕ) (n k : ℕ) → k ≤ at → at ≤ length d → take k (paste d at s n) ≡ take k d
take-below d at s n k le in_d =
    ap (take k) (paste_is d at s n) ∙ take-append-le k (take at d) _ (omega (arith, length-take-le at d in_d)) ∙ take-take k at d le

-- all that comes behind what was written
pub drop-above : (d : List ℕ) (at : ℕ) (s : List ℕ) (n k : ℕ) → at + n ≤ k → at ≤ length d → n ≤ length s → drop k (paste d at s n) ≡ drop k d
drop-above d at s n k le in_d in_s =
    subst (λ j. drop j (paste d at s n) ≡ drop j d) (omega arith)
    (sym (drop-drop (k - (at + n)) (at + n) (paste d at s n)) ∙ ap (drop (k - (at + n))) (drop-paste d at s n in_d in_s) ∙ drop-drop (k - (at + n)) (at + n) d)

-- a piece lies in what comes before a place
pub piece-of-take : (xs : List ℕ) (at n k : ℕ) → at + n ≤ k → piece (take k xs) at n ≡ piece xs at n
piece-of-take xs zero n k le = take-take n k xs (omega (arith, le))
piece-of-take [] (suc at) n zero le = refl
piece-of-take [] (suc at) n (suc k) le = refl
piece-of-take (x ∷ xs) (suc at) n zero le = absurd (omega arith)
piece-of-take (x ∷ xs) (suc at) n (suc k) le = piece-of-take xs at n k (omega arith)

-- a piece lies in what comes from a place on
pub piece-of-drop : (xs : List ℕ) (at n k : ℕ) → k ≤ at → piece (drop k xs) (at - k) n ≡ piece xs at n
piece-of-drop xs at n k le = ap (take n) (drop-drop (at - k) k xs ∙ ap (λ j. drop j xs) (omega arith))

-- a piece before the place, one behind what was written, and the one that was written
pub piece-below : (d : List ℕ) (at : ℕ) (s : List ℕ) (n from count : ℕ) → from + count ≤ at → at ≤ length d → piece (paste d at s n) from count ≡ piece d from count
piece-below d at s n from count le in_d =
    sym (piece-of-take (paste d at s n) from count at le) ∙ ap (λ xs. piece xs from count) (take-below d at s n at (omega arith) in_d) ∙ piece-of-take d from count at le

pub piece-above : (d : List ℕ) (at : ℕ) (s : List ℕ) (n from count : ℕ) → at + n ≤ from → at ≤ length d → n ≤ length s → piece (paste d at s n) from count ≡ piece d from count
piece-above d at s n from count le in_d in_s = ap (take count) (drop-above d at s n from le in_d in_s)

pub piece-at : (d : List ℕ) (at : ℕ) (s : List ℕ) (n : ℕ) → at ≤ length d → n ≤ length s → piece (paste d at s n) at n ≡ take n s
piece-at d at s n in_d in_s =
    ap (take n) (ap (drop at) (paste_is d at s n) ∙ ap (λ j. drop j (take at d ++ (take n s ++ drop (at + n) d))) (sym (length-take-le at d in_d)) ∙ drop-append_seam (take at d) (take n s ++ drop (at + n) d))
    ∙ take-append-le n (take n s) _ (omega (arith, length-take-le n s in_s)) ∙ take-take n n s (omega arith)

-- all blocks but those that were written keep their words
pub keeps_others : (d s : List ℕ) (first count : ℕ) → words_of_block * first ≤ length d → words_of_block * count ≤ length s → KeepsOthers first count d (paste d (words_of_block * first) s (words_of_block * count))
keeps_others d s first count in_d in_s = record { others = by }
  where
    by : (at n : ℕ) → (at + n ≤ first) ⊎ (first + count ≤ at) → block_words (paste d (words_of_block * first) s (words_of_block * count)) at n ≡ block_words d at n
    by at n (inl le) = piece-below d (words_of_block * first) s (words_of_block * count) (words_of_block * at) (words_of_block * n) (omega (arith, le)) in_d
    by at n (inr le) = piece-above d (words_of_block * first) s (words_of_block * count) (words_of_block * at) (words_of_block * n) (omega (arith, le)) in_d in_s

-- what is so of words in which so many blocks are zero, or have slid
pub record Zeroed (words after : List ℕ) (first count : ℕ) : Type 0 where
  pub zero : block_words after first count ≡ replicate (words_of_block * count) 0
  pub others : KeepsOthers first count words after

pub zeroing : (words after : List ℕ) (first count : ℕ) → length words ≡ words_of_core → first + count ≤ blocks_of_core → after ≡ zeroed words first count → Zeroed words after first count
zeroing words after first count full inside is = subst (λ a. Zeroed words a first count) (sym is) (record {
  zero = piece-at words (words_of_block * first) zeros (words_of_block * count) in_d in_s ∙ take_all (words_of_block * count) zeros (omega (arith, length-replicate {A = ℕ} (words_of_block * count) 0));
  others = keeps_others words zeros first count in_d in_s;
})
  where
    zeros : List ℕ
    zeros = replicate (words_of_block * count) 0

    in_d : words_of_block * first ≤ length words
    in_d = omega (arith, full, inside)

    in_s : words_of_block * count ≤ length zeros
    in_s = omega (arith, length-replicate {A = ℕ} (words_of_block * count) 0)

pub record Slid (words after : List ℕ) (from to count : ℕ) : Type 0 where
  pub there : block_words after to count ≡ block_words words from count
  pub others : KeepsOthers to count words after

pub sliding : (words after : List ℕ) (from to count : ℕ) → length words ≡ words_of_core → to ≤ from → from + count ≤ blocks_of_core → after ≡ slid words from to count → Slid words after from to count
sliding words after from to count full down inside is = subst (λ a. Slid words a from to count) (sym is) (record {
  there = piece-at words (words_of_block * to) source (words_of_block * count) in_d in_s;
  others = keeps_others words source to count in_d in_s;
})
  where
    source : List ℕ
    source = drop (words_of_block * from) words

    in_d : words_of_block * to ≤ length words
    in_d = omega (arith, full, down, inside)

    in_s : words_of_block * count ≤ length source
    in_s = omega (arith, full, inside, length-drop (words_of_block * from) words)
