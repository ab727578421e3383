-- The words of bytes, one after the other.
use Rattle.std.proofs.Common.{◌≡◌, ℕ, suc, ◌+◌, ◌*◌, ◌<◌, List, ◌∷◌, take, drop, length, ap, ◌∙◌, arith, get_or}
use Rattle.std.proofs.Math.Seq.{drop-cons}
use Rattle.bk_image.specs.Numbers.{word, words_of}

-- the first of the words from a place on, and those after it
pub next_word : (b : List ℕ) (i n : ℕ) → suc i < length b → words_of (take (suc (suc n)) (drop i b)) ≡ word b i ∷ words_of (take n (drop (suc (suc i)) b))
next_word b i n lt =
    let two : drop i b ≡ get_or b i 0 ∷ get_or b (suc i) 0 ∷ drop (suc (suc i)) b = drop-cons b i 0 (omega (arith, lt)) ∙ ap (λ t. get_or b i 0 ∷ t) (drop-cons b (suc i) 0 lt) in
    let next : suc i ≡ i + 1 = omega arith in
    ap (λ t. words_of (take (suc (suc n)) t)) two ∙ ap (λ k. (get_or b i 0 + 256 * get_or b k 0) ∷ words_of (take n (drop (suc (suc i)) b))) next
