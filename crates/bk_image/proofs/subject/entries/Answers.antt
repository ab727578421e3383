use Rattle.std.proofs.Common.{◌≡◌, ℕ, List, [], ◌∷◌, length, take, drop, ap, ◌∙◌, arith}
use Rattle.bk_image.specs.Numbers.{word, words_of}
use Rattle.bk_image.proofs.Words.{next_word}
use Rattle.bk_image.proofs.subject.entries.Goals as goal

-- the eight words, one after the other
eight_words : (b : List ℕ) → length b ≡ 39 → words_of (take 16 (drop 22 b)) ≡ word b 22 ∷ word b 24 ∷ word b 26 ∷ word b 28 ∷ word b 30 ∷ word b 32 ∷ word b 34 ∷ word b 36 ∷ []
eight_words b len =
    next_word b 22 14 (omega (arith, len)) ∙ ap (λ t. word b 22 ∷ t) (
    next_word b 24 12 (omega (arith, len)) ∙ ap (λ t. word b 24 ∷ t) (
    next_word b 26 10 (omega (arith, len)) ∙ ap (λ t. word b 26 ∷ t) (
    next_word b 28 8 (omega (arith, len)) ∙ ap (λ t. word b 28 ∷ t) (
    next_word b 30 6 (omega (arith, len)) ∙ ap (λ t. word b 30 ∷ t) (
    next_word b 32 4 (omega (arith, len)) ∙ ap (λ t. word b 32 ∷ t) (
    next_word b 34 2 (omega (arith, len)) ∙ ap (λ t. word b 34 ∷ t) (
    next_word b 36 0 (omega (arith, len)))))))))

pub returns : goal.returns
returns c =
    rw (eight_words c.args.bytes.now c.requires) (λ i. c.word.ensures i ∷ c.word-2.ensures i ∷ c.word-3.ensures i ∷ c.word-4.ensures i ∷ c.word-5.ensures i ∷ c.word-6.ensures i ∷ c.word-7.ensures i ∷ c.word-8.ensures i ∷ [])
