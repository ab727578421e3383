-- Words without the zeros at their end.
use Rattle.std.proofs.Common.{◌≡◌, ◌≢◌, ℕ, ◌+◌, ◌-◌, ◌<◌, ◌≤◌, false, List, [], ◌∷◌, ◌++◌, length, take, get_or, refl, ap, ◌∙◌, sym, subst, arith}
use Rattle.std.specs.Prelude.{◌==◌}
use Rattle.std.proofs.lemmas.Bool.Decides.{nat_tests}
use Rattle.std.proofs.lemmas.List.{take_more}
use Rattle.bk_conf.specs.Steps.{in_front, without_zeros}

-- a zero behind words changes nothing
without_zeros-zero : (words : List ℕ) → without_zeros (words ++ 0 ∷ []) ≡ without_zeros words
unfolding without_zeros
without_zeros-zero [] = refl
without_zeros-zero (word ∷ words) = ap (in_front word) (without_zeros-zero words)

-- a word that isn't 0 keeps those before it
without_zeros-word : (words : List ℕ) (word : ℕ) → (word == 0) ≡ false → without_zeros (words ++ word ∷ []) ≡ words ++ word ∷ []
unfolding without_zeros
without_zeros-word [] word some = rw some refl
without_zeros-word (first ∷ words) word some = ap (in_front first) (without_zeros-word words word some) ∙ front words
  where
    front : (words : List ℕ) → in_front first (words ++ word ∷ []) ≡ first ∷ words ++ word ∷ []
    front [] = refl
    front (next ∷ words) = refl

-- the words up to a zero
pub take_zero : (words : List ℕ) (used : ℕ) → 0 < used → used ≤ length words → get_or words (used - 1) 0 ≡ 0
    → without_zeros (take (used - 1) words) ≡ without_zeros (take used words)
take_zero words used some within is =
    subst (λ m. without_zeros (take (used - 1) words) ≡ without_zeros (take m words)) (omega (arith, some)) (up_to words (used - 1) (omega (arith, some, within)) is)
  where
    up_to : (words : List ℕ) (n : ℕ) → n < length words → get_or words n 0 ≡ 0 → without_zeros (take n words) ≡ without_zeros (take (n + 1) words)
    up_to words n within is = sym (ap without_zeros (take_more words n 0 within ∙ ap (λ word. take n words ++ word ∷ []) is) ∙ without_zeros-zero (take n words))

-- the words up to one that isn't 0
pub take_word : (words : List ℕ) (used : ℕ) → 0 < used → used ≤ length words → get_or words (used - 1) 0 ≢ 0 → take used words ≡ without_zeros (take used words)
take_word words used some within is = subst (λ m. take m words ≡ without_zeros (take m words)) (omega (arith, some)) (up_to words (used - 1) (omega (arith, some, within)) (not_zero (get_or words (used - 1) 0) is))
  where
    not_zero : (word : ℕ) → word ≢ 0 → (word == 0) ≡ false
    not_zero word is = grind (arith, nat_tests, is)

    up_to : (words : List ℕ) (n : ℕ) → n < length words → (get_or words n 0 == 0) ≡ false → take (n + 1) words ≡ without_zeros (take (n + 1) words)
    up_to words n within some =
        sym (ap without_zeros (take_more words n 0 within) ∙ without_zeros-word (take n words) (get_or words n 0) some ∙ sym (take_more words n 0 within))

-- no words
pub take_none : (words : List ℕ) → take 0 words ≡ without_zeros (take 0 words)
unfolding without_zeros
take_none words = refl
