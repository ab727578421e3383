-- Bytes as words, two at a time.
use Rattle.std.proofs.Common.{◌≡◌, ℕ, ◌+◌, ◌*◌, ◌^◌, ◌≤◌, List, [], ◌∷◌, length, get_or, drop, refl, arith}
use Rattle.bk_asm.specs.Assembled.{words_of}

pub words_of_pair : (bytes : List ℕ) → 2 ≤ length bytes → words_of bytes ≡ (get_or bytes 0 0 + 2 ^ 8 * get_or bytes 1 0) ∷ words_of (drop 2 bytes)
words_of_pair [] h = absurd (omega arith)
words_of_pair (low ∷ []) h = absurd (omega arith)
words_of_pair (low ∷ high ∷ bytes) h = refl

pub words_of_last : (bytes : List ℕ) → length bytes ≡ 1 → words_of bytes ≡ get_or bytes 0 0 ∷ []
words_of_last [] h = absurd (omega arith)
words_of_last (low ∷ []) h = refl
words_of_last (low ∷ high ∷ bytes) h = absurd (omega arith)

pub words_of_none : (bytes : List ℕ) → length bytes ≡ 0 → words_of bytes ≡ []
words_of_none [] h = refl
words_of_none (low ∷ bytes) h = absurd (omega arith)
