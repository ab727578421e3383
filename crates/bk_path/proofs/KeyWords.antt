-- The number of a path, and its bound, worked out of its two words.
use Rattle.std.proofs.Common.{◌≡◌, ℕ, zero, suc, ◌+◌, ◌-◌, ◌*◌, ◌/◌, ◌%◌, ◌^◌, ◌<◌, ◌≤◌, List, [], ◌∷◌, length, reverse, get_or}
use Rattle.std.proofs.Common.{refl, ap, ◌∙◌, arith}
use Rattle.bk_path.specs.Paths.{Path, pack, IsPath}
use Rattle.bk_path.specs.Keys.{key_of, number, past_of, weight}
use Rattle.bk_path.proofs.KeyLemmas.{entries, fills, AllSmall}

-- the two words of a path have its number's digits
pub number-entries : (xs : List ℕ) → number 7 xs ≡ get_or xs 0 0 * 16777216 + get_or xs 1 0 * 1048576 + get_or xs 2 0 * 65536 + get_or xs 3 0 * 4096 + get_or xs 4 0 * 256 + get_or xs 5 0 * 16 + get_or xs 6 0
number-entries [] = refl
number-entries (a ∷ []) = omega arith
number-entries (a ∷ b ∷ []) = omega arith
number-entries (a ∷ b ∷ c ∷ []) = omega arith
number-entries (a ∷ b ∷ c ∷ d ∷ []) = omega arith
number-entries (a ∷ b ∷ c ∷ d ∷ e ∷ []) = omega arith
number-entries (a ∷ b ∷ c ∷ d ∷ e ∷ f ∷ []) = omega arith
number-entries (a ∷ b ∷ c ∷ d ∷ e ∷ f ∷ g ∷ xs) = omega arith

small_at : (xs : List ℕ) (k : ℕ) → AllSmall xs → get_or xs k 0 < 16
small_at [] k h = omega arith
small_at (x ∷ xs) zero h = h.0
small_at (x ∷ xs) (suc k) h = small_at xs k h.1

-- what the code works out of the two words
pub key_is : (path : Path) → IsPath path → (first second : ℕ) → (first, second) ≡ pack path → (first % 4096 * 65536 + second) * 8 + first / 4096 ≡ key_of path
key_is path is first second packed =
    let e = entries path is in
    let xs = reverse path in
    let digits = number-entries xs in
    let a = small_at xs 0 e.small in
    let b = small_at xs 1 e.small in
    let c = small_at xs 2 e.small in
    let f : first ≡ 4096 * length path + 256 * get_or xs 0 0 + 16 * get_or xs 1 0 + get_or xs 2 0 = λ i. (packed i).0 in
    let s : second ≡ 4096 * get_or xs 3 0 + 256 * get_or xs 4 0 + 16 * get_or xs 5 0 + get_or xs 6 0 = λ i. (packed i).1 in
    let few = e.few in
    let depth = e.depth in
    omega (arith, digits, a, b, c, f, s, few, depth)

-- a one shifted to the last of the entries
shifted : (depth : ℕ) → depth ≤ 7 → (1 * 2 ^ (28 - 4 * depth)) % 2 ^ 32 ≡ weight (7 - depth)
shifted zero h = refl
shifted (suc zero) h = refl
shifted (suc (suc zero)) h = refl
shifted (suc (suc (suc zero))) h = refl
shifted (suc (suc (suc (suc zero)))) h = refl
shifted (suc (suc (suc (suc (suc zero))))) h = refl
shifted (suc (suc (suc (suc (suc (suc zero)))))) h = refl
shifted (suc (suc (suc (suc (suc (suc (suc zero))))))) h = refl
shifted (suc (suc (suc (suc (suc (suc (suc (suc n)))))))) h = absurd (omega (arith, h))

-- the bound, worked out of the number
pub past_is : (path : Path) → IsPath path → (key depth size : ℕ) → key ≡ key_of path → depth ≡ length path → size ≡ (1 * 2 ^ (28 - 4 * depth)) % 2 ^ 32 → (key / 8 + size) * 8 ≡ past_of path
past_is path is key depth size key_is depth_is size_is =
    let e = entries path is in
    let few = e.few in
    let long = e.depth in
    let head : key / 8 ≡ number 7 (reverse path) = omega (arith, key_is, few, long) in
    let weight_size : size ≡ weight (7 - length path) = size_is ∙ ap (λ n. (1 * 2 ^ (28 - 4 * n)) % 2 ^ 32) depth_is ∙ shifted (length path) (omega (arith, few, long)) in
    omega (arith, head, weight_size)

-- and it is small
pub past_small : (path : Path) → IsPath path → past_of path ≤ 2147483648
past_small path is =
    let e = entries path is in
    let full = fills 7 (reverse path) e.small e.few in
    let same = ap (λ n. weight (7 - n)) e.depth in
    omega (arith, full, same)
