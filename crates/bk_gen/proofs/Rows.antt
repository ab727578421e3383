-- A row that is granted to one subject after another.
use Rattle.std.proofs.Common.{◌≡◌, ℕ, suc, ◌+◌, ◌-◌, ◌<◌, Bool, true, false, cond, ◌&&◌, ◌==◌, List, [], ◌∷◌, ◌++◌, length, take, replicate, refl, sym, ap}
use Rattle.std.proofs.Common.{◌∙◌, append_assoc, arith}
use Rattle.std.specs.Prelude.{nat_lt, if◌then◌else◌}
use Rattle.std.proofs.Math.Seq.{take-suc}
use Rattle.std.proofs.lemmas.Bool.Decides.{nat_tests}
use Rattle.std.proofs.lemmas.List.FromFn.{get_or-map-range_with_len, length-map-range_with_len}
use Rattle.bk_object.specs.Modes.{no_modes}
use Rattle.bk_object.specs.Rows.{empty_row, given, in_row}
use Rattle.bk_object.specs.declared.modes.Modes.{Modes}
use Rattle.bk_image.proofs.Pairs.{one_more}
use Rattle.bk_gen.specs.Objects.{granting}

-- the row of the first subjects; no other has any modes yet
unfoldable pub granted : (test : ℕ → Bool) → Modes → (count : ℕ) → List Modes
granted test modes count = take count (granting test modes) ++ replicate (64 - count) no_modes

pub granted-none : (test : ℕ → Bool) (modes : Modes) → granted test modes 0 ≡ empty_row
unfolding granted
granted-none test modes = refl

pub granted-all : (test : ℕ → Bool) (modes : Modes) → granted test modes 8 ≡ granting test modes
unfolding granted granting
granted-all test modes = refl

asked : (n : ℕ) (b : Bool) → n < 8 → (nat_lt n 8 && b) ≡ b
asked n true small = grind (arith, nat_tests, small)
asked n false small = grind arith

-- the modes of one of the subjects
in_row-granting : (test : ℕ → Bool) (modes : Modes) (n : ℕ) → n < 8 → in_row (granting test modes) n ≡ (if test n then modes else no_modes)
unfolding granting
in_row-granting test modes n small =
    get_or-map-range_with_len (λ s. if nat_lt s 8 && test s then modes else no_modes) 0 64 n n no_modes (omega arith) (omega arith)
    ∙ ap (λ b. cond b modes no_modes) (asked n (test n) small)

whole : (test : ℕ → Bool) (modes : Modes) → length (granting test modes) ≡ 64
unfolding granting
whole test modes = length-map-range_with_len (λ s. if nat_lt s 8 && test s then modes else no_modes) 0 64

-- the sets that are left, and the first of them
left_sets : (n : ℕ) → n < 8 → replicate (64 - n) no_modes ≡ no_modes ∷ replicate (63 - n) no_modes
left_sets n small = let more : 64 - n ≡ suc (63 - n) = omega arith in ap (λ k. replicate k no_modes) more

next_sets : (sets : List Modes) (n : ℕ) → take (suc n) sets ++ replicate (63 - n) no_modes ≡ take (n + 1) sets ++ replicate (64 - (n + 1)) no_modes
next_sets sets n =
    let place : suc n ≡ n + 1 = omega arith in
    let left : 63 - n ≡ 64 - (n + 1) = omega arith in
    λ i. take (place i) sets ++ replicate (left i) no_modes

-- a subject that passes the test gets the modes
pub granted-given : (test : ℕ → Bool) (modes : Modes) (n : ℕ) → n < 8 → modes.0 < 16 → test n ≡ true → given n modes (granted test modes n) ≡ granted test modes (n + 1)
unfolding granted
granted-given test modes n small low passes =
    let sets = granting test modes in
    let is : modes ≡ in_row sets n = sym (in_row-granting test modes n small ∙ ap (λ b. cond b modes no_modes) passes) in
    ap (λ left. given n modes (take n sets ++ left)) (left_sets n small)
    ∙ one_more sets n (63 - n) modes (omega (arith, whole test modes)) is low
    ∙ next_sets sets n

-- one that doesn't gets none
pub granted-passed : (test : ℕ → Bool) (modes : Modes) (n : ℕ) → n < 8 → test n ≡ false → granted test modes n ≡ granted test modes (n + 1)
unfolding granted
granted-passed test modes n small fails =
    let sets = granting test modes in
    let is : no_modes ≡ in_row sets n = sym (in_row-granting test modes n small ∙ ap (λ b. cond b modes no_modes) fails) in
    ap (λ left. take n sets ++ left) (left_sets n small)
    ∙ sym (append_assoc (take n sets) (no_modes ∷ []) (replicate (63 - n) no_modes))
    ∙ ap (λ set. (take n sets ++ set ∷ []) ++ replicate (63 - n) no_modes) is
    ∙ ap (λ xs. xs ++ replicate (63 - n) no_modes) (sym (take-suc sets n no_modes (omega (arith, whole test modes))))
    ∙ next_sets sets n

-- ---- the subjects of a line

pub same_line : (a b : ℕ) → a ≡ b → (a == b) ≡ true
same_line a b h = grind (arith, nat_tests, h)

pub other_line : (a b : ℕ) → (a ≡ b → ⊥) → (a == b) ≡ false
other_line a b h = grind (arith, nat_tests, h)
