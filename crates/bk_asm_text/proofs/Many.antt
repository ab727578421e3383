-- Parts of one kind that stand one after another: the first and the others, or none.
use Rattle.std.proofs.Common.{◌≡◌, ℕ, zero, suc, ◌<◌, ◌≤◌, List, [], ◌∷◌, length, Some, None, refl, ap, ◌∙◌, arith}
use Rattle.bk_expr.specs.Text.{Front}
use Rattle.bk_expr.proofs.Shorter.{Under}
use Rattle.bk_asm_text.specs.Parts.{with_others, many, all_of}

-- each part leaves fewer bytes than its text has
abbrev pub Shortens : {X : Type 0} → (List ℕ → Front X) → Type 0
Shortens part = (text : List ℕ) → Under (length text) (part text)

-- the same under two bounds that the text fits in
pub many_enough : {X : Type 0} (part : List ℕ → Front X) → Shortens part → (n m : ℕ) (text : List ℕ) → length text ≤ n → length text ≤ m → many part n text ≡ many part m text
many_enough part short zero zero text h k = refl
many_enough {X} part short zero (suc m) text h k = by (part text) (short text) where
  by : (o : Front X) → Under (length text) o → ([], text) ≡ with_others o text (many part m)
  by None under = refl
  by (Some x) under = absurd (omega (arith, h, under))
many_enough {X} part short (suc n) zero text h k = by (part text) (short text) where
  by : (o : Front X) → Under (length text) o → with_others o text (many part n) ≡ ([], text)
  by None under = refl
  by (Some x) under = absurd (omega (arith, k, under))
many_enough {X} part short (suc n) (suc m) text h k =
    by (part text) (short text) (λ rest i j. many_enough part short n m rest i j) where
      by : (o : Front X) → Under (length text) o → ((rest : List ℕ) → length rest ≤ n → length rest ≤ m → many part n rest ≡ many part m rest)
          → with_others o text (many part n) ≡ with_others o text (many part m)
      by None under same = refl
      by (Some x) under same =
          let others : many part n x.1 ≡ many part m x.1 = same x.1 (omega (arith, h, under)) (omega (arith, k, under)) in
          ap (λ (others : List X × List ℕ). (x.0 ∷ others.0, others.1)) others

many_all : {X : Type 0} (part : List ℕ → Front X) → Shortens part → (n : ℕ) (text : List ℕ) → length text ≤ n → many part n text ≡ all_of part text
unfolding all_of
many_all part short n text fits = many_enough part short n (length text) text fits (omega arith)

many_some : {X : Type 0} (part : List ℕ → Front X) → Shortens part → (n : ℕ) (text : List ℕ) (x : X × List ℕ) → part text ≡ Some x → n ≡ length text
    → length x.1 < length text → many part n text ≡ (x.0 ∷ (all_of part x.1).0, (all_of part x.1).1)
many_some part short zero text x e same h = absurd (omega (arith, same, h))
many_some {X} part short (suc n) text x e same h =
    ap (λ (o : Front X). with_others o text (many part n)) e
    ∙ ap (λ (others : List X × List ℕ). (x.0 ∷ others.0, others.1)) (many_all part short n x.1 (omega (arith, same, h)))

-- one part, and the others
pub all_some : {X : Type 0} (part : List ℕ → Front X) → Shortens part → (text : List ℕ) (x : X × List ℕ) → part text ≡ Some x
    → all_of part text ≡ (x.0 ∷ (all_of part x.1).0, (all_of part x.1).1)
unfolding all_of
all_some {X} part short text x e = many_some part short (length text) text x e refl (by (part text) (short text) e) where
  by : (o : Front X) → Under (length text) o → o ≡ Some x → length x.1 < length text
  by None under e = absurd (cc)
  by (Some y) under e = let same : y ≡ x = cc in let left = ap (λ (y : X × List ℕ). length y.1) same in omega (arith, under, left)

many_none : {X : Type 0} (part : List ℕ → Front X) (n : ℕ) (text : List ℕ) → part text ≡ None → many part n text ≡ ([], text)
many_none part zero text e = refl
many_none {X} part (suc n) text e = ap (λ (o : Front X). with_others o text (many part n)) e

-- no part
pub all_none : {X : Type 0} (part : List ℕ → Front X) (text : List ℕ) → part text ≡ None → all_of part text ≡ ([], text)
unfolding all_of
all_none part text e = many_none part (length text) text e
