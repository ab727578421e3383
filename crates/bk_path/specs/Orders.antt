-- The order of paths is total, and ties only at the same path.
use Rattle.std.specs.Prelude.{◌≡◌, ℕ, true, List, reverse, refl}
use Rattle.std.specs.Ordering.{nat_cmp, eq_by_cmp, is_eq}
use Rattle.std.specs.declared.cmp.Ordering.{Ordering}
use Rattle.std.specs.Cmp.{IsTotalOrder, IsEquivalence, IsPartialOrder, on_total, tied_itself, both_ways, eq_by_cmp_equiv, partial_order_from_agreeing_total}
use Rattle.std.specs.Cmp.Lexicographic.{slice_cmp, nat_list_cmp_total}
use Rattle.std.specs.FinMap.{IsAntisymmetric, nat_cmp-IsAntisymmetric, slice_cmp-IsAntisymmetric}
use Rattle.std.proofs.Common.{ap, sym, ◌∙◌, Less, Equal, Greater, Some}
use Rattle.std.proofs.lemmas.List.{reverse-reverse}
use Rattle.bk_path.specs.Paths.{Path, path_cmp, is_same}

pub path_total : IsTotalOrder path_cmp
path_total = on_total reverse nat_list_cmp_total

list_apart : (p q : List ℕ) → slice_cmp nat_cmp p q ≡ Equal → p ≡ q
list_apart = slice_cmp-IsAntisymmetric nat_cmp-IsAntisymmetric

pub path_apart : IsAntisymmetric path_cmp
path_apart p q e = sym (reverse-reverse p) ∙ ap reverse (list_apart (reverse p) (reverse q) e) ∙ reverse-reverse q

tied : (o : Ordering) → is_eq o ≡ true → o ≡ Equal
tied Less e = cc
tied Equal e = refl
tied Greater e = cc

-- paths that pass the test are one
pub same_path : (p q : Path) → is_same p q ≡ true → p ≡ q
same_path p q e = list_apart p q (tied (slice_cmp nat_cmp p q) e)

pub is_same-itself : (p : Path) → is_same p p ≡ true
is_same-itself p = ap is_eq (tied_itself nat_list_cmp_total p)

pub is_same_equiv : IsEquivalence is_same
is_same_equiv = eq_by_cmp_equiv nat_list_cmp_total

-- two paths tie in the order of paths exactly where they are the same
pub ties-same : (p q : Path) → eq_by_cmp path_cmp p q ≡ is_same p q
ties-same p q = both_ways _ _
    (λ e. ap (is_same p) (sym (path_apart p q (tied (path_cmp p q) e))) ∙ is_same-itself p)
    (λ e. ap (eq_by_cmp path_cmp p) (sym (same_path p q e)) ∙ ap is_eq (tied_itself path_total p))

pub path_partial : IsPartialOrder is_same (λ p q. Some (path_cmp p q))
path_partial = partial_order_from_agreeing_total path_cmp path_total (λ p q. refl) (λ p q. sym (ties-same p q))
