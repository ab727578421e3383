-- Only equal triples tie.
use Rattle.std.proofs.Common.{◌≡◌, refl, ap, is_eq, Equal, Less, Greater, Ordering, true}
use Rattle.std.specs.Ordering.{eq_by_cmp, nat_cmp, ordering_then}
use Rattle.std.specs.FinMap.{nat_cmp-IsAntisymmetric}
use Rattle.bk_object.specs.Modes.{AccessMode, Read, Execute, Write, Append, mode_number}
use Rattle.bk_path.specs.Paths.{path_cmp}
use Rattle.bk_state.specs.State.{Triple, triple_cmp}
use Rattle.bk_path.specs.Orders.{path_apart}

first_tied : (a b : Ordering) → is_eq (ordering_then a b) ≡ true → (a ≡ Equal) × (b ≡ Equal)
first_tied Less b e = cc
first_tied Equal Less e = cc
first_tied Equal Equal e = (refl, refl)
first_tied Equal Greater e = cc
first_tied Greater b e = cc

pub mode_number-same : (x y : AccessMode) → mode_number x ≡ mode_number y → x ≡ y
mode_number-same Read Read e = refl
mode_number-same Execute Execute e = refl
mode_number-same Write Write e = refl
mode_number-same Append Append e = refl
mode_number-same x y e = cc

pub same_triple : (t u : Triple) → eq_by_cmp triple_cmp t u ≡ true → (t.0 ≡ u.0) × (t.1 ≡ u.1) × (t.2 ≡ u.2)
same_triple t u e =
    let one = first_tied (nat_cmp t.0 u.0) _ e in
    let two = first_tied (path_cmp t.1 u.1) _ (ap is_eq one.1) in
    (nat_cmp-IsAntisymmetric _ _ one.0, path_apart _ _ two.0, mode_number-same _ _ (nat_cmp-IsAntisymmetric _ _ two.1))
