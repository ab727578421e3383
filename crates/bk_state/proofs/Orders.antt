-- The order of triples is total, and the test of sameness of paths is that of their order.
use Rattle.std.proofs.Common.{◌≡◌, sym, ◌∙◌}
use Rattle.std.specs.Ordering.{eq_by_cmp}
use Rattle.std.specs.Cmp.{IsTotalOrder, nat_cmp_total, on_total, then_total, eq_by_cmp_equiv}
use Rattle.bk_path.specs.Paths.{Path, path_cmp, is_same}
use Rattle.bk_path.specs.Orders.{path_total, ties-same}
use Rattle.bk_object.specs.Modes.{mode_number}
use Rattle.bk_state.specs.State.{triple_cmp}

pub triple_total : IsTotalOrder triple_cmp
triple_total = then_total (on_total (λ t. t.0) nat_cmp_total) (then_total (on_total (λ t. t.1) path_total) (on_total (λ t. mode_number t.2) nat_cmp_total))

-- the test of sameness is that of the order
pub same_tests : (p q : Path) → is_same p q ≡ eq_by_cmp path_cmp q p
same_tests p q = sym ((eq_by_cmp_equiv path_total).symm q p ∙ ties-same p q)
