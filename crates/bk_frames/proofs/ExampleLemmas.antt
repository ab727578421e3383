-- The blocks of the example, counted over its entries.
use Rattle.std.proofs.Common.{◌≡◌, ◌+◌, ap, ◌∙◌, refl}
use Rattle.std.specs.Prelude.{sum_by, nat_lt, if◌then◌else◌}
use Rattle.std.specs.FinMap as finite
use Rattle.std.specs.Ordering.{nat_cmp}
use Rattle.bk_frames.specs.Extents.{blocks_below, moved_down, taken_in}
use Rattle.bk_frames.specs.Example.{example, example_entries, lower, upper}

pub taken : taken_in example ≡ 3
taken = ap (λ es. sum_by (λ e. e.1.blocks) es) (finite.entries-from_sorted nat_cmp example_entries tt) ∙ refl

below_lower : blocks_below example 65 ≡ 0
below_lower = ap (λ es. sum_by (λ e. if nat_lt e.1.first 65 then e.1.blocks else 0) es) (finite.entries-from_sorted nat_cmp example_entries tt) ∙ refl

below_upper : blocks_below example 70 ≡ 2
below_upper = ap (λ es. sum_by (λ e. if nat_lt e.1.first 70 then e.1.blocks else 0) es) (finite.entries-from_sorted nat_cmp example_entries tt) ∙ refl

pub lower_down : moved_down example lower ≡ record { first = 64; blocks = 2 }
lower_down = ap (λ n. record { first = 64 + n; blocks = 2 }) below_lower

pub upper_down : moved_down example upper ≡ record { first = 66; blocks = 1 }
upper_down = ap (λ n. record { first = 64 + n; blocks = 1 }) below_upper
