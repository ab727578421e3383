-- The sizes of lists of values and of bytes.
use Rattle.std.proofs.Common.{◌≡◌, ◌*◌, List, [], ◌∷◌, length, refl, arith}
use Rattle.std.specs.Prelude.{map, sum_by}
use Rattle.std.proofs.lemmas.List.Sums.{sum_by-cons}
use Rattle.bk_expr.specs.Tree.{Expression}
use Rattle.bk_asm.specs.Pieces.{Value, Byte, size_of}

pub values_size : (values : List Expression) → sum_by size_of (map Value values) ≡ 2 * length values
values_size [] = refl
values_size (value ∷ values) = omega (arith, values_size values, sum_by-cons size_of (Value value) (map Value values))

pub bytes_size : (values : List Expression) → sum_by size_of (map Byte values) ≡ length values
bytes_size [] = refl
bytes_size (value ∷ values) = omega (arith, bytes_size values, sum_by-cons size_of (Byte value) (map Byte values))
