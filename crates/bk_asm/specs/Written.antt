-- Pieces written one behind another, and what fails in them.
use Rattle.std.specs.Prelude.{ℕ, ◌+◌, Bool, false, not, ◌||◌, List, ◌++◌, fold}
use Rattle.bk_expr.specs.declared.worked.Worked.{Worked}
use Rattle.bk_expr.specs.Value.{Values}
use Rattle.bk_asm.specs.Codes.{bytes_at, is_in_range, worked_in}
use Rattle.bk_asm.specs.Faults.{is_undefined, divides_by_zero}
use Rattle.bk_asm.specs.Pieces.{Piece, size_of}
use Rattle.bk_asm.specs.Places.{as_value, number_in}

-- the bytes so far, the address behind them, and whether a piece of the statement names what isn't defined, divides by 0, or is out
-- of its range
pub record Written : Type 0 where
  pub bytes : List ℕ
  pub at : ℕ
  pub undefined : Bool
  pub divides : Bool
  pub beyond : Bool

-- behind bytes, none of a statement at an address yet
abbrev pub begun : List ℕ → (here : ℕ) → Written
begun before here = record { bytes = before; at = here; undefined = false; divides = false; beyond = false }

-- one piece more in a statement at an address, by what its expression comes to
abbrev pub written_by : (here : ℕ) → Written → Piece → Worked → Written
written_by here before piece found = record {
  bytes = before.bytes ++ bytes_at before.at piece (number_in found);
  at = as_value (before.at + size_of piece);
  undefined = is_undefined found || before.undefined;
  divides = divides_by_zero found || before.divides;
  beyond = not (is_in_range here piece (number_in found)) || before.beyond;
}

-- one piece more
abbrev pub written : Values → (here : ℕ) → Written → Piece → Written
written values here before piece = written_by here before piece (worked_in values here piece)

-- several more
abbrev pub all_written : Values → (here : ℕ) → Written → List Piece → Written
all_written values here before pieces = fold (written values here) before pieces
