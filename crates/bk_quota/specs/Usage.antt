-- What a cell shows: its limit, and how much of it is used.
use Rattle.std.specs.Prelude.{ℕ, ◌+◌, Bool, true, false}

-- the limit, and how much of it is used
pub record Usage : Type 0 where
  pub limit : ℕ
  pub used : ℕ

-- the cell after a charge, which was taken or not
abbrev pub charged : Usage → ℕ → (taken : Bool) → Usage
charged cell n true = record cell { used = cell.used + n }
charged cell n false = cell
