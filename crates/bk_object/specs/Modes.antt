-- Access modes and sets of them.
use Rattle.std.specs.Prelude.{ℕ, ◌+◌, ◌/◌, ◌%◌, Bool, ◌&&◌, ◌||◌, not, ◌==◌, if◌then◌else◌}
use Rattle.bk_object.specs.declared.modes.Modes.{Modes}

-- the modes of access to an object
pub data AccessMode : Type 0 where
  Read : AccessMode
  Execute : AccessMode
  Write : AccessMode
  Append : AccessMode

-- the mode's bit
abbrev pub mode_number : AccessMode → ℕ
mode_number Read = 1
mode_number Execute = 2
mode_number Write = 4
mode_number Append = 8

-- the set has the mode
abbrev pub has : Modes → AccessMode → Bool
has modes Read = modes.0 % 2 == 1
has modes Execute = modes.0 / 2 % 2 == 1
has modes Write = modes.0 / 4 % 2 == 1
has modes Append = modes.0 / 8 % 2 == 1

-- the set of those modes of which the test holds
abbrev pub modes_where : (AccessMode → Bool) → Modes
modes_where test = record {
  0 = (if test Read then 1 else 0) + (if test Execute then 2 else 0) + (if test Write then 4 else 0) + (if test Append then 8 else 0);
}

-- the empty set, and the set of one mode
abbrev pub no_modes : Modes
no_modes = record { 0 = 0 }

-- the set of one mode
abbrev pub only : AccessMode → Modes
only mode = record { 0 = mode_number mode }

-- the modes of either
abbrev pub union : Modes → Modes → Modes
union a b = modes_where (λ mode. has a mode || has b mode)

-- the modes of the first that are none of the second's
abbrev pub without : Modes → Modes → Modes
without a b = modes_where (λ mode. has a mode && not (has b mode))

-- each mode of the first is one of the second's
abbrev pub is_within : Modes → Modes → Bool
is_within a b = fits Read && fits Execute && fits Write && fits Append
  where
    fits : AccessMode → Bool
    fits mode = not (has a mode) || has b mode
