-- The script of a generated run: one byte is typed in each slot.
use Rattle.std.specs.Prelude.{ℕ, ◌+◌, ◌/◌, ◌%◌, List, [], ◌∷◌, map}
use Rattle.bk_system.specs.declared.TypedAt.{TypedAt}
use Rattle.bk_system.specs.declared.Script.{Script}
use Rattle.bk_gen.specs.Subjects.{numbers_below, levels_made}
use Rattle.bk_gen.specs.Numbers.{number_at}

-- how many slots there are
abbrev pub slots_made : ℕ
slots_made = 4096

-- the high half of a number of 32 bits
abbrev pub high_half : (x : ℕ) → ℕ
high_half x = x / 65536

-- what a number types in a slot: of its high half the lowest two bits give the line, and the bits above them a byte of 32 to 126
abbrev pub typed_by : (slot x : ℕ) → TypedAt
typed_by slot x = record {
  slot = slot;
  line = high_half x % levels_made;
  bytes = (32 + high_half x / 4 % 95) ∷ [];
}

-- what is typed in slot k: by the number after the k-th
abbrev pub typed_in : (n k : ℕ) → TypedAt
typed_in n k = typed_by k (number_at n (k + 1))

-- what is typed in the first slots
unfoldable pub typed_below : (n slots : ℕ) → List TypedAt
typed_below n slots = map (typed_in n) (numbers_below slots)

-- the script that begins with n
unfoldable pub generated_script : (n : ℕ) → Script
generated_script n = record { slots = slots_made; typed = typed_below n slots_made }
