-- A script's text, and what holds of a script.
use Rattle.std.specs.Prelude.{◌≡◌, ℕ, ◌+◌, ◌/◌, ◌%◌, nat_le, if◌then◌else◌, ◌*◌, ◌<◌, ◌≤◌, ◌^◌, ◌⊎◌, List, [], ◌∷◌, ◌++◌, length, flat_map, All, codes, decimal}
use Rattle.bk_system.specs.Limits.{most_slots, most_turns_of_run}
use Rattle.bk_system.specs.declared.TypedAt.{TypedAt}
use Rattle.bk_system.specs.declared.Script.{Script}

-- a hexadecimal digit in lower case
abbrev pub hex_digit : ℕ → ℕ
hex_digit n = if nat_le n 9 then 48 + n else 87 + n

-- bytes, each as two digits
abbrev pub hex_of : List ℕ → List ℕ
hex_of bytes = flat_map (λ b. hex_digit (b / 16) ∷ hex_digit (b % 16) ∷ []) bytes

-- the line of a record: its slot, its line and its bytes in hexadecimal
abbrev pub record_text : TypedAt → List ℕ
record_text typed = decimal typed.slot ++ codes " " ++ decimal typed.line ++ codes " " ++ hex_of typed.bytes ++ codes "\n"

-- the text of a script
unfoldable pub text_of : List TypedAt → ℕ → List ℕ
text_of records slots = flat_map record_text records ++ codes "END " ++ decimal slots ++ codes "\n"

-- a record is of a line of the image and of a slot of the script, and has 1 to 128 bytes
pub record IsTyped (lines slots : ℕ) (typed : TypedAt) : Type 0 where
  pub slot : typed.slot < slots
  pub line : typed.line < lines
  pub some : 1 ≤ length typed.bytes
  pub short : length typed.bytes ≤ 128
  pub bytes : All (λ b. b < 2 ^ 8) typed.bytes

-- a record stands above another: its slot is greater, or its slot is the same and its line is greater
abbrev pub IsAbove : TypedAt → TypedAt → Type 0
IsAbove before after = (before.slot < after.slot) ⊎ ((before.slot ≡ after.slot) × (before.line < after.line))

-- each record stands above the one before it
abbrev pub IsInOrder : List TypedAt → Type 0
IsInOrder [] = Unit {0}
IsInOrder (one ∷ []) = Unit {0}
IsInOrder (one ∷ two ∷ records) = IsAbove one two × IsInOrder (two ∷ records)

-- what holds of the records and the number of slots, for an image of so many lines and turns
pub record IsScript (lines turns : ℕ) (records : List TypedAt) (slots : ℕ) : Type 0 where
  pub few : slots ≤ most_slots
  pub within : slots * turns ≤ most_turns_of_run
  pub typed : All (IsTyped lines slots) records
  pub order : IsInOrder records

-- a script's records and its number of slots
abbrev pub parts_of : Script → List TypedAt × ℕ
parts_of script = (script.typed, script.slots)
