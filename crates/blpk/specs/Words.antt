-- The words of the command line.
use Rattle.std.specs.Prelude.{ℕ, ◌^◌, ◌&&◌, nat_lt, if◌then◌else◌, List, [], ◌∷◌, map, Option, Some, None, option_map}
use Rattle.std.specs.Prelude.{String, string_bytes, bytes_eq, codes, decimal}
use Rattle.std.specs.Str.Parse.{digits_value}
use Rattle.blpk.specs.declared.words.Command.{Command}
use Rattle.blpk.specs.declared.words.Command.TheVariants as command

-- the words as bytes
abbrev pub texts : {Z : Type 0} → List (String Z) → List (List ℕ)
texts words = map string_bytes words

-- the number that a word is in decimal, without leading zeros: 0 to 4,294,967,295
abbrev pub number_of : List ℕ → Option ℕ
number_of word = if nat_lt (digits_value 10 word) (2 ^ 32) && bytes_eq (decimal (digits_value 10 word)) word then Some (digits_value 10 word) else None

-- the command that a word names alone: `run`, `build` or `list`
abbrev pub by_word : (word : List ℕ) → Option Command
by_word word =
    if bytes_eq word (codes "run") then Some command.Run
    else if bytes_eq word (codes "build") then Some command.Build
    else if bytes_eq word (codes "list") then Some command.List
    else None

-- the command that the words name: one of these, or `gen` and a number
abbrev pub command_of : List (List ℕ) → Option Command
command_of [] = None
command_of (word ∷ []) = by_word word
command_of (word ∷ number ∷ []) = if bytes_eq word (codes "gen") then option_map command.Gen (number_of number) else None
command_of (word ∷ other ∷ next ∷ words) = None
