-- The line records of a report: its L lines, by the lines that they are of.
use Rattle.std.specs.Prelude.{ℕ, zero, suc, ◌/◌, ◌%◌, ◌^◌, Bool, false, ◌&&◌, ◌||◌, ◌==◌, if◌then◌else◌, List, [], ◌∷◌, ◌++◌, bytes_eq, codes, decimal}
use Rattle.std.specs.List.{slice_split}
use Rattle.bk_report.specs.declared.item.ReportItem.{ReportItem}
use Rattle.bk_report.specs.declared.item.ReportItem.TheVariants.{Call, Fault, Byte, End}

-- the word is a number below n, in decimal, that is in the set
abbrev pub names_below : (ℕ → Bool) → List ℕ → ℕ → Bool
names_below set word zero = false
names_below set word (suc n) = names_below set word n || (set n && bytes_eq word (decimal n))

-- the word is the number of a line that is in the set
unfoldable pub names_in : (ℕ → Bool) → List ℕ → Bool
names_in set word = names_below set word 256

-- the fields are L, a slot, a turn, a line that is in the set, and a byte
abbrev pub are_record : (ℕ → Bool) → List (List ℕ) → Bool
are_record set [] = false
are_record set (kind ∷ []) = false
are_record set (kind ∷ slot ∷ []) = false
are_record set (kind ∷ slot ∷ turn ∷ []) = false
are_record set (kind ∷ slot ∷ turn ∷ line ∷ []) = false
are_record set (kind ∷ slot ∷ turn ∷ line ∷ byte ∷ []) = bytes_eq kind (codes "L") && names_in set line
are_record set (kind ∷ slot ∷ turn ∷ line ∷ byte ∷ other ∷ more) = false

-- a line with its LF, where it is a record
abbrev pub kept : (ℕ → Bool) → List ℕ → List ℕ
kept set text = if are_record set (slice_split (λ b. b == 32) text) then text ++ codes "\n" else []

-- the records among the parts between LFs; the last part has no LF behind it, and so is no line
abbrev pub kept_of : (ℕ → Bool) → List (List ℕ) → List ℕ
kept_of set [] = []
kept_of set (last ∷ []) = []
kept_of set (text ∷ next ∷ parts) = kept set text ++ kept_of set (next ∷ parts)

-- the line records of a text, of the lines in the set, in order
unfoldable pub line_records_of : (ℕ → Bool) → List ℕ → List ℕ
line_records_of set text = kept_of set (slice_split (λ b. b == 10) text)

-- the lines whose bits are 1
abbrev pub has_bit : ℕ → ℕ → Bool
has_bit lines n = lines / 2 ^ n % 2 == 1

-- the item is a byte on a line that is in the set
abbrev pub is_byte_in : (ℕ → Bool) → ReportItem → Bool
is_byte_in set (Call slot turn subject number regs answer cause) = false
is_byte_in set (Fault slot turn subject cause pc entered) = false
is_byte_in set (Byte slot turn line byte) = set line
is_byte_in set (End slots turns references calls) = false
