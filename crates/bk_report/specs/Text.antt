-- Items as text: the line of each kind of item, and what holds of an item that is printed.
use Rattle.std.specs.Prelude.{◌≡◌, ℕ, ◌+◌, ◌/◌, ◌%◌, ◌<◌, ◌==◌, ◌↔◌, if◌then◌else◌, Bool, List, [], ◌∷◌, ◌++◌, ◌^◌, length, drop, flat_map, codes, decimal}
use Rattle.std.specs.List.{AllByRecursion}
use Rattle.bk_report.specs.declared.item.ReportItem.{ReportItem}
use Rattle.bk_report.specs.declared.item.ReportItem.TheVariants.{Call, Fault, Byte, End}

-- three octal digits
abbrev pub octal3 : ℕ → List ℕ
octal3 n = (48 + n / 64) ∷ (48 + n / 8 % 8) ∷ (48 + n % 8) ∷ []

-- six octal digits
abbrev pub octal6 : ℕ → List ℕ
octal6 n =
    (48 + n / 32768) ∷ (48 + n / 4096 % 8) ∷ (48 + n / 512 % 8)
    ∷ (48 + n / 64 % 8) ∷ (48 + n / 8 % 8) ∷ (48 + n % 8) ∷ []

-- words, each after a space
abbrev pub words_of : List ℕ → List ℕ
words_of words = flat_map (λ word. codes " " ++ octal6 word) words

-- the word for an answer
abbrev pub answer_of : ℕ → List ℕ
answer_of answer = if answer == 0 then codes "yes" else (if answer == 1 then codes "no" else codes "?")

-- the word for a fault that was reflected, or that stopped the process
abbrev pub how_of : Bool → List ℕ
how_of entered = if entered then codes "enter" else codes "stop"

-- the line of an item
abbrev pub text_of : ReportItem → List ℕ
text_of (Call slot turn subject number regs answer cause) =
    codes "C " ++ decimal slot ++ codes " " ++ decimal turn ++ codes " " ++ decimal subject ++ codes " " ++ octal3 number
    ++ words_of regs ++ codes " " ++ answer_of answer ++ codes " " ++ decimal cause ++ codes "\n"
text_of (Fault slot turn subject cause pc entered) =
    codes "F " ++ decimal slot ++ codes " " ++ decimal turn ++ codes " " ++ decimal subject ++ codes " " ++ decimal cause
    ++ codes " " ++ octal6 pc ++ codes " " ++ how_of entered ++ codes "\n"
text_of (Byte slot turn line byte) =
    codes "L " ++ decimal slot ++ codes " " ++ decimal turn ++ codes " " ++ decimal line ++ codes " " ++ octal3 byte ++ codes "\n"
text_of (End slots turns references calls) =
    codes "END " ++ decimal slots ++ codes " " ++ decimal turns ++ codes " " ++ decimal references
    ++ codes " " ++ decimal calls ++ codes "\n"

-- the lines of items, in order
unfoldable pub lines_of : List ReportItem → List ℕ
lines_of items = flat_map text_of items

-- a call is answered yes (0), no (1) or ? (2), and yes is what has no cause
abbrev pub IsAnswered : ReportItem → Type 0
IsAnswered (Call slot turn subject number regs answer cause) = (answer < 3) × ((answer ≡ 0) ↔ (cause ≡ 0))
IsAnswered (Fault slot turn subject cause pc entered) = Unit {0}
IsAnswered (Byte slot turn line byte) = Unit {0}
IsAnswered (End slots turns references calls) = Unit {0}

-- the fields are of their types
abbrev pub IsWithin : ReportItem → Type 0
IsWithin (Call slot turn subject number regs answer cause) =
    (slot < 2 ^ 32) × (turn < 2 ^ 16) × (subject < 2 ^ 8) × (number < 2 ^ 8)
    × (length regs ≡ 6) × AllByRecursion (λ word. word < 2 ^ 16) regs × (cause < 2 ^ 8)
IsWithin (Fault slot turn subject cause pc entered) =
    (slot < 2 ^ 32) × (turn < 2 ^ 16) × (subject < 2 ^ 8) × (cause < 2 ^ 8) × (pc < 2 ^ 16)
IsWithin (Byte slot turn line byte) = (slot < 2 ^ 32) × (turn < 2 ^ 16) × (line < 2 ^ 8) × (byte < 2 ^ 8)
IsWithin (End slots turns references calls) = (slots < 2 ^ 32) × (turns < 2 ^ 32) × (references < 2 ^ 64) × (calls < 2 ^ 32)

-- the numbers that an item tells in decimal are below 2 ^ 64, and that of a line is below 2 ^ 8
abbrev pub IsNumbered : ReportItem → Type 0
IsNumbered (Call slot turn subject number regs answer cause) = (slot < 2 ^ 64) × (turn < 2 ^ 64) × (subject < 2 ^ 64) × (cause < 2 ^ 64)
IsNumbered (Fault slot turn subject cause pc entered) = (slot < 2 ^ 64) × (turn < 2 ^ 64) × (subject < 2 ^ 64) × (cause < 2 ^ 64)
IsNumbered (Byte slot turn line byte) = (slot < 2 ^ 64) × (turn < 2 ^ 64) × (line < 2 ^ 8)
IsNumbered (End slots turns references calls) = (slots < 2 ^ 64) × (turns < 2 ^ 64) × (references < 2 ^ 64) × (calls < 2 ^ 64)

-- an item that is printed
pub record IsPrinted (item : ReportItem) : Type 0 where
  pub within : IsWithin item
  pub answered : IsAnswered item

-- the first n bytes are the line of an item that is printed
pub record IsLine (bytes : List ℕ) (item : ReportItem) (n : ℕ) : Type 0 where
  pub printed : IsPrinted item
  pub len : n ≡ length (text_of item)
  pub line : bytes ≡ text_of item ++ drop n bytes
