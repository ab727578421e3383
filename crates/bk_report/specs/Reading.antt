-- An item that is read: guessed by the fields in front, printed again, and compared.
use Rattle.std.specs.Prelude.{ℕ, zero, suc, ◌+◌, ◌-◌, ◌*◌, ◌%◌, ◌^◌, Bool, true, ◌&&◌, not, nat_lt, nat_le, nat_eq, ◌==◌, if◌then◌else◌, List, [], ◌∷◌, length}
use Rattle.std.specs.Prelude.{drop, slice_index, Option, Some, None}
use Rattle.std.specs.List.{starts_with}
use Rattle.bk_report.specs.declared.item.ReportItem.{ReportItem}
use Rattle.bk_report.specs.declared.item.ReportItem.TheVariants.{Call, Fault, Byte, End}
use Rattle.bk_report.specs.Text.{text_of}

-- a decimal digit as a character
abbrev pub is_digit : ℕ → Bool
is_digit b = nat_le 48 b && nat_le b 57

-- the number of the digits in front, at 64 bits, and what follows the byte after them
abbrev pub front : ℕ → ℕ → List ℕ → ℕ × List ℕ
front base n [] = (n, [])
front base n (b ∷ bytes) = if is_digit b then front base ((n * base % 2 ^ 64 + (b - 48)) % 2 ^ 64) bytes else (n, bytes)

-- so many words in front, in octal
abbrev pub words_in : ℕ → List ℕ → List ℕ × List ℕ
words_in zero bytes = ([], bytes)
words_in (suc n) bytes =
    let word = front 8 0 bytes in
    let rest = words_in n word.1 in
    (word.0 % 2 ^ 16 ∷ rest.0, rest.1)

-- the answer whose word begins with the first byte, and what follows that word and a space
abbrev pub answer_in : List ℕ → ℕ × List ℕ
answer_in bytes =
    if slice_index bytes 0 == 121 then (0, drop 4 bytes)
    else (if slice_index bytes 0 == 110 then (1, drop 3 bytes) else (2, drop 2 bytes))

-- a call by its fields in front, and then its registers, answer and cause
abbrev pub call_with : ℕ → ℕ → ℕ → ℕ → List ℕ × List ℕ → ReportItem
call_with slot turn subject number words =
    let answer = answer_in words.1 in
    let cause = front 10 0 answer.1 in
    Call (slot % 2 ^ 32) (turn % 2 ^ 16) (subject % 2 ^ 8) (number % 2 ^ 8) words.0 answer.0 (cause.0 % 2 ^ 8)

-- a call: slot, turn, subject, the call's number, and the rest
abbrev pub call_of : List ℕ → ReportItem
call_of bytes =
    let slot = front 10 0 bytes in
    let turn = front 10 0 slot.1 in
    let subject = front 10 0 turn.1 in
    let number = front 8 0 subject.1 in
    call_with slot.0 turn.0 subject.0 number.0 (words_in 6 number.1)

-- a fault: slot, turn, subject, cause, program counter, and whether it was reflected
abbrev pub fault_of : List ℕ → ReportItem
fault_of bytes =
    let slot = front 10 0 bytes in
    let turn = front 10 0 slot.1 in
    let subject = front 10 0 turn.1 in
    let cause = front 10 0 subject.1 in
    let pc = front 8 0 cause.1 in
    Fault (slot.0 % 2 ^ 32) (turn.0 % 2 ^ 16) (subject.0 % 2 ^ 8) (cause.0 % 2 ^ 8) (pc.0 % 2 ^ 16) (slice_index pc.1 0 == 101)

-- a byte: slot, turn, line, and the byte
abbrev pub byte_of : List ℕ → ReportItem
byte_of bytes =
    let slot = front 10 0 bytes in
    let turn = front 10 0 slot.1 in
    let line = front 10 0 turn.1 in
    let byte = front 8 0 line.1 in
    Byte (slot.0 % 2 ^ 32) (turn.0 % 2 ^ 16) (line.0 % 2 ^ 8) (byte.0 % 2 ^ 8)

-- the totals: slots, turns, references and calls
abbrev pub end_of : List ℕ → ReportItem
end_of bytes =
    let slots = front 10 0 bytes in
    let turns = front 10 0 slots.1 in
    let references = front 10 0 turns.1 in
    let calls = front 10 0 references.1 in
    End (slots.0 % 2 ^ 32) (turns.0 % 2 ^ 32) references.0 (calls.0 % 2 ^ 32)

-- the item that a line can only be, by its first byte
unfoldable pub guess_of : List ℕ → ReportItem
guess_of bytes =
    if slice_index bytes 0 == 67 then call_of (drop 2 bytes)
    else (if slice_index bytes 0 == 70 then fault_of (drop 2 bytes)
    else (if slice_index bytes 0 == 76 then byte_of (drop 2 bytes) else end_of (drop 4 bytes)))

-- a call is answered yes, no or ?, and yes is what has no cause
abbrev pub is_answered : ReportItem → Bool
is_answered (Call slot turn subject number regs answer cause) = if answer == 0 then cause == 0 else (nat_lt answer 3 && not (cause == 0))
is_answered (Fault slot turn subject cause pc entered) = true
is_answered (Byte slot turn line byte) = true
is_answered (End slots turns references calls) = true

-- the guess, where its line stands in front
abbrev pub checked : ReportItem → List ℕ → Option (ReportItem × ℕ)
checked item bytes =
    if is_answered item && starts_with nat_eq bytes (text_of item) then Some (item, length (text_of item)) else None

-- the item that stands in front, and the length of its line
unfoldable pub read_of : List ℕ → Option (ReportItem × ℕ)
read_of bytes = checked (guess_of bytes) bytes
