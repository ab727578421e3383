-- The bytes of statements, once each name has its value.
use Rattle.std.specs.Prelude.{ℕ, ◌+◌, ◌-◌, ◌/◌, ◌%◌, ◌^◌, ◌==◌, Bool, true, not, ◌&&◌, ◌||◌, nat_le, nat_lt, List, [], ◌∷◌, ◌++◌}
use Rattle.std.specs.Prelude.{replicate, Result, Ok}
use Rattle.std.specs.List.{list_any}
use Rattle.bk_base.specs.Faults.{◌>>=◌, first_failing}
use Rattle.bk_expr.specs.declared.worked.Worked.{Worked}
use Rattle.bk_expr.specs.declared.worked.Worked.TheVariants as work
use Rattle.bk_expr.specs.Value.{Values, worked}
use Rattle.bk_asm_text.specs.declared.fault.AsmFault.{AsmFault}
use Rattle.bk_asm_text.specs.declared.fault.AsmKind.{AsmKind}
use Rattle.bk_asm_text.specs.declared.fault.AsmKind.TheVariants.{Undefined, Divide, Range}
use Rattle.bk_asm_text.specs.Fault.{fault_at}
use Rattle.bk_asm.specs.Faults.{is_undefined, divides_by_zero}
use Rattle.bk_asm.specs.Names.{Defined, values_in}
use Rattle.bk_asm.specs.Pieces.{Piece, Fixed, Value, Distance, Byte, Branch, Back, Number, Text, size_of, pieces_of}
use Rattle.bk_asm.specs.Pieces.{Role, Assignment, Zeros, Alignment, InWords, InBytes, role_of}
use Rattle.bk_asm.specs.Places.{Placed, as_value, number_in}

-- what the expression of a piece comes to in a statement at an address; a piece without one comes to 0
abbrev pub worked_in : Values → (here : ℕ) → Piece → Worked
worked_in values here (Fixed word) = work.Value 0
worked_in values here (Value value) = worked values here value
worked_in values here (Distance value) = worked values here value
worked_in values here (Byte value) = worked values here value
worked_in values here (Branch base to) = worked values here to
worked_in values here (Back base to) = worked values here to
worked_in values here (Number base limit value) = worked values here value
worked_in values here (Text text) = work.Value 0

-- from an address to another, modulo 65,536
abbrev pub distance : (from to : ℕ) → ℕ
distance from to = (to + 2 ^ 16 - from % 2 ^ 16) % 2 ^ 16

-- the number is of a byte: octal 0 to 377, or 177600 to 177777
abbrev pub is_byte : ℕ → Bool
is_byte n = nat_lt n 0o400 || nat_le 0o177600 n

-- the distance is even, and -128 to 127 words
abbrev pub is_in_branch : ℕ → Bool
is_in_branch n = n % 2 == 0 && (nat_le n 254 || nat_le (2 ^ 16 - 256) n)

-- the distance is even, and at most 63 words
abbrev pub is_in_back : ℕ → Bool
is_in_back n = n % 2 == 0 && nat_le n 126

-- the number of a piece is in the range of its field. A branch stands at its statement's address and counts from behind its word
abbrev pub is_in_range : (here : ℕ) → Piece → (n : ℕ) → Bool
is_in_range here (Fixed word) n = true
is_in_range here (Value value) n = true
is_in_range here (Distance value) n = true
is_in_range here (Byte value) n = is_byte n
is_in_range here (Branch base to) n = is_in_branch (distance (here + 2) n)
is_in_range here (Back base to) n = is_in_back (distance n (here + 2))
is_in_range here (Number base limit value) n = nat_lt n limit
is_in_range here (Text text) n = true

-- the bytes of a word, low byte first
abbrev pub word_bytes : ℕ → List ℕ
word_bytes n = n % 2 ^ 8 ∷ n / 2 ^ 8 ∷ []

-- the bytes of a piece that stands at an address, by its number
abbrev pub bytes_at : (at : ℕ) → Piece → (n : ℕ) → List ℕ
bytes_at at (Fixed word) n = word_bytes word
bytes_at at (Value value) n = word_bytes n
bytes_at at (Distance value) n = word_bytes (distance (at + 2) n)
bytes_at at (Byte value) n = n % 2 ^ 8 ∷ []
bytes_at at (Branch base to) n = word_bytes (as_value (base + distance (at + 2) n / 2 % 2 ^ 8))
bytes_at at (Back base to) n = word_bytes (as_value (base + distance n (at + 2) / 2))
bytes_at at (Number base limit value) n = word_bytes (as_value (base + n))
bytes_at at (Text text) n = text

-- the bytes of pieces one behind another, the first at an address, in a statement
abbrev pub pieces_bytes : Values → (here at : ℕ) → List Piece → List ℕ
pieces_bytes values here at [] = []
pieces_bytes values here at (piece ∷ pieces) =
    bytes_at at piece (number_in (worked_in values here piece)) ++ pieces_bytes values here (as_value (at + size_of piece)) pieces

-- the zero bytes of .BLKW and .EVEN
abbrev pub zeros_of : (size : ℕ) → Role → List ℕ
zeros_of size (Assignment name value) = []
zeros_of size (Zeros count) = replicate size 0
zeros_of size Alignment = replicate size 0
zeros_of size InWords = []
zeros_of size InBytes = []

-- a piece names what isn't defined; it divides by 0; its number is out of its range
abbrev pub is_undefined_in : Values → (here : ℕ) → Piece → Bool
is_undefined_in values here piece = is_undefined (worked_in values here piece)

abbrev pub divides_in : Values → (here : ℕ) → Piece → Bool
divides_in values here piece = divides_by_zero (worked_in values here piece)

abbrev pub is_beyond : Values → (here : ℕ) → Piece → Bool
is_beyond values here piece = not (is_in_range here piece (number_in (worked_in values here piece)))

-- the checks of a statement's pieces, in the order in which they are told
abbrev pub piece_checks : Values → (here : ℕ) → List Piece → List (AsmKind × Bool)
piece_checks values here pieces =
    (Undefined, list_any (is_undefined_in values here) pieces)
    ∷ (Divide, list_any (divides_in values here) pieces)
    ∷ (Range, list_any (is_beyond values here) pieces)
    ∷ []

-- the bytes of a statement at its place, or its fault
unfoldable pub coded_at : Defined → Placed → Result (List ℕ) AsmFault
coded_at defined placed = do
  let values = values_in defined placed.range
  let here = as_value placed.address
  let pieces = pieces_of placed.statement.body
  passed ← first_failing (fault_at placed.statement.line) (piece_checks values here pieces)
  Ok (pieces_bytes values here here pieces ++ zeros_of placed.size (role_of placed.statement.body))

-- .. behind others
abbrev pub coded_behind : Defined → List ℕ → Placed → Result (List ℕ) AsmFault
coded_behind defined before placed = coded_at defined placed >>= λ bytes. Ok (before ++ bytes)

-- line by line, each statement by the values of all names: the bytes of all, behind those before them; or the first fault
unfoldable pub coded : Defined → List ℕ → List Placed → Result (List ℕ) AsmFault
coded defined before [] = Ok before
coded defined before (placed ∷ others) = coded_behind defined before placed >>= λ more. coded defined more others
