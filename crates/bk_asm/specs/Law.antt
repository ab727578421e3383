-- What an assembled text is, in sizes, addresses and values.
use Rattle.std.specs.Prelude.{◌≡◌, ℕ, ◌+◌, ◌*◌, ◌%◌, if◌then◌else◌, List, ◌∷◌, ◌++◌, length, map, flat_map, sum_by, T, Option, Some, Ok}
use Rattle.std.specs.FinMap.Entries.{find, is_sorted}
use Rattle.std.specs.List.{AllByRecursion, list_any}
use Rattle.bk_expr.specs.declared.worked.Worked.{Worked}
use Rattle.bk_expr.specs.declared.worked.Worked.TheVariants as work
use Rattle.bk_expr.specs.Tree.{Expression}
use Rattle.bk_expr.specs.Value.{worked}
use Rattle.bk_asm_text.specs.Plain.{PlainLabel, Name, Local}
use Rattle.bk_asm_text.specs.Statements.{statements_of}
use Rattle.bk_asm.specs.declared.program.Program.{Program}
use Rattle.bk_asm.specs.Assembled.{words_of, symbols_of}
use Rattle.bk_asm.specs.Codes.{pieces_bytes, zeros_of}
use Rattle.bk_asm.specs.Names.{Defined, is_ordinary, local_cmp, name_cmp, values_in}
use Rattle.bk_asm.specs.Pieces.{Role, Assignment, Zeros, Alignment, InWords, InBytes, form_size, pieces_of, role_of}
use Rattle.bk_asm.specs.Places.{Placed, as_value}

-- the value of a label, a local one in a range
abbrev pub value_of_label : Defined → (range : ℕ) → PlainLabel → Option ℕ
value_of_label defined range (Name name) = find name_cmp name defined.names
value_of_label defined range (Local n) = find local_cmp (range, n) defined.locals

-- the label has its statement's address as its value
abbrev pub StandsFor : Defined → Placed → PlainLabel → Type 0
StandsFor defined one label = value_of_label defined one.range label ≡ Some (as_value one.address)

-- what an expression of a statement comes to by the values of all names
abbrev pub comes_to : Defined → Placed → Expression → Worked
comes_to defined one value = worked (values_in defined one.range) (as_value one.address) value

-- an assigned name has the value of its expression
abbrev pub IsAssigned : Defined → Placed → Role → Type 0
IsAssigned defined one (Assignment name value) = (n : ℕ) × (find name_cmp name defined.names ≡ Some n) × (comes_to defined one value ≡ work.Value n)
IsAssigned defined one (Zeros count) = Unit {0}
IsAssigned defined one Alignment = Unit {0}
IsAssigned defined one InWords = Unit {0}
IsAssigned defined one InBytes = Unit {0}

-- the size of a statement
abbrev pub IsSized : Defined → Placed → Role → Type 0
IsSized defined one (Assignment name value) = one.size ≡ 0
IsSized defined one (Zeros count) = (n : ℕ) × (comes_to defined one count ≡ work.Value n) × (one.size ≡ 2 * n)
IsSized defined one Alignment = one.size ≡ one.address % 2
IsSized defined one InWords = one.size ≡ form_size one.statement.body
IsSized defined one InBytes = one.size ≡ form_size one.statement.body

-- how many ranges begin at a statement
abbrev pub begins : Placed → ℕ
begins one = if list_any is_ordinary one.statement.labels then 1 else 0

-- the bytes of a statement by the values of all names
abbrev pub bytes_of : Defined → Placed → List ℕ
bytes_of defined one =
    pieces_bytes (values_in defined one.range) (as_value one.address) (as_value one.address) (pieces_of one.statement.body)
    ++ zeros_of one.size (role_of one.statement.body)

-- a statement behind others
pub record IsPlaced (origin : ℕ) (defined : Defined) (front : List Placed) (one : Placed) : Type 0 where
  -- the origin and the sizes of those before it
  pub address : one.address ≡ origin + sum_by (λ other. other.size) front
  -- how many statements up to it have an ordinary label
  pub range : one.range ≡ sum_by begins front + begins one
  pub bytes : length (bytes_of defined one) ≡ one.size
  pub size : IsSized defined one (role_of one.statement.body)
  pub labels : AllByRecursion (StandsFor defined one) one.statement.labels
  pub assignment : IsAssigned defined one (role_of one.statement.body)

-- a text is a program: places and values of which all this holds
pub record IsAssembly (text : List ℕ) (origin : ℕ) (program : Program) : Type 0 where
  pub places : List Placed
  pub defined : Defined
  -- one for each line
  pub lines : statements_of text ≡ Ok (map (λ one. one.statement) places)
  pub addresses : (front : List Placed) (one : Placed) (behind : List Placed) → places ≡ front ++ one ∷ behind → IsPlaced origin defined front one
  -- each name stands once, in byte order
  pub once : T (is_sorted name_cmp defined.names)
  -- the words are those of the statements' bytes, one behind another
  pub words : program ≡ record { origin = origin; words = words_of (flat_map (bytes_of defined) places); symbols = symbols_of defined }
