-- Where statements stand, and what they define, each by the statements in front of it.
use Rattle.std.specs.Prelude.{ℕ, ◌+◌, ◌*◌, ◌%◌, ◌^◌, if◌then◌else◌}
use Rattle.std.specs.List.{list_any}
use Rattle.bk_expr.specs.declared.worked.Worked.{Worked}
use Rattle.bk_expr.specs.declared.worked.Worked.TheVariants as work
use Rattle.bk_expr.specs.Value.{Values, worked}
use Rattle.bk_asm_text.specs.Plain.{PlainStatement}
use Rattle.bk_asm.specs.Names.{Defined, nothing_defined, is_ordinary, with_labels, with_name, values_in}
use Rattle.bk_asm.specs.Pieces.{Role, Assignment, Zeros, Alignment, InWords, InBytes, role_of, form_size}

-- behind some statements: the address, the range, and what they define
pub record Known : Type 0 where
  pub address : ℕ
  pub range : ℕ
  pub defined : Defined

-- a statement at its place, with its size in bytes
pub record Placed : Type 0 where
  pub statement : PlainStatement
  pub address : ℕ
  pub range : ℕ
  pub size : ℕ

-- in front of all statements
abbrev pub start : (origin : ℕ) → Known
start origin = record { address = origin; range = 0; defined = nothing_defined }

-- an address as a value; that behind the last word of memory is 0
abbrev pub as_value : (address : ℕ) → ℕ
as_value address = address % 2 ^ 16

-- an ordinary label begins a new range, and all labels of its statement belong to it
abbrev pub range_at : Known → PlainStatement → ℕ
range_at known statement = if list_any is_ordinary statement.labels then known.range + 1 else known.range

-- the labels of a statement stand for its address
abbrev pub labelled : Known → PlainStatement → Defined
labelled known statement = with_labels (range_at known statement) (as_value known.address) known.defined statement.labels

-- what the expression of an assignment or of .BLKW comes to; the others have none that decides what follows
abbrev pub settled_by : Values → (here : ℕ) → Role → Worked
settled_by values here (Assignment name value) = worked values here value
settled_by values here (Zeros count) = worked values here count
settled_by values here Alignment = work.Value 0
settled_by values here InWords = work.Value 0
settled_by values here InBytes = work.Value 0

-- .. by what stands in front of the statement, and by its own labels
abbrev pub settled : Known → PlainStatement → Worked
settled known statement =
    settled_by (values_in (labelled known statement) (range_at known statement)) (as_value known.address) (role_of statement.body)

-- the number of what was worked; what comes to none is a fault before the number is asked for
abbrev pub number_in : Worked → ℕ
number_in (work.Value n) = n
number_in work.Undefined = 0
number_in work.Divide = 0

-- the size of a statement: so many zero words, a byte where the address is odd, or what the form fixes
abbrev pub size_by : (address form : ℕ) → (count : Worked) → Role → ℕ
size_by address form count (Assignment name value) = 0
size_by address form count (Zeros value) = 2 * number_in count
size_by address form count Alignment = address % 2
size_by address form count InWords = form
size_by address form count InBytes = form

abbrev pub size_at : Known → PlainStatement → ℕ
size_at known statement = size_by known.address (form_size statement.body) (settled known statement) (role_of statement.body)

-- an assignment gives its name the value
abbrev pub assigned : Defined → (value : Worked) → Role → Defined
assigned defined value (Assignment name expression) = with_name name (number_in value) defined
assigned defined value (Zeros count) = defined
assigned defined value Alignment = defined
assigned defined value InWords = defined
assigned defined value InBytes = defined

-- the statement at its place
abbrev pub placed : Known → PlainStatement → Placed
placed known statement =
    record { statement = statement; address = known.address; range = range_at known statement; size = size_at known statement }

-- behind one more statement
abbrev pub after : Known → PlainStatement → Known
after known statement = record {
  address = known.address + size_at known statement;
  range = range_at known statement;
  defined = assigned (labelled known statement) (settled known statement) (role_of statement.body);
}
