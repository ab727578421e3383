-- What has to hold of statements before any word is made: the checks of one, and the first that fails of all.
use Rattle.std.specs.Prelude.{ℕ, ◌+◌, ◌%◌, ◌^◌, ◌==◌, Bool, true, false, ◌&&◌, ◌||◌, nat_lt, min, is_some, List, [], ◌∷◌, ◌++◌, Result, Ok}
use Rattle.std.specs.FinMap.Entries.{find}
use Rattle.bk_base.specs.Faults.{◌>>=◌, first_failing}
use Rattle.bk_expr.specs.declared.worked.Worked.{Worked}
use Rattle.bk_expr.specs.declared.worked.Worked.TheVariants as work
use Rattle.bk_asm_text.specs.declared.fault.AsmFault.{AsmFault}
use Rattle.bk_asm_text.specs.declared.fault.AsmKind.{AsmKind}
use Rattle.bk_asm_text.specs.declared.fault.AsmKind.TheVariants.{Doubled, Odd, Undefined, Size, Divide}
use Rattle.bk_asm_text.specs.Fault.{fault_at}
use Rattle.bk_asm_text.specs.Plain.{PlainStatement}
use Rattle.bk_asm.specs.Names.{Defined, name_cmp, repeats}
use Rattle.bk_asm.specs.Pieces.{Role, Assignment, Zeros, Alignment, InWords, InBytes, role_of}
use Rattle.bk_asm.specs.Places.{Known, Placed, as_value, range_at, labelled, settled, size_at, placed, after}

-- a name that is assigned has a value already
abbrev pub is_assigned_again : Defined → Role → Bool
is_assigned_again defined (Assignment name value) = is_some (find name_cmp name defined.names)
is_assigned_again defined (Zeros count) = false
is_assigned_again defined Alignment = false
is_assigned_again defined InWords = false
is_assigned_again defined InBytes = false

-- a label or an assigned name is defined already
abbrev pub is_doubled : Known → PlainStatement → Bool
is_doubled known statement =
    repeats (range_at known statement) (as_value known.address) known.defined statement.labels
    || is_assigned_again (labelled known statement) (role_of statement.body)

-- words stand at even addresses
abbrev pub is_in_words : Role → Bool
is_in_words (Assignment name value) = false
is_in_words (Zeros count) = true
is_in_words Alignment = false
is_in_words InWords = true
is_in_words InBytes = false

abbrev pub is_odd : ℕ → Bool
is_odd address = address % 2 == 1

abbrev pub is_undefined : Worked → Bool
is_undefined (work.Value n) = false
is_undefined work.Undefined = true
is_undefined work.Divide = false

abbrev pub divides_by_zero : Worked → Bool
divides_by_zero (work.Value n) = false
divides_by_zero work.Undefined = false
divides_by_zero work.Divide = true

-- a program has at most 8,192 bytes, and ends at the end of memory at the latest
abbrev pub limit : (origin : ℕ) → ℕ
limit origin = min (origin + 8192) (2 ^ 16)

-- the checks of a statement by those in front of it, in the order in which they are told
abbrev pub checks : (origin : ℕ) → Known → PlainStatement → List (AsmKind × Bool)
checks origin known statement =
    (Doubled, is_doubled known statement)
    ∷ (Odd, is_in_words (role_of statement.body) && is_odd known.address)
    ∷ (Undefined, is_undefined (settled known statement))
    ∷ (Size, nat_lt (limit origin) (known.address + size_at known statement))
    ∷ (Divide, divides_by_zero (settled known statement))
    ∷ []

-- a statement passes its checks, or its first fault
abbrev pub checked : (origin : ℕ) → Known → PlainStatement → Result (Unit {0}) AsmFault
checked origin known statement = first_failing (fault_at statement.line) (checks origin known statement)

-- line by line, each statement by what those in front of it define: all at their places, behind those placed before, and what they
-- define; or the first fault
unfoldable pub settle : (origin : ℕ) → List Placed → Known → List PlainStatement → Result (List Placed × Defined) AsmFault
settle origin before known [] = Ok (before, known.defined)
settle origin before known (statement ∷ statements) = do
  passed ← checked origin known statement
  settle origin (before ++ placed known statement ∷ []) (after known statement) statements
