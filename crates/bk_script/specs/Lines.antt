-- The lines of a script, and its first fault.
use Rattle.std.specs.Prelude.{ℕ, ◌+◌, ◌-◌, ◌*◌, Bool, true, not, ◌&&◌, ◌||◌, if◌then◌else◌, nat_lt, nat_le, ◌==◌, List, [], ◌∷◌, ◌++◌, length, slice_get}
use Rattle.std.specs.Prelude.{bytes_eq, codes, Option, Some, None, Result, Ok}
use Rattle.std.specs.List.{slice_split}
use Rattle.bk_script.specs.Limits.{most_bytes}
use Rattle.bk_system.specs.Limits.{most_slots, most_turns_of_run}
use Rattle.bk_script.specs.declared.fault.ScriptFault.{ScriptFault}
use Rattle.bk_script.specs.declared.fault.ScriptKind.{ScriptKind}
use Rattle.bk_script.specs.declared.fault.ScriptKind.TheVariants as kind
use Rattle.bk_script.specs.declared.line.Line.{Line}
use Rattle.bk_script.specs.declared.line.Line.TheVariants.{Record, Ends}
use Rattle.bk_system.specs.declared.TypedAt.{TypedAt}
use Rattle.bk_script.specs.Fault.{fault, fault_at}
use Rattle.bk_base.specs.Faults.{◌>>=◌, first_failing}
use Rattle.bk_script.specs.Fields.{is_number, number, is_bytes, bytes_of}

-- END SLOTS
abbrev pub end_of : List ℕ → List ℕ → Option Line
end_of word slots = if bytes_eq word (codes "END") && is_number slots then Some (Ends (number slots)) else None

-- SLOT LINE HEX
abbrev pub record_of : List ℕ → List ℕ → List ℕ → Option Line
record_of slot line hex =
    if is_number slot && is_number line && is_bytes hex then Some (Record (number slot) (number line) (bytes_of hex)) else None

-- two fields are an END line, three a record
abbrev pub fields_of : List (List ℕ) → Option Line
fields_of [] = None
fields_of (one ∷ []) = None
fields_of (word ∷ slots ∷ []) = end_of word slots
fields_of (slot ∷ line ∷ hex ∷ []) = record_of slot line hex
fields_of (one ∷ two ∷ three ∷ four ∷ more) = None

-- what a line says, its fields parted by single spaces; none where it is neither a record nor an END line
unfoldable pub line_of : List ℕ → Option Line
line_of text = fields_of (slice_split (λ b. b == 32) text)

-- the last record, where there is one
abbrev pub last : List TypedAt → Option TypedAt
last records = slice_get records (length records - 1)

-- the slot and the line stand above those of the record before
abbrev pub follows : Option TypedAt → ℕ → ℕ → Bool
follows None slot line = true
follows (Some before) slot line = nat_lt before.slot slot || (before.slot == slot && nat_lt before.line line)

-- the record's slot is below the number of slots
abbrev pub is_below : Option TypedAt → ℕ → Bool
is_below None slots = true
is_below (Some before) slots = nat_lt before.slot slots

-- the checks of a record after those before it
abbrev pub record_checks : ℕ → List TypedAt → ℕ → ℕ → List (ScriptKind × Bool)
record_checks lines before slot line =
    (kind.Limit, nat_le most_slots slot)
    ∷ (kind.Line, nat_le lines line)
    ∷ (kind.Order, not (follows (last before) slot line))
    ∷ []

-- the checks of the END line after the records
abbrev pub end_checks : ℕ → List TypedAt → ℕ → List (ScriptKind × Bool)
end_checks turns before slots =
    (kind.Limit, nat_lt most_slots slots || nat_lt most_turns_of_run (slots * turns))
    ∷ (kind.Slot, not (is_below (last before) slots))
    ∷ []

-- the records and the number of slots, where nothing follows the END line
abbrev pub ended : ℕ → List TypedAt → ℕ → List (List ℕ) → Result (List TypedAt × ℕ) ScriptFault
ended at before slots [] = Ok (before, slots)
ended at before slots ([] ∷ []) = Ok (before, slots)
ended at before slots ([] ∷ next ∷ rest) = fault at kind.After
ended at before slots ((b ∷ text) ∷ rest) = fault at kind.After

-- a line by what it says: a record's checks, and then the others; the END line's checks, and nothing follows
abbrev pub line_at : ℕ → ℕ → ℕ → List TypedAt → Option Line → List (List ℕ) → (List TypedAt → Result (List TypedAt × ℕ) ScriptFault) → Result (List TypedAt × ℕ) ScriptFault
line_at lines turns at before None rest others = fault at kind.Form
line_at lines turns at before (Some (Record slot line bytes)) rest others = do
  passed ← first_failing (fault_at at) (record_checks lines before slot line)
  others (before ++ record { slot = slot; line = line; bytes = bytes } ∷ [])
line_at lines turns at before (Some (Ends slots)) rest others = do
  passed ← first_failing (fault_at at) (end_checks turns before slots)
  ended (at + 1) before slots rest

-- The lines from the one numbered `at`, after the records before them. Each part but the last has an LF behind it,
-- and so is a line.
unfoldable pub lines_at : ℕ → ℕ → ℕ → List TypedAt → List (List ℕ) → Result (List TypedAt × ℕ) ScriptFault
lines_at lines turns at before [] = fault at kind.End
lines_at lines turns at before (last ∷ []) = fault at kind.End
lines_at lines turns at before (text ∷ next ∷ parts) =
    line_at lines turns at before (line_of text) (next ∷ parts) (λ more. lines_at lines turns (at + 1) more (next ∷ parts))

-- the records and the number of slots that the bytes spell, for an image of so many lines and turns; or the first fault
unfoldable pub script_of : ℕ → ℕ → List ℕ → Result (List TypedAt × ℕ) ScriptFault
script_of lines turns bytes =
    if nat_lt most_bytes (length bytes) then fault 0 kind.Long else lines_at lines turns 1 [] (slice_split (λ b. b == 10) bytes)
