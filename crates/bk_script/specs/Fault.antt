-- Faults of a script, and the text of each kind.
use Rattle.std.specs.Prelude.{ℕ, List, codes, Result, Err}
use Rattle.bk_script.specs.declared.fault.ScriptFault.{ScriptFault}
use Rattle.bk_script.specs.declared.fault.ScriptKind.{ScriptKind}
use Rattle.bk_script.specs.declared.fault.ScriptKind.TheVariants.{Long, End, Form, Limit, Line, Order, Slot, After}

-- the text of a kind
abbrev pub kind_text : ScriptKind → List ℕ
kind_text Long = codes "long"
kind_text End = codes "end"
kind_text Form = codes "form"
kind_text Limit = codes "limit"
kind_text Line = codes "line"
kind_text Order = codes "order"
kind_text Slot = codes "slot"
kind_text After = codes "after"

-- a fault of a kind at a line
abbrev pub fault_at : (at : ℕ) → ScriptKind → ScriptFault
fault_at at kind = record { line = at; kind = kind }

-- the same as what a reading gives
abbrev pub fault : {A : Type 0} → (at : ℕ) → ScriptKind → Result A ScriptFault
fault at kind = Err (fault_at at kind)
