-- Faults of assembly text, and the text of each kind.
use Rattle.std.specs.Prelude.{ℕ, List, codes, Result, Err}
use Rattle.bk_asm_text.specs.declared.fault.AsmFault.{AsmFault}
use Rattle.bk_asm_text.specs.declared.fault.AsmKind.{AsmKind}
use Rattle.bk_asm_text.specs.declared.fault.AsmKind.TheVariants.{Form, Doubled, Odd, Undefined, Size, Divide, Range}

-- the text of a kind
abbrev pub kind_text : AsmKind → List ℕ
kind_text Form = codes "form"
kind_text Doubled = codes "doubled"
kind_text Odd = codes "odd"
kind_text Undefined = codes "undefined"
kind_text Size = codes "size"
kind_text Divide = codes "divide"
kind_text Range = codes "range"

-- a fault of a kind at a line
abbrev pub fault_at : (at : ℕ) → AsmKind → AsmFault
fault_at at kind = record { line = at; kind = kind }

-- the same as what a reading gives
abbrev pub fault : {A : Type 0} → (at : ℕ) → AsmKind → Result A AsmFault
fault at kind = Err (fault_at at kind)
