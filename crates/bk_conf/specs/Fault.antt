-- Faults of a configuration, and the text of each kind.
use Rattle.std.specs.Prelude.{ℕ, ◌+◌, ◌-◌, ◌^◌, min, List, ◌++◌, codes}
use Rattle.bk_asm_text.specs.Fault as assembly
use Rattle.bk_image.specs.Texts.{field_text}
use Rattle.bk_conf.specs.declared.fault.BuildFault.{BuildFault}
use Rattle.bk_conf.specs.declared.fault.BuildKind.{BuildKind}
use Rattle.bk_conf.specs.declared.fault.BuildKind.TheVariants.{Long, Form, Range, Doubled, Program, Unknown, Missing, Image}

-- the text of a kind
abbrev pub kind_text : BuildKind → List ℕ
kind_text Long = codes "long"
kind_text Form = codes "form"
kind_text Range = codes "range"
kind_text Doubled = codes "doubled"
kind_text (Program kind) = codes "program " ++ assembly.kind_text kind
kind_text Unknown = codes "unknown"
kind_text Missing = codes "missing"
kind_text (Image field) = codes "image " ++ field_text field

-- a fault of a kind at a line
abbrev pub fault_at : (at : ℕ) → BuildKind → BuildFault
fault_at at kind = record { line = at; kind = kind }

-- the number of a line that stands so many lines after another; it stands at the last value of 32 bits
abbrev pub line_after : (at lines : ℕ) → ℕ
line_after at lines = min (at + lines) (2 ^ 32 - 1)
