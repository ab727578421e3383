-- The lines of refusals.
use Rattle.std.specs.Prelude.{ℕ, List, ◌++◌, codes, decimal}
use Rattle.bk_conf.specs.Fault.{kind_text as build_text}
use Rattle.bk_conf.specs.declared.fault.BuildFault.{BuildFault}
use Rattle.bk_image.specs.Texts.{field_text}
use Rattle.bk_image.specs.declared.fault.ImageFault.{ImageFault}
use Rattle.bk_script.specs.Fault.{kind_text}
use Rattle.bk_script.specs.declared.fault.ScriptFault.{ScriptFault}
use Rattle.blpk.specs.declared.outcome.Refusal.{Refusal}
use Rattle.blpk.specs.declared.outcome.Refusal.TheVariants as refusal

-- wrong words
abbrev pub usage_line : List ℕ
usage_line = codes "usage: blpk run | build | list | gen N\n"

-- the place of the fault and its field
abbrev pub image_line : ImageFault → List ℕ
image_line fault = codes "image refused at " ++ decimal fault.at ++ codes ": " ++ field_text fault.field ++ codes "\n"

-- the line of the fault and its kind
abbrev pub script_line : ScriptFault → List ℕ
script_line fault = codes "script refused at line " ++ decimal fault.line ++ codes ": " ++ kind_text fault.kind ++ codes "\n"

-- the line of the fault of a configuration and its kind
abbrev pub build_line : BuildFault → List ℕ
build_line fault = codes "build refused at line " ++ decimal fault.line ++ codes ": " ++ build_text fault.kind ++ codes "\n"

-- the line of a refusal
abbrev pub line_of : Refusal → List ℕ
line_of (refusal.Image fault) = image_line fault
line_of (refusal.Script fault) = script_line fault
line_of (refusal.Build fault) = build_line fault

-- a read failed
abbrev pub read_line : List ℕ
read_line = codes "read fault\n"

-- want of memory
abbrev pub memory_line : List ℕ
memory_line = codes "no memory\n"
