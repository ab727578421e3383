-- The words of faults are short.
use Rattle.std.proofs.Common.{◌≤◌, length, arith}
use Rattle.std.proofs.Common.{length-append}
use Rattle.bk_asm_text.specs.Fault as assembly
use Rattle.bk_conf.proofs.Texts as told
use Rattle.bk_conf.specs.Fault.{kind_text as build_text}
use Rattle.bk_conf.specs.declared.fault.BuildKind.{BuildKind}
use Rattle.bk_conf.specs.declared.fault.BuildKind.TheVariants as build
use Rattle.bk_image.specs.Texts.{field_text}
use Rattle.bk_image.specs.declared.fault.ImageField.{ImageField}
use Rattle.bk_image.specs.declared.fault.ImageField.TheVariants as field
use Rattle.bk_script.specs.Fault.{kind_text}
use Rattle.bk_script.specs.declared.fault.ScriptKind.{ScriptKind}
use Rattle.bk_script.specs.declared.fault.ScriptKind.TheVariants as kind

pub field_short : (f : ImageField) → length (field_text f) ≤ 8
field_short field.Long = omega arith
field_short field.End = omega arith
field_short field.Magic = omega arith
field_short field.Version = omega arith
field_short field.Turns = omega arith
field_short field.Counts = omega arith
field_short field.Level = omega arith
field_short field.Schedule = omega arith
field_short field.Mode = omega arith
field_short field.Entry = omega arith
field_short field.Window = omega arith
field_short field.Path = omega arith
field_short field.Parent = omega arith
field_short field.Kind = omega arith
field_short field.Blocks = omega arith
field_short field.Zero = omega arith
field_short field.Quota = omega arith
field_short field.Row = omega arith
field_short field.Contents = omega arith
field_short field.Lines = omega arith
field_short field.Subject = omega arith
field_short field.Modes = omega arith
field_short field.Exists = omega arith
field_short field.Ss = omega arith
field_short field.Star = omega arith

pub kind_short : (k : ScriptKind) → length (kind_text k) ≤ 8
kind_short kind.Long = omega arith
kind_short kind.End = omega arith
kind_short kind.Form = omega arith
kind_short kind.Limit = omega arith
kind_short kind.Line = omega arith
kind_short kind.Order = omega arith
kind_short kind.Slot = omega arith
kind_short kind.After = omega arith

pub build_short : (k : BuildKind) → length (build_text k) ≤ 18
build_short build.Long = omega arith
build_short build.Form = omega arith
build_short build.Range = omega arith
build_short build.Doubled = omega arith
build_short (build.Program kind) = omega (arith, told.kind_short kind)
build_short build.Unknown = omega arith
build_short build.Missing = omega arith
build_short (build.Image field) = omega (arith, told.field_short field)
