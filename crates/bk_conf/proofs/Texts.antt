-- The words of faults are short.
use Rattle.std.proofs.Common.{◌≤◌, length, arith}
use Rattle.bk_asm_text.specs.Fault.{kind_text}
use Rattle.bk_asm_text.specs.declared.fault.AsmKind.{AsmKind}
use Rattle.bk_asm_text.specs.declared.fault.AsmKind.TheVariants as kind
use Rattle.bk_image.specs.Texts.{field_text}
use Rattle.bk_image.specs.declared.fault.ImageField.{ImageField}
use Rattle.bk_image.specs.declared.fault.ImageField.TheVariants as field

-- of assembly text
pub kind_short : (k : AsmKind) → length (kind_text k) ≤ 9
kind_short kind.Form = omega arith
kind_short kind.Doubled = omega arith
kind_short kind.Odd = omega arith
kind_short kind.Undefined = omega arith
kind_short kind.Size = omega arith
kind_short kind.Divide = omega arith
kind_short kind.Range = omega arith

-- of an image
pub field_short : (f : ImageField) → length (field_text f) ≤ 9
field_short field.Long = omega arith
field_short field.End = omega arith
field_short field.Magic = omega arith
field_short field.Version = omega arith
field_short field.Turns = omega arith
field_short field.Counts = omega arith
field_short field.Level = omega arith
field_short field.Schedule = omega arith
field_short field.Mode = omega arith
field_short field.Entry = omega arith
field_short field.Window = omega arith
field_short field.Path = omega arith
field_short field.Parent = omega arith
field_short field.Kind = omega arith
field_short field.Blocks = omega arith
field_short field.Zero = omega arith
field_short field.Quota = omega arith
field_short field.Row = omega arith
field_short field.Contents = omega arith
field_short field.Lines = omega arith
field_short field.Subject = omega arith
field_short field.Modes = omega arith
field_short field.Exists = omega arith
field_short field.Ss = omega arith
field_short field.Star = omega arith
