-- The text of each field that can be at fault.
use Rattle.std.specs.Prelude.{ℕ, List, codes}
use Rattle.bk_image.specs.declared.fault.ImageField.{ImageField}
use Rattle.bk_image.specs.declared.fault.ImageField.TheVariants as field

-- the word for a field
abbrev pub field_text : ImageField → List ℕ
field_text field.Long = codes "long"
field_text field.End = codes "end"
field_text field.Magic = codes "magic"
field_text field.Version = codes "version"
field_text field.Turns = codes "turns"
field_text field.Counts = codes "counts"
field_text field.Level = codes "level"
field_text field.Schedule = codes "schedule"
field_text field.Mode = codes "mode"
field_text field.Entry = codes "entry"
field_text field.Window = codes "window"
field_text field.Path = codes "path"
field_text field.Parent = codes "parent"
field_text field.Kind = codes "kind"
field_text field.Blocks = codes "blocks"
field_text field.Zero = codes "zero"
field_text field.Quota = codes "quota"
field_text field.Row = codes "row"
field_text field.Contents = codes "contents"
field_text field.Lines = codes "lines"
field_text field.Subject = codes "subject"
field_text field.Modes = codes "modes"
field_text field.Exists = codes "exists"
field_text field.Ss = codes "ss"
field_text field.Star = codes "star"
