-- The modes of each kind of object.
use Rattle.std.specs.Prelude.{ℕ, Bool, true, false}
use Rattle.bk_object.specs.declared.kind.Kind.{Kind}
use Rattle.bk_object.specs.declared.kind.Kind.TheVariants.{Directory, Segment, Mailbox, Line}
use Rattle.bk_object.specs.declared.modes.Modes.{Modes}
use Rattle.bk_object.specs.Modes.{AccessMode, Read, Execute, Write, Append, modes_where}

-- an object of the kind can be held by the mode
abbrev pub is_mode_of : Kind → AccessMode → Bool
is_mode_of Directory Read = true
is_mode_of Directory Execute = false
is_mode_of Directory Write = true
is_mode_of Directory Append = false
is_mode_of Segment mode = true
is_mode_of Mailbox Read = false
is_mode_of Mailbox Execute = false
is_mode_of Mailbox Write = true
is_mode_of Mailbox Append = true
is_mode_of (Line n) Read = false
is_mode_of (Line n) Execute = false
is_mode_of (Line n) Write = true
is_mode_of (Line n) Append = true

-- the modes by which an object of the kind can be held
abbrev pub kind_modes : Kind → Modes
kind_modes kind = modes_where (is_mode_of kind)

-- a directory
abbrev pub is_directory : Kind → Bool
is_directory Directory = true
is_directory Segment = false
is_directory Mailbox = false
is_directory (Line n) = false

-- a segment
abbrev pub is_segment : Kind → Bool
is_segment Directory = false
is_segment Segment = true
is_segment Mailbox = false
is_segment (Line n) = false

-- a mailbox
abbrev pub is_mailbox : Kind → Bool
is_mailbox Directory = false
is_mailbox Segment = false
is_mailbox Mailbox = true
is_mailbox (Line n) = false

-- a line, of whatever number
abbrev pub is_any_line : Kind → Bool
is_any_line Directory = false
is_any_line Segment = false
is_any_line Mailbox = false
is_any_line (Line n) = true

-- the number of the kind in images and registers
abbrev pub kind_number : Kind → ℕ
kind_number Directory = 0
kind_number Segment = 1
kind_number Mailbox = 2
kind_number (Line n) = 3

-- what a kind has a number for: a line its own, all else its blocks
abbrev pub blocks_or_line : Kind → (blocks : ℕ) → ℕ
blocks_or_line Directory blocks = blocks
blocks_or_line Segment blocks = blocks
blocks_or_line Mailbox blocks = blocks
blocks_or_line (Line n) blocks = n
