-- Parts of an image: what is read, the place of its first byte, and the first fault.
use Rattle.std.specs.Prelude.{ℕ, Bool, nat_lt, ◌||◌, List, length, slice_get, ◌-◌, Option, Result, Err}
use Rattle.bk_base.specs.Faults.{first_failing as first_failing_of}
use Rattle.bk_base.specs.Parts.{Reads as Reads_of, Format, part as part_of, checked as checked_of}
use Rattle.bk_image.specs.declared.fault.ImageFault.{ImageFault}
use Rattle.bk_image.specs.declared.fault.ImageField.{ImageField}
use Rattle.bk_image.specs.declared.fault.ImageField.TheVariants as field
use Rattle.bk_image.specs.Limits.{most_bytes}
pub use Rattle.bk_base.specs.Faults.{◌>>=◌, Passes, Refuses, Gives}
pub use Rattle.bk_base.specs.Parts.{Rest, from}
unfoldable pub use Rattle.bk_base.specs.Parts.{each_of}

-- a value and what is left, or the first fault
abbrev pub Reads : Type 0 → Type 0
Reads X = Reads_of ImageFault X

-- a fault of a field, told of the place
abbrev pub fault_at : (at : ℕ) → ImageField → ImageFault
fault_at at f = record { at = at; field = f }

-- the same as what a reading gives
abbrev pub fault : {A : Type 0} → (at : ℕ) → ImageField → Result A ImageFault
fault at f = Err (fault_at at f)

-- images as a format: long and end are its own two fields
abbrev pub image_format : Format ImageField ImageFault
image_format = record { limit = most_bytes; fault = fault_at; long = field.Long; end = field.End }

-- a field, and whether it is at fault
abbrev pub Check : Type 0
Check = ImageField × Bool

-- the first check that fails, told of the place
abbrev pub first_failing : (at : ℕ) → List Check → Result (Unit {0}) ImageFault
first_failing at checks = first_failing_of (fault_at at) checks

-- the next n bytes: long at the first of them, or else end at the input's length
abbrev pub part : ℕ → Rest → Reads (List ℕ)
part n rest = part_of image_format n rest

-- a part of n bytes: its checks when it is whole, told of its first byte, and then its value
abbrev pub checked : {X : Type 0} → ℕ → (List ℕ → List Check) → (List ℕ → X) → Rest → Reads X
checked n checks value rest = checked_of image_format n checks value rest

-- the last of a list, where there is one
abbrev pub last : {X : Type 0} → List X → Option X
last xs = slice_get xs (length xs - 1)

-- x isn't one of low to high
abbrev pub is_outside : ℕ → ℕ → ℕ → Bool
is_outside low high x = nat_lt x low || nat_lt high x
