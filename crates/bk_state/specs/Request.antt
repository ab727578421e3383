-- What a kernel call asks for, as it stands in the caller's registers.
use Rattle.std.specs.Prelude.{ℕ, ◌/◌, ◌%◌, Bool, not, ◌&&◌, List, [], Option, Some, None, ◌==◌, ◌||◌, nat_lt, slice_index, if◌then◌else◌}
use Rattle.bk_path.specs.Paths.{Path, unpack}
use Rattle.bk_object.specs.Kinds.{is_directory}
use Rattle.bk_object.specs.Rows.{empty_row}
use Rattle.bk_object.specs.declared.Facts.{Facts}
use Rattle.bk_object.specs.declared.Kind.{Kind}
use Rattle.bk_object.specs.declared.Kind.TheVariants.{Directory, Segment, Mailbox}
use Rattle.bk_object.specs.declared.Modes.{Modes}

-- What is asked for: the path of the object; the modes, and the subject that is to get or to lose them; the kind, blocks,
-- number of the level and quota of a new object; and R0 to R5 themselves. Each call looks at its own part alone.
pub record Request : Type 0 where
  pub path : Path
  pub modes : Modes
  pub subject : ℕ
  pub kind : Kind
  pub blocks : ℕ
  pub level : ℕ
  pub quota : ℕ
  pub general : List ℕ

-- what the caller has in R0 to R5, by the register's number
abbrev pub register : Request → (n : ℕ) → ℕ
register request n = slice_index request.general n

-- a path that does not unpack stands for root
abbrev pub path_or_root : Option Path → Path
path_or_root (Some path) = path
path_or_root None = []

-- the path in R1 and R2
abbrev pub path_in : (general : List ℕ) → Path
path_in general = path_or_root (unpack (slice_index general 1) (slice_index general 2))

-- the kind of a new object by its number
abbrev pub kind_from : ℕ → Kind
kind_from number = if number == 1 then Segment else (if number == 2 then Mailbox else Directory)

-- modes in R3 and a subject in R4; or a new object with its kind and blocks in the two bytes of R3, its level in R4 and its
-- quota in R5
abbrev pub request_in : (general : List ℕ) → Request
request_in general = record {
  path = path_in general;
  modes = record { 0 = slice_index general 3 % 256 };
  subject = slice_index general 4;
  kind = kind_from (slice_index general 3 / 256);
  blocks = slice_index general 3 % 256;
  level = slice_index general 4;
  quota = slice_index general 5;
  general = general;
}

-- the number is none from the low to the high one
abbrev pub is_outside : (low high n : ℕ) → Bool
is_outside low high n = nat_lt n low || nat_lt high n

-- the facts of a new object whose parent has that level number: an empty row, and a quota in an upgraded directory alone
abbrev pub new_facts : Request → (above : ℕ) → Facts
new_facts request above = record {
  kind = request.kind;
  blocks = request.blocks;
  level = request.level;
  quota = if is_directory request.kind && not (request.level == above) then request.quota else 0;
  row = empty_row;
}
