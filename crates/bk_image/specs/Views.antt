-- What the code keeps while it reads, as the definitions see it.
use Rattle.std.specs.Prelude.{◌≡◌, ℕ, ◌<◌, List, [], ◌∷◌, length, slice_index_or, if◌then◌else◌, Bool, Option, Some, None}
use Rattle.std.specs.declared.cmp.Ordering.TheVariants.{Less}
use Rattle.bk_object.specs.declared.facts.Facts.{Facts}
use Rattle.bk_path.specs.Paths.{Path, path_cmp, is_same}
use Rattle.bk_quota.specs.Charges.{charge_of, governing_in, level_in}
use Rattle.bk_state.specs.declared.image.ObjectRec.{ObjectRec}
use Rattle.bk_image.specs.declared.rest.Rest as rest_code
use Rattle.bk_image.specs.declared.header.Header as header_code
use Rattle.bk_image.specs.declared.quota.Share.{Share}
use Rattle.bk_image.specs.Parts.{Rest}
use Rattle.bk_image.specs.Objects.{Objects}
use Rattle.bk_image.specs.Header.{Header}

-- what is left
abbrev pub rest_of : rest_code.Rest → Rest
rest_of rest = record { at = rest.at; bytes = rest.bytes.now }

-- the header
abbrev pub header_in : header_code.Header → Header
header_in header = record {
  version = header.version;
  turns = header.turns;
  levels = header.levels;
  subjects = header.subjects;
  lines = header.lines;
  schedule = header.schedule;
  objects = header.objects;
  holds = header.holds;
}

-- each path stands above those before it
abbrev pub IsAscending : List ObjectRec → Type 0
IsAscending objects = (i j : ℕ) (d : ObjectRec) → i < j → j < length objects → path_cmp (slice_index_or objects i d).path (slice_index_or objects j d).path ≡ Less

-- what an object is charged, and the cell that pays for it; root is charged nothing
abbrev pub share_at : Objects → Path → Facts → Share
share_at all [] facts = record { cell = []; charge = 0 }
share_at all (entry ∷ path) facts = record {
  cell = governing_in (λ object. object.facts) all path;
  charge = charge_of facts (level_in (λ object. object.facts) all path);
}

-- what a share adds to the used number of the cell
abbrev pub part_of : (cell : Path) → Share → ℕ
part_of cell share = if is_same share.cell cell then share.charge else 0

-- the place that was found before, or else this one where the cell is over its limit
abbrev pub first_of : Option ℕ → (at : ℕ) → (is_over : Bool) → Option ℕ
first_of None at is_over = if is_over then Some at else None
first_of (Some found) at is_over = Some found
