-- The two versions of the format: all in which they differ. Each is what the other is, but for how many categories a level can
-- have and how many subjects an image can.
use Rattle.std.specs.Prelude.{ℕ, ◌+◌, ◌*◌, Bool, false, ◌&&◌, ◌==◌, nat_le, if◌then◌else◌, List, length}
use Rattle.std.specs.List.{list_all}
use Rattle.bk_level.specs.Levels.{Level, has_only_below}
use Rattle.bk_state.specs.declared.image.Image.{Image}
use Rattle.bk_image.specs.declared.version.Version.{Version}
use Rattle.bk_image.specs.declared.version.Version.TheVariants.{One, Two}

-- the number in the header
abbrev pub version_number : Version → ℕ
version_number One = 1
version_number Two = 2

-- the version by its number, where it is 1 or 2
abbrev pub version_of : (number : ℕ) → Version
version_of number = if number == 1 then One else Two

-- the words of a level's categories, of which there are 16 to a word
abbrev pub category_words : Version → ℕ
category_words One = 1
category_words Two = 3

-- the bytes of a row, with two subjects to a byte
abbrev pub bytes_of_row : Version → ℕ
bytes_of_row One = 16
bytes_of_row Two = 32

-- the bytes of a level: class, zero, and its words
abbrev pub level_size : Version → ℕ
level_size version = 2 + 2 * category_words version

-- the bytes of an object without its words: twelve besides the row
abbrev pub record_size : Version → ℕ
record_size version = 12 + bytes_of_row version

-- how many subjects an image has at most
abbrev pub subjects_of : Version → ℕ
subjects_of version = 2 * bytes_of_row version

-- the version can say so many subjects, and these levels
abbrev pub can_say : Version → (subjects : ℕ) → List Level → Bool
can_say version subjects levels = nat_le subjects (subjects_of version) && list_all (has_only_below (16 * category_words version)) levels

-- version 1 where it can say the image, and else version 2
abbrev pub version_for : Image → Version
version_for image = if can_say One (length image.subjects) image.levels then One else Two

-- the version is 2, though version 1 could say it
abbrev pub is_needless : Version → (subjects : ℕ) → List Level → Bool
is_needless One subjects levels = false
is_needless Two subjects levels = can_say One subjects levels
