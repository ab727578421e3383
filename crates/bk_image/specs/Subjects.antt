-- Levels, the schedule, and subjects with their windows.
use Rattle.std.specs.Prelude.{ℕ, ◌%◌, Bool, true, not, ◌&&◌, ◌||◌, ◌==◌, nat_lt, if◌then◌else◌, List, [], ◌∷◌, length, take, drop, Option, Some, None, is_none}
use Rattle.std.specs.Prelude.{Result, Ok}
use Rattle.std.specs.List.{list_all}
use Rattle.bk_level.specs.Levels.{Level, dominates, has_level, level_at as level_in}
use Rattle.bk_level.specs.Masks.{categories_of, mask_in}
use Rattle.bk_process.specs.NewProcess.{windows_of_process}
use Rattle.bk_space.specs.declared.Mode.{Mode}
use Rattle.bk_space.specs.declared.Mode.TheVariants.{Supervisor, User}
use Rattle.bk_state.specs.declared.image.SubjectRec.{SubjectRec}
use Rattle.bk_state.specs.declared.image.WindowRec.{WindowRec}
use Rattle.bk_image.specs.declared.fault.ImageFault.{ImageFault}
use Rattle.bk_image.specs.declared.fault.ImageField.TheVariants as field
use Rattle.bk_image.specs.declared.version.Version.{Version}
use Rattle.bk_image.specs.Parts.{Rest, Reads, Check, ◌>>=◌, first_failing, checked, each_of, last}
use Rattle.bk_image.specs.Numbers.{byte, word, words_of, path_in, path_at}
use Rattle.bk_image.specs.Versions.{level_size, is_needless}

-- ---- level: class, zero, words of categories

-- the level that the bytes tell, by as many words as they have
abbrev pub level_of : List ℕ → Level
level_of b = record { class = byte b 0; categories = categories_of (mask_in (words_of (drop 2 b))) }

-- the zero byte is 0 or not, and the level after those before it
abbrev pub level_checks : List Level → (zero : Bool) → Level → List Check
level_checks before zero level =
    (field.Level, not zero)
    ∷ (field.Level, has_level before level)
    ∷ []

-- as many bytes as the version has for a level
unfoldable pub level_at : Version → List Level → Rest → Reads Level
level_at version before = checked (level_size version) (λ b. level_checks before (byte b 1 == 0) (level_of b)) level_of

-- after the last level, told of byte 4, where the version stands: it is 2, though version 1 could say it
unfoldable pub after_levels : Version → (subjects : ℕ) → List Level → Result (Unit {0}) ImageFault
after_levels version subjects levels = first_failing 4 ((field.Version, is_needless version subjects levels) ∷ [])

-- ---- schedule: a subject's number

-- there is a subject with the number
abbrev pub schedule_checks : (subjects : ℕ) → (subject : ℕ) → List Check
schedule_checks subjects subject =
    (field.Schedule, not (nat_lt subject subjects))
    ∷ []

-- one byte
unfoldable pub schedule_at : (subjects : ℕ) → List ℕ → Rest → Reads ℕ
schedule_at subjects before = checked 1 (λ b. schedule_checks subjects (byte b 0)) (λ b. byte b 0)

-- ---- window: its number, the path that it shows

-- the window that five bytes tell
abbrev pub window_of : List ℕ → WindowRec
window_of b = record { index = byte b 0; path = path_at b 1 }

-- its number stands above the last window's
abbrev pub window_follows : Option WindowRec → ℕ → Bool
window_follows None index = true
window_follows (Some window) index = nat_lt window.index index

-- the words are a path or not, and the window after those before it
abbrev pub window_checks : List WindowRec → (is_path : Bool) → WindowRec → List Check
window_checks before is_path window =
    (field.Window, not (nat_lt window.index windows_of_process))
    ∷ (field.Window, not (window_follows (last before) window.index))
    ∷ (field.Window, not is_path)
    ∷ []

-- five bytes
unfoldable pub window_at : List WindowRec → Rest → Reads WindowRec
window_at before = checked 5 (λ b. window_checks before (not (is_none (path_in b 1))) (window_of b)) window_of

-- ---- subject: f_S, f_C, mode, previous mode, R0 to R5, user SP, supervisor SP, PC, fault entries 0 to 7, window count; then
-- its windows

-- 1 is supervisor and 3 is user
abbrev pub is_mode : ℕ → Bool
is_mode number = number == 1 || number == 3

-- the mode by its number
abbrev pub mode_of : ℕ → Mode
mode_of number = if number == 1 then Supervisor else User

-- the subject that 39 bytes and windows tell
abbrev pub subject_of : List ℕ → List WindowRec → SubjectRec
subject_of b windows = record {
  f_s = byte b 0;
  f_c = byte b 1;
  mode = mode_of (byte b 2);
  previous = mode_of (byte b 3);
  regs = words_of (take 12 (drop 4 b));
  user_sp = word b 16;
  super_sp = word b 18;
  pc = word b 20;
  entries = words_of (take 16 (drop 22 b));
  windows = windows;
}

-- the number is one of a level in the list
abbrev pub is_listed : List Level → ℕ → Bool
is_listed levels n = nat_lt n (length levels)

-- the numbers are those of modes or not, the count of the windows, and the subject
abbrev pub subject_checks : List Level → (are_modes : Bool) → (windows : ℕ) → SubjectRec → List Check
subject_checks levels are_modes windows subject =
    (field.Level, not (is_listed levels subject.f_s))
    ∷ (field.Level, not (is_listed levels subject.f_c))
    ∷ (field.Level, not (dominates (level_in levels subject.f_s) (level_in levels subject.f_c)))
    ∷ (field.Mode, not are_modes)
    ∷ (field.Entry, not (list_all (λ entry. entry % 2 == 0) subject.entries))
    ∷ (field.Counts, nat_lt windows_of_process windows)
    ∷ []

-- those of 39 bytes
abbrev pub subject_fails : List Level → List ℕ → List Check
subject_fails levels b = subject_checks levels (is_mode (byte b 2) && is_mode (byte b 3)) (byte b 38) (subject_of b [])

-- 39 bytes, and then so many windows as the last of them says
unfoldable pub subject_at : List Level → List SubjectRec → Rest → Reads SubjectRec
subject_at levels before rest = do
  b ← checked 39 (subject_fails levels) (λ b. b) rest
  windows ← each_of window_at (byte b.0 38) [] b.1
  Ok (subject_of b.0 windows.0, windows.1)
