-- The current access set, as a map from subject and slot to modes. A set of triples of subject, object and mode has a
-- triple exactly where `holds` says so of the subject, the object's slot and the mode.
use Rattle.std.specs.Prelude.{◌≡◌, ◌≤◌, ◌<◌, ℕ, Bool, true, false, not, ◌||◌, ◌==◌, if◌then◌else◌}
use Rattle.std.specs.Ordering.{nat_cmp, on, then_cmp}
use Rattle.std.specs.declared.cmp.Ordering.{Ordering}
use Rattle.std.specs.Option.{unwrap_or}
use Rattle.std.specs.FinMap as map
use Rattle.bk_object.specs.declared.modes.Modes.{Modes}
use Rattle.bk_object.specs.Modes.{AccessMode, Write, Append, has, no_modes, union, without}

-- who, and the slot of what
abbrev pub Key : Type 0
Key = ℕ × ℕ

-- by subject, and then by slot
abbrev pub key_cmp : Key → Key → Ordering
key_cmp = then_cmp (on (λ key. key.0) nat_cmp) (on (λ key. key.1) nat_cmp)

-- below which number the slots are, and the modes of each subject and slot that has any
pub record Held : Type 0 where
  pub slots : ℕ
  pub modes : map.FinMap key_cmp Modes

-- the modes by which the subject holds the slot's object: none where the map has no entry
abbrev pub modes_at : Held → (subject slot : ℕ) → Modes
modes_at held subject slot = unwrap_or (map.get held.modes (subject, slot)) no_modes

-- the subject holds the slot's object by the mode
abbrev pub holds : Held → (subject slot : ℕ) → AccessMode → Bool
holds held subject slot mode = has (modes_at held subject slot) mode

-- the modes let something be put into an object: by write or by append
abbrev pub puts : Modes → Bool
puts modes = has modes Write || has modes Append

-- the first slot from that number on whose object the subject holds so
pub record IsNextPut (held : Held) (subject from slot : ℕ) : Type 0 where
  pub within : from ≤ slot
  pub held_so : puts (modes_at held subject slot) ≡ true
  pub first : (k : ℕ) → from ≤ k → k < slot → puts (modes_at held subject k) ≡ false

-- no subject holds anything
abbrev pub nothing_held : (slots : ℕ) → Held
nothing_held slots = record { slots = slots; modes = map.empty }

-- the subject holds the slot's object by exactly these modes; no entry is kept for none
abbrev pub with_modes : (subject slot : ℕ) → Modes → Held → Held
with_modes subject slot modes held = record held {
  modes = if modes.0 == 0 then map.remove held.modes (subject, slot) else map.insert held.modes (subject, slot) modes;
}

-- the subject holds the slot's object by these modes too
abbrev pub added : (subject slot : ℕ) → Modes → Held → Held
added subject slot modes held = with_modes subject slot (union (modes_at held subject slot) modes) held

-- the subject no longer holds the slot's object by these modes
abbrev pub removed : (subject slot : ℕ) → Modes → Held → Held
removed subject slot modes held = with_modes subject slot (without (modes_at held subject slot) modes) held

-- no subject holds the slot's object
abbrev pub cleared : (slot : ℕ) → Held → Held
cleared slot held = record held { modes = map.retain_keys held.modes (λ key. not (key.1 == slot)) }
