-- What is loaded, and the state that it is.
use Rattle.std.specs.Prelude.{◌≡◌, ◌<◌, ◌≤◌, ℕ, List, All, length, map}
use Rattle.bk_object.specs.Rows.{most_subjects}
use Rattle.bk_state.specs.State.{State}
use Rattle.bk_state.specs.declared.clearance.Clearance.{Clearance}
use Rattle.bk_store.specs.Stored.{objects_of}
use Rattle.bk_load.specs.declared.loading.Loaded.{Loaded}

-- the numbers of the subjects' greatest levels
abbrev pub greatest_levels : List Clearance → List ℕ
greatest_levels clearances = map (λ (c : Clearance). c.greatest) clearances

-- and of their current ones
abbrev pub current_levels : List Clearance → List ℕ
current_levels clearances = map (λ (c : Clearance). c.current) clearances

-- the state of the store, of these words of core, and of what is beside them
abbrev pub state_loaded : Loaded → (words : List ℕ) → State
state_loaded l words = record {
  fixed = record {
    levels = l.store.levels;
    subjects = greatest_levels l.clearances.items;
    lines = l.lines.items;
    turns = l.turns;
    schedule = l.schedule.items;
  };
  current = current_levels l.clearances.items;
  objects = objects_of l.store words;
  access = l.store.access;
  processes = l.processes.items;
}

-- the numbers are those of levels
pub record IsKnown (levels : ℕ) (c : Clearance) : Type 0 where
  pub greatest : c.greatest < levels
  pub current : c.current < levels

-- a process for each subject, of which there are not too many and whose levels are known; and a level for each line
pub record IsKept (clearances : List Clearance) (lines : ℕ) (processes : ℕ) (store_levels store_lines : ℕ) : Type 0 where
  pub few : length clearances ≤ most_subjects
  pub processes_are : processes ≡ length clearances
  pub known : All (IsKnown store_levels) clearances
  pub lines_are : store_lines ≡ lines

-- what is loaded fits together
abbrev pub AreKept : Loaded → Type 0
AreKept l = IsKept l.clearances.items (length l.lines.items) (length l.processes.items) (length l.store.levels) l.store.lines
