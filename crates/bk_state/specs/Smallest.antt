-- The smallest state with an object, a subject, a mode in a row and a current access: root alone, held by write.
use Rattle.std.specs.Prelude.{List, [], ◌∷◌, slice_set}
use Rattle.std.specs.FinMap as map
use Rattle.std.specs.FinSet as set
use Rattle.bk_object.specs.Modes.{Write, only}
use Rattle.bk_object.specs.Rows.{empty_row}
use Rattle.bk_object.specs.declared.Kind.TheVariants.{Directory}
use Rattle.bk_object.specs.declared.Modes.{Modes}
use Rattle.bk_level.specs.Levels.{lowest}
use Rattle.bk_space.specs.Registers.{registers_of}
use Rattle.bk_space.specs.Status.{status_of}
use Rattle.bk_space.specs.declared.Mode.TheVariants.{User}
use Rattle.bk_process.specs.NewProcess.{new_process}
use Rattle.bk_process.specs.declared.process.Process.{Process}
use Rattle.bk_state.specs.State.{State, Object, Children}

-- subject 0 may hold root by write, and nobody else by any mode
abbrev pub only_row : List Modes
only_row = slice_set empty_row 0 (only Write)

-- the one object: a root with a quota of 1
abbrev pub only_root : Object
only_root = record { facts = record { kind = Directory; blocks = 0; level = 0; quota = 1; row = only_row }; contents = Children }

-- the one process, as it begins
abbrev pub only_process : Process
only_process = new_process (registers_of (status_of User User))

-- one level, one subject, root alone, and nothing held
abbrev pub smallest : State
smallest = record {
  fixed = record {
    levels = lowest ∷ [];
    subjects = 0 ∷ [];
    lines = [];
    turns = 1;
    schedule = 0 ∷ [];
  };
  current = 0 ∷ [];
  objects = map.from_sorted (([], only_root) ∷ []);
  access = set.from_list ((0, [], Write) ∷ []);
  processes = only_process ∷ [];
}
