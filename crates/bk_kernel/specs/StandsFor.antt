-- A store and a machine, in which one subject is loaded, stand for a state of the system.
use Rattle.std.specs.Prelude.{◌≡◌, ◌<◌, ℕ, List, length, Option, Some, None, option_map}
use Rattle.std.specs.FinMap as finite
use Rattle.bk_path.specs.Paths.{Path}
use Rattle.bk_frames.specs.Extents.{Extent, words_at}
use Rattle.bk_machine.specs.Machine.{MachineState}
use Rattle.bk_machine.specs.Vectors.{HasVectors}
use Rattle.bk_process.specs.declared.process.Process.{Process}
use Rattle.bk_state.specs.State.{Contents, State, Words, facts_at, find, process_of}
use Rattle.bk_store.specs.Stored.{Entry, Stored, extent_in, facts_in, waiting_in}
use Rattle.bk_store.specs.Joined.{AreExtentsApart}
use Rattle.bk_pages.specs.Pages.{pages_for}

-- the contents of the object at the path
abbrev pub contents_at : State → Path → Option Contents
contents_at v path = option_map (λ o. o.contents) (find v path)

-- the levels and the number of lines are the state's, and at each path is an object with the facts that the state has there
pub record HasFacts (store : Stored) (v : State) : Type 0 where
  pub levels : store.levels ≡ v.fixed.levels
  pub lines : store.lines ≡ length v.fixed.lines
  pub facts : (path : Path) → facts_in store path ≡ facts_at v path

-- the contents of a segment are the words of core at its extent, which lies above the kernel's blocks and apart from all others
pub record HasSegments (store : Stored) (words : List ℕ) (v : State) : Type 0 where
  pub contents : (path : Path) (e : Extent) → extent_in store path ≡ Some e → contents_at v path ≡ Some (Words (words_at words e))
  pub apart : AreExtentsApart store

-- the contents of any other object are what waits in it
abbrev pub HasQueues : Stored → State → Type 0
HasQueues store v = (path : Path) (e : Entry) → finite.get store.objects path ≡ Some e → e.extent ≡ None → contents_at v path ≡ Some (waiting_in e.queue)

-- the machine has the registers of the subject's process, is outside kernel mode, and has the vectors in its core
pub record HasProcess (machine : MachineState) (loaded : ℕ) (v : State) : Type 0 where
  pub there : loaded < length v.processes
  pub registers : (p : Process) → process_of v loaded ≡ Some p → machine.process ≡ p.registers
  pub outside : machine.kernel ≡ None
  pub vectors : HasVectors machine.core.words

-- the registers of the pages are those of the subject, by what its windows show, what it holds now, and where segments stand now
abbrev pub HasPages : Stored → MachineState → (loaded : ℕ) → State → Type 0
HasPages store machine loaded v = (p : Process) → process_of v loaded ≡ Some p → machine.pages.registers ≡ pages_for store loaded p.windows

-- facts, current access set, segments and queues are those of the state, and so are the registers and the pages of the loaded
-- subject
pub record StandsFor (store : Stored) (machine : MachineState) (loaded : ℕ) (v : State) : Type 0 where
  pub facts : HasFacts store v
  pub access : store.access ≡ v.access
  pub segments : HasSegments store machine.core.words v
  pub queues : HasQueues store v
  pub process : HasProcess machine loaded v
  pub pages : HasPages store machine loaded v
