-- A process that stands in its place while its turn goes on: what the turn comes to doesn't depend on what stands there.
use Rattle.std.proofs.Common.{◌≡◌, ℕ, zero, suc, ◌<◌, Bool, true, false, not, ◌&&◌, ◌==◌, List, [], ◌∷◌, length, Option, Some, None}
use Rattle.std.proofs.Common.{refl, sym, ap, ◌∙◌, arith}
use Rattle.std.specs.Prelude.{IfSome, option_map, slice_get, slice_index, slice_set}
use Rattle.std.proofs.lemmas.Option.{same_Some}
use Rattle.bk_space.specs.AddrSpace.{AddrSpace, Write, applied, page_number, write_at}
use Rattle.bk_space.specs.Status.{word_of}
use Rattle.bk_space.specs.declared.reference.Mode.TheVariants.{Supervisor}
use Rattle.bk_space.specs.declared.reference.Space.TheVariants.{D}
use Rattle.bk_space.specs.declared.reference.Width.TheVariants.{Word}
use Rattle.bk_exec.specs.Exec.{exec}
use Rattle.bk_exec.specs.declared.event.Event.{Event}
use Rattle.bk_exec.specs.declared.event.Event.TheVariants.{Ran, Call, Fault}
use Rattle.bk_path.specs.Paths.{Path}
use Rattle.bk_process.specs.declared.process.Process.{Process}
use Rattle.bk_process.specs.declared.status.Status9.{Status9}
use Rattle.bk_process.specs.declared.status.Status9.TheVariants.{Running, Paused, Stopped}
use Rattle.bk_state.specs.State.{State, Object, find, process_of}
use Rattle.bk_state.specs.Answers.{called, level_after}
use Rattle.bk_state.specs.Contents.{with_contents}
use Rattle.bk_state.specs.RowCalls.{changed_by}
use Rattle.bk_state.proofs.AlikeCalls.{called-alike}
use Rattle.bk_system.specs.declared.at.At.{At}
use Rattle.bk_system.specs.Space.{space_of}
use Rattle.bk_system.specs.Step.{Step, nothing}
use Rattle.bk_system.specs.Turn.{completes, ended, entered, executed, fault_number, faulted, is_reflected, is_user, less}
use Rattle.bk_system.specs.Turn.{settled, stored_in, turn_by, turn_of, turn_of_process, with_process, with_pushes, written, written_by}
use Rattle.bk_kernel.specs.Tables.{is_running, runs}
use Rattle.bk_pages.proofs.Alike.{space-alike, written-only}

-- ---- a list

pub set-twice : {X : Type 0} (xs : List X) (n : ℕ) (a b : X) → slice_set (slice_set xs n a) n b ≡ slice_set xs n b
set-twice [] n a b = refl
set-twice (x ∷ xs) zero a b = refl
set-twice (x ∷ xs) (suc n) a b = ap (λ ys. x ∷ ys) (set-twice xs n a b)

pub set-there : {X : Type 0} (xs : List X) (n : ℕ) (a : X) → n < length xs → slice_get (slice_set xs n a) n ≡ Some a
set-there [] n a within = absurd (omega (arith, within))
set-there (x ∷ xs) zero a within = refl
set-there (x ∷ xs) (suc n) a within = set-there xs n a (omega (arith, within))

pub set-same : {X : Type 0} (xs : List X) (n : ℕ) (a : X) → slice_get xs n ≡ Some a → slice_set xs n a ≡ xs
set-same [] n a is = refl
set-same (x ∷ xs) zero a is = ap (λ y. y ∷ xs) (sym (same_Some x a is))
set-same (x ∷ xs) (suc n) a is = ap (λ ys. x ∷ ys) (set-same xs n a is)

pub set-length : {X : Type 0} (xs : List X) (n : ℕ) (a : X) → length (slice_set xs n a) ≡ length xs
set-length [] n a = refl
set-length (x ∷ xs) zero a = refl
set-length (x ∷ xs) (suc n) a = ap suc (set-length xs n a)

-- ---- the state beside the processes

abbrev beside : State → List Process → State
beside v processes = record v { processes = processes }

module _ (v : State) (processes : List Process) where
  changed-beside : (path : Path) (w : Write) (o : Option Object) → changed_by (beside v processes) path (with_contents (stored_in w)) o ≡ beside (changed_by v path (with_contents (stored_in w)) o) processes
  changed-beside path w None = refl
  changed-beside path w (Some o) = refl

  by_window : (w : Write) (o : Option (Option Path)) → written_by (beside v processes) w o ≡ beside (written_by v w o) processes
  by_window w None = refl
  by_window w (Some None) = refl
  by_window w (Some (Some path)) = changed-beside path w (find v path)

  written-beside : (windows : List (Option Path)) (w : Write) → written windows (beside v processes) w ≡ beside (written windows v w) processes
  unfolding written
  written-beside windows w = by_window w (slice_get windows (page_number w.mode w.space w.addr))

  space-beside : (s : ℕ) (windows : List (Option Path)) → space_of (beside v processes) s windows ≡ space_of v s windows
  space-beside s windows = space-alike (beside v processes) v refl refl s windows

  reflected-beside : (s : ℕ) (p : Process) (entry : ℕ) → is_reflected (beside v processes) s p entry ≡ is_reflected v s p entry
  reflected-beside s p entry = ap (λ (space : AddrSpace). is_user p.registers.ps.mode && not (entry == 0) && completes (write_at space Supervisor D Word (less p.registers.supervisor 2)) && completes (write_at space Supervisor D Word (less p.registers.supervisor 4))) (space-beside s p.windows)

  called-beside : (s : ℕ) (p : Process) (number : ℕ) → called (beside v processes) s p number ≡ called v s p number
  called-beside s p number = called-alike (beside v processes) v s refl refl refl refl refl p number

module _ (v : State) (p : Process) where
  abbrev first : Write
  first = record { mode = Supervisor; space = D; width = Word; addr = less p.registers.supervisor 2; value = word_of p.registers.ps }

  abbrev second : Write
  second = record { mode = Supervisor; space = D; width = Word; addr = less p.registers.supervisor 4; value = p.registers.pc }

  pushes-beside : (processes : List Process) → with_pushes (beside v processes) p ≡ beside (with_pushes v p) processes
  pushes-beside processes = ap (λ x. written p.windows x second) (written-beside v processes p.windows first) ∙ written-beside (written p.windows v first) processes p.windows second

  pushes-processes : (with_pushes v p).processes ≡ v.processes
  pushes-processes = ap (λ (x : State). x.processes) (written-only (written p.windows v first) p.windows second) ∙ ap (λ (x : State). x.processes) (written-only v p.windows first)

-- ---- the turn

module _ (v : State) (at : At) (p q : Process) (references : ℕ) where
  abbrev s : ℕ
  s = at.subject

  abbrev w : State
  w = with_process v s q

  step-as : (a b : State) (step : Step) → a ≡ b → record step { state = a } ≡ record step { state = b }
  step-as a b step same = λ i. record step { state = same i }

  settled-placed : (number : ℕ) → settled w at p number references (called w s p number) ≡ settled v at p number references (called v s p number)
  settled-placed number =
      ap (settled w at p number references) (called-beside v (slice_set v.processes s q) s p number)
      ∙ (λ i. record (settled v at p number references (called v s p number)) {
        state = record v {
          objects = (called v s p number).objects;
          access = (called v s p number).access;
          current = slice_set v.current s (level_after v s (called v s p number).raised);
          processes = set-twice v.processes s q (called v s p number).process i;
        };
      })

  faulted-placed : (number entry : ℕ) (is_taken : Bool) → faulted w at p number references entry is_taken ≡ faulted v at p number references entry is_taken
  faulted-placed number entry true = step-as _ _ (faulted v at p number references entry true) (
      ap (λ x. with_process x s (entered p entry)) (pushes-beside v p (slice_set v.processes s q))
      ∙ (λ i. record (with_pushes v p) { processes = (set-twice v.processes s q (entered p entry) ∙ ap (λ ps. slice_set ps s (entered p entry)) (sym (pushes-processes v p))) i }))
  faulted-placed number entry false = step-as _ _ (faulted v at p number references entry false) (λ i. record v { processes = set-twice v.processes s q (record p { status = Stopped number }) i })

  -- what stands in the place of the process makes no difference to what its instruction ends as
  pub ended-placed : (event : Event) → ended w at p references event ≡ ended v at p references event
  ended-placed Ran = step-as _ _ (ended v at p references Ran) (λ i. record v { processes = set-twice v.processes s q p i })
  ended-placed (Call number) = settled-placed number
  ended-placed (Fault cause) =
      let entry = slice_index p.entries (fault_number cause) in
      ap (faulted w at p (fault_number cause) references entry) (reflected-beside v (slice_set v.processes s q) s p entry)
      ∙ faulted-placed (fault_number cause) entry (is_reflected v s p entry)

-- the process that has been put in its place stands there
pub process-placed : (v : State) (s : ℕ) (p : Process) → s < length v.processes → process_of (with_process v s p) s ≡ Some p
process-placed v s p within = set-there v.processes s p within

-- a process that stands in its place already
pub with_process-same : (v : State) (s : ℕ) (p : Process) → process_of v s ≡ Some p → with_process v s p ≡ v
with_process-same v s p is = λ i. record v { processes = set-same v.processes s p is i }

pub applied-processes : (windows : List (Option Path)) (v : State) (o : Option Write) → (applied (written windows) v o).processes ≡ v.processes
applied-processes windows v None = refl
applied-processes windows v (Some w) = ap (λ (x : State). x.processes) (written-only v windows w)

-- a write leaves what stands in the place of a process
pub applied-placed : (windows : List (Option Path)) (v : State) (s : ℕ) (q : Process) (o : Option Write) → applied (written windows) (with_process v s q) o ≡ with_process (applied (written windows) v o) s q
applied-placed windows v s q None = refl
applied-placed windows v s q (Some w) =
    written-beside v (slice_set v.processes s q) windows w
    ∙ (λ i. record (written windows v w) { processes = slice_set (sym (applied-processes windows v (Some w)) i) s q })

-- what a subject sees doesn't depend on it
pub space-placed : (v : State) (s : ℕ) (q : Process) (subject : ℕ) (windows : List (Option Path)) → space_of (with_process v s q) subject windows ≡ space_of v subject windows
space-placed v s q subject windows = space-beside v (slice_set v.processes s q) subject windows

-- a subject has a process
pub process-there : (v : State) (s : ℕ) → s < length v.processes → (p : Process) × (process_of v s ≡ Some p)
process-there v s within = by v.processes s within
  where
    by : (ps : List Process) (n : ℕ) → n < length ps → (p : Process) × (slice_get ps n ≡ Some p)
    by [] n lt = absurd (omega (arith, lt))
    by (p ∷ ps) zero lt = (p, refl)
    by (p ∷ ps) (suc n) lt = by ps n (omega (arith, lt))

-- a process that runs
runs_status : (status : Status9) → is_running status ≡ true → status ≡ Running
runs_status Running h = refl
runs_status Paused h = cc
runs_status (Stopped cause) h = cc

pub runs-found : (o : Option Process) → runs o ≡ true → (p : Process) × (o ≡ Some p) × (p.status ≡ Running)
runs-found None h = cc
runs-found (Some p) h = (p, refl, runs_status p.status h)

-- its turn is that of its instruction
pub running-turn : (v : State) (at : At) (p : Process) → process_of v at.subject ≡ Some p → p.status ≡ Running → turn_of at v ≡ executed v at p (exec (space_of v at.subject p.windows) p.registers)
unfolding turn_of
running-turn v at p there running = ap (turn_of_process v at) there ∙ ap (turn_by v at p) running

idle_by : (v : State) (at : At) (p : Process) (status : Status9) → is_running status ≡ false → turn_by v at p status ≡ nothing v
idle_by v at p Running h = cc
idle_by v at p Paused h = refl
idle_by v at p (Stopped cause) h = refl

-- the turn of any other
pub idle-turn : (v : State) (at : At) → runs (process_of v at.subject) ≡ false → turn_of at v ≡ nothing v
unfolding turn_of
idle-turn v at idle = by (process_of v at.subject) idle
  where
    by : (o : Option Process) → runs o ≡ false → turn_of_process v at o ≡ nothing v
    by None h = refl
    by (Some p) h = idle_by v at p p.status h

-- the status of a process that is there
pub status-is : (o : Option Process) (status : Status9) → Some status ≡ option_map (λ (p : Process). p.status) o → IfSome o (λ p. status ≡ p.status)
status-is None status is = tt
status-is (Some p) status is = same_Some status p.status is

pub status-none : (o : Option Process) (status : Status9) → None ≡ option_map (λ (p : Process). p.status) o → IfSome o (λ p. status ≡ p.status)
status-none None status is = tt
status-none (Some p) status is = cc
