-- The kernel's state after a change of store and core.
use Rattle.std.proofs.Common.{◌≡◌, ℕ, zero, suc, ◌+◌, ◌<◌, Bool, true, false, List, [], ◌∷◌, length, get_or, Option, Some, None, refl}
use Rattle.std.proofs.Common.{sym, ap, subst, ◌∙◌, arith}
use Rattle.std.specs.Prelude.{All, if◌then◌else◌, slice_get, slice_index, slice_set, unwrap_or}
use Rattle.std.proofs.Math.Seq.{map-set_same}
use Rattle.std.proofs.lemmas.List.{get_or-map, length-map, map-set}
use Rattle.std.proofs.lemmas.List.Elements.{All-get_or}
use Rattle.std.proofs.lemmas.Option.{same_Some}
use Rattle.bk_path.specs.Paths.{Path}
use Rattle.bk_space.specs.AddrSpace.{Write, applied}
use Rattle.bk_space.specs.Status.{word_of}
use Rattle.bk_space.specs.declared.reference.Mode.TheVariants.{Supervisor}
use Rattle.bk_space.specs.declared.reference.Space.TheVariants.{D}
use Rattle.bk_space.specs.declared.reference.Width.TheVariants.{Word}
use Rattle.bk_process.specs.declared.process.Process.{Process}
use Rattle.bk_process.specs.declared.status.Status9.TheVariants.{Stopped}
use Rattle.bk_report.specs.declared.item.ReportItem.TheVariants as items
use Rattle.bk_state.specs.State.{State, process_of}
use Rattle.bk_state.specs.Answers.{Called, called}
use Rattle.bk_state.specs.declared.clearance.Clearance.{Clearance}
use Rattle.bk_state.proofs.AlikeCalls.{called-alike}
use Rattle.bk_store.specs.Stored.{Stored, objects_of}
use Rattle.bk_store.specs.Stands.{StandsFor}
use Rattle.bk_calls.specs.Made.{seen_by}
use Rattle.bk_calls.specs.declared.caller.Caller.{Caller}
use Rattle.bk_calls.proofs.Seen.{clearance-seen, subjects-seen}
use Rattle.bk_load.specs.Kept.{current_levels, greatest_levels, IsKnown}
use Rattle.bk_system.specs.Turn.{entered, faulted, less, with_push, with_process, with_pushes, written}
use Rattle.bk_system.specs.declared.at.At.{At}
use Rattle.bk_kernel.specs.Tables.{interrupted, risen, served, state_from}
use Rattle.bk_pages.proofs.Alike.{written-only}

module _ (clearances : List Clearance) (lines : List ℕ) (turns : ℕ) (schedule : List ℕ) (processes : List Process) (store : Stored) (words : List ℕ) where
  -- store and core stand for the state
  pub kept-stands : store.lines ≡ length lines → StandsFor store words (state_from clearances lines turns schedule processes store words)
  kept-stands same = record { levels = refl; lines = same; objects = refl; access = refl }

-- the new store and core stand for a state of which objects and accesses alone have changed
pub kept-changed : (clearances : List Clearance) (lines : List ℕ) (turns : ℕ) (schedule : List ℕ) (processes : List Process) (store new_store : Stored) (words new_words : List ℕ) (v w : State) →
    state_from clearances lines turns schedule processes store words ≡ v → w ≡ record v { objects = w.objects; access = w.access } → new_store.levels ≡ store.levels → objects_of new_store new_words ≡ w.objects → new_store.access ≡ w.access →
    state_from clearances lines turns schedule processes new_store new_words ≡ w
kept-changed clearances lines turns schedule processes store new_store words new_words v w is only levels objects access =
    (λ i. record {
      fixed = record { levels = levels i; subjects = greatest_levels clearances; lines = lines; turns = turns; schedule = schedule };
      current = current_levels clearances;
      objects = objects i;
      access = access i;
      processes = processes;
    })
    ∙ (λ i. record (is i) { objects = w.objects; access = w.access })
    ∙ sym only

-- the same where the accesses haven't changed either
kept-objects : (clearances : List Clearance) (lines : List ℕ) (turns : ℕ) (schedule : List ℕ) (processes : List Process) (store new_store : Stored) (words new_words : List ℕ) (v w : State) →
    state_from clearances lines turns schedule processes store words ≡ v → w ≡ record v { objects = w.objects } → new_store.levels ≡ store.levels → StandsFor new_store new_words w →
    state_from clearances lines turns schedule processes new_store new_words ≡ w
kept-objects clearances lines turns schedule processes store new_store words new_words v w is only levels stands =
    kept-changed clearances lines turns schedule processes store new_store words new_words v w is
    (only ∙ (λ i. record v { objects = w.objects; access = ap (λ (x : State). x.access) (sym only) i })) levels stands.objects stands.access

-- store and core stand for the state that is kept
pub state-stands : (clearances : List Clearance) (lines : List ℕ) (turns : ℕ) (schedule : List ℕ) (processes : List Process) (store : Stored) (words : List ℕ) (v : State) →
    state_from clearances lines turns schedule processes store words ≡ v → store.lines ≡ length lines → StandsFor store words v
state-stands clearances lines turns schedule processes store words v is same =
    subst (λ (x : State). StandsFor store words x) is (kept-stands clearances lines turns schedule processes store words same)

-- a process is put in its place
pub put-in : (clearances : List Clearance) (lines : List ℕ) (turns : ℕ) (schedule : List ℕ) (processes : List Process) (store : Stored) (words : List ℕ) (w : State) (s : ℕ) (p q : Process) →
    state_from clearances lines turns schedule processes store words ≡ w → p ≡ q →
    state_from clearances lines turns schedule (slice_set processes s p) store words ≡ with_process w s q
put-in clearances lines turns schedule processes store words w s p q is same = λ i. with_process (is i) s (same i)

-- ---- instructions

-- a write changes the objects alone
pub applied-only : (windows : List (Option Path)) (v : State) (o : Option Write) → applied (written windows) v o ≡ record v { objects = (applied (written windows) v o).objects }
applied-only windows v None = refl
applied-only windows v (Some w) = written-only v windows w

-- the process in its place after instructions that came to that state
pub gone-state : (clearances : List Clearance) (lines : List ℕ) (turns : ℕ) (schedule : List ℕ) (processes : List Process) (store : Stored) (words new_words : List ℕ) (v w : State) (s : ℕ) (p q : Process) →
    state_from clearances lines turns schedule processes store words ≡ v → w ≡ record v { objects = w.objects } → p ≡ q → StandsFor store new_words w →
    state_from clearances lines turns schedule (slice_set processes s p) store new_words ≡ with_process w s q
gone-state clearances lines turns schedule processes store words new_words v w s p q is only becomes stands =
    put-in clearances lines turns schedule processes store new_words w s p q
    (kept-objects clearances lines turns schedule processes store store words new_words v w is only refl stands) becomes

-- ---- faults

pushes-only : (v : State) (p : Process) (taken : Bool) → (if taken then with_pushes v p else v) ≡ record v { objects = (if taken then with_pushes v p else v).objects }
pushes-only v p false = refl
pushes-only v p true =
    written-only (with_push p.windows (less p.registers.supervisor 2) (word_of p.registers.ps) v) p.windows (record { mode = Supervisor; space = D; width = Word; addr = less p.registers.supervisor 4; value = p.registers.pc })
    ∙ ap (λ (x : State). record x { objects = (with_pushes v p).objects })
    (written-only v p.windows (record { mode = Supervisor; space = D; width = Word; addr = less p.registers.supervisor 2; value = word_of p.registers.ps }))

interrupted-is : (v : State) (s : ℕ) (p : Process) (number entry : ℕ) (is_taken : Bool) →
    with_process (if is_taken then with_pushes v p else v) s (if is_taken then entered p entry else record p { status = Stopped number }) ≡ interrupted v s p number entry is_taken
interrupted-is v s p number entry true = refl
interrupted-is v s p number entry false = refl

pub interrupted-state : (clearances : List Clearance) (lines : List ℕ) (turns : ℕ) (schedule : List ℕ) (processes : List Process) (store : Stored) (words new_words : List ℕ) (v : State) (s : ℕ) (p q : Process) (number entry : ℕ) (is_taken : Bool) →
    state_from clearances lines turns schedule processes store words ≡ v → q ≡ (if is_taken then entered p entry else record p { status = Stopped number }) → StandsFor store new_words (if is_taken then with_pushes v p else v) →
    state_from clearances lines turns schedule (slice_set processes s q) store new_words ≡ interrupted v s p number entry is_taken
interrupted-state clearances lines turns schedule processes store words new_words v s p q number entry is_taken is becomes stands =
    put-in clearances lines turns schedule processes store new_words (if is_taken then with_pushes v p else v) s q (if is_taken then entered p entry else record p { status = Stopped number })
    (kept-objects clearances lines turns schedule processes store store words new_words v (if is_taken then with_pushes v p else v) is (pushes-only v p is_taken) refl stands) becomes
    ∙ interrupted-is v s p number entry is_taken

-- what a fault leaves, gives and costs is the end of the instruction
pub interrupted-ends : (v : State) (at : At) (p : Process) (number references entry : ℕ) (is_taken : Bool) → interrupted v at.subject p number entry is_taken ≡ (faulted v at p number references entry is_taken).state
interrupted-ends v at p number references entry true = refl
interrupted-ends v at p number references entry false = refl

pub fault-items : (v : State) (at : At) (p : Process) (number references entry : ℕ) (taken : Bool) →
    items.Fault at.slot at.turn at.subject number p.registers.pc taken ∷ [] ≡ (faulted v at p number references entry taken).items
fault-items v at p number references entry true = refl
fault-items v at p number references entry false = refl

pub fault-references : (v : State) (at : At) (p : Process) (number references entry : ℕ) (taken : Bool) →
    references + (if taken then 2 else 0) ≡ (faulted v at p number references entry taken).references
fault-references v at p number references entry true = refl
fault-references v at p number references entry false = omega arith

-- ---- levels

module _ (clearances : List Clearance) (s : ℕ) (c : Clearance) (below : s < length clearances) (found : c ≡ get_or clearances s c) where
  -- of a subject that is there, the numbers in the two lists are those of its levels
  pub greatest-there : c.greatest ≡ slice_index (greatest_levels clearances) s
  greatest-there = ap (λ (x : Clearance). x.greatest) found ∙ sym (get_or-map (λ (x : Clearance). x.greatest) clearances s c 0 below)

  pub current-there : c.current ≡ slice_index (current_levels clearances) s
  current-there = ap (λ (x : Clearance). x.current) found ∙ sym (get_or-map (λ (x : Clearance). x.current) clearances s c 0 below)

  -- where it rises, or doesn't, its greatest level stays
  pub greatest-risen : (level : Option ℕ) → greatest_levels (slice_set clearances s (risen level c)) ≡ greatest_levels clearances
  greatest-risen level = map-set_same (λ (x : Clearance). x.greatest) clearances s (risen level c) c (ap (λ (x : Clearance). x.greatest) found)

  -- and its current one is the one to which it rises
  pub current-risen : (level : Option ℕ) →
      current_levels (slice_set clearances s (risen level c)) ≡ slice_set (current_levels clearances) s (unwrap_or level (slice_index (current_levels clearances) s))
  current-risen level = map-set (λ (x : Clearance). x.current) clearances s (risen level c) ∙ ap (λ n. slice_set (current_levels clearances) s (unwrap_or level n)) current-there

  -- it is known, if the level to which it rises is
  pub known-risen : (levels : ℕ) (level : Option ℕ) → All (IsKnown levels) clearances → ((n : ℕ) → level ≡ Some n → n < levels) → IsKnown levels (risen level c)
  known-risen levels level known listed = by level listed (subst (IsKnown levels) (sym found) (All-get_or (IsKnown levels) clearances s c below known))
    where
      by : (o : Option ℕ) → ((n : ℕ) → o ≡ Some n → n < levels) → IsKnown levels c → IsKnown levels (risen o c)
      by None in_list was = was
      by (Some n) in_list was = record { greatest = was.greatest; current = in_list n refl }

-- ---- kernel calls

-- what the caller sees of store and core is what it sees of the state
pub call-alike : (clearances : List Clearance) (lines : List ℕ) (turns : ℕ) (schedule : List ℕ) (processes : List Process) (store : Stored) (words : List ℕ) (v : State) (caller : Caller) (p : Process) (number : ℕ) (c : Clearance) →
    state_from clearances lines turns schedule processes store words ≡ v → caller.subject < length clearances → caller.subjects ≡ length clearances → c ≡ get_or clearances caller.subject c →
    caller.f_s ≡ c.greatest → caller.f_c ≡ c.current → called (seen_by caller store words) caller.subject p number ≡ called v caller.subject p number
call-alike clearances lines turns schedule processes store words v caller p number c is below subjects found greatest current =
    let under : caller.subject < caller.subjects = omega arith in
    called-alike (seen_by caller store words) (state_from clearances lines turns schedule processes store words) caller.subject refl refl refl
    (clearance-seen caller store words caller.subject under ∙ (λ i. record {
      greatest = (greatest ∙ greatest-there clearances caller.subject c below found) i;
      current = (current ∙ current-there clearances caller.subject c below found) i;
    }))
    (subjects-seen caller store words ∙ subjects ∙ sym (length-map clearances (λ (x : Clearance). x.greatest))) p number
    ∙ ap (λ (x : State). called x caller.subject p number) is

-- the state that is kept after a call, but for the levels
answered-state : (clearances : List Clearance) (lines : List ℕ) (turns : ℕ) (schedule : List ℕ) (processes : List Process) (store new_store : Stored) (words new_words : List ℕ) (v : State) (s : ℕ) (q : Process) (made : Called) →
    state_from clearances lines turns schedule processes store words ≡ v → new_store.levels ≡ store.levels → objects_of new_store new_words ≡ made.objects → new_store.access ≡ made.access → q ≡ made.process →
    state_from clearances lines turns schedule (slice_set processes s q) new_store new_words ≡ with_process (record v { objects = made.objects; access = made.access }) s made.process
answered-state clearances lines turns schedule processes store new_store words new_words v s q made is levels objects access becomes =
    put-in clearances lines turns schedule processes new_store new_words (record v { objects = made.objects; access = made.access }) s q made.process
    (kept-changed clearances lines turns schedule processes store new_store words new_words v (record v { objects = made.objects; access = made.access }) is refl levels objects access) becomes

-- and with them
pub served-state : (clearances : List Clearance) (lines : List ℕ) (turns : ℕ) (schedule : List ℕ) (processes : List Process) (store new_store : Stored) (words new_words : List ℕ) (v : State) (s : ℕ) (q : Process)
    (c : Clearance) (level : Option ℕ) (made : Called) →
    s < length clearances → c ≡ get_or clearances s c → level ≡ made.raised →
    state_from clearances lines turns schedule processes store words ≡ v → new_store.levels ≡ store.levels → objects_of new_store new_words ≡ made.objects → new_store.access ≡ made.access → q ≡ made.process →
    state_from (slice_set clearances s (risen level c)) lines turns schedule (slice_set processes s q) new_store new_words ≡ served v s made
served-state clearances lines turns schedule processes store new_store words new_words v s q c level made below found told is levels objects access becomes =
    (λ i. record {
      fixed = record { levels = new_store.levels; subjects = greatest-risen clearances s c below found level i; lines = lines; turns = turns; schedule = schedule };
      current = current-risen clearances s c below found level i;
      objects = objects_of new_store new_words;
      access = new_store.access;
      processes = slice_set processes s q;
    })
    ∙ (λ i. record (answered i) { current = slice_set (answered i).current s (unwrap_or (told i) (slice_index (answered i).current s)) })
  where
    answered : state_from clearances lines turns schedule (slice_set processes s q) new_store new_words ≡ with_process (record v { objects = made.objects; access = made.access }) s made.process
    answered = answered-state clearances lines turns schedule processes store new_store words new_words v s q made is levels objects access becomes

-- ---- the process in its place

found-at : {X : Type 0} (xs : List X) (n : ℕ) (p q : X) → slice_get xs n ≡ Some p → q ≡ get_or xs n q → q ≡ p
found-at [] n p q at found = cc
found-at (x ∷ xs) zero p q at found = found ∙ same_Some x p at
found-at (x ∷ xs) (suc n) p q at found = found-at xs n p q at found

-- the process that the tables have is that of the state
pub found-process : (processes : List Process) (v : State) (s : ℕ) (p q : Process) → processes ≡ v.processes → process_of v s ≡ Some p → q ≡ get_or processes s q → q ≡ p
found-process processes v s p q same there found = found-at processes s p q (ap (λ ps. slice_get ps s) same ∙ there) found
