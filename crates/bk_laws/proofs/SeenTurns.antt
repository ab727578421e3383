-- A turn of a subject under a level leaves the same under the level, and tells the same, in two secure states in which the
-- same lies under it.
use Rattle.std.proofs.Common.{◌≡◌, ℕ, Bool, true, false, ◌&&◌, not, List, ◌∷◌, Option, Some, None, refl, sym, ap, ◌∙◌, subst, ◌==◌, ◌<◌, nat_lt, length, arith}
use Rattle.std.proofs.lemmas.Bool.Decides.{nat_tests}
use Rattle.std.specs.Prelude.{slice_get, slice_set, slice_index}
use Rattle.bk_level.specs.Levels.{Level, dominates}
use Rattle.bk_level.proofs.LevelOrder.{and_first}
use Rattle.bk_path.specs.Paths.{Path}
use Rattle.bk_space.specs.AddrSpace.{Write, write_at, applied, page_number}
use Rattle.bk_space.specs.declared.reference.Mode.TheVariants.{Supervisor}
use Rattle.bk_space.specs.declared.reference.Space.TheVariants.{D}
use Rattle.bk_space.specs.declared.reference.Width.TheVariants.{Word}
use Rattle.bk_exec.specs.declared.event.Event as execution
use Rattle.bk_exec.specs.declared.event.Event.TheVariants as ends
use Rattle.bk_exec.specs.Exec.{Done, exec}
use Rattle.bk_process.specs.declared.process.Process.{Process}
use Rattle.bk_process.specs.declared.status.Status9.{Status9}
use Rattle.bk_process.specs.declared.status.Status9.TheVariants.{Running, Paused, Stopped}
use Rattle.bk_report.specs.declared.ReportItem.TheVariants as items
use Rattle.bk_state.specs.State.{State, process_of, current_level}
use Rattle.bk_state.specs.Secure.{Secure}
use Rattle.bk_state.specs.RowCalls.{changed_at}
use Rattle.bk_state.specs.Answers.{Called, called, level_after}
use Rattle.bk_state.specs.Contents.{with_contents}
use Rattle.bk_system.specs.Turn.{stored_in, written_by, written, with_process, byte_item, settled, fault_number, is_user, less, completes}
use Rattle.bk_system.specs.Turn.{is_reflected, entered, with_pushes, faulted, ended, executed, turn_by, turn_of_process, turn_of}
use Rattle.bk_state.specs.Causes.{answer_in, cause_in}
use Rattle.bk_laws.proofs.Changes.{moved, status_push, counter_push, changed_at-is, applied-is}
use Rattle.bk_state.specs.Low.{is_subject_under, low}
use Rattle.bk_system.specs.declared.at.At.{At}
use Rattle.bk_system.specs.Space.{space_of}
use Rattle.bk_system.specs.Step.{Step}
use Rattle.bk_laws.proofs.Alike.{Alike, fixed_to, low_from_alike, alike_from_low}
use Rattle.bk_laws.proofs.SecureContents.{secure_written, secure_applied, secure_with_pushes}
use Rattle.bk_laws.proofs.SeenSpace.{space-seen}
use Rattle.bk_laws.proofs.SeenAccess.{alike-with_process, alike-with_current}
use Rattle.bk_laws.proofs.SeenObjects.{alike-with_contents}
use Rattle.bk_laws.proofs.SeenCalls.{CalledAlike, called-seen}

-- what a step leaves and tells is the same
pub record SameStep (level : Level) (a b : Step) : Type 0 where
  pub state : low level a.state ≡ low level b.state
  pub items : a.items ≡ b.items

-- ---- states in which the same lies under a level have the same fixed part

fixed_is : (level : Level) (v w : State) → low level v ≡ low level w → fixed_to v.fixed w ≡ w
unfolding low
fixed_is level v w same = λ i. record w { fixed = (same i).fixed }

-- what holds of each state that has the first's fixed part, holds of the second
pub from_alike : (level : Level) (v w : State) (P : State → Type 0) → Secure v → Secure w → low level v ≡ low level w →
    (Secure (fixed_to v.fixed w) → Alike level v (fixed_to v.fixed w) → P (fixed_to v.fixed w)) → P w
from_alike level v w P sv sw same holds =
    let e : fixed_to v.fixed w ≡ w = fixed_is level v w same in
    let secure : Secure (fixed_to v.fixed w) = subst Secure (sym e) sw in
    subst P e (holds secure (alike_from_low level v w sv secure (subst (λ u. low level v ≡ low level u) (sym e) same)))

-- ---- writes

written-alike : (level : Level) (v w : State) → Alike level v (fixed_to v.fixed w) → (windows : List (Option Path)) (x : Write) →
    low level (written windows v x) ≡ low level (written windows (fixed_to v.fixed w) x)
unfolding written
written-alike level v w alike windows x = by (slice_get windows (page_number x.mode x.space x.addr))
  where
    by : (shown : Option (Option Path)) → low level (written_by v x shown) ≡ low level (written_by (fixed_to v.fixed w) x shown)
    by None = low_from_alike level v _ _ _ _ alike
    by (Some None) = low_from_alike level v _ _ _ _ alike
    by (Some (Some path)) =
        ap (low level) (changed_at-is v path (with_contents (stored_in x)))
        ∙ low_from_alike level (record v { objects = (changed_at v path (with_contents (stored_in x))).objects }) _ _ _ _ (alike-with_contents level v w alike path (stored_in x))
        ∙ sym (ap (low level) (changed_at-is (fixed_to v.fixed w) path (with_contents (stored_in x))))

module _ (level : Level) where
  written-low : (v w : State) → Secure v → Secure w → low level v ≡ low level w → (windows : List (Option Path)) (x : Write) → low level (written windows v x) ≡ low level (written windows w x)
  written-low v w sv sw same windows x =
      from_alike level v w (λ u. low level (written windows v x) ≡ low level (written windows u x)) sv sw same (λ secure alike. written-alike level v w alike windows x)

  applied-low : (v w : State) → Secure v → Secure w → low level v ≡ low level w → (windows : List (Option Path)) (x : Option Write) →
      low level (applied (written windows) v x) ≡ low level (applied (written windows) w x)
  applied-low v w sv sw same windows None = same
  applied-low v w sv sw same windows (Some x) = written-low v w sv sw same windows x

  with_pushes-low : (v w : State) → Secure v → Secure w → low level v ≡ low level w → (p : Process) → low level (with_pushes v p) ≡ low level (with_pushes w p)
  with_pushes-low v w sv sw same p =
      written-low (written p.windows v (status_push p)) (written p.windows w (status_push p)) (secure_written p.windows v (status_push p) sv) (secure_written p.windows w (status_push p) sw)
      (written-low v w sv sw same p.windows (status_push p)) p.windows (counter_push p)

  -- ---- processes

  process-low : (v w : State) → Secure v → Secure w → low level v ≡ low level w → (s : ℕ) (p : Process) → low level (with_process v s p) ≡ low level (with_process w s p)
  process-low v w sv sw same s p = from_alike level v w (λ u. low level (with_process v s p) ≡ low level (with_process u s p)) sv sw same
      (λ secure alike. low_from_alike level (with_process v s p) _ _ _ _ (alike-with_process level v w alike s p))

  -- ---- kernel calls

  settled-alike : (v w : State) (sv : Secure v) (sw : Secure (fixed_to v.fixed w)) (alike : Alike level v (fixed_to v.fixed w)) (at : At) (seen : is_subject_under level v at.subject ≡ true)
      (p : Process) (number references : ℕ) (a b : Called) → CalledAlike level v w sv sw alike at.subject seen a b →
      SameStep level (settled v at p number references a) (settled (fixed_to v.fixed w) at p number references b)
  settled-alike v w sv sw alike at seen p number references a b same = record {
    state = low_from_alike level (moved v (slice_set v.current at.subject (level_after v at.subject a.raised)) a.objects a.access (slice_set v.processes at.subject a.process)) _ _ _ _
        (alike-with_process level (moved v (slice_set v.current at.subject (level_after v at.subject a.raised)) a.objects a.access v.processes) (moved v (slice_set w.current at.subject (level_after v at.subject a.raised)) b.objects b.access w.processes)
        (alike-with_current level (moved v v.current a.objects a.access v.processes) (moved v w.current b.objects b.access w.processes) same.left at.subject (level_after v at.subject a.raised) seen (in_v v sv refl) (in_v (fixed_to v.fixed w) sw refl))
        at.subject a.process)
        ∙ (λ i. low level (moved v (slice_set w.current at.subject (same.number i)) b.objects b.access (slice_set w.processes at.subject (same.process i))));
    items = λ i. items.Call at.slot at.turn at.subject number p.registers.general (answer_in (same.cause i)) (cause_in (same.cause i)) ∷ byte_item at (same.sent i);
  }
    where
      real : nat_lt at.subject (length v.fixed.subjects) ≡ true
      real = and_first _ (dominates level (current_level v at.subject)) seen

      in_v : (u : State) → Secure u → u.fixed ≡ v.fixed → at.subject < length u.current
      in_v u sec fixed = let long : length u.current ≡ length v.fixed.subjects = sec.shape.current ∙ ap (λ f. length f.subjects) fixed in grind (arith, nat_tests, real, long)

  -- ---- what an instruction ends as

  module _ (v w : State) (sv : Secure v) (sw : Secure w) (same : low level v ≡ low level w) (at : At) (seen : is_subject_under level v at.subject ≡ true) where
    call-low : (p : Process) (number references : ℕ) →
        SameStep level (settled v at p number references (called v at.subject p number)) (settled w at p number references (called w at.subject p number))
    call-low p number references = from_alike level v w
        (λ u. SameStep level (settled v at p number references (called v at.subject p number)) (settled u at p number references (called u at.subject p number))) sv sw same
        (λ secure alike. settled-alike v w sv secure alike at seen p number references _ _ (called-seen level v w sv secure alike at.subject seen p number))

    spaces-same : (windows : List (Option Path)) → space_of v at.subject windows ≡ space_of w at.subject windows
    spaces-same windows = from_alike level v w (λ u. space_of v at.subject windows ≡ space_of u at.subject windows) sv sw same (λ secure alike. space-seen level v w sv secure alike at.subject seen windows)

    reflected-same : (p : Process) (entry : ℕ) → is_reflected v at.subject p entry ≡ is_reflected w at.subject p entry
    reflected-same p entry = λ i.
        is_user p.registers.ps.mode && not (entry == 0)
        && completes (write_at (spaces-same p.windows i) Supervisor D Word (less p.registers.supervisor 2))
        && completes (write_at (spaces-same p.windows i) Supervisor D Word (less p.registers.supervisor 4))

    faulted-low : (p : Process) (number references entry : ℕ) (reflected : Bool) →
        SameStep level (faulted v at p number references entry reflected) (faulted w at p number references entry reflected)
    faulted-low p number references entry true = record {
      state = process-low (with_pushes v p) (with_pushes w p) (secure_with_pushes v p sv) (secure_with_pushes w p sw) (with_pushes-low v w sv sw same p) at.subject (entered p entry);
      items = refl;
    }
    faulted-low p number references entry false = record { state = process-low v w sv sw same at.subject (record p { status = Stopped number }); items = refl }

    ended-low : (p : Process) (references : ℕ) (event : execution.Event) → SameStep level (ended v at p references event) (ended w at p references event)
    ended-low p references ends.Ran = record { state = process-low v w sv sw same at.subject p; items = refl }
    ended-low p references (ends.Call number) = call-low p number references
    ended-low p references (ends.Fault cause) =
        subst (λ b. SameStep level (ended v at p references (ends.Fault cause)) (faulted w at p (fault_number cause) references (slice_index p.entries (fault_number cause)) b))
        (reflected-same p (slice_index p.entries (fault_number cause)))
        (faulted-low p (fault_number cause) references (slice_index p.entries (fault_number cause)) (is_reflected v at.subject p (slice_index p.entries (fault_number cause))))

  -- ---- the turn

  module _ (v w : State) (sv : Secure v) (sw : Secure w) (same : low level v ≡ low level w) (at : At) (seen : is_subject_under level v at.subject ≡ true) where
    executed-low : (p : Process) (x : Done) → SameStep level (executed v at p x) (executed w at p x)
    executed-low p x = ended-low (applied (written p.windows) v x.write) (applied (written p.windows) w x.write)
        (secure_applied p.windows v x.write sv) (secure_applied p.windows w x.write sw) (applied-low v w sv sw same p.windows x.write) at
        (ap (λ u. is_subject_under level u at.subject) (applied-is p.windows v x.write) ∙ seen)
        (record p { registers = x.regs }) x.references x.outcome

    turn_of_process-low : (o : Option Process) → SameStep level (turn_of_process v at o) (turn_of_process w at o)
    turn_of_process-low None = record { state = same; items = refl }
    turn_of_process-low (Some p) = by p.status
      where
        by : (status : Status9) → SameStep level (turn_by v at p status) (turn_by w at p status)
        by Running = subst (λ space. SameStep level (executed v at p (exec (space_of v at.subject p.windows) p.registers)) (executed w at p (exec space p.registers)))
            (spaces-same v w sv sw same at seen p.windows) (executed-low p (exec (space_of v at.subject p.windows) p.registers))
        by Paused = record { state = same; items = refl }
        by (Stopped cause) = record { state = same; items = refl }

    process-same : process_of v at.subject ≡ process_of w at.subject
    process-same = from_alike level v w (λ u. process_of v at.subject ≡ process_of u at.subject) sv sw same (λ secure alike. alike.process at.subject seen)

    -- a turn of the subject
    pub turn-low : SameStep level (turn_of at v) (turn_of at w)
    unfolding turn_of
    turn-low = subst (λ o. SameStep level (turn_of_process v at (process_of v at.subject)) (turn_of_process w at o)) process-same (turn_of_process-low (process_of v at.subject))
