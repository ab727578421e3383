-- No turn of a subject that is not under a level changes what lies under it, or gives an item of it.
use Rattle.std.proofs.Common.{◌≡◌, ◌≢◌, ℕ, ◌<◌, Bool, true, false, ◌&&◌, not, List, [], ◌∷◌, length, Option, Some, None, refl, sym, ap, ◌∙◌, subst}
use Rattle.std.proofs.Common.{cond, ◌==◌, arith, true≢false}
use Rattle.std.specs.Prelude.{slice_get, slice_index, slice_set}
use Rattle.bk_level.specs.Levels.{Level}
use Rattle.bk_path.specs.Paths.{Path}
use Rattle.bk_object.specs.Modes.{Write as ByWrite}
use Rattle.bk_space.specs.AddrSpace.{Write, applied, page_number}
use Rattle.bk_space.specs.declared.reference.Mode.TheVariants.{Supervisor}
use Rattle.bk_space.specs.declared.reference.Space.TheVariants.{D}
use Rattle.bk_space.specs.declared.reference.Width.TheVariants.{Word}
use Rattle.bk_exec.specs.declared.event.Event.{Event}
use Rattle.bk_exec.specs.declared.event.Event.TheVariants.{Ran, Call, Fault}
use Rattle.bk_exec.specs.Exec.{Done, exec}
use Rattle.bk_exec.specs.Laws.{IsAllowed}
use Rattle.bk_exec.proofs.WriteLemmas.{exec_allowed}
use Rattle.bk_process.specs.declared.process.Process.{Process}
use Rattle.bk_process.specs.declared.status.Status9.{Status9}
use Rattle.bk_process.specs.declared.status.Status9.TheVariants.{Running, Paused, Stopped}
use Rattle.bk_report.specs.declared.ReportItem.{ReportItem}
use Rattle.bk_report.specs.declared.ReportItem.TheVariants as items
use Rattle.bk_state.specs.State.{State, holds, process_of}
use Rattle.bk_state.specs.Secure.{Secure}
use Rattle.bk_state.specs.Answers.{Called, called, level_after}
use Rattle.bk_system.specs.Turn.{stored_in, written_by, written, with_process, byte_item, settled, fault_number, less, is_user, is_writable}
use Rattle.bk_system.specs.Turn.{is_reflected, entered, with_pushes, faulted, ended, executed, turn_by, turn_of_process, turn_of}
use Rattle.bk_laws.specs.Seen.{seen_items}
use Rattle.bk_laws.proofs.Changes.{slice_get-set_other, status_push, counter_push, written-is, applied-is}
use Rattle.bk_system.proofs.FixedPart.{applied-fixed}
use Rattle.bk_state.specs.Low.{is_subject_under, low}
use Rattle.bk_system.specs.declared.at.At.{At}
use Rattle.bk_system.specs.Space.{space_of}
use Rattle.bk_system.specs.Step.{Step, nothing}
use Rattle.bk_laws.proofs.SeenItems.{items_by}
use Rattle.bk_laws.proofs.SecureContents.{secure_written}
use Rattle.bk_laws.proofs.SecureProcesses.{process_subject}
use Rattle.bk_laws.proofs.Alike.{low_from_alike, subject-low}
use Rattle.bk_laws.proofs.Unseen.{other_subject, high_written}
use Rattle.bk_laws.proofs.UnseenChanges.{contents_changed}
use Rattle.bk_laws.proofs.UnseenCalls.{CallsUnseen, unseen_called}
use Rattle.bk_laws.proofs.Writes.{allowed_held, completes_held}

-- ---- the process of a subject

unseen_process : (level : Level) (v : State) (s : ℕ) (p : Process) → ((j : ℕ) → is_subject_under level v j ≡ true → j ≢ s) → low level v ≡ low level (with_process v s p)
unseen_process level v s p other = low_from_alike level v _ _ _ _ (record {
  subjects = λ j. refl;
  current = λ j h. refl;
  process = λ j h. sym (slice_get-set_other v.processes s p j (other j h));
  holds_same = λ j q mode h. refl;
  shows_same = λ q. refl;
  facts = λ q h. refl;
  contents = λ q. refl;
})

-- what a step from the state leaves under the level, and tells of it
pub record StepUnseen (level : Level) (v : State) (step : Step) : Type 0 where
  pub state : low level v ≡ low level step.state
  pub items : seen_items level v step.items ≡ []

nothing_unseen : (level : Level) (v : State) → StepUnseen level v (nothing v)
nothing_unseen level v = record { state = refl; items = refl }

-- ---- a subject that is there, and not under the level

module _ (level : Level) (at : At) where
  abbrev s : ℕ
  s = at.subject

  -- the state is secure, and the subject is there and not under the level
  record IsUnseen (v : State) : Type 0 where
    secure : Secure v
    real : s < length v.fixed.subjects
    blind : is_subject_under level v s ≡ false

  -- a write to what the subject holds by write
  unseen_written : (v : State) (windows : List (Option Path)) (w : Write) → IsUnseen v →
      ((path : Path) → slice_get windows (page_number w.mode w.space w.addr) ≡ Some (Some path) → holds v s path ByWrite ≡ true) → low level v ≡ low level (written windows v w)
  unfolding written
  unseen_written v windows w subject held = by (slice_get windows (page_number w.mode w.space w.addr)) refl
    where
      by : (o : Option (Option Path)) → slice_get windows (page_number w.mode w.space w.addr) ≡ o → low level v ≡ low level (written_by v w o)
      by None is = refl
      by (Some None) is = refl
      by (Some (Some path)) is =
          let high = high_written level v subject.secure s subject.real subject.blind path (held path is) in
          contents_changed level v subject.secure s subject.real subject.blind path (stored_in w) high

  unseen_after_write : (v : State) (windows : List (Option Path)) (w : Write) → IsUnseen v → IsUnseen (written windows v w)
  unseen_after_write v windows w subject = record {
    secure = secure_written windows v w subject.secure;
    real = subst (λ f. s < length f.subjects) (sym (applied-fixed windows v (Some w))) subject.real;
    blind = ap (λ u. is_subject_under level u s) (written-is windows v w) ∙ subject.blind;
  }

  unseen_applied : (v : State) (windows : List (Option Path)) (w : Option Write) → IsUnseen v → IsAllowed (space_of v s windows) w → low level v ≡ low level (applied (written windows) v w)
  unseen_applied v windows None subject allowed = refl
  unseen_applied v windows (Some w) subject allowed = unseen_written v windows w subject (λ path shown. allowed_held v s windows w path allowed shown)

  unseen_after_instruction : (v : State) (windows : List (Option Path)) (w : Option Write) → IsUnseen v → IsUnseen (applied (written windows) v w)
  unseen_after_instruction v windows None subject = subject
  unseen_after_instruction v windows (Some w) subject = unseen_after_write v windows w subject

  -- the pushes of a reflection
  unseen_pushes : (v : State) (p : Process) → IsUnseen v →
      is_writable v s p.windows (less p.registers.supervisor 2) ≡ true → is_writable v s p.windows (less p.registers.supervisor 4) ≡ true → low level v ≡ low level (with_pushes v p)
  unseen_pushes v p subject first second =
      unseen_written v p.windows (status_push p) subject (λ path shown. completes_held v s p.windows Supervisor D Word (status_push p).addr path first shown)
      ∙ unseen_written (written p.windows v (status_push p)) p.windows (counter_push p) (unseen_after_write v p.windows (status_push p) subject)
      (λ path shown. ap (λ u. holds u s path ByWrite) (written-is p.windows v (status_push p)) ∙ completes_held v s p.windows Supervisor D Word (counter_push p).addr path second shown)

  unseen_after_pushes : (v : State) (p : Process) → IsUnseen v → IsUnseen (with_pushes v p)
  unseen_after_pushes v p subject = unseen_after_write _ p.windows _ (unseen_after_write v p.windows _ subject)

  -- another process of its own
  unseen_own : (v : State) (p : Process) → IsUnseen v → low level v ≡ low level (with_process v s p)
  unseen_own v p subject = unseen_process level v s p (other_subject level v subject.secure s subject.real subject.blind)

  -- ---- what an instruction ends as

  -- an item of the subject is not seen
  unseen_call_item : (v : State) (number answer cause : ℕ) (general : List ℕ) (told : List ReportItem) → IsUnseen v → seen_items level v told ≡ [] →
      seen_items level v (items.Call at.slot at.turn at.subject number general answer cause ∷ told) ≡ []
  unseen_call_item v number answer cause general told subject rest =
      ap (λ b. cond b (items.Call at.slot at.turn at.subject number general answer cause ∷ seen_items level v told) (seen_items level v told)) subject.blind ∙ rest

  unseen_fault_item : (v : State) (number pc : ℕ) (reflected : Bool) → IsUnseen v → seen_items level v (items.Fault at.slot at.turn at.subject number pc reflected ∷ []) ≡ []
  unseen_fault_item v number pc reflected subject = ap (λ b. cond b (items.Fault at.slot at.turn at.subject number pc reflected ∷ []) []) subject.blind

  unseen_settled : (v : State) (p : Process) (number references : ℕ) (call : Called) → IsUnseen v →
      CallsUnseen level v s at call → StepUnseen level v (settled v at p number references call)
  unseen_settled v p number references call subject unseen = record {
    state = unseen.state ∙ unseen_process level left s call.process still_other;
    items = unseen_call_item v number _ _ p.registers.general (byte_item at call.sent) subject unseen.byte;
  }
    where
      left : State
      left = record v { objects = call.objects; access = call.access; current = slice_set v.current s (level_after v s call.raised) }

      still_other : (j : ℕ) → is_subject_under level left j ≡ true → j ≢ s
      still_other j h at = true≢false (sym h ∙ ap (is_subject_under level left) at ∙ sym (subject-low level v left unseen.state s) ∙ subject.blind)

  -- what a test of four says of the last two
  last_two : (a b c d : Bool) → (a && b && c && d) ≡ true → (c ≡ true) × (d ≡ true)
  last_two a b c d all = (grind (arith, all), grind (arith, all))

  -- both words of a reflection could be written
  writable : (v : State) (p : Process) (entry : ℕ) → is_reflected v s p entry ≡ true →
      (is_writable v s p.windows (less p.registers.supervisor 2) ≡ true) × (is_writable v s p.windows (less p.registers.supervisor 4) ≡ true)
  writable v p entry is = last_two (is_user p.registers.ps.mode) (not (entry == 0)) _ _ is

  unseen_faulted : (v : State) (p : Process) (number references entry : ℕ) (reflected : Bool) → IsUnseen v → is_reflected v s p entry ≡ reflected →
      StepUnseen level v (faulted v at p number references entry reflected)
  unseen_faulted v p number references entry true subject is =
      let (first, second) = writable v p entry is in
      record {
        state = unseen_pushes v p subject first second ∙ unseen_own (with_pushes v p) (entered p entry) (unseen_after_pushes v p subject);
        items = unseen_fault_item v number p.registers.pc true subject;
      }
  unseen_faulted v p number references entry false subject is = record {
    state = unseen_own v (record p { status = Stopped number }) subject;
    items = unseen_fault_item v number p.registers.pc false subject;
  }

  unseen_ended : (v : State) (p : Process) (references : ℕ) (event : Event) → IsUnseen v → StepUnseen level v (ended v at p references event)
  unseen_ended v p references Ran subject = record { state = unseen_own v p subject; items = refl }
  unseen_ended v p references (Call number) subject =
      unseen_settled v p number references (called v s p number) subject (unseen_called level v subject.secure s subject.real subject.blind at p number)
  unseen_ended v p references (Fault cause) subject =
      unseen_faulted v p (fault_number cause) references (slice_index p.entries (fault_number cause)) (is_reflected v s p (slice_index p.entries (fault_number cause))) subject refl

  -- ---- the turn

  unseen_executed : (v : State) (p : Process) (x : Done) → IsUnseen v → IsAllowed (space_of v s p.windows) x.write → StepUnseen level v (executed v at p x)
  unseen_executed v p x subject allowed =
      let after = applied (written p.windows) v x.write in
      let step = unseen_ended after (record p { registers = x.regs }) x.references x.outcome (unseen_after_instruction v p.windows x.write subject) in
      record {
        state = unseen_applied v p.windows x.write subject allowed ∙ step.state;
        items = sym (items_by level after v (applied-fixed p.windows v x.write) (λ j. ap (λ u. is_subject_under level u j) (applied-is p.windows v x.write)) (executed v at p x).items) ∙ step.items;
      }

  unseen_turn_by : (v : State) (p : Process) (status : Status9) → IsUnseen v → StepUnseen level v (turn_by v at p status)
  unseen_turn_by v p Running subject = unseen_executed v p (exec (space_of v s p.windows) p.registers) subject (exec_allowed (space_of v s p.windows) p.registers)
  unseen_turn_by v p Paused subject = nothing_unseen level v
  unseen_turn_by v p (Stopped cause) subject = nothing_unseen level v

  unseen_turn_of_process : (v : State) (o : Option Process) → Secure v → is_subject_under level v s ≡ false → process_of v s ≡ o → StepUnseen level v (turn_of_process v at o)
  unseen_turn_of_process v None sec blind is = nothing_unseen level v
  unseen_turn_of_process v (Some p) sec blind is = unseen_turn_by v p p.status (record { secure = sec; real = process_subject v s p sec is; blind = blind })

  -- a turn of the subject
  pub unseen_turn : (v : State) → Secure v → is_subject_under level v s ≡ false → StepUnseen level v (turn_of at v)
  unfolding turn_of
  unseen_turn v sec blind = unseen_turn_of_process v (process_of v s) sec blind refl
