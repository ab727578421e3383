-- Other processes, as many, which are sound, keep a secure state secure; and what leaves a process sound.
use Rattle.std.proofs.Common.{◌≡◌, ℕ, zero, suc, ◌<◌, Bool, true, List, [], ◌∷◌, length, map, Some, refl, ap, ◌∙◌, subst, length-set, unwrap_or, ◌&&◌, ◌==◌}
use Rattle.std.specs.Prelude.{slice_get, slice_set}
use Rattle.std.specs.List.{list_all}
use Rattle.std.proofs.lemmas.List.{length-map}
use Rattle.std.proofs.lemmas.List.Folds.{list_all-map}
use Rattle.std.proofs.lemmas.Option.{slice_get_within}
use Rattle.bk_level.proofs.LevelOrder.{and_first, and_second, and_both}
use Rattle.bk_space.specs.AddrSpace.{AddrSpace}
use Rattle.bk_exec.specs.Exec.{exec}
use Rattle.bk_exec.proofs.CountedRegisters.{exec_alike}
use Rattle.bk_process.specs.NewProcess.{windows_of_process, entries_of_process, general_registers}
use Rattle.bk_process.specs.declared.process.Process.{Process}
use Rattle.bk_state.specs.State.{State, process_of}
use Rattle.bk_state.specs.Secure.{Secure, is_whole}
use Rattle.bk_state.specs.Answers.{taking_from, with_values}
use Rattle.bk_system.specs.Event.{with_resumed, slot_ended}
use Rattle.bk_system.specs.Turn.{with_process}
use Rattle.bk_laws.proofs.SecureFrame.{has_even_entries, IsSound, AreSound, secure_beside}

-- ---- what holds of every element

module _ {X : Type 0} (test : X → Bool) where
  pub all_get : (xs : List X) (n : ℕ) (x : X) → list_all test xs ≡ true → slice_get xs n ≡ Some x → test x ≡ true
  all_get [] n x all is = cc
  all_get (y ∷ xs) zero x all is = subst (λ z. test z ≡ true) (ap (λ a. unwrap_or a y) is) (and_first (test y) (list_all test xs) all)
  all_get (y ∷ xs) (suc n) x all is = all_get xs n x (and_second (test y) (list_all test xs) all) is

  pub all_set : (xs : List X) (n : ℕ) (x : X) → list_all test xs ≡ true → test x ≡ true → list_all test (slice_set xs n x) ≡ true
  all_set [] n x all new = refl
  all_set (y ∷ xs) zero x all new = and_both (test x) (list_all test xs) new (and_second (test y) (list_all test xs) all)
  all_set (y ∷ xs) (suc n) x all new = and_both (test y) _ (and_first (test y) (list_all test xs) all) (all_set xs n x (and_second (test y) (list_all test xs) all) new)

-- ---- the processes of a secure state

-- other processes, as many, which are sound
pub secure_processes : (v : State) (processes : List Process) → Secure v → length processes ≡ length v.fixed.subjects → AreSound processes →
    Secure (record v { processes = processes })
secure_processes v processes sec many sound = secure_beside v v.access processes sec sec.access sec.naming many sound

-- one process becomes another
pub secure_with_process : (v : State) (s : ℕ) (p : Process) → Secure v → IsSound p → Secure (with_process v s p)
secure_with_process v s p sec sound =
    secure_processes v (slice_set v.processes s p) sec (length-set v.processes s p ∙ sec.processes)
    (all_set has_even_entries v.processes s p sec.entries sound.0, all_set is_whole v.processes s p sec.shape.processes sound.1)

-- each paused process runs again
pub secure_slot_ended : (v : State) → Secure v → Secure (slot_ended v)
unfolding slot_ended
secure_slot_ended v sec = secure_processes v (map with_resumed v.processes) sec (length-map v.processes with_resumed ∙ sec.processes)
    (list_all-map has_even_entries with_resumed v.processes ∙ sec.entries, list_all-map is_whole with_resumed v.processes ∙ sec.shape.processes)

-- ---- a process that is there

-- it is sound
pub process_sound : (v : State) (s : ℕ) (p : Process) → Secure v → process_of v s ≡ Some p → IsSound p
process_sound v s p sec there = (all_get has_even_entries v.processes s p sec.entries there, all_get is_whole v.processes s p sec.shape.processes there)

-- it is a subject's
pub process_subject : (v : State) (s : ℕ) (p : Process) → Secure v → process_of v s ≡ Some p → s < length v.fixed.subjects
process_subject v s p sec there = subst (λ n. s < n) sec.processes (slice_get_within v.processes s p there)

-- ---- a process that is changed

-- it stays whole where no list of it becomes longer or shorter
pub still_whole : (p q : Process) → length q.windows ≡ length p.windows → length q.entries ≡ length p.entries →
    length q.registers.general ≡ length p.registers.general → is_whole p ≡ true → is_whole q ≡ true
still_whole p q windows entries general whole =
    (λ i. windows i == windows_of_process && entries i == entries_of_process && general i == general_registers) ∙ whole

length-taking_from : (n : ℕ) (values general : List ℕ) → length (taking_from n values general) ≡ length general
length-taking_from n [] general = refl
length-taking_from n (value ∷ values) general = length-taking_from (suc n) values (slice_set general n value) ∙ length-set general n value

-- the values of a call that a process finds in its registers leave it sound
pub sound_with_values : (values : List ℕ) (p : Process) → IsSound p → IsSound (with_values values p)
sound_with_values values p sound = (sound.0, still_whole p (with_values values p) refl refl (length-taking_from 0 values p.registers.general) sound.1)

-- and so do the registers that an instruction leaves
pub sound_executed : (pages : AddrSpace) (p : Process) → IsSound p → IsSound (record p { registers = (exec pages p.registers).regs })
sound_executed pages p sound = (sound.0, still_whole p (record p { registers = (exec pages p.registers).regs }) refl refl (exec_alike pages p.registers) sound.1)
