-- The kernel's blocks of core, below every page.
use Rattle.std.proofs.Common.{◌≡◌, ℕ, ◌<◌, ◌≤◌, ◌-◌, ◌*◌, ◌/◌, ◌==◌, Bool, true, false, if◌then◌else◌}
use Rattle.std.proofs.Common.{List, set, refl, sym, ap, ◌∙◌, subst, arith, Option, Some, None, Result, Ok, Err}
use Rattle.std.proofs.lemmas.List.{take-set-le, drop-set-lt}
use Rattle.std.proofs.lemmas.Bool.Decides.{nat_tests}
use Rattle.std.specs.Prelude.{IsOk, OnOk, OnErr}
use Rattle.bk_space.specs.declared.reference.Abort.{Abort}
use Rattle.bk_space.specs.declared.reference.Abort.TheVariants.{Odd}
use Rattle.bk_space.specs.declared.reference.Width.{Width}
use Rattle.bk_space.specs.declared.registers.Regs.{Regs}
use Rattle.bk_space.specs.AddrSpace.{Write, applied, is_odd, offset_of, page_at, page_number, refusal, unless, write_at}
use Rattle.bk_space.specs.Parts.{merged}
use Rattle.bk_space.specs.Status.{word_of}
use Rattle.bk_exec.specs.Laws.{IsAllowed}
use Rattle.bk_object.specs.Limits.{bytes_of_block, words_of_block}
use Rattle.bk_core.specs.Memory.{Memory, kernel_blocks, word_at}
use Rattle.bk_mmu.specs.ActivePages.{ActivePage, ActivePages, active_page, refused_by}
use Rattle.bk_machine.specs.Paged.{Paged, after_write, paged, physical_at, shown_in, with_value}
use Rattle.bk_exec.specs.declared.event.Event.{Event}
use Rattle.bk_machine.specs.Machine.{kernel_words, last_of, other_words}
use Rattle.bk_machine.specs.Trap.{kernel_stack, trap_stack, trapped, trapped_by, vector_of}
use Rattle.bk_machine.specs.Vectors.{HasVectors}
use Rattle.bk_machine.proofs.Located.{above_kernel, passes, same_refusal}
use Rattle.bk_machine.proofs.VectorLemmas.{vectors-kept, vectors-trapped}

-- a word or a byte above the kernel's blocks
with_value-kernel : (width : Width) (words : List ℕ) (at value : ℕ) → bytes_of_block * kernel_blocks ≤ at → kernel_words (with_value width words at value) ≡ kernel_words words
with_value-kernel width words at value above = take-set-le (words_of_block * kernel_blocks) words (at / 2) (merged width at value (word_at words at)) (omega (arith, above))

none-unless : {X : Type 0} (o : Option Abort) (x : X) → IsOk (unless o x) → o ≡ None
none-unless None x h = refl
none-unless (Some e) x h = cc

none-odd : (odd : Bool) (o : Option Abort) → (if odd then Some Odd else o) ≡ None → o ≡ None
none-odd true o h = cc
none-odd false o h = h

-- where a write completes, its physical address lies above the kernel's blocks
physical-above : (pages : ActivePages) (core : Memory) (w : Write) → IsOk (write_at (shown_in (paged pages.registers core.words)) w.mode w.space w.width w.addr) →
    bytes_of_block * kernel_blocks ≤ physical_at pages.registers w.mode w.space w.addr
unfolding write_at page_at
physical-above pages core w completes =
    let n : ℕ = page_number w.mode w.space w.addr in
    let page : ActivePage = active_page pages.registers n in
    above_kernel page (offset_of w.addr) (pages.placed n)
    (passes page (offset_of w.addr) true (none-odd (is_odd w.width w.addr) (refused_by page (offset_of w.addr) true)
    (sym (same_refusal page core.words w.width w.addr true (pages.placed n) core.full) ∙ none-unless (refusal (shown_in (paged pages.registers core.words) n) w.width w.addr true) tt completes)))

-- so it leaves the kernel's blocks
pub write-kernel : (pages : ActivePages) (core : Memory) (w : Write) → IsOk (write_at (shown_in (paged pages.registers core.words)) w.mode w.space w.width w.addr) →
    kernel_words (after_write (paged pages.registers core.words) w).words ≡ kernel_words core.words
write-kernel pages core w completes = with_value-kernel w.width core.words (physical_at pages.registers w.mode w.space w.addr) w.value (physical-above pages core w completes)

pub applied-kernel : (pages : ActivePages) (core : Memory) (w : Option Write) → IsAllowed (shown_in (paged pages.registers core.words)) w →
    kernel_words (applied after_write (paged pages.registers core.words) w).words ≡ kernel_words core.words
applied-kernel pages core None allowed = refl
applied-kernel pages core (Some w) allowed = write-kernel pages core w allowed

-- and the registers
pub applied-registers : (s : Paged) (w : Option Write) → (applied after_write s w).registers ≡ s.registers
applied-registers s None = refl
applied-registers s (Some w) = refl

-- what a write leaves of the kernel's blocks, whether it completes or not
pub answered-kernel : (pages : ActivePages) (core : Memory) (left : Paged) (w : Write) (result : Result (Unit {0}) Abort) →
    result ≡ write_at (shown_in (paged pages.registers core.words)) w.mode w.space w.width w.addr → OnOk result (left ≡ after_write (paged pages.registers core.words) w) →
    OnErr result (left ≡ paged pages.registers core.words) → kernel_words left.words ≡ kernel_words core.words
answered-kernel pages core left w (Ok x) is written kept =
    ap (λ (s : Paged). kernel_words s.words) written ∙ write-kernel pages core w (subst (λ (r : Result (Unit {0}) Abort). IsOk r) is refl)
answered-kernel pages core left w (Err e) is written kept = ap (λ (s : Paged). kernel_words s.words) kept

-- a trap leaves all blocks but the kernel's
pub trapped-others : (at : Option ℕ) (process : Regs) (words : List ℕ) → other_words (trapped_by at process words) ≡ other_words words
trapped-others None process words = refl
trapped-others (Some at) process words =
    drop-set-lt (words_of_block * kernel_blocks) (set words ((kernel_stack - 2) / 2) (word_of process.ps)) (trap_stack / 2) process.pc (omega arith)
    ∙ drop-set-lt (words_of_block * kernel_blocks) words ((kernel_stack - 2) / 2) (word_of process.ps) (omega arith)

-- an instruction, and then its trap, leaves the vectors
pub ran-vectors : (pages : ActivePages) (core : Memory) (old after : List ℕ) (left : Paged) (write : Option Write) (event : Event) (process : Regs) → core.words ≡ old →
    IsAllowed (shown_in (paged pages.registers core.words)) write → left ≡ applied after_write (paged pages.registers core.words) write → after ≡ trapped event process left.words → HasVectors old → HasVectors after
ran-vectors pages core old after left write event process was allowed written is has =
    subst (λ words. HasVectors words) (sym is)
    (vectors-trapped (vector_of event) process left.words (vectors-kept old left.words (ap (λ (s : Paged). kernel_words s.words) written ∙ applied-kernel pages core write allowed ∙ ap kernel_words was) has))

-- the last instruction, where one has run and the registers were not set since
pub last-told : (runs : ℕ) (before after process told : Regs) (event : Event) → 0 < runs → before ≡ told →
    last_of runs false before after process event ≡ Some (record { before = told; after = process; event = event })
last-told runs before after process told event some is = rw (ran runs some) (λ i. Some (record { before = is i; after = process; event = event }))
  where
    ran : (n : ℕ) → 0 < n → (n == 0) ≡ false
    ran n more = grind (arith, nat_tests)
