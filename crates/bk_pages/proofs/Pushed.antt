-- The two words of a fault that its process takes: where there is room for them, and what they leave.
use Rattle.std.proofs.Common.{◌≡◌, ℕ, ◌≤◌, true, List, length, Ok, Err, Result, refl, ap, ◌∙◌, arith}
use Rattle.std.specs.Prelude.{IsOk, Option, slice_set}
use Rattle.std.proofs.lemmas.List.{length-take, length-drop, length-set}
use Rattle.std.proofs.lemmas.Bool.{and_parts}
use Rattle.bk_space.specs.AddrSpace.{page_at, page_number, refused, unless, write_at, Write}
use Rattle.bk_space.specs.Counts.{counted_on}
use Rattle.bk_space.specs.Status.{word_of}
use Rattle.bk_space.specs.declared.address.TheConstants.{PAGES}
use Rattle.bk_space.specs.declared.reference.Abort.{Abort}
use Rattle.bk_space.specs.declared.reference.Mode.TheVariants.{Supervisor}
use Rattle.bk_space.specs.declared.reference.Space.TheVariants.{D}
use Rattle.bk_space.specs.declared.reference.Width.TheVariants.{Word}
use Rattle.bk_space.specs.declared.registers.Regs.{Regs}
use Rattle.bk_core.specs.Memory.{block_words}
use Rattle.bk_path.specs.Paths.{Path}
use Rattle.bk_state.specs.State.{State}
use Rattle.bk_store.specs.Stored.{Stored}
use Rattle.bk_store.specs.Joined.{AreExtentsApart}
use Rattle.bk_store.specs.Stands.{StandsFor}
use Rattle.bk_system.specs.Turn.{completes, less, with_push}
use Rattle.bk_mmu.specs.ActivePages.{ActivePage, active_page, blocks_of}
use Rattle.bk_machine.specs.Paged.{Paged, after_write, paged, rights_of}
use Rattle.bk_pages.specs.Pages.{pages_for}
use Rattle.bk_pages.specs.Pushing.{can_push, has_room, push_at, with_both}
use Rattle.bk_pages.proofs.Alike.{stands-written}
use Rattle.bk_pages.proofs.Written.{write-objects}

-- a page has as many words after a write
blocks-length : (l : List ℕ) (at value first count : ℕ) → length (block_words (slice_set l at value) first count) ≡ length (block_words l first count)
blocks-length l at value first count = simp (length-take, length-drop, length-set)

-- so the same words can be written
pub can_push-written : (bus : Paged) (w : Write) (addr : ℕ) → can_push (after_write bus w) addr ≡ can_push bus addr
unfolding write_at page_at
can_push-written bus w addr =
    let page : ActivePage = active_page bus.registers (page_number Supervisor D addr) in
    ap (λ n. completes (unless (refused (rights_of page) n Word addr true) tt)) (blocks-length bus.words _ _ page.address_field (blocks_of page))

-- two references more
pub counted-twice : (n : ℕ) → counted_on (counted_on n 1) 1 ≡ counted_on n 2
unfolding counted_on
counted-twice n = omega arith

pub counted-none : (n : ℕ) → n ≡ counted_on n 0
unfolding counted_on
counted-none n = refl

completes-ok : (r : Result (Unit {0}) Abort) → completes r ≡ true → IsOk r
completes-ok (Ok x) h = refl
completes-ok (Err abort) h = cc

-- where there is room, store and core stand for the state with both words on the stack
pub stands-pushed : (store : Stored) (apart : AreExtentsApart store) (words : List ℕ) (s : ℕ) (windows : List (Option Path)) → length windows ≤ PAGES → (v : State) (regs : Regs) → StandsFor store words v →
    has_room (paged (pages_for store s windows) words) regs ≡ true →
    StandsFor store (with_both (paged (pages_for store s windows) words) regs).words (with_push windows (less regs.supervisor 4) regs.pc (with_push windows (less regs.supervisor 2) (word_of regs.ps) v))
stands-pushed store apart words s windows short v regs stands room =
    let bus : Paged = paged (pages_for store s windows) words in
    let upper : Write = push_at (less regs.supervisor 2) (word_of regs.ps) in
    let lower : Write = push_at (less regs.supervisor 4) regs.pc in
    let open_both = and_parts (can_push bus (less regs.supervisor 2)) (can_push bus (less regs.supervisor 4)) room in
    let once = stands-written store words (after_write bus upper).words windows v upper stands
    (write-objects store apart words upper s windows short (completes-ok _ open_both.0)) in
    stands-written store (after_write bus upper).words (after_write (after_write bus upper) lower).words windows (with_push windows (less regs.supervisor 2) (word_of regs.ps) v) lower once
    (write-objects store apart (after_write bus upper).words lower s windows short (completes-ok _ (can_push-written bus upper (less regs.supervisor 4) ∙ open_both.1)))
