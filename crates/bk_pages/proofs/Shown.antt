-- What the pages show that are set from a store, over the words of core.
use Rattle.std.proofs.Common.{◌≡◌, ℕ, ◌+◌, ◌-◌, ◌≤◌, Bool, true, false, ltb, List, length, map, Option, Some, None, refl, sym, ap, ◌∙◌, arith}
use Rattle.std.specs.Prelude.{option_map, slice_get}
use Rattle.std.specs.List.{range_with_len}
use Rattle.std.specs.FinMap as finite
use Rattle.std.proofs.lemmas.List.{get_or_past}
use Rattle.std.proofs.lemmas.Bool.{ltb-true, ltb-false}
use Rattle.std.proofs.lemmas.List.FromFn.{get_or-map-range_with_len, length-map-range_with_len}
use Rattle.std.proofs.lemmas.Option.{slice_get_past}
use Rattle.bk_space.specs.declared.address.TheConstants.{PAGES}
use Rattle.bk_space.specs.declared.reference.Rights.{Rights}
use Rattle.bk_space.specs.declared.reference.Rights.TheVariants as rights
use Rattle.bk_path.specs.Paths.{Path}
use Rattle.bk_core.specs.Memory.{block_words}
use Rattle.bk_frames.specs.Extents.{Extent, words_at}
use Rattle.bk_state.specs.State.{State}
use Rattle.bk_store.specs.Stored.{Entry, Queue, NoQueue, OfMailbox, OfLine, Stored, contents_in, extent_at, object_of, waiting_in}
use Rattle.bk_store.specs.Stands.{StandsFor}
use Rattle.bk_store.specs.Joined.{AreExtentsApart}
use Rattle.bk_store.proofs.Stands.{get-objects_of}
use Rattle.bk_system.specs.Space.{page_by, page_from, page_shown, page_with, space_of}
use Rattle.bk_mmu.specs.ActivePages.{ActivePage, active_page, loaded, non_resident}
use Rattle.bk_machine.specs.Paged.{page_of, paged, shown_in}
use Rattle.bk_pages.specs.Pages.{page_for, page_over, pages_for, rights_held}
use Rattle.bk_pages.proofs.Alike.{space-alike, state_in}

last_block : (n : ℕ) → 1 ≤ n → n - 1 + 1 ≡ n
last_block n some = omega arith

-- a page over an extent shows its words
page-loaded : (words : List ℕ) (e : Extent) (r : Rights) → 1 ≤ e.blocks → page_of (loaded e.first e.blocks r) words ≡ page_with r (words_at words e)
page-loaded words e rights.None some = refl
page-loaded words e rights.Read some = λ i. record { rights = rights.Read; words = block_words words e.first (last_block e.blocks some i) }
page-loaded words e rights.Write some = λ i. record { rights = rights.Write; words = block_words words e.first (last_block e.blocks some i) }

nothing_waits : (words : List ℕ) (r : Rights) (q : Queue) → page_of non_resident words ≡ page_from r (waiting_in q)
nothing_waits words r NoQueue = refl
nothing_waits words r (OfMailbox waiting) = refl
nothing_waits words r (OfLine bytes) = refl

-- the page over the extent of an object is the object's
page-entry : (words : List ℕ) (r : Rights) (o : Option Entry) → ((x : Extent) → extent_at o ≡ Some x → 1 ≤ x.blocks) → page_of (page_over (extent_at o) r) words ≡ page_by r (option_map (object_of words) o)
page-entry words r None some = refl
page-entry words r (Some e) some = by e.extent refl
  where
    by : (x : Option Extent) → e.extent ≡ x → page_of (page_over x r) words ≡ page_from r (contents_in words e.queue x)
    by None is = nothing_waits words r e.queue
    by (Some x) is = page-loaded words x r (some x is)

module _ (store : Stored) (apart : AreExtentsApart store) (words : List ℕ) (s : ℕ) where
  -- the page of a window
  pub page-window : (window : ℕ) (o : Option (Option Path)) → page_of (page_for store s window o) words ≡ page_shown (state_in store words) s window o
  page-window window None = refl
  page-window window (Some None) = refl
  page-window window (Some (Some path)) =
      page-entry words (rights_held store s window path) (finite.get store.objects path) (λ x is. (apart.sized path x is).0)
      ∙ sym (ap (page_by (rights_held store s window path)) (get-objects_of store words path))

  module _ (windows : List (Option Path)) where
    abbrev pub page_at : ℕ → ActivePage
    page_at window = page_for store s window (slice_get windows window)

    -- the registers of the page of a number
    pub active-is : (n : ℕ) → length windows ≤ PAGES → active_page (pages_for store s windows) n ≡ page_at n
    unfolding pages_for
    active-is n short = by (ltb n PAGES) refl
      where
        by : (b : Bool) → ltb n PAGES ≡ b → active_page (map page_at (range_with_len 0 PAGES)) n ≡ page_at n
        by true is = get_or-map-range_with_len page_at 0 PAGES n n non_resident (ltb-true n PAGES is) (omega arith)
        by false is =
            let le : PAGES ≤ n = ltb-false n PAGES is in
            get_or_past (map page_at (range_with_len 0 PAGES)) n non_resident (omega (arith, length-map-range_with_len page_at 0 PAGES, le))
            ∙ sym (ap (page_for store s n) (slice_get_past windows n (omega (arith, short, le))))

    pub shown-is : length windows ≤ PAGES → shown_in (paged (pages_for store s windows) words) ≡ space_of (state_in store words) s windows
    unfolding space_of
    shown-is short = λ i n. (ap (λ (p : ActivePage). page_of p words) (active-is n short) ∙ page-window n (slice_get windows n)) i

    -- so they show the space of each state that the store stands for
    pub shown-space : (v : State) → length windows ≤ PAGES → StandsFor store words v → shown_in (paged (pages_for store s windows) words) ≡ space_of v s windows
    shown-space v short stands = shown-is short ∙ space-alike (state_in store words) v stands.objects stands.access s windows
