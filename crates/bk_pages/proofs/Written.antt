-- A write to a page of the machine is the write to the segment that its window shows.
use Rattle.std.proofs.Common.{◌≡◌, ℕ, ◌+◌, ◌-◌, ◌*◌, ◌/◌, ◌%◌, ◌<◌, ◌≤◌, ◌≢◌, ◌==◌, inl, inr, Bool, true, false, cond, if◌then◌else◌}
use Rattle.std.proofs.Common.{List, length, take, drop, slice_set, Option, Some, None, refl, sym, ap, subst, ◌∙◌, arith, length-take}
use Rattle.std.specs.Prelude.{IsOk, ◌^◌, option_map, slice_get, slice_index}
use Rattle.std.specs.FinMap as finite
use Rattle.std.proofs.lemmas.List.{drop-drop, drop-set-add, drop-set-lt, take-set-le, get_or-take, get_or-drop}
use Rattle.std.proofs.Math.Seq.{take-set-lt}
use Rattle.bk_space.specs.declared.reference.Width.{Width}
use Rattle.bk_space.specs.declared.reference.Width.TheVariants.{Word, Byte}
use Rattle.bk_space.specs.declared.reference.Rights.{Rights}
use Rattle.bk_space.specs.declared.reference.Rights.TheVariants as rights
use Rattle.bk_space.specs.AddrSpace.{Completes, Write, applied, offset_of, page_at, page_number, write_at}
use Rattle.bk_space.specs.Parts.{merged}
use Rattle.bk_space.specs.declared.address.TheConstants.{PAGES}
use Rattle.bk_space.proofs.ReferenceLemmas.{Completes-ok}
use Rattle.bk_core.specs.Memory.{block_words, kernel_blocks, word_at}
use Rattle.bk_path.specs.Paths.{Path, is_same}
use Rattle.bk_path.specs.Orders.{path_total, path_apart, same_path, is_same-itself, ties-same}
use Rattle.bk_frames.specs.Extents.{AreApart, Extent, words_at}
use Rattle.bk_state.specs.State.{Object, State, Words}
use Rattle.bk_state.specs.Contents.{with_contents, with_word}
use Rattle.bk_state.specs.RowCalls.{changed_at, changed_by}
use Rattle.bk_store.specs.Stored.{Entry, Queue, Stored, contents_in, extent_at, extent_in, object_of, objects_of, word_written, word_written_by}
use Rattle.bk_store.specs.Joined.{AreExtentsApart}
use Rattle.bk_store.specs.Stands.{StandsFor}
use Rattle.bk_store.proofs.Stands.{get-objects_of}
use Rattle.bk_system.specs.Turn.{stored_in, written, written_by}
use Rattle.bk_mmu.specs.ActivePages.{ActivePage, active_page, loaded, physical}
use Rattle.bk_machine.specs.Machine.{other_words}
use Rattle.bk_exec.specs.Laws.{IsAllowed}
use Rattle.bk_machine.specs.Paged.{Paged, after_write, page_of, paged, shown_in, with_value}
use Rattle.bk_pages.specs.Pages.{page_for, page_over, pages_for, rights_held}
use Rattle.bk_pages.proofs.Alike.{state_in, stands-written}
use Rattle.bk_pages.proofs.Shown.{active-is}

-- a word of a piece, above a piece, and below it
inside-set : (l : List ℕ) (at n i v : ℕ) → i < n → take n (drop at (slice_set l (at + i) v)) ≡ slice_set (take n (drop at l)) i v
inside-set l at n i v lt = ap (take n) (drop-set-add at l i v) ∙ take-set-lt n (drop at l) i v lt

above-set : (l : List ℕ) (at n j v : ℕ) → at + n ≤ j → take n (drop at (slice_set l j v)) ≡ take n (drop at l)
above-set l at n j v le =
    ap (λ k. take n (drop at (slice_set l k v))) (omega arith) ∙ ap (take n) (drop-set-add at l (j - at) v) ∙ take-set-le n (drop at l) (j - at) v (omega arith)

below-set : (l : List ℕ) (at n j v : ℕ) → j < at → take n (drop at (slice_set l j v)) ≡ take n (drop at l)
below-set l at n j v lt = ap (take n) (drop-set-lt at l j v lt)

-- what stands above the kernel's blocks
above-kernel : (words : List ℕ) (first : ℕ) → kernel_blocks ≤ first → drop (32 * first) words ≡ drop (32 * first - 2048) (other_words words)
above-kernel words first above = sym (drop-drop (32 * first - 2048) 2048 words ∙ ap (λ k. drop k words) (omega (arith, above)))

module _ (store : Stored) (apart : AreExtentsApart store) where
  -- the objects look at the words above the kernel's blocks alone
  pub objects-same : (a b : List ℕ) → other_words a ≡ other_words b → objects_of store a ≡ objects_of store b
  objects-same a b same = finite.same_map path_total path_apart _ _ (λ q. get-objects_of store a q ∙ by q (finite.get store.objects q) refl ∙ sym (get-objects_of store b q))
    where
      of_extent : (q : Path) (queue : Queue) (x : Option Extent) → extent_in store q ≡ x → contents_in a queue x ≡ contents_in b queue x
      of_extent q queue None is = refl
      of_extent q queue (Some x) is =
          let above = (apart.within q x is).0 in
          ap (λ ws. Words (take (32 * x.blocks) ws)) (above-kernel a x.first above ∙ ap (drop (32 * x.first - 2048)) same ∙ sym (above-kernel b x.first above))

      by : (q : Path) (o : Option Entry) → finite.get store.objects q ≡ o → option_map (object_of a) o ≡ option_map (object_of b) o
      by q None is = refl
      by q (Some e) is = ap (λ c. Some (record { facts = e.facts; contents = c })) (of_extent q e.queue e.extent (ap extent_at is))

  -- a word of core is written in the extent of an object
  module _ (words : List ℕ) (path : Path) (e : Entry) (x : Extent) (there : finite.get store.objects path ≡ Some e) (stands : e.extent ≡ Some x) (i v : ℕ) (inside : i < 32 * x.blocks) where
    abbrev after : List ℕ
    after = slice_set words (32 * x.first + i) v

    abbrev changed : Object
    changed = record { facts = e.facts; contents = with_word i v (contents_in words e.queue e.extent) }

    here : contents_in after e.queue e.extent ≡ with_word i v (contents_in words e.queue e.extent)
    here = ap (contents_in after e.queue) stands ∙ ap Words (inside-set words (32 * x.first) (32 * x.blocks) i v inside) ∙ sym (ap (λ y. with_word i v (contents_in words e.queue y)) stands)

    kept_words : (f : Extent) → AreApart x f → words_at after f ≡ words_at words f
    kept_words f (inl le) = below-set words (32 * f.first) (32 * f.blocks) (32 * x.first + i) v (omega (arith, le, inside))
    kept_words f (inr le) = above-set words (32 * f.first) (32 * f.blocks) (32 * x.first + i) v (omega (arith, le, inside))

    kept : (q : Path) (queue : Queue) (y : Option Extent) → path ≢ q → extent_in store q ≡ y → contents_in after queue y ≡ contents_in words queue y
    kept q queue None differ is = refl
    kept q queue (Some f) differ is = ap Words (kept_words f (apart.apart path q x f (ap extent_at there ∙ stands) is differ))

    -- it is the word of that object, and no other object changes
    pub objects-written : objects_of store after ≡ word_written path i v (objects_of store words)
    objects-written =
        finite.same_map path_total path_apart _ _ (λ q.
        get-objects_of store after q
        ∙ by q (is_same q path) refl (finite.get store.objects q) refl
        ∙ sym (finite.get-insert path_total (objects_of store words) path changed q ∙ (λ k. cond (ties-same q path k) (Some changed) (get-objects_of store words q k))))
        ∙ sym (ap (word_written_by (objects_of store words) path i v) (get-objects_of store words path ∙ ap (option_map (object_of words)) there))
      where
        by : (q : Path) (b : Bool) → is_same q path ≡ b → (o : Option Entry) → finite.get store.objects q ≡ o →
            option_map (object_of after) o ≡ cond b (Some changed) (option_map (object_of words) o)
        by q true is o has =
            ap (option_map (object_of after)) (sym has ∙ ap (finite.get store.objects) (same_path q path is) ∙ there)
            ∙ ap (λ c. Some (record { facts = e.facts; contents = c })) here
        by q false is None has = refl
        by q false is (Some f) has = ap (λ c. Some (record { facts = f.facts; contents = c })) (kept q f.queue f.extent (λ same.
            let yes : is_same q path ≡ true = ap (λ p. is_same p path) (sym same) ∙ is_same-itself path in
            cc) (ap extent_at has))

-- a word merged at an address depends on which half of the word that is
merged-half : (width : Width) (at addr value word : ℕ) → at % 2 ≡ addr % 2 → merged width at value word ≡ merged width addr value word
merged-half Word at addr value word half = refl
merged-half Byte at addr value word half = ap (λ n. if n == 0 then word / 2 ^ 8 * 2 ^ 8 + value else value * 2 ^ 8 + word % 2 ^ 8) half

-- the word of a segment is that of core
word-of : (words : List ℕ) (x : Extent) (i : ℕ) → i < 32 * x.blocks → slice_index (words_at words x) i ≡ slice_index words (32 * x.first + i)
word-of words x i lt = get_or-take (32 * x.blocks) (drop (32 * x.first) words) i 0 lt ∙ get_or-drop (32 * x.first) words i 0

-- an offset inside the page is one inside the extent
inside_blocks : (words : List ℕ) (x : Extent) (offset : ℕ) → 1 ≤ x.blocks → offset < 2 * length (block_words words x.first (x.blocks - 1 + 1)) → offset < 64 * x.blocks
inside_blocks words x offset some inside = omega (arith, length-take (32 * (x.blocks - 1 + 1)) (drop (32 * x.first) words), some, inside)

module _ (store : Stored) (apart : AreExtentsApart store) (words : List ℕ) (w : Write) where
  abbrev offset : ℕ
  offset = offset_of w.addr

  abbrev Passes : ActivePage → Type 0
  Passes page = Completes (page_of page words) w.width w.addr true

  abbrev left : ActivePage → List ℕ
  left page = with_value w.width words (physical page offset) w.value

  -- in a page that may be written over an extent
  module _ (path : Path) (e : Entry) (x : Extent) (there : finite.get store.objects path ≡ Some e) (stands : e.extent ≡ Some x) (inside : offset < 64 * x.blocks) where
    abbrev at : ℕ
    at = 64 * (x.first + offset / 64) + offset % 64

    abbrev merged_there : ℕ
    merged_there = merged w.width at w.value (word_at words at)

    place : at / 2 ≡ 32 * x.first + offset / 2
    place = omega arith

    value-is : merged_there ≡ merged w.width w.addr w.value (slice_index (words_at words x) (offset / 2))
    value-is =
        merged-half w.width at w.addr w.value (word_at words at) (omega arith)
        ∙ ap (merged w.width w.addr w.value) (ap (slice_index words) place ∙ sym (word-of words x (offset / 2) (omega (arith, inside))))

    object-is : finite.get (objects_of store words) path ≡ Some (record { facts = e.facts; contents = Words (words_at words x) })
    object-is = get-objects_of store words path ∙ ap (option_map (object_of words)) there ∙ ap (λ y. Some (record { facts = e.facts; contents = contents_in words e.queue y })) stands

    segment-written : objects_of store (slice_set words (at / 2) merged_there) ≡ (changed_at (state_in store words) path (with_contents (stored_in w))).objects
    segment-written =
        ap (λ k. objects_of store (slice_set words k merged_there)) place
        ∙ objects-written store apart words path e x there stands (offset / 2) merged_there (omega (arith, inside))
        ∙ ap (word_written_by (objects_of store words) path (offset / 2) merged_there) object-is
        ∙ ap (λ n. word_written_by (objects_of store words) path (offset / 2) n (Some (record { facts = e.facts; contents = Words (words_at words x) }))) value-is
        ∙ sym (ap (λ o. (changed_by (state_in store words) path (with_contents (stored_in w)) o).objects) object-is)

  by_rights : (path : Path) (e : Entry) (x : Extent) (r : Rights) → finite.get store.objects path ≡ Some e → e.extent ≡ Some x → Passes (loaded x.first x.blocks r) →
      objects_of store (left (loaded x.first x.blocks r)) ≡ (changed_at (state_in store words) path (with_contents (stored_in w))).objects
  by_rights path e x rights.None there stands passes = let absent = passes.resident in cc
  by_rights path e x rights.Read there stands passes = let forbidden = passes.allowed in cc
  by_rights path e x rights.Write there stands passes =
      let some = (apart.sized path x (ap extent_at there ∙ stands)).0 in
      segment-written path e x there stands (inside_blocks words x offset some passes.inside)

  by_extent : (path : Path) (e : Entry) (o : Option Extent) (r : Rights) → finite.get store.objects path ≡ Some e → e.extent ≡ o → Passes (page_over o r) →
      objects_of store (left (page_over o r)) ≡ (changed_at (state_in store words) path (with_contents (stored_in w))).objects
  by_extent path e None r there stands passes = let absent = passes.resident in cc
  by_extent path e (Some x) r there stands passes = by_rights path e x r there stands passes

  by_entry : (path : Path) (o : Option Entry) (r : Rights) → finite.get store.objects path ≡ o → Passes (page_over (extent_at o) r) →
      objects_of store (left (page_over (extent_at o) r)) ≡ (changed_at (state_in store words) path (with_contents (stored_in w))).objects
  by_entry path None r there passes = let absent = passes.resident in cc
  by_entry path (Some e) r there passes = by_extent path e e.extent r there refl passes

  by_window : (s window : ℕ) (o : Option (Option Path)) → Passes (page_for store s window o) → objects_of store (left (page_for store s window o)) ≡ (written_by (state_in store words) w o).objects
  by_window s window None passes = let absent = passes.resident in cc
  by_window s window (Some None) passes = let absent = passes.resident in cc
  by_window s window (Some (Some path)) passes = by_entry path (finite.get store.objects path) (rights_held store s window path) refl passes

  -- what a write that completes leaves of the objects
  pub write-objects : (s : ℕ) (windows : List (Option Path)) → length windows ≤ PAGES → IsOk (write_at (shown_in (paged (pages_for store s windows) words)) w.mode w.space w.width w.addr) →
      objects_of store (after_write (paged (pages_for store s windows) words) w).words ≡ (written windows (state_in store words) w).objects
  unfolding written write_at page_at
  write-objects s windows short ok =
      let n : ℕ = page_number w.mode w.space w.addr in
      let page : ActivePage = active_page (pages_for store s windows) n in
      let is : page ≡ page_for store s n (slice_get windows n) = active-is store apart words s windows n short in
      ap (λ p. objects_of store (left p)) is
      ∙ by_window s n (slice_get windows n) (subst Passes is (Completes-ok tt (page_of page words) w.width w.addr true ok))

module _ (store : Stored) (apart : AreExtentsApart store) (words : List ℕ) (s : ℕ) (windows : List (Option Path)) (short : length windows ≤ PAGES) (v : State) (stands : StandsFor store words v) where
  abbrev pub bus : Paged
  bus = paged (pages_for store s windows) words

  -- store and core stand for the state after at most one write that completes
  pub stands-applied : (o : Option Write) → IsAllowed (shown_in bus) o → StandsFor store (applied after_write bus o).words (applied (written windows) v o)
  stands-applied None allowed = stands
  stands-applied (Some w) allowed = stands-written store words (after_write bus w).words windows v w stands (write-objects store apart words w s windows short allowed)

-- and they do as long as the words above the kernel's blocks stay
pub stands-same : (store : Stored) (a b : List ℕ) (v : State) → AreExtentsApart store → other_words a ≡ other_words b → StandsFor store b v → StandsFor store a v
stands-same store a b v apart same stands = record {
  levels = stands.levels;
  lines = stands.lines;
  objects = objects-same store apart a b same ∙ stands.objects;
  access = stands.access;
}
