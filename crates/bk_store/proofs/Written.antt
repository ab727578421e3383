-- What is so once a word of a segment is written.
use Rattle.std.proofs.Common.{◌≡◌, ℕ, ◌+◌, ◌-◌, ◌*◌, ◌/◌, ◌%◌, ◌<◌, ◌≤◌, ◌≢◌, inl, inr, Bool, true, false, cond, ◌&&◌, is_some, List, take, drop}
use Rattle.std.proofs.Common.{slice_set, Option, Some, None, refl, sym, ap, ◌∙◌, arith}
use Rattle.std.specs.Prelude.{option_map, slice_index_or, nat_lt}
use Rattle.std.specs.FinMap as finite
use Rattle.std.proofs.lemmas.List.{drop-set-add, drop-set-lt, take-set-le, get_or-take, get_or-drop}
use Rattle.std.proofs.Math.Seq.{take-set-lt}
use Rattle.std.proofs.lemmas.Bool.Decides.{nat_tests}
use Rattle.std.proofs.lemmas.Bool.{and_parts}
use Rattle.std.proofs.lemmas.Option.{same_Some}
use Rattle.bk_base.proofs.MapValues.{get-map_values}
use Rattle.bk_level.specs.Levels.{Level}
use Rattle.bk_path.specs.Paths.{Path, path_cmp, is_same}
use Rattle.bk_path.specs.Orders.{path_total, path_apart, same_path, is_same-itself, ties-same}
use Rattle.bk_access.specs.Held.{Held}
use Rattle.bk_frames.specs.Extents.{Extent, words_at, AreApart}
use Rattle.bk_state.specs.State.{Object, Words}
use Rattle.bk_state.specs.Contents.{with_word}
use Rattle.bk_tree.specs.declared.place.Placed.{Placed}
use Rattle.bk_tree.specs.Objects.{Objects, IsAt}
use Rattle.bk_store.specs.Stored.{Entry, Queue, contents_in, object_of, objects_of, word_at, word_of, word_written, word_written_by}
use Rattle.bk_store.specs.Joined.{Tables, blocks_of, entries_of, entry_of, queue_at, store_of, IsStore}
use Rattle.bk_object.specs.declared.Facts.{Facts}
use Rattle.bk_object.specs.declared.kind.Kind.{Kind}
use Rattle.bk_object.specs.declared.kind.Kind.TheVariants.{Directory, Segment, Mailbox, Line}
use Rattle.bk_object.specs.Kinds.{is_segment}
use Rattle.bk_quota.specs.Charges.{passes}
use Rattle.bk_store.proofs.Entries.{get-entry, kind_is}
use Rattle.bk_store.proofs.Contents.{extent_of_kind, its_blocks, some_mapped}

-- a word of a piece
inside-set : (l : List ℕ) (at n i v : ℕ) → i < n → take n (drop at (slice_set l (at + i) v)) ≡ slice_set (take n (drop at l)) i v
inside-set l at n i v lt = ap (take n) (drop-set-add at l i v) ∙ take-set-lt n (drop at l) i v lt

-- a word above a piece
above-set : (l : List ℕ) (at n j v : ℕ) → at + n ≤ j → take n (drop at (slice_set l j v)) ≡ take n (drop at l)
above-set l at n j v le =
    ap (λ k. take n (drop at (slice_set l k v))) (omega arith) ∙ ap (take n) (drop-set-add at l (j - at) v) ∙ take-set-le n (drop at l) (j - at) v (omega arith)

-- a word below a piece
below-set : (l : List ℕ) (at n j v : ℕ) → j < at → take n (drop at (slice_set l j v)) ≡ take n (drop at l)
below-set l at n j v lt = ap (take n) (drop-set-lt at l j v lt)

-- the object of a slot
abbrev pub placed_object : Tables → List ℕ → Placed → Object
placed_object tables words a = object_of words (entry_of tables a)

pub get-object : (levels : List Level) (lines : ℕ) (tree : Objects) (held : Held) (tables : Tables) (words : List ℕ) (q : Path) →
    finite.get (objects_of (store_of levels lines tree held tables) words) q ≡ option_map (placed_object tables words) (finite.get tree q)
get-object levels lines tree held tables words q =
    get-map_values path_cmp (object_of words) (entries_of tree tables) q ∙ ap (option_map (object_of words)) (get-entry tree tables q) ∙ by (finite.get tree q)
  where
    by : (o : Option Placed) → option_map (object_of words) (option_map (entry_of tables) o) ≡ option_map (placed_object tables words) o
    by None = refl
    by (Some a) = refl

module _ (levels : List Level) (lines : ℕ) (tree : Objects) (held : Held) (tables : Tables) (keeps : IsStore lines tree held tables)
    (words : List ℕ) (path : Path) (a : Placed) (e : Extent) (at : finite.get tree path ≡ Some a) (stands : finite.get tables.frames.extents a.slot ≡ Some e)
    (i v : ℕ) (inside : i < 32 * e.blocks) where
  abbrev pub after : List ℕ
  after = slice_set words (32 * e.first + i) v

  abbrev changed : Object
  changed = record { facts = a.facts; contents = with_word i v (contents_in words (queue_at tables a.slot a.facts.kind) (finite.get tables.frames.extents a.slot)) }

  here : contents_in after (queue_at tables a.slot a.facts.kind) (finite.get tables.frames.extents a.slot) ≡ with_word i v (contents_in words (queue_at tables a.slot a.facts.kind) (finite.get tables.frames.extents a.slot))
  here = ap (contents_in after (queue_at tables a.slot a.facts.kind)) stands
      ∙ ap Words (inside-set words (32 * e.first) (32 * e.blocks) i v inside)
      ∙ sym (ap (λ x. with_word i v (contents_in words (queue_at tables a.slot a.facts.kind) x)) stands)

  other_words : (f : Extent) → AreApart e f → words_at after f ≡ words_at words f
  other_words f (inl le) = below-set words (32 * f.first) (32 * f.blocks) (32 * e.first + i) v (omega (arith, le, inside))
  other_words f (inr le) = above-set words (32 * f.first) (32 * f.blocks) (32 * e.first + i) v (omega (arith, le, inside))

  other : (slot : ℕ) (queue : Queue) → a.slot ≢ slot → contents_in after queue (finite.get tables.frames.extents slot) ≡ contents_in words queue (finite.get tables.frames.extents slot)
  other slot queue differ = by (finite.get tables.frames.extents slot) refl
    where
      by : (o : Option Extent) → finite.get tables.frames.extents slot ≡ o → contents_in after queue o ≡ contents_in words queue o
      by None is = refl
      by (Some f) is = ap Words (other_words f (keeps.extents.apart.apart a.slot slot e f stands is differ))

  pub objects-written : objects_of (store_of levels lines tree held tables) after ≡ word_written path i v (objects_of (store_of levels lines tree held tables) words)
  objects-written =
      finite.same_map path_total path_apart _ _ (λ q.
      get-object levels lines tree held tables after q
      ∙ by q (is_same q path) refl (finite.get tree q) refl
      ∙ sym (finite.get-insert path_total (objects_of (store_of levels lines tree held tables) words) path changed q ∙ (λ i. cond (ties-same q path i) (Some changed) (get-object levels lines tree held tables words q i))))
      ∙ sym (ap (word_written_by (objects_of (store_of levels lines tree held tables) words) path i v) (get-object levels lines tree held tables words path ∙ ap (option_map (placed_object tables words)) at))
    where
      by : (q : Path) (b : Bool) → is_same q path ≡ b → (o : Option Placed) → finite.get tree q ≡ o →
          option_map (placed_object tables after) o ≡ cond b (Some changed) (option_map (placed_object tables words) o)
      by q true is o has =
          ap (option_map (placed_object tables after)) (sym has ∙ ap (finite.get tree) (same_path q path is) ∙ at)
          ∙ ap (λ x. Some (record { facts = a.facts; contents = x })) here
      by q false is None has = refl
      by q false is (Some b) has = ap (λ x. Some (record { facts = b.facts; contents = x })) (other b.slot (queue_at tables b.slot b.facts.kind) (λ same.
          let one : q ≡ path = keeps.slots.own q path a.slot (ap (option_map (λ (y : Placed). y.slot)) has ∙ ap Some (sym same)) (ap (option_map (λ (y : Placed). y.slot)) at) in
          let yes : is_same q path ≡ true = ap (λ p. is_same p path) one ∙ is_same-itself path in
          cc))

-- where the word stands that an offset names
pub record WordPlace (first blocks offset : ℕ) : Type 0 where
  pub inside : offset < 64 * blocks
  pub above : 64 ≤ first
  pub below : first + blocks ≤ 3968

extent_is : (o : Option Extent) (p : ℕ × ℕ) → option_map (λ (e : Extent). (e.first, e.blocks)) o ≡ Some p → o ≡ Some (record { first = p.0; blocks = p.1 })
extent_is None p h = cc
extent_is (Some e) p h = ap (λ (p : ℕ × ℕ). Some (record { first = p.0; blocks = p.1 })) (same_Some (e.first, e.blocks) p h)

segment_has : (kind : Kind) (blocks : ℕ) → is_segment kind ≡ true → blocks_of kind blocks ≡ Some blocks
segment_has Directory blocks h = cc
segment_has Segment blocks h = refl
segment_has Mailbox blocks h = cc
segment_has (Line n) blocks h = cc

abbrev pub has_offset : (offset : ℕ) → Entry → Bool
has_offset offset e = is_segment e.facts.kind && nat_lt offset (64 * e.facts.blocks)

module _ (levels : List Level) (lines : ℕ) (tree : Objects) (held : Held) (tables : Tables) (keeps : IsStore lines tree held tables)
    (path : Path) (slot : ℕ) (facts : Facts) (at : IsAt tree path slot facts) (offset : ℕ)
    (has : passes (has_offset offset) (finite.get (entries_of tree tables) path) ≡ true) where
  parts : (is_segment facts.kind ≡ true) × (nat_lt offset (64 * facts.blocks) ≡ true)
  parts = and_parts (is_segment facts.kind) (nat_lt offset (64 * facts.blocks)) (kind_is tree tables path slot facts (has_offset offset) at has)

  abbrev stands : Option Extent
  stands = finite.get tables.frames.extents slot

  blocks_there : option_map (λ (e : Extent). e.blocks) stands ≡ blocks_of facts.kind facts.blocks
  blocks_there = its_blocks levels lines tree held tables keeps path (record { slot = slot; facts = facts }) at

  pub some_extent : (r : Option (ℕ × ℕ)) → r ≡ option_map (λ (e : Extent). (e.first, e.blocks)) stands → is_some r ≡ true
  some_extent r is = ap is_some is ∙ some_mapped (λ (e : Extent). (e.first, e.blocks)) stands ∙ extent_of_kind facts.kind facts.blocks stands blocks_there ∙ parts.0

  pub stands_at : (p : ℕ × ℕ) → option_map (λ (e : Extent). (e.first, e.blocks)) stands ≡ Some p → stands ≡ Some (record { first = p.0; blocks = p.1 })
  stands_at p is = extent_is stands p is

  pub word_place : (p : ℕ × ℕ) → option_map (λ (e : Extent). (e.first, e.blocks)) stands ≡ Some p → WordPlace p.0 p.1 offset
  word_place p is =
      let here = stands_at p is in
      let within = keeps.extents.apart.within slot (record { first = p.0; blocks = p.1 }) here in
      let same : p.1 ≡ facts.blocks = same_Some p.1 facts.blocks (sym (ap (option_map (λ (e : Extent). e.blocks)) here) ∙ blocks_there ∙ segment_has facts.kind facts.blocks parts.0) in
      let small : offset < 64 * facts.blocks = grind (arith, nat_tests, parts.1) in
      record {
        inside = omega (arith, same, small);
        above = omega (arith, within.0, keeps.extents.first);
        below = omega (arith, within.1, keeps.extents.first, keeps.extents.blocks);
      }

  -- the word of core is that of the contents
  pub word_is : (words : List ℕ) (p : ℕ × ℕ) (r : ℕ) → option_map (λ (e : Extent). (e.first, e.blocks)) stands ≡ Some p → r ≡ slice_index_or words (32 * p.0 + offset / 2) 0 →
      r ≡ word_at (offset / 2) (finite.get (objects_of (store_of levels lines tree held tables) words) path)
  word_is words p r is value =
      value
      ∙ sym (ap (word_at (offset / 2)) (get-object levels lines tree held tables words path ∙ ap (option_map (placed_object tables words)) at)
      ∙ ap (λ x. word_of (offset / 2) (contents_in words (queue_at tables slot facts.kind) x)) (stands_at p is)
      ∙ get_or-take (32 * p.1) (drop (32 * p.0) words) (offset / 2) 0 (omega (arith, (word_place p is).inside))
      ∙ get_or-drop (32 * p.0) words (offset / 2) 0)

pub index_is : (first offset : ℕ) → offset % 2 ≡ 0 → (first * 64 + offset) / 2 ≡ 32 * first + offset / 2
index_is first offset even = omega (arith, even)

pub half_inside : (offset n : ℕ) → offset < 64 * n → offset / 2 < 32 * n
half_inside offset n lt = omega (arith, lt)

pub kernel_kept : (words : List ℕ) (first i v : ℕ) → 64 ≤ first → take 2048 (slice_set words (32 * first + i) v) ≡ take 2048 words
kernel_kept words first i v le = take-set-le 2048 words (32 * first + i) v (omega (arith, le))
