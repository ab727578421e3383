-- What is so once an object is created.
use Rattle.std.proofs.Common.{List, ◌≡◌, ◌≢◌, ℕ, ◌+◌, ◌<◌, ◌≤◌, Bool, true, false, cond, ◌&&◌, [], length, length-set, Option, Some, None, refl}
use Rattle.std.proofs.Common.{sym, ap, subst, ◌∙◌, arith, is_some, Result, Err, ◌↔◌}
use Rattle.std.specs.Prelude.{option_map, unwrap_or, slice_set, slice_index_or}
use Rattle.std.specs.Ordering.{nat_cmp, eq_by_cmp}
use Rattle.std.specs.Cmp.{nat_cmp_total}
use Rattle.std.specs.FinMap as finite
use Rattle.std.specs.FinSet as set
use Rattle.std.proofs.lemmas.List.{get_or-set_same, get_or-set_other}
use Rattle.std.proofs.lemmas.Option.{same_Some}
use Rattle.bk_base.proofs.MapValues.{get-map_values, total-map_values}
use Rattle.bk_base.proofs.Totals.{total_of, total-insert}
use Rattle.bk_level.specs.Levels.{Level}
use Rattle.bk_object.specs.declared.Facts.{Facts}
use Rattle.bk_object.specs.declared.kind.Kind.{Kind}
use Rattle.bk_object.specs.declared.kind.Kind.TheVariants.{Directory, Segment, Mailbox, Line}
use Rattle.bk_object.specs.Modes.{has}
use Rattle.bk_path.specs.Paths.{Path, path_cmp, is_same}
use Rattle.bk_path.specs.Orders.{path_total, path_apart, same_path, is_same-itself, ties-same}
use Rattle.bk_quota.specs.Charges.{passes, quota_in}
use Rattle.bk_access.specs.Held.{Held, holds}
use Rattle.bk_frames.specs.Extents.{Extent, Standing, KeepsRoom, IsApart, free_in, segments_of, sizes_of, taken_in, words_at}
use Rattle.bk_frames.proofs.Entries.{number_itself, same_number}
use Rattle.bk_state.specs.Contents.{new_contents}
use Rattle.bk_state.specs.State.{Triple, Contents, Words}
use Rattle.bk_state.proofs.Orders.{triple_total}
use Rattle.bk_tree.specs.declared.place.Placed.{Placed}
use Rattle.bk_tree.specs.Objects.{Objects, IsAt, facts_of}
use Rattle.bk_store.specs.Stored.{Queue, OfMailbox, OfLine, Stored, Fits, IsCreated, IsFreeLine, contents_in, fresh, objects_of, waiting_in}
use Rattle.bk_store.specs.Joined.{Tables, slot_in, is_held, access_of, entries_of, entry_of, new_words, no_mail, or_zero, queue_at}
use Rattle.bk_store.specs.Joined.{segment_blocks, size_of, store_of, with_new_input, with_some, HasExtents, HasSlots, IsStore}
use Rattle.bk_store.proofs.Triples.{in_range, member, triple_apart}
use Rattle.bk_store.proofs.Entries.{get-entry}
use Rattle.bk_tree.specs.Kept.{Fits as FitsTree}
use Rattle.bk_tree.specs.Needs.{blocks_in}
use Rattle.bk_tree.specs.Refused.{Refuses}
use Rattle.bk_tree.specs.declared.tree.TreeNo.{TreeNo}
use Rattle.bk_tree.specs.declared.tree.TreeNo.TheVariants.{Taken, Quota}
use Rattle.bk_store.proofs.Cells.{blocks-same, fits-same}
use Rattle.bk_store.proofs.Contents.{none_of_map, some_mapped}
use Rattle.bk_store.proofs.Looked.{has-none}
use Rattle.bk_store.proofs.Written.{get-object, placed_object}

numbers_differ : (m n : ℕ) → m ≢ n → eq_by_cmp nat_cmp m n ≡ false
numbers_differ m n apart = by (eq_by_cmp nat_cmp m n) refl
  where
    by : (b : Bool) → eq_by_cmp nat_cmp m n ≡ b → b ≡ false
    by true e = absurd (apart (same_number m n e))
    by false e = refl

module _ {Y : Type 0} (m : finite.FinMap nat_cmp Y) (slot : ℕ) where
  get-with_some-same : (y : Option Y) → finite.get m slot ≡ None → finite.get (with_some m slot y) slot ≡ y
  get-with_some-same None free = free
  get-with_some-same (Some y) free = finite.get-insert nat_cmp_total m slot y slot ∙ ap (λ b. cond b (Some y) (finite.get m slot)) (number_itself slot)

  get-with_some-other : (y : Option Y) (s : ℕ) → s ≢ slot → finite.get (with_some m slot y) s ≡ finite.get m s
  get-with_some-other None s apart = refl
  get-with_some-other (Some y) s apart = finite.get-insert nat_cmp_total m slot y s ∙ ap (λ b. cond b (Some y) (finite.get m s)) (numbers_differ s slot apart)

-- contents by the words at a slot
abbrev contents_of : Queue → Option (List ℕ) → Contents
contents_of queue None = waiting_in queue
contents_of queue (Some words) = Words words

contents-by_words : (words : List ℕ) (queue : Queue) (frames : Standing) (slot : ℕ) → contents_in words queue (finite.get frames.extents slot) ≡ contents_of queue (finite.get (segments_of frames words) slot)
contents-by_words words queue frames slot = by (finite.get frames.extents slot) ∙ ap (contents_of queue) (sym (get-map_values nat_cmp (words_at words) frames.extents slot))
  where
    by : (o : Option Extent) → contents_in words queue o ≡ contents_of queue (option_map (words_at words) o)
    by None = refl
    by (Some e) = refl

sizes_total : (frames : Standing) → total_of (λ s n. n) (finite.entries (sizes_of frames)) ≡ taken_in frames
sizes_total frames = total-map_values nat_cmp (λ e. e.blocks) (λ s n. n) frames.extents

total-with_some : (m : finite.FinMap nat_cmp ℕ) (slot : ℕ) (y : Option ℕ) → finite.get m slot ≡ None → total_of (λ s n. n) (finite.entries (with_some m slot y)) ≡ or_zero y + total_of (λ s n. n) (finite.entries m)
total-with_some m slot None free = omega arith
total-with_some m slot (Some y) free = total-insert nat_cmp finite.nat_cmp-IsAntisymmetric nat_cmp_total (λ s n. n) m slot y free

-- each slot is below root's quota, and no two paths have one
pub record HasOwnSlots (m : Objects) : Type 0 where
  pub within : (p : Path) (k : ℕ) (f : Facts) → IsAt m p k f → k < quota_in (λ (a : Placed). a.facts) m []
  pub apart : (p q : Path) (k : ℕ) (f g : Facts) → IsAt m p k f → IsAt m q k g → p ≡ q

pub own_slots : (new m : Objects) → new ≡ m →
    ((p : Path) (k : ℕ) (f : Facts) → IsAt new p k f → k < quota_in (λ (a : Placed). a.facts) new []) →
    ((p q : Path) (k : ℕ) (f g : Facts) → IsAt new p k f → IsAt new q k g → p ≡ q) → HasOwnSlots m
own_slots new m is within apart = subst HasOwnSlots is (record { within = within; apart = apart })

pub none_is : {A : Type 0} (o : Option A) → is_some o ≡ false → o ≡ None
none_is None e = refl
none_is (Some x) e = cc

-- the blocks of all segments fit beside the kernel's
pub room_in : (new m : Objects) → new ≡ m → 1 + blocks_in facts_of new ≤ quota_in facts_of new [] → quota_in facts_of new [] ≤ 3904 → 1 + total_of (λ p (a : Placed). size_of a.facts) (finite.entries m) ≤ 3904
room_in new m is blocks quota =
    let all : 1 + blocks_in facts_of new ≤ 3904 = omega (arith, blocks, quota) in
    let there : 1 + blocks_in facts_of m ≤ 3904 = subst (λ m. 1 + blocks_in facts_of m ≤ 3904) is all in
    omega (arith, there, blocks-same (finite.entries m))

-- the tree with an object more, whose slot the law of slots gives
module _ (tree : Objects) (path : Path) (slot : ℕ) (facts : Facts) (free : finite.get tree path ≡ None)
    (law : HasOwnSlots (finite.insert tree path (record { slot = slot; facts = facts })))
    (below : path ≢ []) where
  abbrev pub placed : Placed
  placed = record { slot = slot; facts = facts }

  abbrev pub grown : Objects
  grown = finite.insert tree path placed

  get-grown : (q : Path) → finite.get grown q ≡ cond (is_same q path) (Some placed) (finite.get tree q)
  get-grown q = finite.get-insert path_total tree path placed q ∙ ap (λ b. cond b (Some placed) (finite.get tree q)) (ties-same q path)

  here : finite.get grown path ≡ Some placed
  here = get-grown path ∙ ap (λ b. cond b (Some placed) (finite.get tree path)) (is_same-itself path)

  still : (q : Path) (a : Placed) → finite.get tree q ≡ Some a → finite.get grown q ≡ Some a
  still q a h = get-grown q ∙ by (is_same q path) refl
    where
      by : (b : Bool) → is_same q path ≡ b → cond b (Some placed) (finite.get tree q) ≡ Some a
      by true e = let none : finite.get tree q ≡ None = ap (finite.get tree) (same_path q path e) ∙ free in cc
      by false e = h

  -- an object that is there now is the new one, or was there
  one_of : {P : Type 0} (p : Path) (a : Placed) → finite.get grown p ≡ Some a → (p ≡ path → placed ≡ a → P) → (finite.get tree p ≡ Some a → P) → P
  one_of {P} p a h new_one old_one = by (is_same p path) refl (sym (get-grown p) ∙ h)
    where
      by : (b : Bool) → is_same p path ≡ b → cond b (Some placed) (finite.get tree p) ≡ Some a → P
      by true is e = new_one (same_path p path is) (same_Some placed a e)
      by false is e = old_one e

  slot_placed : {P : Type 0} (m : Objects) (p : Path) (k : ℕ) → slot_in m p ≡ Some k → ((f : Facts) → IsAt m p k f → P) → P
  slot_placed {P} m p k h use_it = by (finite.get m p) refl h
    where
      by : (o : Option Placed) → finite.get m p ≡ o → option_map (λ (a : Placed). a.slot) o ≡ Some k → P
      by None is h = cc
      by (Some a) is h = use_it a.facts (is ∙ (λ i. Some (record { slot = same_Some a.slot k h i; facts = a.facts })))

  -- nobody had the slot
  pub slot_new : (p : Path) (a : Placed) → finite.get tree p ≡ Some a → a.slot ≢ slot
  slot_new p a h same =
      let one : p ≡ path = law.apart p path slot a.facts facts (still p a h ∙ (λ i. Some (record { slot = same i; facts = a.facts }))) here in
      let none : finite.get tree p ≡ None = ap (finite.get tree) one ∙ free in
      cc

  no_slot : (p : Path) → slot_in tree p ≢ Some slot
  no_slot p h = slot_placed tree p slot h (λ f is. slot_new p (record { slot = slot; facts = f }) is refl)

  quota_same : quota_in facts_of grown [] ≡ quota_in facts_of tree []
  quota_same = ap (λ o. unwrap_or (option_map (λ (f : Facts). f.quota) (option_map facts_of o)) 0) (get-grown [] ∙ ap (λ b. cond b (Some placed) (finite.get tree [])) (at_root (is_same [] path) refl))
    where
      at_root : (b : Bool) → is_same [] path ≡ b → b ≡ false
      at_root true e = absurd (below (sym (same_path [] path e)))
      at_root false e = refl

  module _ (held : Held) (keeps : HasSlots tree held) where
    pub slot_below : slot < held.slots
    slot_below = subst (λ n. slot < n) (sym (keeps.places ∙ sym quota_same)) (law.within path slot facts here)

    slots_grown : HasSlots grown held
    slots_grown = record {
      own = λ p q k hp hq. slot_placed grown p k hp (λ f is_p. slot_placed grown q k hq (λ g is_q. law.apart p q k f g is_p is_q));
      within = λ p k hp. slot_placed grown p k hp (λ f is. subst (λ n. k < n) (sym (keeps.places ∙ sym quota_same)) (law.within p k f is));
      free = λ k none s. keeps.free k (λ p h. slot_placed tree p k h (λ f is. none p (ap (option_map (λ (a : Placed). a.slot)) (still p (record { slot = k; facts = f }) is)))) s;
      places = keeps.places ∙ sym quota_same;
    }

    -- nobody holds the new object
    pub access-grown : access_of grown held ≡ access_of tree held
    access-grown = set.same_set triple_total triple_apart _ _ (λ t.
        member grown held t.0 t.1 t.2
        ∙ ap (λ b. in_range t.0 && b) (ap (λ o. passes (λ k. holds held t.0 k t.2) (option_map (λ (a : Placed). a.slot) o)) (get-grown t.1) ∙ by t (is_same t.1 path) refl)
        ∙ sym (member tree held t.0 t.1 t.2))
      where
        by : (t : Triple) (b : Bool) → is_same t.1 path ≡ b → passes (λ k. holds held t.0 k t.2) (option_map (λ (a : Placed). a.slot) (cond b (Some placed) (finite.get tree t.1))) ≡ is_held tree held t
        by t true e =
            ap (λ m. has m t.2) (keeps.free slot no_slot t.0) ∙ has-none t.2
            ∙ sym (ap (λ o. passes (λ k. holds held t.0 k t.2) (option_map (λ (a : Placed). a.slot) o)) (ap (finite.get tree) (same_path t.1 path e) ∙ free))
        by t false e = refl

  module _ (slots : ℕ) (old new : Standing) (keeps : HasExtents tree slots old) where
    pub extent_free : finite.get old.extents slot ≡ None
    extent_free = none_of_map (λ (e : Extent). e.blocks) (finite.get old.extents slot) (sym (get-map_values nat_cmp (λ e. e.blocks) old.extents slot) ∙ keeps.unowned slot no_slot)

    segment_free : (words : List ℕ) → finite.get (segments_of old words) slot ≡ None
    segment_free words = get-map_values nat_cmp (words_at words) old.extents slot ∙ ap (option_map (words_at words)) extent_free

    taken_grown : total_of (λ p (a : Placed). size_of a.facts) (finite.entries grown) ≡ size_of facts + taken_in old
    taken_grown = total-insert path_cmp path_apart path_total (λ p (a : Placed). size_of a.facts) tree path placed free ∙ ap (λ n. size_of facts + n) (sym keeps.taken)

    -- the new words fit, where all of them do
    pub room_there : 1 + total_of (λ p (a : Placed). size_of a.facts) (finite.entries grown) ≤ 3904 → size_of facts ≤ free_in old
    room_there h = omega (arith, h, taken_grown, keeps.blocks)

    extents_grown : sizes_of new ≡ with_some (sizes_of old) slot (segment_blocks facts) → IsApart new → KeepsRoom old new → HasExtents grown slots new
    extents_grown sizes apart room = record {
      sizes = λ p a h. one_of p a h
          (λ is_p is_a. subst (λ (x : Placed). finite.get (sizes_of new) x.slot ≡ segment_blocks x.facts) is_a (ap (λ m. finite.get m slot) sizes ∙ get-with_some-same (sizes_of old) slot (segment_blocks facts) (keeps.unowned slot no_slot)))
          (λ was. ap (λ m. finite.get m a.slot) sizes ∙ get-with_some-other (sizes_of old) slot (segment_blocks facts) a.slot (slot_new p a was) ∙ keeps.sizes p a was);
      unowned = λ k none.
          ap (λ m. finite.get m k) sizes
          ∙ get-with_some-other (sizes_of old) slot (segment_blocks facts) k (λ e. none path (ap (option_map (λ (a : Placed). a.slot)) here ∙ ap Some (sym e)))
          ∙ keeps.unowned k (λ p h. slot_placed tree p k h (λ f is. none p (ap (option_map (λ (a : Placed). a.slot)) (still p (record { slot = k; facts = f }) is))));
      taken = sym (sizes_total new) ∙ ap (λ m. total_of (λ s n. n) (finite.entries m)) sizes ∙ total-with_some (sizes_of old) slot (segment_blocks facts) (keeps.unowned slot no_slot)
          ∙ ap (λ n. size_of facts + n) (sizes_total old) ∙ sym taken_grown;
      apart = apart;
      first = room.0 ∙ keeps.first;
      blocks = room.1 ∙ keeps.blocks;
      places = room.2 ∙ keeps.places;
    }

  module _ (lines : ℕ) (held : Held) (tables : Tables) (keeps : IsStore lines tree held tables)
      (line_free : (n : ℕ) → facts.kind ≡ Line n → (n < lines) × ((p : Path) (a : Placed) → finite.get tree p ≡ Some a → a.facts.kind ≢ Line n)) where
    abbrev pub later : Standing → Tables
    later new = record { frames = new; mailboxes = slice_set tables.mailboxes slot no_mail; inputs = with_new_input facts.kind tables.inputs }

    inputs_length : (kind : Kind) → length (with_new_input kind tables.inputs) ≡ length tables.inputs
    inputs_length Directory = refl
    inputs_length Segment = refl
    inputs_length Mailbox = refl
    inputs_length (Line n) = length-set tables.inputs n []

    pub store-created : (new : Standing) → sizes_of new ≡ with_some (sizes_of tables.frames) slot (segment_blocks facts) → IsApart new → KeepsRoom tables.frames new → IsStore lines grown held (later new)
    store-created new sizes apart room = record {
      slots = slots_grown held keeps.slots;
      extents = extents_grown held.slots tables.frames new keeps.extents sizes apart room;
      queues = record {
        mailboxes = length-set tables.mailboxes slot no_mail ∙ keeps.queues.mailboxes;
        inputs = inputs_length facts.kind ∙ keeps.queues.inputs;
        within = λ p a n h kind. one_of p a h
            (λ is_p is_a. (line_free n (ap (λ (x : Placed). x.facts.kind) is_a ∙ kind)).0)
            (λ was. keeps.queues.within p a n was kind);
        own = λ p q a b n h k kind_a kind_b. one_of p a h
            (λ is_p is_a. one_of q b k
            (λ is_q is_b. is_p ∙ sym is_q)
            (λ was. absurd ((line_free n (ap (λ (x : Placed). x.facts.kind) is_a ∙ kind_a)).1 q b was kind_b)))
            (λ was. one_of q b k
            (λ is_q is_b. absurd ((line_free n (ap (λ (x : Placed). x.facts.kind) is_b ∙ kind_b)).1 p a was kind_a))
            (λ was_q. keeps.queues.own p q a b n was was_q kind_a kind_b));
      };
    }

    -- what waits in the new object
    queue_new : (new : Standing) (kind : Kind) (blocks : ℕ) → ((n : ℕ) → kind ≡ Line n → n < lines) → facts.kind ≡ kind →
        contents_of (queue_at (later new) slot kind) (new_words (record facts { kind = kind; blocks = blocks })) ≡ new_contents kind blocks
    queue_new new Directory blocks small same = refl
    queue_new new Segment blocks small same = refl
    queue_new new Mailbox blocks small same = ap (λ w. waiting_in (OfMailbox w)) (get_or-set_same tables.mailboxes slot no_mail no_mail (omega (arith, slot_below held keeps.slots, keeps.queues.mailboxes)))
    queue_new new (Line n) blocks small same =
        ap (λ bytes. waiting_in (OfLine bytes)) (ap (λ k. slice_index_or (with_new_input k tables.inputs) n []) same ∙ get_or-set_same tables.inputs n [] [] (omega (arith, small n refl, keeps.queues.inputs)))

    -- and in the others
    queue_other : (new : Standing) (p : Path) (a : Placed) → finite.get tree p ≡ Some a → (kind : Kind) → a.facts.kind ≡ kind → queue_at (later new) a.slot kind ≡ queue_at tables a.slot kind
    queue_other new p a is Directory same = refl
    queue_other new p a is Segment same = refl
    queue_other new p a is Mailbox same = ap OfMailbox (get_or-set_other tables.mailboxes slot a.slot no_mail no_mail (slot_new p a is))
    queue_other new p a is (Line m) same = ap OfLine (by facts.kind refl)
      where
        by : (kind : Kind) → facts.kind ≡ kind → slice_index_or (with_new_input kind tables.inputs) m [] ≡ slice_index_or tables.inputs m []
        by Directory e = refl
        by Segment e = refl
        by Mailbox e = refl
        by (Line n) e = get_or-set_other tables.inputs n m [] [] (λ one. (line_free n e).1 p a is (same ∙ ap Line one))

    pub objects-created : (levels : List Level) (new : Standing) (words now : List ℕ) → segments_of new now ≡ with_some (segments_of tables.frames words) slot (new_words facts) →
        objects_of (store_of levels lines grown held (later new)) now ≡ finite.insert (objects_of (store_of levels lines tree held tables) words) path (fresh facts)
    objects-created levels new words now segments = finite.same_map path_total path_apart _ _ (λ q.
        get-object levels lines grown held (later new) now q ∙ ap (option_map (placed_object (later new) now)) (get-grown q)
        ∙ by q (is_same q path) (finite.get tree q) refl
        ∙ sym (finite.get-insert path_total (objects_of (store_of levels lines tree held tables) words) path (fresh facts) q ∙ (λ i. cond (ties-same q path i) (Some (fresh facts)) (get-object levels lines tree held tables words q i))))
      where
        new_here : contents_in now (queue_at (later new) slot facts.kind) (finite.get new.extents slot) ≡ new_contents facts.kind facts.blocks
        new_here =
            contents-by_words now (queue_at (later new) slot facts.kind) new slot
            ∙ ap (λ m. contents_of (queue_at (later new) slot facts.kind) (finite.get m slot)) segments
            ∙ ap (contents_of (queue_at (later new) slot facts.kind)) (get-with_some-same (segments_of tables.frames words) slot (new_words facts) (segment_free held.slots tables.frames new keeps.extents words))
            ∙ queue_new new facts.kind facts.blocks (λ n e. (line_free n e).0) refl

        old_there : (q : Path) (a : Placed) → finite.get tree q ≡ Some a → contents_in now (queue_at (later new) a.slot a.facts.kind) (finite.get new.extents a.slot) ≡ contents_in words (queue_at tables a.slot a.facts.kind) (finite.get tables.frames.extents a.slot)
        old_there q a is =
            contents-by_words now (queue_at (later new) a.slot a.facts.kind) new a.slot
            ∙ ap (λ m. contents_of (queue_at (later new) a.slot a.facts.kind) (finite.get m a.slot)) segments
            ∙ ap (contents_of (queue_at (later new) a.slot a.facts.kind)) (get-with_some-other (segments_of tables.frames words) slot (new_words facts) a.slot (slot_new q a is))
            ∙ ap (λ queue. contents_of queue (finite.get (segments_of tables.frames words) a.slot)) (queue_other new q a is a.facts.kind refl)
            ∙ sym (contents-by_words words (queue_at tables a.slot a.facts.kind) tables.frames a.slot)

        by : (q : Path) (b : Bool) (o : Option Placed) → finite.get tree q ≡ o → option_map (placed_object (later new) now) (cond b (Some placed) o) ≡ cond b (Some (fresh facts)) (option_map (placed_object tables words) o)
        by q true o is = λ i. Some (record { facts = facts; contents = new_here i })
        by q false None is = refl
        by q false (Some a) is = λ i. Some (record { facts = a.facts; contents = old_there q a is i })

    pub created : (levels : List Level) (new : Standing) (words now : List ℕ) → segments_of new now ≡ with_some (segments_of tables.frames words) slot (new_words facts) →
        IsCreated (store_of levels lines tree held tables) (store_of levels lines grown held (later new)) words now path facts
    created levels new words now segments = record {
      objects = objects-created levels new words now segments;
      access = access-grown held keeps.slots;
      levels = refl;
      lines = refl;
    }

-- no object has the line in the tree
pub line_in_tree : (levels : List Level) (lines : ℕ) (tree : Objects) (held : Held) (tables : Tables) (kind : Kind) → IsFreeLine (store_of levels lines tree held tables) kind →
    (n : ℕ) → kind ≡ Line n → (n < lines) × ((p : Path) (a : Placed) → finite.get tree p ≡ Some a → a.facts.kind ≢ Line n)
line_in_tree levels lines tree held tables kind line_free n same = (
  (line_free n same).0,
  λ p a is. (line_free n same).1 p (entry_of tables a) (get-entry tree tables p ∙ ap (option_map (entry_of tables)) is),
)

-- ---- refusals

abbrev pub failed : TreeNo → Result (Unit {0}) TreeNo
failed why = Err why

no_both : {P : Type 0} (o : Option Placed) → is_some o ≡ true → is_some o ≡ false → P
no_both o is_there is_not = let both : true ≡ false = sym is_there ∙ is_not in cc

module _ (tree : Objects) (tables : Tables) (path : Path) (facts : Facts) (v : Stored) (is : v.objects ≡ entries_of tree tables) where
  pub there-same : is_some (finite.get v.objects path) ≡ is_some (finite.get tree path)
  there-same = ap (λ m. is_some (finite.get m path)) is ∙ ap is_some (get-entry tree tables path) ∙ some_mapped (entry_of tables) (finite.get tree path)

  fits : FitsTree tree path facts → Fits v path facts
  fits h = subst (λ T. T) (fits-same tree tables v is path facts) h

  fits_tree : Fits v path facts → FitsTree tree path facts
  fits_tree h = subst (λ T. T) (sym (fits-same tree tables v is path facts)) h

  -- an object that was created was neither there nor over the quota
  pub not_taken : is_some (finite.get tree path) ≡ false → is_some (finite.get v.objects path) ≡ true → ⊥
  not_taken none h = no_both (finite.get tree path) (sym there-same ∙ h) none

  pub not_over : FitsTree tree path facts → ((is_some (finite.get v.objects path) ≡ false) × ¬ Fits v path facts) → ⊥
  not_over h over = over.1 (fits h)

  -- and one that was refused was one of them
  pub taken_where : (why : TreeNo) → Refuses tree path facts why → (failed why ≡ failed Taken) ↔ (is_some (finite.get v.objects path) ≡ true)
  taken_where Taken h = (λ e. there-same ∙ h, λ e. refl)
  taken_where Quota h = (λ e. cc, λ e. absurd (not_taken h.0 e))

  pub over_where : (why : TreeNo) → Refuses tree path facts why → (failed why ≡ failed Quota) ↔ ((is_some (finite.get v.objects path) ≡ false) × ¬ Fits v path facts)
  over_where Taken h = (λ e. cc, λ over. no_both (finite.get tree path) h (sym there-same ∙ over.0))
  over_where Quota h = (λ e. (there-same ∙ h.0, λ f. h.1 (fits_tree f)), λ e. refl)
