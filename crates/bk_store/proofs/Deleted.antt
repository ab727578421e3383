-- What is left once objects are gone.
use Rattle.std.proofs.Common.{List, ◌≡◌, ◌≢◌, ℕ, ◌+◌, ◌<◌, Bool, true, false, cond, not, ◌&&◌, ◌==◌, [], Option, Some, None, refl, sym, ap, ◌∙◌, arith, is_some}
use Rattle.std.specs.Prelude.{option_map, unwrap_or}
use Rattle.std.specs.Ordering.{nat_cmp}
use Rattle.std.specs.Cmp.{nat_cmp_total, unsigned_tied}
use Rattle.std.specs.FinMap as finite
use Rattle.std.specs.FinSet as set
use Rattle.std.proofs.lemmas.Bool.Decides.{nat_tests}
use Rattle.std.proofs.Math.Bool.{and-false}
use Rattle.bk_base.proofs.MapValues.{get-map_values as get-sizes}
use Rattle.bk_base.proofs.Totals.{part, total_of}
use Rattle.bk_level.specs.Levels.{Level}
use Rattle.bk_object.specs.declared.Facts.{Facts}
use Rattle.bk_object.specs.Modes.{no_modes}
use Rattle.bk_path.specs.Paths.{Path, path_cmp, is_same, is_inferior}
use Rattle.bk_path.specs.Orders.{path_total, path_apart, same_path, is_same-itself, ties-same}
use Rattle.bk_quota.specs.Charges.{passes}
use Rattle.bk_access.specs.Held.{Held, holds, modes_at, cleared}
use Rattle.bk_access.proofs.HeldLemmas.{holds-cleared, at-cleared, elsewhere-cleared}
use Rattle.bk_frames.specs.Extents.{Extent, Standing, KeepsRoom, IsApart, taken_in}
use Rattle.bk_state.specs.State.{Triple}
use Rattle.bk_state.proofs.Orders.{triple_total}
use Rattle.bk_tree.specs.declared.place.Placed.{Placed}
use Rattle.bk_tree.specs.Objects.{Objects, IsAt, facts_of, without, HasNone}
use Rattle.bk_store.specs.Stored.{Entry, Stored, without_group, without_one}
use Rattle.bk_store.specs.Joined.{Tables, slot_in, is_held, access_of, entries_of, entry_of, queue_at, or_zero, segment_blocks, size_of}
use Rattle.bk_store.specs.Joined.{store_of, HasExtents, HasSlots, IsStore}
use Rattle.bk_store.proofs.Triples.{in_range, member, triple_apart, alike}
use Rattle.bk_store.proofs.Entries.{get-entry, its_slot}
use Rattle.bk_store.proofs.Changes.{own_test}
use Rattle.bk_store.proofs.Sums.{total-gone}

get-kept : {X : Type 0} (m : finite.FinMap path_cmp X) (keep : Path → Bool) (q : Path) → finite.get (finite.retain_keys m keep) q ≡ cond (keep q) (finite.get m q) None
get-kept m keep q = finite.get-retain_keys m keep q (λ x e. ap keep (sym (path_apart q x e)))

-- an inferior that goes first changes nothing of what is left of the group
pub keep-left : (v : Stored) (of path : Path) → is_inferior path of ≡ true → without_group of (without_one path v) ≡ without_group of v
keep-left v of path inferior = λ i. record { levels = v.levels; lines = v.lines; objects = objects i; access = access i }
  where
    within : (q : Path) → is_same q path ≡ true → is_inferior q of ≡ true
    within q e = ap (λ p. is_inferior p of) (same_path q path e) ∙ inferior

    objects : finite.retain_keys (finite.retain_keys v.objects (λ q. not (is_same q path))) (λ q. not (is_inferior q of)) ≡ finite.retain_keys v.objects (λ q. not (is_inferior q of))
    objects = finite.same_map path_total path_apart _ _ (λ q.
        get-kept (finite.retain_keys v.objects (λ q. not (is_same q path))) (λ q. not (is_inferior q of)) q
        ∙ ap (λ o. cond (not (is_inferior q of)) o None) (get-kept v.objects (λ q. not (is_same q path)) q)
        ∙ by (is_inferior q of) (is_same q path) (finite.get v.objects q) (within q)
        ∙ sym (get-kept v.objects (λ q. not (is_inferior q of)) q))
      where
        by : (a b : Bool) (o : Option Entry) → (b ≡ true → a ≡ true) → cond (not a) (cond (not b) o None) None ≡ cond (not a) o None
        by true b o f = refl
        by false true o f = cc (f refl)
        by false false o f = refl

    access : set.retain (set.retain v.access (λ t. not (is_same t.1 path))) (λ t. not (is_inferior t.1 of)) ≡ set.retain v.access (λ t. not (is_inferior t.1 of))
    access = set.same_set triple_total triple_apart _ _ (λ t.
        set.contains-retain (set.retain v.access (λ t. not (is_same t.1 path))) (λ t. not (is_inferior t.1 of)) t (λ u e. alike (λ t. not (is_inferior t.1 of)) t u e)
        ∙ ap (λ b. b && not (is_inferior t.1 of)) (set.contains-retain v.access (λ t. not (is_same t.1 path)) t (λ u e. alike (λ t. not (is_same t.1 path)) t u e))
        ∙ by (is_inferior t.1 of) (is_same t.1 path) (set.contains v.access t) (within t.1)
        ∙ sym (set.contains-retain v.access (λ t. not (is_inferior t.1 of)) t (λ u e. alike (λ t. not (is_inferior t.1 of)) t u e)))
      where
        by : (a b c : Bool) → (b ≡ true → a ≡ true) → ((c && not b) && not a) ≡ (c && not a)
        by true b c f = grind arith
        by false true c f = cc (f refl)
        by false false c f = grind arith

-- one object less
pub len-left : (m : finite.FinMap path_cmp Entry) (path : Path) → is_some (finite.get m path) ≡ true → finite.len (finite.retain_keys m (λ q. not (is_same q path))) < finite.len m
len-left m path was = by (finite.get m path) refl was
  where
    less : finite.FinMap path_cmp Entry
    less = finite.retain_keys m (λ q. not (is_same q path))

    gone : finite.get less path ≡ None
    gone = get-kept m (λ q. not (is_same q path)) path ∙ ap (λ b. cond (not b) (finite.get m path) None) (is_same-itself path)

    by : (o : Option Entry) → finite.get m path ≡ o → is_some o ≡ true → finite.len (finite.retain_keys m (λ q. not (is_same q path))) < finite.len m
    by None is h = cc
    by (Some x) is h =
        let whole : m ≡ finite.insert less path x = finite.same_map path_total path_apart _ _ (λ q. each q (is_same q path) refl ∙ sym (finite.get-insert path_total less path x q ∙ (λ i. cond (ties-same q path i) (Some x) (get-kept m (λ q. not (is_same q path)) q i)))) in
        let longer : finite.len m ≡ cond (is_some (finite.get less path)) (finite.len less) (finite.len less + 1) = ap finite.len whole ∙ finite.len-insert path_total less path x in
        let one : finite.len m ≡ finite.len less + 1 = longer ∙ ap (λ o. cond (is_some o) (finite.len less) (finite.len less + 1)) gone in
        omega (arith, one)
      where
        each : (q : Path) (b : Bool) → is_same q path ≡ b → finite.get m q ≡ cond b (Some x) (cond (not b) (finite.get m q) None)
        each q true e = ap (finite.get m) (same_path q path e) ∙ is
        each q false e = refl

module _ (lines : ℕ) (tree : Objects) (held : Held) (tables : Tables) (keeps : IsStore lines tree held tables)
    (path : Path) (slot : ℕ) (facts : Facts) (there : IsAt tree path slot facts) (below : path ≢ [])
    (new : Standing) (extents : new.extents ≡ finite.retain_keys tables.frames.extents (λ s. not (s == slot))) (room : KeepsRoom tables.frames new) (apart : IsApart new) where
  abbrev pub later : Tables
  later = record { frames = new; mailboxes = tables.mailboxes; inputs = tables.inputs }

  at : slot_in tree path ≡ Some slot
  at = its_slot tree path slot facts there

  get-left : (q : Path) → finite.get (without tree path) q ≡ cond (not (is_same q path)) (finite.get tree q) None
  get-left q = get-kept tree (λ q. not (is_same q path)) q

  slots-left : (q : Path) → slot_in (without tree path) q ≡ cond (not (is_same q path)) (slot_in tree q) None
  slots-left q = ap (option_map (λ (a : Placed). a.slot)) (get-left q) ∙ by (is_same q path) (finite.get tree q)
    where
      by : (b : Bool) (o : Option Placed) → option_map (λ (a : Placed). a.slot) (cond (not b) o None) ≡ cond (not b) (option_map (λ (a : Placed). a.slot) o) None
      by true o = refl
      by false o = refl

  slot_was : (q : Path) (k : ℕ) → slot_in (without tree path) q ≡ Some k → slot_in tree q ≡ Some k
  slot_was q k h = by (is_same q path) (sym (slots-left q) ∙ h)
    where
      by : (b : Bool) → cond (not b) (slot_in tree q) None ≡ Some k → slot_in tree q ≡ Some k
      by true h = cc
      by false h = h

  -- an object that is there now was there, at another slot
  was : (q : Path) (a : Placed) → finite.get (without tree path) q ≡ Some a → (finite.get tree q ≡ Some a) × (a.slot ≢ slot)
  was q a h = by (is_same q path) refl (sym (get-left q) ∙ h)
    where
      by : (b : Bool) → is_same q path ≡ b → cond (not b) (finite.get tree q) None ≡ Some a → (finite.get tree q ≡ Some a) × (a.slot ≢ slot)
      by true e h = cc
      by false e h = (
        h,
        λ same.
            let one : q ≡ path = keeps.slots.own q path slot (ap (option_map (λ (x : Placed). x.slot)) h ∙ ap Some same) at in
            let yes : is_same q path ≡ true = ap (λ p. is_same p path) one ∙ is_same-itself path in
            cc,
      )

  get-extents : (s : ℕ) → finite.get new.extents s ≡ cond (not (s == slot)) (finite.get tables.frames.extents s) None
  get-extents s = ap (λ m. finite.get m s) extents ∙ finite.get-retain_keys tables.frames.extents (λ r. not (r == slot)) s (λ x same. ap (λ r. not (r == slot)) (sym (finite.nat_cmp-IsAntisymmetric s x same)))

  other_extent : (s : ℕ) → s ≢ slot → finite.get new.extents s ≡ finite.get tables.frames.extents s
  other_extent s differ = get-extents s ∙ by (s == slot) refl
    where
      by : (b : Bool) → (s == slot) ≡ b → cond (not b) (finite.get tables.frames.extents s) None ≡ finite.get tables.frames.extents s
      by true e = let same : s ≡ slot = grind (arith, nat_tests, e) in absurd (differ same)
      by false e = refl

  slots : HasSlots (without tree path) (cleared slot held)
  slots = record {
    own = λ p q k hp hq. keeps.slots.own p q k (slot_was p k hp) (slot_was q k hq);
    within = λ p k hp. keeps.slots.within p k (slot_was p k hp);
    free = λ k none s. by k none s (k == slot) refl;
    places = keeps.slots.places ∙ sym (ap (λ o. unwrap_or (option_map (λ (f : Facts). f.quota) (option_map facts_of o)) 0) (get-left [] ∙ ap (λ b. cond (not b) (finite.get tree []) None) (at_root (is_same [] path) refl)));
  }
    where
      at_root : (b : Bool) → is_same [] path ≡ b → b ≡ false
      at_root true e = absurd (below (sym (same_path [] path e)))
      at_root false e = refl

      by : (k : ℕ) → ((p : Path) → slot_in (without tree path) p ≢ Some k) → (s : ℕ) (b : Bool) → (k == slot) ≡ b → modes_at (cleared slot held) s k ≡ no_modes
      by k none s true e = let same : k ≡ slot = grind (arith, nat_tests, e) in ap (modes_at (cleared slot held) s) same ∙ at-cleared slot s held
      by k none s false e =
          let other : ¬ (k ≡ slot) = grind (arith, nat_tests, e) in
          elsewhere-cleared slot s k held other
          ∙ keeps.slots.free k (λ p h. none p (slots-left p ∙ ap (λ b. cond (not b) (slot_in tree p) None) (sym (own_test tree held keeps.slots path slot at p k h) ∙ e) ∙ h)) s

  stands : HasExtents (without tree path) held.slots new
  stands = record {
    sizes = λ p a h. let (is, differ) = was p a h in
        get-sizes nat_cmp (λ e. e.blocks) new.extents a.slot ∙ ap (option_map (λ (e : Extent). e.blocks)) (other_extent a.slot differ)
        ∙ sym (get-sizes nat_cmp (λ e. e.blocks) tables.frames.extents a.slot) ∙ keeps.extents.sizes p a is;
    unowned = λ k none. get-sizes nat_cmp (λ e. e.blocks) new.extents k ∙ by k none (k == slot) refl;
    taken = taken_left;
    apart = apart;
    first = room.0 ∙ keeps.extents.first;
    blocks = room.1 ∙ keeps.extents.blocks;
    places = room.2 ∙ keeps.extents.places;
  }
    where
      by : (k : ℕ) → ((p : Path) → slot_in (without tree path) p ≢ Some k) → (b : Bool) → (k == slot) ≡ b → option_map (λ (e : Extent). e.blocks) (finite.get new.extents k) ≡ None
      by k none true e = ap (option_map (λ (e : Extent). e.blocks)) (get-extents k ∙ ap (λ b. cond (not b) (finite.get tables.frames.extents k) None) e)
      by k none false e =
          let other : k ≢ slot = grind (arith, nat_tests, e) in
          ap (option_map (λ (e : Extent). e.blocks)) (other_extent k other) ∙ sym (get-sizes nat_cmp (λ e. e.blocks) tables.frames.extents k)
          ∙ keeps.extents.unowned k (λ p h. none p (slots-left p ∙ ap (λ b. cond (not b) (slot_in tree p) None) (sym (own_test tree held keeps.slots path slot at p k h) ∙ e) ∙ h))

      of_part : (o : Option Extent) → option_map (λ (e : Extent). e.blocks) o ≡ segment_blocks facts → part (λ s (e : Extent). e.blocks) slot o ≡ size_of facts
      of_part None h = ap or_zero h
      of_part (Some e) h = ap or_zero h

      taken_left : taken_in new ≡ total_of (λ p (a : Placed). size_of a.facts) (finite.entries (without tree path))
      taken_left =
          let frames_gone = total-gone nat_cmp finite.nat_cmp-IsAntisymmetric nat_cmp_total (λ s (e : Extent). e.blocks) tables.frames.extents slot (finite.get tables.frames.extents slot) refl in
          let tree_gone = total-gone path_cmp path_apart path_total (λ p (a : Placed). size_of a.facts) tree path (Some (record { slot = slot; facts = facts })) there in
          let here = of_part (finite.get tables.frames.extents slot) (sym (get-sizes nat_cmp (λ e. e.blocks) tables.frames.extents slot) ∙ keeps.extents.sizes path (record { slot = slot; facts = facts }) there) in
          let same_extents = ap (λ m. total_of (λ s (e : Extent). e.blocks) (finite.entries m)) (extents ∙ (λ i. finite.retain_keys tables.frames.extents (λ s. not (sym (unsigned_tied s slot) i)))) in
          let same_tree = ap (λ m. total_of (λ p (a : Placed). size_of a.facts) (finite.entries m)) (λ i. finite.retain_keys tree (λ q. not (ties-same q path i))) in
          omega (arith, frames_gone, tree_gone, here, same_extents, same_tree, keeps.extents.taken)

  pub store-left : IsStore lines (without tree path) (cleared slot held) later
  store-left = record {
    slots = slots;
    extents = stands;
    queues = record {
      mailboxes = keeps.queues.mailboxes;
      inputs = keeps.queues.inputs;
      within = λ p a n h kind. keeps.queues.within p a n (was p a h).0 kind;
      own = λ p q a b n h k kind_a kind_b. keeps.queues.own p q a b n (was p a h).0 (was q b k).0 kind_a kind_b;
    };
  }

  pub one-left : (levels : List Level) → store_of levels lines (without tree path) (cleared slot held) later ≡ without_one path (store_of levels lines tree held tables)
  one-left levels = λ i. record { levels = levels; lines = lines; objects = objects i; access = access i }
    where
      objects : entries_of (without tree path) later ≡ finite.retain_keys (entries_of tree tables) (λ q. not (is_same q path))
      objects = finite.same_map path_total path_apart _ _ (λ q.
          get-entry (without tree path) later q ∙ alike q (finite.get (without tree path) q) refl ∙ ap (option_map (entry_of tables)) (get-left q) ∙ by (is_same q path) (finite.get tree q)
          ∙ sym (get-kept (entries_of tree tables) (λ q. not (is_same q path)) q ∙ ap (λ o. cond (not (is_same q path)) o None) (get-entry tree tables q)))
        where
          alike : (q : Path) (o : Option Placed) → finite.get (without tree path) q ≡ o → option_map (entry_of later) o ≡ option_map (entry_of tables) (finite.get (without tree path) q)
          alike q None h = ap (option_map (entry_of tables)) (sym h)
          alike q (Some a) h = (λ i. Some (record { facts = a.facts; extent = other_extent a.slot (was q a h).1 i; queue = queue_at tables a.slot a.facts.kind })) ∙ ap (option_map (entry_of tables)) (sym h)

          by : (b : Bool) (o : Option Placed) → option_map (entry_of tables) (cond (not b) o None) ≡ cond (not b) (option_map (entry_of tables) o) None
          by true o = refl
          by false o = refl

      still : (t : Triple) → is_held (without tree path) (cleared slot held) t ≡ (is_held tree held t && not (is_same t.1 path))
      still t = ap (passes (λ k. holds (cleared slot held) t.0 k t.2)) (slots-left t.1) ∙ by (slot_in tree t.1) refl (is_same t.1 path) refl
        where
          by : (o : Option ℕ) → slot_in tree t.1 ≡ o → (b : Bool) → is_same t.1 path ≡ b → passes (λ k. holds (cleared slot held) t.0 k t.2) (cond (not b) o None) ≡ (passes (λ k. holds held t.0 k t.2) o && not b)
          by o is true e = sym (and-false (passes (λ k. holds held t.0 k t.2) o))
          by None is false e = refl
          by (Some k) is false e = holds-cleared slot t.0 k held t.2 ∙ ap (λ b. holds held t.0 k t.2 && not b) (own_test tree held keeps.slots path slot at t.1 k is ∙ e)

      access : access_of (without tree path) (cleared slot held) ≡ set.retain (access_of tree held) (λ t. not (is_same t.1 path))
      access = set.same_set triple_total triple_apart _ _ (λ t.
          member (without tree path) (cleared slot held) t.0 t.1 t.2
          ∙ ap (λ b. in_range t.0 && b) (still t)
          ∙ by (in_range t.0) (is_held tree held t) (is_same t.1 path)
          ∙ sym (set.contains-retain (access_of tree held) (λ t. not (is_same t.1 path)) t (λ u e. alike (λ t. not (is_same t.1 path)) t u e)
          ∙ ap (λ b. b && not (is_same t.1 path)) (member tree held t.0 t.1 t.2)))
        where
          by : (r h b : Bool) → (r && (h && not b)) ≡ ((r && h) && not b)
          by r h b = grind arith

-- where nothing of the group is there, nothing goes with it
pub all-left : (levels : List Level) (lines : ℕ) (tree : Objects) (held : Held) (tables : Tables) (of : Path) → HasNone tree of → without_group of (store_of levels lines tree held tables) ≡ store_of levels lines tree held tables
all-left levels lines tree held tables of none = λ i. record { levels = levels; lines = lines; objects = objects i; access = access i }
  where
    no_object : (o : Option Placed) → is_some o ≡ false → o ≡ None
    no_object None h = refl
    no_object (Some a) h = cc

    not_there : (q : Path) → is_inferior q of ≡ true → finite.get tree q ≡ None
    not_there q e = no_object (finite.get tree q) (none q e)

    objects : finite.retain_keys (entries_of tree tables) (λ q. not (is_inferior q of)) ≡ entries_of tree tables
    objects = finite.same_map path_total path_apart _ _ (λ q. get-kept (entries_of tree tables) (λ q. not (is_inferior q of)) q ∙ by q (is_inferior q of) refl)
      where
        by : (q : Path) (b : Bool) → is_inferior q of ≡ b → cond (not b) (finite.get (entries_of tree tables) q) None ≡ finite.get (entries_of tree tables) q
        by q true e = sym (get-entry tree tables q ∙ ap (option_map (entry_of tables)) (not_there q e))
        by q false e = refl

    access : set.retain (access_of tree held) (λ t. not (is_inferior t.1 of)) ≡ access_of tree held
    access = set.same_set triple_total triple_apart _ _ (λ t.
        set.contains-retain (access_of tree held) (λ t. not (is_inferior t.1 of)) t (λ u e. alike (λ t. not (is_inferior t.1 of)) t u e)
        ∙ ap (λ b. b && not (is_inferior t.1 of)) (member tree held t.0 t.1 t.2)
        ∙ by t (is_inferior t.1 of) refl ∙ sym (member tree held t.0 t.1 t.2))
      where
        nothing : (r : Bool) → ((r && false) && false) ≡ (r && false)
        nothing r = grind arith

        every : (c : Bool) → (c && true) ≡ c
        every c = grind arith

        by : (t : Triple) (b : Bool) → is_inferior t.1 of ≡ b → ((in_range t.0 && is_held tree held t) && not b) ≡ (in_range t.0 && is_held tree held t)
        by t true e =
            let free : is_held tree held t ≡ false = ap (λ o. passes (λ k. holds held t.0 k t.2) (option_map (λ (a : Placed). a.slot) o)) (not_there t.1 e) in
            rw free (nothing (in_range t.0))
        by t false e = every (in_range t.0 && is_held tree held t)

-- an inferior of another path than root isn't root
pub below_root : (of path : Path) → of ≢ [] → is_inferior path of ≡ true → path ≢ []
below_root of path not_root inferior at_root = not_root (sym (same_path [] of (ap (λ p. is_inferior p of) (sym at_root) ∙ inferior)))
