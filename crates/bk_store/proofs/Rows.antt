-- What changes once an object has another row: its facts, and nothing else.
use Rattle.std.proofs.Common.{◌≡◌, ◌≢◌, ℕ, Bool, true, false, cond, ◌&&◌, List, [], Some, refl, sym, ap, subst, ◌∙◌}
use Rattle.std.specs.Prelude.{option_map, unwrap_or}
use Rattle.std.specs.FinMap as finite
use Rattle.std.specs.FinSet as set
use Rattle.std.proofs.lemmas.Option.{same_Some}
use Rattle.bk_base.proofs.Totals.{part, total-alike}
use Rattle.bk_level.specs.Levels.{Level}
use Rattle.bk_object.specs.declared.Facts.{Facts}
use Rattle.bk_object.specs.declared.modes.Modes.{Modes}
use Rattle.bk_path.specs.Paths.{Path, path_cmp, is_same}
use Rattle.bk_path.specs.Orders.{path_total, path_apart, same_path, ties-same}
use Rattle.bk_quota.specs.Charges.{passes, quota_in}
use Rattle.bk_access.specs.Held.{Held, holds, modes_at}
use Rattle.bk_state.proofs.Orders.{triple_total}
use Rattle.bk_tree.specs.declared.place.Placed.{Placed}
use Rattle.bk_tree.specs.Objects.{Objects, IsAt, facts_of}
use Rattle.bk_frames.specs.Extents.{Standing, sizes_of}
use Rattle.bk_store.specs.Joined.{Tables, slot_in, access_of, store_of, blocks_of, size_of, HasSlots, HasExtents, HasQueues, IsStore}
use Rattle.bk_store.specs.Stored.{with_row, changed_at}
use Rattle.bk_store.proofs.Triples.{in_range, member, triple_apart}
use Rattle.bk_store.proofs.Entries.{one-changed}

module _ (tree : Objects) (path : Path) (slot : ℕ) (facts : Facts) (row : List Modes) (at : IsAt tree path slot facts) where
  abbrev pub changed : Placed
  changed = record { slot = slot; facts = record facts { row = row } }

  abbrev pub after : Objects
  after = finite.insert tree path changed

  get-after : (p : Path) → finite.get after p ≡ cond (is_same p path) (Some changed) (finite.get tree p)
  get-after p = finite.get-insert path_total tree path changed p ∙ ap (λ b. cond b (Some changed) (finite.get tree p)) (ties-same p path)

  slots-kept : (p : Path) → slot_in after p ≡ slot_in tree p
  slots-kept p = ap (option_map (λ (a : Placed). a.slot)) (get-after p) ∙ by (is_same p path) refl
    where
      by : (b : Bool) → is_same p path ≡ b → option_map (λ (a : Placed). a.slot) (cond b (Some changed) (finite.get tree p)) ≡ slot_in tree p
      by true e = sym (ap (slot_in tree) (same_path p path e) ∙ ap (option_map (λ (a : Placed). a.slot)) at)
      by false e = refl

  -- an object that is there now was there, with another row at most
  was : {P : Type 0} (p : Path) (a : Placed) → finite.get after p ≡ Some a → ((b : Placed) → finite.get tree p ≡ Some b → a.slot ≡ b.slot → a.facts.kind ≡ b.facts.kind → a.facts.blocks ≡ b.facts.blocks → P) → P
  was {P} p a h use_it = by (is_same p path) refl (sym (get-after p) ∙ h)
    where
      by : (b : Bool) → is_same p path ≡ b → cond b (Some changed) (finite.get tree p) ≡ Some a → P
      by true e h =
          let same = same_Some changed a h in
          use_it (record { slot = slot; facts = facts }) (ap (finite.get tree) (same_path p path e) ∙ at) (ap (λ x. x.slot) (sym same)) (ap (λ x. x.facts.kind) (sym same)) (ap (λ x. x.facts.blocks) (sym same))
      by false e h = use_it a h refl refl refl

  pub access-kept : (held : Held) → access_of after held ≡ access_of tree held
  access-kept held = set.same_set triple_total triple_apart _ _ (λ t.
      member after held t.0 t.1 t.2 ∙ ap (λ o. in_range t.0 && passes (λ k. holds held t.0 k t.2) o) (slots-kept t.1) ∙ sym (member tree held t.0 t.1 t.2))

  quota-kept : quota_in facts_of after [] ≡ quota_in facts_of tree []
  quota-kept = ap (λ o. unwrap_or (option_map (λ (f : Facts). f.quota) (option_map facts_of o)) 0) (get-after []) ∙ by (is_same [] path) refl
    where
      by : (b : Bool) → is_same [] path ≡ b → unwrap_or (option_map (λ (f : Facts). f.quota) (option_map facts_of (cond b (Some changed) (finite.get tree [])))) 0 ≡ quota_in facts_of tree []
      by true e = sym (ap (quota_in facts_of tree) (same_path [] path e) ∙ ap (λ o. unwrap_or (option_map (λ (f : Facts). f.quota) (option_map facts_of o)) 0) at)
      by false e = refl

  pub slots-row : (old new : Held) → old.slots ≡ new.slots → ((k : ℕ) → ((p : Path) → slot_in tree p ≢ Some k) → (s : ℕ) → modes_at new s k ≡ modes_at old s k) → HasSlots tree old → HasSlots after new
  slots-row old new same others keeps = record {
    own = λ p q k hp hq. keeps.own p q k (sym (slots-kept p) ∙ hp) (sym (slots-kept q) ∙ hq);
    within = λ p k hp. rw (← same) (keeps.within p k (sym (slots-kept p) ∙ hp));
    free = λ k none s. others k (λ p h. none p (slots-kept p ∙ h)) s ∙ keeps.free k (λ p h. none p (slots-kept p ∙ h)) s;
    places = sym same ∙ keeps.places ∙ sym quota-kept;
  }

  pub extents-row : (slots : ℕ) (frames : Standing) → HasExtents tree slots frames → HasExtents after slots frames
  extents-row slots frames keeps = record {
    sizes = λ p a h. was p a h (λ b is slot_is kind_is blocks_is.
        (λ i. finite.get (sizes_of frames) (slot_is i)) ∙ keeps.sizes p b is ∙ (λ i. blocks_of (sym kind_is i) (sym blocks_is i)));
    unowned = λ k none. keeps.unowned k (λ p h. none p (slots-kept p ∙ h));
    taken = keeps.taken ∙ total-alike path_cmp path_apart path_total (λ p (a : Placed). size_of a.facts) (λ p a. size_of a.facts) tree after (λ q. sym (ap (part (λ p (a : Placed). size_of a.facts) q) (get-after q) ∙ by q (is_same q path) refl));
    apart = keeps.apart;
    first = keeps.first;
    blocks = keeps.blocks;
    places = keeps.places;
  }
    where
      by : (q : Path) (b : Bool) → is_same q path ≡ b → part (λ p (a : Placed). size_of a.facts) q (cond b (Some changed) (finite.get tree q)) ≡ part (λ p (a : Placed). size_of a.facts) q (finite.get tree q)
      by q true e = sym (ap (part (λ p (a : Placed). size_of a.facts) q) (ap (finite.get tree) (same_path q path e) ∙ at))
      by q false e = refl

  pub queues-row : (lines slots : ℕ) (tables : Tables) → HasQueues lines tree slots tables → HasQueues lines after slots tables
  queues-row lines slots tables keeps = record {
    mailboxes = keeps.mailboxes;
    inputs = keeps.inputs;
    within = λ p a n h kind. was p a h (λ b is slot_is kind_is blocks_is. keeps.within p b n is (sym kind_is ∙ kind));
    own = λ p q a b n h k kind_a kind_b. was p a h (λ x is_x slot_x kind_x blocks_x. was q b k (λ y is_y slot_y kind_y blocks_y. keeps.own p q x y n is_x is_y (sym kind_x ∙ kind_a) (sym kind_y ∙ kind_b)));
  }

  pub store-row : (lines : ℕ) (old new : Held) (tables : Tables) → old.slots ≡ new.slots → ((k : ℕ) → ((p : Path) → slot_in tree p ≢ Some k) → (s : ℕ) → modes_at new s k ≡ modes_at old s k) → IsStore lines tree old tables → IsStore lines after new tables
  store-row lines old new tables same others keeps = record {
    slots = slots-row old new same others keeps.slots;
    extents = subst (λ n. HasExtents after n tables.frames) same (extents-row old.slots tables.frames keeps.extents);
    queues = subst (λ n. HasQueues lines after n tables) same (queues-row lines old.slots tables keeps.queues);
  }

-- the store in which the row of the object became another
pub row-changed : (levels : List Level) (lines : ℕ) (tree new : Objects) (held : Held) (tables : Tables) (path : Path) (slot : ℕ) (facts : Facts) (change : List Modes → List Modes) (row : List Modes) →
    IsAt tree path slot facts → row ≡ change facts.row → new ≡ finite.insert tree path (record { slot = slot; facts = record facts { row = row } }) →
    store_of levels lines new held tables ≡ changed_at path (with_row change) (store_of levels lines tree held tables)
row-changed levels lines tree new held tables path slot facts change row at is_row is_new =
    ap (λ m. store_of levels lines m held tables) (is_new ∙ ap (λ r. finite.insert tree path (record { slot = slot; facts = record facts { row = r } })) is_row)
    ∙ one-changed levels lines tree (after tree path slot facts (change facts.row) at) tables tables (access_of tree held) (access_of (after tree path slot facts (change facts.row) at) held) path
    (record { slot = slot; facts = facts }) (changed tree path slot facts (change facts.row) at) (with_row change) at refl (get-after tree path slot facts (change facts.row) at) (λ q x e h. refl)
    (access-kept tree path slot facts (change facts.row) at held)
