-- What an object has is as its kind says, and segments stand apart.
use Rattle.std.proofs.Common.{◌≡◌, ℕ, List, Option, Some, None, refl, sym, ap, subst, ◌∙◌, arith, is_some}
use Rattle.std.specs.Prelude.{option_map}
use Rattle.std.specs.FinMap as finite
use Rattle.std.specs.Ordering.{nat_cmp}
use Rattle.std.proofs.lemmas.Option.{same_Some}
use Rattle.bk_base.proofs.MapValues.{get-map_values}
use Rattle.bk_level.specs.Levels.{Level}
use Rattle.bk_object.specs.declared.kind.Kind.{Kind}
use Rattle.bk_object.specs.declared.kind.Kind.TheVariants.{Directory, Segment, Mailbox, Line}
use Rattle.bk_object.specs.Kinds.{is_segment}
use Rattle.bk_path.specs.Paths.{Path}
use Rattle.bk_access.specs.Held.{Held}
use Rattle.bk_frames.specs.Extents.{Extent}
use Rattle.bk_tree.specs.declared.place.Placed.{Placed}
use Rattle.bk_tree.specs.Objects.{Objects}
use Rattle.bk_store.specs.Stored.{Entry, extent_at, extent_in}
use Rattle.bk_store.specs.Joined.{Tables, blocks_of, entries_of, entry_of, queue_at, store_of, FitsKind, HaveKinds, AreExtentsApart, IsStore}
use Rattle.bk_store.proofs.Entries.{get-entry}

pub none_of_map : {A B : Type 0} (f : A → B) (o : Option A) → option_map f o ≡ None → o ≡ None
none_of_map f None e = refl
none_of_map f (Some x) e = cc

pub some_mapped : {A B : Type 0} (f : A → B) (o : Option A) → is_some (option_map f o) ≡ is_some o
some_mapped f None = refl
some_mapped f (Some x) = refl

fits : (tables : Tables) (kind : Kind) (blocks slot : ℕ) (extent : Option Extent) → option_map (λ (e : Extent). e.blocks) extent ≡ blocks_of kind blocks → FitsKind kind blocks extent (queue_at tables slot kind)
fits tables Directory blocks slot extent h = (none_of_map (λ (e : Extent). e.blocks) extent h, refl)
fits tables Segment blocks slot extent h = (h, refl)
fits tables Mailbox blocks slot extent h = (none_of_map (λ (e : Extent). e.blocks) extent h, (_, refl))
fits tables (Line n) blocks slot extent h = (none_of_map (λ (e : Extent). e.blocks) extent h, (_, refl))

pub extent_of_kind : (kind : Kind) (blocks : ℕ) (extent : Option Extent) → option_map (λ (e : Extent). e.blocks) extent ≡ blocks_of kind blocks → is_some extent ≡ is_segment kind
extent_of_kind Directory blocks extent h = ap is_some (none_of_map (λ (e : Extent). e.blocks) extent h)
extent_of_kind Segment blocks None h = cc
extent_of_kind Segment blocks (Some e) h = refl
extent_of_kind Mailbox blocks extent h = ap is_some (none_of_map (λ (e : Extent). e.blocks) extent h)
extent_of_kind (Line n) blocks extent h = ap is_some (none_of_map (λ (e : Extent). e.blocks) extent h)

module _ (levels : List Level) (lines : ℕ) (tree : Objects) (held : Held) (tables : Tables) (keeps : IsStore lines tree held tables) where
  -- the object of an entry that is there
  entry_there : {P : Type 0} (p : Path) (e : Entry) → finite.get (entries_of tree tables) p ≡ Some e → ((a : Placed) → finite.get tree p ≡ Some a → entry_of tables a ≡ e → P) → P
  entry_there {P} p e h use_it = by (finite.get tree p) refl (sym (get-entry tree tables p) ∙ h)
    where
      by : (o : Option Placed) → finite.get tree p ≡ o → option_map (entry_of tables) o ≡ Some e → P
      by None is k = cc
      by (Some a) is k = use_it a is (same_Some (entry_of tables a) e k)

  pub its_blocks : (p : Path) (a : Placed) → finite.get tree p ≡ Some a → option_map (λ (e : Extent). e.blocks) (finite.get tables.frames.extents a.slot) ≡ blocks_of a.facts.kind a.facts.blocks
  its_blocks p a is = sym (get-map_values nat_cmp (λ e. e.blocks) tables.frames.extents a.slot) ∙ keeps.extents.sizes p a is

  pub have_kinds : HaveKinds (store_of levels lines tree held tables)
  have_kinds p e h = entry_there p e h (λ a is same. subst (λ (x : Entry). FitsKind x.facts.kind x.facts.blocks x.extent x.queue) same (fits tables a.facts.kind a.facts.blocks a.slot (finite.get tables.frames.extents a.slot) (its_blocks p a is)))

  extent_there : {P : Type 0} (p : Path) (x : Extent) → extent_in (store_of levels lines tree held tables) p ≡ Some x → ((a : Placed) → finite.get tree p ≡ Some a → finite.get tables.frames.extents a.slot ≡ Some x → P) → P
  extent_there {P} p x h use_it = by (finite.get tree p) refl (sym (ap extent_at (get-entry tree tables p)) ∙ h)
    where
      by : (o : Option Placed) → finite.get tree p ≡ o → extent_at (option_map (entry_of tables) o) ≡ Some x → P
      by None is k = cc
      by (Some a) is k = use_it a is k

  pub extents_apart : AreExtentsApart (store_of levels lines tree held tables)
  extents_apart = record {
    sized = λ p x h. extent_there p x h (λ a is stands. keeps.extents.apart.sized a.slot x stands);
    within = λ p x h. extent_there p x h (λ a is stands. let w = keeps.extents.apart.within a.slot x stands in (omega (arith, w.0, keeps.extents.first), omega (arith, w.1, keeps.extents.first, keeps.extents.blocks)));
    apart = λ p q x y h k differ. extent_there p x h (λ a is_a at_a. extent_there q y k (λ b is_b at_b. keeps.extents.apart.apart a.slot b.slot x y at_a at_b
        (λ same. differ (keeps.slots.own p q b.slot (ap (option_map (λ (z : Placed). z.slot)) is_a ∙ ap Some same) (ap (option_map (λ (z : Placed). z.slot)) is_b)))));
  }
