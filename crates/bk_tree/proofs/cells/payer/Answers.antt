use Rattle.std.proofs.Common.{◌≡◌, ◌∙◌, ap, sym, Option, Some, None, ℕ, refl}
use Rattle.std.specs.Prelude.{IsSome, option_map}
use Rattle.std.specs.FinMap.{get}
use Rattle.std.proofs.lemmas.Option.{same_Some}
use Rattle.bk_object.specs.declared.Slot.{Slot}
use Rattle.bk_quota.specs.Charges.{governing_in}
use Rattle.bk_path.specs.Paths.{Path}
use Rattle.bk_tree.specs.declared.place.Placed.{Placed}
use Rattle.bk_tree.specs.Objects.{Objects, facts_of}
use Rattle.bk_tree.specs.Kept.{IsKept}
use Rattle.bk_tree.specs.Places.{tree_of}
use Rattle.bk_tree.proofs.Added.{governing_there}
use Rattle.bk_tree.proofs.cells.payer.Goals as goal

-- the cell that governs is there
there : (m : Objects) → IsKept m → (path : Path) → IsSome (get m path) → (a : Placed) × (get m (governing_in facts_of m path) ≡ Some a)
there m kept path some = by (get m path) refl some
  where
    by : (o : Option Placed) → get m path ≡ o → IsSome o → (a : Placed) × (get m (governing_in facts_of m path) ≡ Some a)
    by None is h = cc
    by (Some b) is h = governing_there m kept.parents path b is

some_slot : (o : Option Slot) (n : ℕ) → option_map (λ (s : Slot). s.n) o ≡ Some n → IsSome o
some_slot None n h = cc
some_slot (Some s) n h = refl

its_slot : (o : Option Slot) (s : Slot) (n : ℕ) → o ≡ Some s → option_map (λ (s : Slot). s.n) o ≡ Some n → n ≡ s.n
its_slot o s n is h = sym (same_Some s.n n (sym (ap (option_map (λ (s : Slot). s.n)) is) ∙ h))

pub unwrap-requires : goal.unwrap-requires
unwrap-requires c =
    let (a, at) = there (tree_of c.args.places.now.items) c.requires.kept c.args.path c.requires.there in
    some_slot c.slot_for.result a.slot (c.slot_for.ensures.slot ∙ c.requires.finds.found c.governing.result c.slot_for.ensures.path ∙ ap (option_map (λ (x : Placed). x.slot)) (ap (get (tree_of c.args.places.now.items)) c.governing.ensures ∙ at))

pub returns : goal.returns
returns c =
    let (a, at) = there (tree_of c.args.places.now.items) c.requires.kept c.args.path c.requires.there in
    (a, at, its_slot c.slot_for.result c.unwrap.result a.slot c.unwrap.ensures (c.slot_for.ensures.slot ∙ c.requires.finds.found c.governing.result c.slot_for.ensures.path ∙ ap (option_map (λ (x : Placed). x.slot)) (ap (get (tree_of c.args.places.now.items)) c.governing.ensures ∙ at)))
