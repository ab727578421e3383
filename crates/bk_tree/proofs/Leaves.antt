-- The last inferior of a path has no children, and is there exactly where an inferior is.
use Rattle.std.proofs.Common.{◌≡◌, ℕ, ◌<◌, ◌≤◌, Bool, true, false, List, [], ◌∷◌, Option, Some, None, refl, sym, ◌∙◌, subst, arith}
use Rattle.std.specs.Prelude.{IsNone, IsTrue, IfNone, IfSome, ◌↔◌}
use Rattle.std.specs.FinMap.{get}
use Rattle.std.proofs.lemmas.Bool.{or_right}
use Rattle.bk_object.specs.declared.Slot.{Slot}
use Rattle.bk_path.specs.Paths.{Path, is_inferior, is_same, IsPath}
use Rattle.bk_path.proofs.PathLemmas.{is_inferior-append}
use Rattle.bk_tree.specs.declared.place.Placed.{Placed}
use Rattle.bk_tree.specs.declared.order.Entry.{Entry}
use Rattle.bk_tree.specs.Objects.{Objects, HasNone, IsLeafOf}
use Rattle.bk_path.specs.Keys.{key_of, past_of}
use Rattle.bk_tree.specs.Order.{IsLastOf, IsNoneOf}
use Rattle.bk_tree.specs.Whole.{IsIndex, IsOfObject}
use Rattle.bk_path.proofs.KeyLemmas.{child_above, inferior_within, within_inferior}

is_true : (b : Bool) → IsTrue b → b ≡ true
is_true true h = refl
is_true false h = absurd (cc h)

truly : (b : Bool) → b ≡ true → IsTrue b
truly b h = subst IsTrue (sym h) refl

module _ (m : Objects) (order : List Entry) (index : IsIndex m order) (of : Path) (valid : IsPath of) where
  -- the last inferior has no children
  pub leaf_of : (slot : ℕ) → IsLastOf order of slot → IsLeafOf m of slot
  leaf_of slot last = record {
    path = it.path;
    facts = it.object.facts;
    there = it.there ∙ (λ i. Some (record { slot = it.slot i; facts = it.object.facts }));
    inferior = truly _ below;
    childless = λ entry. by entry (get m (entry ∷ it.path)) refl;
  }
    where
      it : IsOfObject m last.key slot
      it = index.known last.key slot last.there

      from : key_of of ≤ key_of it.path
      from = let least = last.from in let same = it.key in omega (arith, least, same)

      to : key_of it.path < past_of of
      to = let most = last.to in let same = it.key in omega (arith, most, same)

      below : is_inferior it.path of ≡ true
      below = within_inferior it.path of it.valid valid from to

      by : (entry : ℕ) (o : Option Placed) → get m (entry ∷ it.path) ≡ o → IsNone o
      by entry None h = refl
      by entry (Some b) h =
          let child = index.entered (entry ∷ it.path) b h in
          let both = inferior_within (entry ∷ it.path) of child.valid valid (or_right (is_same (entry ∷ it.path) of) (is_inferior it.path of) below) in
          let most = last.last (key_of (entry ∷ it.path)) b.slot child.there both.1 in
          let above = child_above entry it.path it.valid child.valid (is_inferior-append (entry ∷ []) it.path) in
          let same = it.key in
          absurd (omega (arith, most, above, same))

  pub none_of : IsNoneOf order of → HasNone m of
  none_of none path inferior = by (get m path) refl
    where
      by : (o : Option Placed) → get m path ≡ o → IsNone o
      by None h = refl
      by (Some a) h =
          let entered = index.entered path a h in
          let both = inferior_within path of entered.valid valid (is_true _ inferior) in
          let from = both.0 in
          let less = none (key_of path) a.slot entered.there both.1 in
          absurd (omega (arith, from, less))

-- None exactly where none is there
pub none_exactly : (m : Objects) (of : Path) (o : Option Slot) → IfSome o (λ slot. IsLeafOf m of slot.n) → IfNone o (HasNone m of) → IsNone o ↔ HasNone m of
none_exactly m of None some none = (λ h. none, λ h. refl)
none_exactly m of (Some slot) leaf none = (λ h. absurd (cc h), λ h. let gone = h leaf.path leaf.inferior in absurd (cc (subst IsNone leaf.there gone)))

pub none_then : (o : Option Slot) {P Q : Type 0} → IfNone o P → (P → Q) → IfNone o Q
none_then None h f = f h
none_then (Some slot) h f = tt
