use Rattle.std.proofs.Common.{◌≡◌, ◌∙◌, ◌++◌, sym, ap, refl, subst, arith, length, length-set, set, Some}
use Rattle.std.specs.Prelude.{IsNone}
use Rattle.std.specs.Option.{option_to_list}
use Rattle.std.specs.Vec.{vec_capacity}
use Rattle.std.specs.FinMap.{get, insert}
use Rattle.bk_path.specs.Paths.{parent}
use Rattle.bk_quota.specs.Charges.{charge_of, governing_in, level_in}
use Rattle.bk_quota.specs.Usage.{charged}
use Rattle.bk_tree.specs.declared.place.Placed.{Placed}
use Rattle.bk_tree.specs.Objects.{facts_of}
use Rattle.bk_tree.specs.Kept.{cell_in, Fits, HasDirectory, IsFit}
use Rattle.bk_tree.specs.Places.{tree_of}
use Rattle.bk_tree.specs.Whole.{IsWhole}
use Rattle.bk_tree.proofs.Created.{free_is, taken_is}
use Rattle.bk_tree.proofs.Kept.{finding, fits_not, fits_then, map_now, not_charged, paying, slot_within, some_left, whole_now}
use Rattle.bk_tree.proofs.tree.Tree.create.Goals as goal

pub is_taken-requires-clause-finds : goal.is_taken-requires-clause-finds
is_taken-requires-clause-finds c = finding c.self.inside.places.items c.self.inside.cells.items c.self.inside.order.items c.self.inside.free.items _ _ c.self.invariant

pub payer-payer-requires-clause-finds : goal.payer-payer-requires-clause-finds
payer-payer-requires-clause-finds c = finding c.self.inside.places.items c.self.inside.cells.items c.self.inside.order.items c.self.inside.free.items _ _ c.self.invariant

pub level_at-level-requires-clause-finds : goal.level_at-level-requires-clause-finds
level_at-level-requires-clause-finds c = finding c.self.inside.places.items c.self.inside.cells.items c.self.inside.order.items c.self.inside.free.items _ _ c.self.invariant

pub charge_at-requires : goal.charge_at-requires
charge_at-requires c = ((cell_in (tree_of c.self.inside.places.items) (governing_in facts_of (tree_of c.self.inside.places.items) (parent c.args.path))), (paying c.self.inside.places.items c.self.inside.cells.items c.self.inside.order.items c.self.inside.free.items _ _ c.self.invariant (parent c.args.path) c.payer-payer.result.n (subst (λ q. (a : Placed) × (get (tree_of c.self.inside.places.items) (governing_in facts_of (tree_of c.self.inside.places.items) q) ≡ Some a) × (a.slot ≡ c.payer-payer.result.n)) c.above-above.ensures c.payer-payer.ensures)))

pub returns-then-is_taken-clause-err : goal.returns-then-is_taken-clause-err
returns-then-is_taken-clause-err c = (taken_is c.self.inside.places.items c.self.inside.places.items c.args.self.now refl c.self.view_is c.args.path c.args.facts c.is_taken.result c.is_taken.ensures c.if-is_taken.true, refl)

pub unwrap-requires : goal.unwrap-requires
unwrap-requires c =
    let some = some_left c.self.inside.places.items c.self.inside.cells.items c.self.inside.order.items c.self.inside.free.items _ _ c.self.invariant c.args.path c.args.facts c.requires.below_root
    (subst (λ m. HasDirectory m (parent c.args.path)) (sym c.self.view_is) c.requires.parent)
    (subst (λ m. IsFit c.args.facts (level_in facts_of m (parent c.args.path))) (sym c.self.view_is) c.requires.fit)
    (free_is c.self.inside.places.items c.self.inside.places.items (tree_of c.self.inside.places.items) refl refl c.args.path c.args.facts c.is_taken.result c.is_taken.ensures c.if-is_taken.false)
    (fits_then (tree_of c.self.inside.places.items) c.args.path c.args.facts c.charge_of-charge.result c.charge_at.result (c.charge_of-charge.ensures ∙ ap (charge_of c.args.facts) (c.level_at-level.ensures ∙ ap (level_in facts_of (tree_of c.self.inside.places.items)) c.above-above.ensures)) (c.charge_at.ensures.fits (cell_in (tree_of c.self.inside.places.items) (governing_in facts_of (tree_of c.self.inside.places.items) (parent c.args.path))) (paying c.self.inside.places.items c.self.inside.cells.items c.self.inside.order.items c.self.inside.free.items _ _ c.self.invariant (parent c.args.path) c.payer-payer.result.n (subst (λ q. (a : Placed) × (get (tree_of c.self.inside.places.items) (governing_in facts_of (tree_of c.self.inside.places.items) q) ≡ Some a) × (a.slot ≡ c.payer-payer.result.n)) c.above-above.ensures c.payer-payer.ensures))) c.if-charge_at.true) in
    c.pop.ensures.variant.1 (omega (arith, some, c.self.inside.free.ok.0))

pub put-requires : goal.put-requires
put-requires c = slot_within c.self.inside.places.items c.self.inside.cells.items c.self.inside.order.items c.self.inside.free.items _ _ c.self.invariant c.pop.new.self.items c.unwrap.result (c.pop.ensures.items ∙ ap (λ o. c.pop.new.self.items ++ option_to_list o) c.unwrap.ensures)

pub put_cell-requires : goal.put_cell-requires
put_cell-requires c =
    let within = slot_within c.self.inside.places.items c.self.inside.cells.items c.self.inside.order.items c.self.inside.free.items _ _ c.self.invariant c.pop.new.self.items c.unwrap.result (c.pop.ensures.items ∙ ap (λ o. c.pop.new.self.items ++ option_to_list o) c.unwrap.ensures) in
    let long = ap length (c.charge_at.ensures.after (cell_in (tree_of c.self.inside.places.items) (governing_in facts_of (tree_of c.self.inside.places.items) (parent c.args.path))) (paying c.self.inside.places.items c.self.inside.cells.items c.self.inside.order.items c.self.inside.free.items _ _ c.self.invariant (parent c.args.path) c.payer-payer.result.n (subst (λ q. (a : Placed) × (get (tree_of c.self.inside.places.items) (governing_in facts_of (tree_of c.self.inside.places.items) q) ≡ Some a) × (a.slot ≡ c.payer-payer.result.n)) c.above-above.ensures c.payer-payer.ensures)) ∙ ap (λ b. set c.self.inside.cells.items c.payer-payer.result.n (charged (cell_in (tree_of c.self.inside.places.items) (governing_in facts_of (tree_of c.self.inside.places.items) (parent c.args.path))) c.charge_of-charge.result b)) c.if-charge_at.true) ∙ length-set c.self.inside.cells.items c.payer-payer.result.n _ ∙ c.self.invariant.cells_of in
    omega (arith, within, long)

pub invariant_of-self : goal.invariant_of-self
invariant_of-self c = whole_now c.self.inside.places.items c.self.inside.cells.items c.self.inside.order.items c.self.inside.free.items _ _ c.self.invariant c.args.path c.args.facts c.enter.ensures.path c.requires.below_root
    (subst (λ m. HasDirectory m (parent c.args.path)) (sym c.self.view_is) c.requires.parent)
    (subst (λ m. IsFit c.args.facts (level_in facts_of m (parent c.args.path))) (sym c.self.view_is) c.requires.fit)
    (free_is c.self.inside.places.items c.self.inside.places.items (tree_of c.self.inside.places.items) refl refl c.args.path c.args.facts c.is_taken.result c.is_taken.ensures c.if-is_taken.false)
    (fits_then (tree_of c.self.inside.places.items) c.args.path c.args.facts c.charge_of-charge.result c.charge_at.result (c.charge_of-charge.ensures ∙ ap (charge_of c.args.facts) (c.level_at-level.ensures ∙ ap (level_in facts_of (tree_of c.self.inside.places.items)) c.above-above.ensures)) (c.charge_at.ensures.fits (cell_in (tree_of c.self.inside.places.items) (governing_in facts_of (tree_of c.self.inside.places.items) (parent c.args.path))) (paying c.self.inside.places.items c.self.inside.cells.items c.self.inside.order.items c.self.inside.free.items _ _ c.self.invariant (parent c.args.path) c.payer-payer.result.n (subst (λ q. (a : Placed) × (get (tree_of c.self.inside.places.items) (governing_in facts_of (tree_of c.self.inside.places.items) q) ≡ Some a) × (a.slot ≡ c.payer-payer.result.n)) c.above-above.ensures c.payer-payer.ensures))) c.if-charge_at.true)
    c.payer-payer.result.n c.charge_of-charge.result c.unwrap.result (subst (λ q. (a : Placed) × (get (tree_of c.self.inside.places.items) (governing_in facts_of (tree_of c.self.inside.places.items) q) ≡ Some a) × (a.slot ≡ c.payer-payer.result.n)) c.above-above.ensures c.payer-payer.ensures)
    (c.charge_of-charge.ensures ∙ ap (charge_of c.args.facts) (c.level_at-level.ensures ∙ ap (level_in facts_of (tree_of c.self.inside.places.items)) c.above-above.ensures))
    c.pop.new.self.items (c.pop.ensures.items ∙ ap (λ o. c.pop.new.self.items ++ option_to_list o) c.unwrap.ensures) c.charge_at.new.cells.items c.put_cell.new.cells.items
    (c.charge_at.ensures.after (cell_in (tree_of c.self.inside.places.items) (governing_in facts_of (tree_of c.self.inside.places.items) (parent c.args.path))) (paying c.self.inside.places.items c.self.inside.cells.items c.self.inside.order.items c.self.inside.free.items _ _ c.self.invariant (parent c.args.path) c.payer-payer.result.n (subst (λ q. (a : Placed) × (get (tree_of c.self.inside.places.items) (governing_in facts_of (tree_of c.self.inside.places.items) q) ≡ Some a) × (a.slot ≡ c.payer-payer.result.n)) c.above-above.ensures c.payer-payer.ensures)) ∙ ap (λ b. set c.self.inside.cells.items c.payer-payer.result.n (charged (cell_in (tree_of c.self.inside.places.items) (governing_in facts_of (tree_of c.self.inside.places.items) (parent c.args.path))) c.charge_of-charge.result b)) c.if-charge_at.true)
    (c.put_cell.ensures ∙ ap (set c.charge_at.new.cells.items c.unwrap.result) c.new.ensures)
    c.put.new.places.items c.put.ensures c.enter.new.order.items c.enter.ensures.items _ _ (omega (arith, c.enter.ensures.capacity)) (omega (arith, c.pop.ensures.capacity))

pub returns-then-charge_at-clause-ok : goal.returns-then-charge_at-clause-ok
returns-then-charge_at-clause-ok c = (
  subst (λ m. IsNone (get m c.args.path)) c.self.view_is (free_is c.self.inside.places.items c.self.inside.places.items (tree_of c.self.inside.places.items) refl refl c.args.path c.args.facts c.is_taken.result c.is_taken.ensures c.if-is_taken.false),
  subst (λ m. Fits m c.args.path c.args.facts) c.self.view_is (fits_then (tree_of c.self.inside.places.items) c.args.path c.args.facts c.charge_of-charge.result c.charge_at.result (c.charge_of-charge.ensures ∙ ap (charge_of c.args.facts) (c.level_at-level.ensures ∙ ap (level_in facts_of (tree_of c.self.inside.places.items)) c.above-above.ensures)) (c.charge_at.ensures.fits (cell_in (tree_of c.self.inside.places.items) (governing_in facts_of (tree_of c.self.inside.places.items) (parent c.args.path))) (paying c.self.inside.places.items c.self.inside.cells.items c.self.inside.order.items c.self.inside.free.items _ _ c.self.invariant (parent c.args.path) c.payer-payer.result.n (subst (λ q. (a : Placed) × (get (tree_of c.self.inside.places.items) (governing_in facts_of (tree_of c.self.inside.places.items) q) ≡ Some a) × (a.slot ≡ c.payer-payer.result.n)) c.above-above.ensures c.payer-payer.ensures))) c.if-charge_at.true),
  map_now c.self.inside.places.items c.self.inside.cells.items c.self.inside.order.items c.self.inside.free.items _ _ c.self.invariant c.args.path c.args.facts c.enter.ensures.path c.requires.below_root
      (subst (λ m. HasDirectory m (parent c.args.path)) (sym c.self.view_is) c.requires.parent)
      (subst (λ m. IsFit c.args.facts (level_in facts_of m (parent c.args.path))) (sym c.self.view_is) c.requires.fit)
      (free_is c.self.inside.places.items c.self.inside.places.items (tree_of c.self.inside.places.items) refl refl c.args.path c.args.facts c.is_taken.result c.is_taken.ensures c.if-is_taken.false)
      (fits_then (tree_of c.self.inside.places.items) c.args.path c.args.facts c.charge_of-charge.result c.charge_at.result (c.charge_of-charge.ensures ∙ ap (charge_of c.args.facts) (c.level_at-level.ensures ∙ ap (level_in facts_of (tree_of c.self.inside.places.items)) c.above-above.ensures)) (c.charge_at.ensures.fits (cell_in (tree_of c.self.inside.places.items) (governing_in facts_of (tree_of c.self.inside.places.items) (parent c.args.path))) (paying c.self.inside.places.items c.self.inside.cells.items c.self.inside.order.items c.self.inside.free.items _ _ c.self.invariant (parent c.args.path) c.payer-payer.result.n (subst (λ q. (a : Placed) × (get (tree_of c.self.inside.places.items) (governing_in facts_of (tree_of c.self.inside.places.items) q) ≡ Some a) × (a.slot ≡ c.payer-payer.result.n)) c.above-above.ensures c.payer-payer.ensures))) c.if-charge_at.true)
      c.payer-payer.result.n c.charge_of-charge.result c.unwrap.result (subst (λ q. (a : Placed) × (get (tree_of c.self.inside.places.items) (governing_in facts_of (tree_of c.self.inside.places.items) q) ≡ Some a) × (a.slot ≡ c.payer-payer.result.n)) c.above-above.ensures c.payer-payer.ensures)
      (c.charge_of-charge.ensures ∙ ap (charge_of c.args.facts) (c.level_at-level.ensures ∙ ap (level_in facts_of (tree_of c.self.inside.places.items)) c.above-above.ensures))
      c.pop.new.self.items (c.pop.ensures.items ∙ ap (λ o. c.pop.new.self.items ++ option_to_list o) c.unwrap.ensures) c.charge_at.new.cells.items c.put_cell.new.cells.items
      (c.charge_at.ensures.after (cell_in (tree_of c.self.inside.places.items) (governing_in facts_of (tree_of c.self.inside.places.items) (parent c.args.path))) (paying c.self.inside.places.items c.self.inside.cells.items c.self.inside.order.items c.self.inside.free.items _ _ c.self.invariant (parent c.args.path) c.payer-payer.result.n (subst (λ q. (a : Placed) × (get (tree_of c.self.inside.places.items) (governing_in facts_of (tree_of c.self.inside.places.items) q) ≡ Some a) × (a.slot ≡ c.payer-payer.result.n)) c.above-above.ensures c.payer-payer.ensures)) ∙ ap (λ b. set c.self.inside.cells.items c.payer-payer.result.n (charged (cell_in (tree_of c.self.inside.places.items) (governing_in facts_of (tree_of c.self.inside.places.items) (parent c.args.path))) c.charge_of-charge.result b)) c.if-charge_at.true)
      (c.put_cell.ensures ∙ ap (set c.charge_at.new.cells.items c.unwrap.result) c.new.ensures)
      c.put.new.places.items c.put.ensures c.enter.new.order.items c.enter.ensures.items (vec_capacity c.enter.new.order) (vec_capacity c.pop.new.self) (omega (arith, c.enter.ensures.capacity)) (omega (arith, c.pop.ensures.capacity)) ∙ ap (λ m. insert m c.args.path (record { slot = c.unwrap.result; facts = c.args.facts })) c.self.view_is,
)

pub invariant_of-self-else-charge_at : goal.invariant_of-self-else-charge_at
invariant_of-self-else-charge_at c =
    subst (λ cells. IsWhole c.self.inside.places.items cells c.self.inside.order.items c.self.inside.free.items (vec_capacity c.self.inside.order) (vec_capacity c.self.inside.free))
    (sym (not_charged c.self.inside.cells.items c.charge_at.new.cells.items c.payer-payer.result.n c.charge_of-charge.result (cell_in (tree_of c.self.inside.places.items) (governing_in facts_of (tree_of c.self.inside.places.items) (parent c.args.path))) c.charge_at.result c.if-charge_at.false (paying c.self.inside.places.items c.self.inside.cells.items c.self.inside.order.items c.self.inside.free.items _ _ c.self.invariant (parent c.args.path) c.payer-payer.result.n (subst (λ q. (a : Placed) × (get (tree_of c.self.inside.places.items) (governing_in facts_of (tree_of c.self.inside.places.items) q) ≡ Some a) × (a.slot ≡ c.payer-payer.result.n)) c.above-above.ensures c.payer-payer.ensures)) (c.charge_at.ensures.after (cell_in (tree_of c.self.inside.places.items) (governing_in facts_of (tree_of c.self.inside.places.items) (parent c.args.path))) (paying c.self.inside.places.items c.self.inside.cells.items c.self.inside.order.items c.self.inside.free.items _ _ c.self.invariant (parent c.args.path) c.payer-payer.result.n (subst (λ q. (a : Placed) × (get (tree_of c.self.inside.places.items) (governing_in facts_of (tree_of c.self.inside.places.items) q) ≡ Some a) × (a.slot ≡ c.payer-payer.result.n)) c.above-above.ensures c.payer-payer.ensures))))) c.self.invariant

pub returns-else-charge_at-clause-err : goal.returns-else-charge_at-clause-err
returns-else-charge_at-clause-err c = (
  (
    subst (λ m. IsNone (get m c.args.path)) c.self.view_is (free_is c.self.inside.places.items c.self.inside.places.items (tree_of c.self.inside.places.items) refl refl c.args.path c.args.facts c.is_taken.result c.is_taken.ensures c.if-is_taken.false),
    λ fits. fits_not (tree_of c.self.inside.places.items) c.args.path c.args.facts c.charge_of-charge.result c.charge_at.result (c.charge_of-charge.ensures ∙ ap (charge_of c.args.facts) (c.level_at-level.ensures ∙ ap (level_in facts_of (tree_of c.self.inside.places.items)) c.above-above.ensures)) (c.charge_at.ensures.fits (cell_in (tree_of c.self.inside.places.items) (governing_in facts_of (tree_of c.self.inside.places.items) (parent c.args.path))) (paying c.self.inside.places.items c.self.inside.cells.items c.self.inside.order.items c.self.inside.free.items _ _ c.self.invariant (parent c.args.path) c.payer-payer.result.n (subst (λ q. (a : Placed) × (get (tree_of c.self.inside.places.items) (governing_in facts_of (tree_of c.self.inside.places.items) q) ≡ Some a) × (a.slot ≡ c.payer-payer.result.n)) c.above-above.ensures c.payer-payer.ensures))) c.if-charge_at.false (subst (λ m. Fits m c.args.path c.args.facts) (sym c.self.view_is) fits),
  ),
  c.self.view_is,
)
