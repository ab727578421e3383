use Rattle.std.proofs.Common.{◌∙◌, ◌-◌, ◌==◌, not, sym, ap, subst, arith}
use Rattle.std.specs.FinMap.{retain_keys}
use Rattle.bk_frames.specs.Extents.{Standing, IsApart}
use Rattle.bk_frames.specs.Table.{extents_in}
use Rattle.bk_frames.proofs.Tables.{extents-drop, extents-stay, place_within}
use Rattle.bk_frames.proofs.Settled.{blocks_taken, freeing, table_apart}
use Rattle.bk_frames.proofs.frames.Frames.free.Goals as goal

pub overflow_sub-self : goal.overflow_sub-self
overflow_sub-self c =
    let taken = blocks_taken _ _ _ _ _ _ _ _ c.self.invariant c.args.slot.n c.in-Some.place (sym c.in-Some.ensures) in
    omega (arith, taken)

pub invariant_of-self : goal.invariant_of-self
invariant_of-self c =
    let there = sym c.in-Some.ensures in
    let own = c.self.invariant.table.owned c.args.slot.n c.in-Some.place there in
    let above = own.above in
    let taken = blocks_taken _ _ _ _ _ _ _ _ c.self.invariant c.args.slot.n c.in-Some.place there in
    rw c.put.ensures (freeing _ _ _ _ _ _ _ _ c.self.invariant c.args.slot.n c.in-Some.place there (c.in-Some.place.first - c.self.inside.first) c.mark.new.owners.items (omega arith) c.mark.ensures _ _ (omega (arith, taken, c.from.ensures)) (omega (arith, c.min-self-inside.ensures)) (omega (arith, c.min-self-inside.ensures)))

pub returns-in-Some-clause-extents : goal.returns-in-Some-clause-extents
returns-in-Some-clause-extents c =
    ap extents_in c.put.ensures ∙ extents-drop c.self.inside.places.items c.args.slot.n (place_within _ _ _ (sym c.in-Some.ensures))
    ∙ ap (λ (v : Standing). retain_keys v.extents (λ s. not (s == c.args.slot.n))) c.self.view_is

pub returns-in-Some-clause-apart : goal.returns-in-Some-clause-apart
returns-in-Some-clause-apart c = table_apart _ _ _ _ _ (invariant_of-self c).table (invariant_of-self c).whole

pub returns-in_default-clause-extents : goal.returns-in_default-clause-extents
returns-in_default-clause-extents c =
    sym (ap (λ (v : Standing). v.extents) c.self.view_is)
    ∙ extents-stay c.self.inside.places.items c.args.slot.n (sym c.place_for.ensures ∙ c.in_default.is)
    ∙ ap (λ (v : Standing). retain_keys v.extents (λ s. not (s == c.args.slot.n))) c.self.view_is

pub returns-in_default-clause-apart : goal.returns-in_default-clause-apart
returns-in_default-clause-apart c = subst IsApart c.self.view_is (table_apart _ _ _ _ _ c.self.invariant.table c.self.invariant.whole)
