use Rattle.std.proofs.Common.{◌≡◌, ◌+◌, refl, sym, ap, ◌∙◌, subst, arith}
use Rattle.std.specs.Prelude.{IsNone}
use Rattle.std.specs.FinMap.{get}
use Rattle.bk_frames.specs.Extents.{Standing, taken_in}
use Rattle.bk_frames.proofs.Searched.{behind_last, free_moved, none_moved, room_behind, there_inserted}
use Rattle.bk_frames.proofs.frames.Frames.settle_last.Goals as goal

pub settle-requires-clause-here : goal.settle-requires-clause-here
settle-requires-clause-here c =
    let first = ap (λ (v : Standing). v.first) c.self.view_is in
    let blocks = ap (λ (v : Standing). v.blocks) c.self.view_is in
    let taken = ap taken_in (sym c.self.view_is) ∙ c.self.invariant.counted in
    let fits = c.self.invariant.fits in
    let at : c.self.inside.first + c.self.inside.taken ≡ c.compact.new.self.first + taken_in c.compact.new.self = omega (arith, first, taken) in
    room_behind c.compact.new.self c.args.blocks _ (free_moved c.args.self.now c.compact.new.self c.args.blocks c.requires.room (c.compact.ensures.room.1) c.compact.ensures.sizes)
    (omega (arith, blocks, taken, fits)) at (c.compact.ensures.dense _ at) c.args.slot.n (none_moved c.args.self.now c.compact.new.self c.args.slot.n c.compact.ensures.extents c.requires.free)

pub settle-requires-clause-room : goal.settle-requires-clause-room
settle-requires-clause-room c = free_moved c.args.self.now c.compact.new.self c.args.blocks c.requires.room (c.compact.ensures.room.1) c.compact.ensures.sizes

pub settle-requires-clause-free : goal.settle-requires-clause-free
settle-requires-clause-free c = subst IsNone (sym (none_moved c.args.self.now c.compact.new.self c.args.slot.n c.compact.ensures.extents c.requires.free)) refl

pub returns-clause-here : goal.returns-clause-here
returns-clause-here c = ap (λ m. get m c.args.slot.n) c.settle.ensures.extents ∙ there_inserted c.compact.new.self.extents c.args.slot.n _

pub returns-clause-behind : goal.returns-clause-behind
returns-clause-behind c =
    let first = ap (λ (v : Standing). v.first) c.self.view_is in
    let taken = ap taken_in (sym c.self.view_is) ∙ c.self.invariant.counted in
    let at : c.self.inside.first + c.self.inside.taken ≡ c.compact.new.self.first + taken_in c.compact.new.self = omega (arith, first, taken) in
    behind_last c.compact.new.self c.settle.new.self c.args.slot.n _ _ c.settle.ensures.extents (c.compact.ensures.dense _ at c.args.slot.n)
