use Rattle.std.proofs.Common.{◌≡◌, ◌+◌, ◌-◌, ◌*◌, ◌<◌, ◌≤◌, replicate, sym, subst, arith}
use Rattle.bk_core.specs.Memory.{block_words, zeroed, KeepsOthers}
use Rattle.bk_frames.specs.Extents.{Standing}
use Rattle.bk_frames.proofs.Settled.{settling}
use Rattle.bk_frames.proofs.frames.Frames.settle.Goals as goal

pub zero-requires : goal.zero-requires
zero-requires c =
    let within = subst (λ (v : Standing). c.args.at + c.args.blocks ≤ v.first + v.blocks) (sym c.self.view_is) c.requires.here.within in
    record { inside = omega (arith, within, c.from.ensures, c.self.invariant.inside) }

pub invariant_of-self : goal.invariant_of-self
invariant_of-self c = (settling _ _ _ _ _ _ _ _ c.self.invariant _ c.self.view_is c.args.slot.n c.args.at (c.args.at - c.self.inside.first) c.args.blocks c.raised-self-inside.result (c.self.inside.taken + c.from-2.result) c.args.core.now.words c.zero.new.self.words c.mark.new.owners.items c.put.new.places.items
    (subst (λ (v : Standing). c.args.slot.n < v.slots) (sym c.self.view_is) c.requires.known) c.requires.some c.requires.few c.requires.here c.requires.room c.requires.free
    (let above = subst (λ (v : Standing). v.first ≤ c.args.at) (sym c.self.view_is) c.requires.here.above in omega arith) c.args.core.now.full
    (subst (λ n. c.zero.new.self.words ≡ zeroed c.args.core.now.words c.args.at n) c.from.ensures c.zero.ensures.words)
    (subst (λ n. block_words c.zero.new.self.words c.args.at n ≡ replicate (32 * n) 0) c.from.ensures c.zero.ensures.zero)
    (subst (λ n. KeepsOthers c.args.at n c.args.core.now.words c.zero.new.self.words) c.from.ensures c.zero.ensures.others)
    c.mark.ensures c.put.ensures c.raised-self-inside.ensures (omega (arith, c.from-2.ensures))).frames

pub returns-clause-extents : goal.returns-clause-extents
returns-clause-extents c = (settling _ _ _ _ _ _ _ _ c.self.invariant _ c.self.view_is c.args.slot.n c.args.at (c.args.at - c.self.inside.first) c.args.blocks c.raised-self-inside.result (c.self.inside.taken + c.from-2.result) c.args.core.now.words c.zero.new.self.words c.mark.new.owners.items c.put.new.places.items
    (subst (λ (v : Standing). c.args.slot.n < v.slots) (sym c.self.view_is) c.requires.known) c.requires.some c.requires.few c.requires.here c.requires.room c.requires.free
    (let above = subst (λ (v : Standing). v.first ≤ c.args.at) (sym c.self.view_is) c.requires.here.above in omega arith) c.args.core.now.full
    (subst (λ n. c.zero.new.self.words ≡ zeroed c.args.core.now.words c.args.at n) c.from.ensures c.zero.ensures.words)
    (subst (λ n. block_words c.zero.new.self.words c.args.at n ≡ replicate (32 * n) 0) c.from.ensures c.zero.ensures.zero)
    (subst (λ n. KeepsOthers c.args.at n c.args.core.now.words c.zero.new.self.words) c.from.ensures c.zero.ensures.others)
    c.mark.ensures c.put.ensures c.raised-self-inside.ensures (omega (arith, c.from-2.ensures))).extents

pub returns-clause-segments : goal.returns-clause-segments
returns-clause-segments c = (settling _ _ _ _ _ _ _ _ c.self.invariant _ c.self.view_is c.args.slot.n c.args.at (c.args.at - c.self.inside.first) c.args.blocks c.raised-self-inside.result (c.self.inside.taken + c.from-2.result) c.args.core.now.words c.zero.new.self.words c.mark.new.owners.items c.put.new.places.items
    (subst (λ (v : Standing). c.args.slot.n < v.slots) (sym c.self.view_is) c.requires.known) c.requires.some c.requires.few c.requires.here c.requires.room c.requires.free
    (let above = subst (λ (v : Standing). v.first ≤ c.args.at) (sym c.self.view_is) c.requires.here.above in omega arith) c.args.core.now.full
    (subst (λ n. c.zero.new.self.words ≡ zeroed c.args.core.now.words c.args.at n) c.from.ensures c.zero.ensures.words)
    (subst (λ n. block_words c.zero.new.self.words c.args.at n ≡ replicate (32 * n) 0) c.from.ensures c.zero.ensures.zero)
    (subst (λ n. KeepsOthers c.args.at n c.args.core.now.words c.zero.new.self.words) c.from.ensures c.zero.ensures.others)
    c.mark.ensures c.put.ensures c.raised-self-inside.ensures (omega (arith, c.from-2.ensures))).segments

pub returns-clause-sizes : goal.returns-clause-sizes
returns-clause-sizes c = (settling _ _ _ _ _ _ _ _ c.self.invariant _ c.self.view_is c.args.slot.n c.args.at (c.args.at - c.self.inside.first) c.args.blocks c.raised-self-inside.result (c.self.inside.taken + c.from-2.result) c.args.core.now.words c.zero.new.self.words c.mark.new.owners.items c.put.new.places.items
    (subst (λ (v : Standing). c.args.slot.n < v.slots) (sym c.self.view_is) c.requires.known) c.requires.some c.requires.few c.requires.here c.requires.room c.requires.free
    (let above = subst (λ (v : Standing). v.first ≤ c.args.at) (sym c.self.view_is) c.requires.here.above in omega arith) c.args.core.now.full
    (subst (λ n. c.zero.new.self.words ≡ zeroed c.args.core.now.words c.args.at n) c.from.ensures c.zero.ensures.words)
    (subst (λ n. block_words c.zero.new.self.words c.args.at n ≡ replicate (32 * n) 0) c.from.ensures c.zero.ensures.zero)
    (subst (λ n. KeepsOthers c.args.at n c.args.core.now.words c.zero.new.self.words) c.from.ensures c.zero.ensures.others)
    c.mark.ensures c.put.ensures c.raised-self-inside.ensures (omega (arith, c.from-2.ensures))).sizes

pub returns-clause-outside : goal.returns-clause-outside
returns-clause-outside c = (settling _ _ _ _ _ _ _ _ c.self.invariant _ c.self.view_is c.args.slot.n c.args.at (c.args.at - c.self.inside.first) c.args.blocks c.raised-self-inside.result (c.self.inside.taken + c.from-2.result) c.args.core.now.words c.zero.new.self.words c.mark.new.owners.items c.put.new.places.items
    (subst (λ (v : Standing). c.args.slot.n < v.slots) (sym c.self.view_is) c.requires.known) c.requires.some c.requires.few c.requires.here c.requires.room c.requires.free
    (let above = subst (λ (v : Standing). v.first ≤ c.args.at) (sym c.self.view_is) c.requires.here.above in omega arith) c.args.core.now.full
    (subst (λ n. c.zero.new.self.words ≡ zeroed c.args.core.now.words c.args.at n) c.from.ensures c.zero.ensures.words)
    (subst (λ n. block_words c.zero.new.self.words c.args.at n ≡ replicate (32 * n) 0) c.from.ensures c.zero.ensures.zero)
    (subst (λ n. KeepsOthers c.args.at n c.args.core.now.words c.zero.new.self.words) c.from.ensures c.zero.ensures.others)
    c.mark.ensures c.put.ensures c.raised-self-inside.ensures (omega (arith, c.from-2.ensures))).outside

pub returns-clause-apart : goal.returns-clause-apart
returns-clause-apart c = (settling _ _ _ _ _ _ _ _ c.self.invariant _ c.self.view_is c.args.slot.n c.args.at (c.args.at - c.self.inside.first) c.args.blocks c.raised-self-inside.result (c.self.inside.taken + c.from-2.result) c.args.core.now.words c.zero.new.self.words c.mark.new.owners.items c.put.new.places.items
    (subst (λ (v : Standing). c.args.slot.n < v.slots) (sym c.self.view_is) c.requires.known) c.requires.some c.requires.few c.requires.here c.requires.room c.requires.free
    (let above = subst (λ (v : Standing). v.first ≤ c.args.at) (sym c.self.view_is) c.requires.here.above in omega arith) c.args.core.now.full
    (subst (λ n. c.zero.new.self.words ≡ zeroed c.args.core.now.words c.args.at n) c.from.ensures c.zero.ensures.words)
    (subst (λ n. block_words c.zero.new.self.words c.args.at n ≡ replicate (32 * n) 0) c.from.ensures c.zero.ensures.zero)
    (subst (λ n. KeepsOthers c.args.at n c.args.core.now.words c.zero.new.self.words) c.from.ensures c.zero.ensures.others)
    c.mark.ensures c.put.ensures c.raised-self-inside.ensures (omega (arith, c.from-2.ensures))).apart
