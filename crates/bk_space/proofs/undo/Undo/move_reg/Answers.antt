use Rattle.std.proofs.Common.{◌≡◌, ◌<◌, ◌^◌, length, rules, FitsSigned, w8, pos, ◌+ℤ◌, arith}
use Rattle.std.proofs.lemmas.Int.{to_z-of_z}
use Rattle.bk_space.specs.Registers.{wrapped, reg, moved}
use Rattle.bk_space.specs.Undo.{noted}
use Rattle.bk_space.proofs.UndoneLemmas.{undone-noted, HasRoom-noted, HasMoved-noted}
use Rattle.bk_space.proofs.undo.Undo.move_reg.Goals as goal

pub returns-clause-regs : goal.returns-clause-regs
unfolding moved
returns-clause-regs c =
    let fits : FitsSigned w8 c.args.amount = c.ranges.amount in
    let e = to_z-of_z w8 c.args.amount fits in
    let plus : c.plus.result ≡ wrapped (pos c.reg-value.result +ℤ c.args.amount) = rw e at c.plus.ensures in
    rw (← c.reg-value.ensures, ← plus) c.set_reg.ensures

pub returns-clause-undone : goal.returns-clause-undone
returns-clause-undone c =
    let fits : FitsSigned w8 c.args.amount = c.ranges.amount in
    let e = to_z-of_z w8 c.args.amount fits in
    let trail : c.note.new.self ≡ noted c.args.self.now c.args.reg c.args.amount = rw e at c.note.ensures in
    let six : length c.args.regs.now.general ≡ 6 = search rules in
    let small : reg c.args.regs.now c.args.reg < 2 ^ 16 = omega (arith, c.reg-value.ensures, c.reg-value.type_inv) in
    rw (trail, returns-clause-regs c) (undone-noted c.args.self.now c.args.regs.now c.args.reg c.args.amount c.requires.room c.requires.known six small fits)

pub returns-clause-room : goal.returns-clause-room
returns-clause-room c = λ fresh.
    let fits : FitsSigned w8 c.args.amount = c.ranges.amount in
    let e = to_z-of_z w8 c.args.amount fits in
    let trail : c.note.new.self ≡ noted c.args.self.now c.args.reg c.args.amount = rw e at c.note.ensures in
    rw trail (HasRoom-noted c.args.self.now c.args.reg c.args.amount fresh)

pub returns-clause-alone : goal.returns-clause-alone
returns-clause-alone c = λ before m.
    let fits : FitsSigned w8 c.args.amount = c.ranges.amount in
    let e = to_z-of_z w8 c.args.amount fits in
    let trail : c.note.new.self ≡ noted c.args.self.now c.args.reg c.args.amount = rw e at c.note.ensures in
    rw (trail, returns-clause-regs c) (HasMoved-noted c.args.self.now before c.args.regs.now c.args.reg c.args.amount c.requires.room m)
