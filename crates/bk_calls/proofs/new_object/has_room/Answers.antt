use Rattle.std.proofs.Common.{◌+◌, ◌∙◌, ap}
use Rattle.std.specs.Prelude.{nat_le}
use Rattle.bk_object.specs.declared.Facts.{Facts}
use Rattle.bk_quota.specs.Charges.{charge_of}
use Rattle.bk_state.specs.Request.{request_in}
use Rattle.bk_calls.proofs.Seen.{room-seen}
use Rattle.bk_calls.proofs.new_object.has_room.Goals as goal

pub returns : goal.returns
returns c = λ directory caller words at.
    let number = c.level_number-number.result in
    (λ i. nat_le ((c.from.ensures ∙ c.used.ensures) i + c.from-2.ensures i) ((c.from-3.ensures ∙ c.limit.ensures) i))
    ∙ room-seen caller c.args.store.now words (request_in c.args.process.now.registers.general) c.args.above c.cell-cell.result number c.charge_of-charge.result at
    c.cell-cell.ensures c.level_number-number.ensures (c.charge_of-charge.ensures ∙ ap (λ (f : Facts). charge_of f number) c.new_facts.ensures)
