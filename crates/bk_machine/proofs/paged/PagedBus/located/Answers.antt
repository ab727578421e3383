use Rattle.std.proofs.Common.{sym, ◌∙◌}
use Rattle.bk_space.specs.AddrSpace.{page_at, page_number}
use Rattle.bk_mmu.specs.ActivePages.{active_page}
use Rattle.bk_machine.proofs.Located.{located, same_refusal, told}
use Rattle.bk_machine.proofs.paged.PagedBus.located.Goals as goal

pub returns-clause-registers : goal.returns-clause-registers
returns-clause-registers c =
    told c.args.self.now.mmu.registers c.args.mode c.args.space c.args.width c.args.addr c.args.writes c.relocate.result (sym c.is_odd.ensures ∙ c.if-is_odd.false) c.relocate.ensures.answer

pub returns-clause-refused : goal.returns-clause-refused
unfolding page_at
returns-clause-refused c =
    told c.args.self.now.mmu.registers c.args.mode c.args.space c.args.width c.args.addr c.args.writes c.relocate.result (sym c.is_odd.ensures ∙ c.if-is_odd.false) c.relocate.ensures.answer
    ∙ sym (same_refusal (active_page c.args.self.now.mmu.registers (page_number c.args.mode c.args.space c.args.addr)) c.args.self.now.core.words c.args.width c.args.addr c.args.writes (c.args.self.now.mmu.placed _) c.args.self.now.core.full)

pub returns-clause-located : goal.returns-clause-located
returns-clause-located c =
    located c.args.self.now.mmu.registers c.args.self.now.core.words c.args.mode c.args.space c.args.addr c.args.writes c.relocate.result c.relocate.ensures.inside c.relocate.ensures.above c.relocate.ensures.answer
