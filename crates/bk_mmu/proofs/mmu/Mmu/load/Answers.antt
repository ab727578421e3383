use Rattle.bk_mmu.proofs.Whole.{whole-set, kept_as-set}
use Rattle.bk_mmu.proofs.mmu.Mmu.load.Goals as goal

pub invariant_of-self-inside : goal.invariant_of-self-inside
invariant_of-self-inside c = (whole-set c.self.inside.pages c.args.page c.page_of.result c.self.inside.within c.page_of.ensures.whole, tt)

pub returns : goal.returns
returns c = rw (kept_as-set c.self.inside.pages c.args.page c.page_of.result, ← c.self.view_is, c.page_of.ensures.registers)
