use Rattle.bk_mmu.proofs.Whole.{whole-set, kept_as-set, no_page_whole}
use Rattle.bk_mmu.specs.Kept.{no_page}
use Rattle.bk_mmu.proofs.mmu.Mmu.clear.Goals as goal

pub invariant_of-self-inside : goal.invariant_of-self-inside
invariant_of-self-inside c = (whole-set c.self.inside.pages c.args.page no_page c.self.inside.within no_page_whole, tt)

pub returns : goal.returns
returns c = rw (kept_as-set c.self.inside.pages c.args.page no_page, ← c.self.view_is)
