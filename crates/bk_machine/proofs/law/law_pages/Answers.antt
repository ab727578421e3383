use Rattle.bk_space.specs.AddrSpace.{page_at, page_number}
use Rattle.bk_mmu.specs.ActivePages.{active_page}
use Rattle.bk_machine.proofs.Located.{same_refusal}
use Rattle.bk_machine.proofs.law.law_pages.Goals as goal

pub returns : goal.returns
unfolding page_at
returns c = λ pages core mode space width addr writes. same_refusal (active_page pages.registers (page_number mode space addr)) core.words width addr writes (pages.placed (page_number mode space addr)) core.full
