use Rattle.bk_pages.proofs.Shown.{shown-space}
use Rattle.bk_pages.proofs.law.law_space.Goals as goal

pub returns : goal.returns
returns c = λ words v subject windows short stands. shown-space c.args.store.now c.law_contents.ensures.extents words subject windows v short stands
