use Rattle.bk_core.proofs.memory.Core.reserve.Goals as goal

pub returns : goal.returns
returns c = c.in_ok-words.ensures.items_if_clones_equal (λ y h. h)
