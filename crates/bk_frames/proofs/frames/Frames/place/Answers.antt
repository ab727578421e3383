use Rattle.std.proofs.Common.{◌∙◌, ap}
use Rattle.std.specs.FinMap.{get}
use Rattle.bk_frames.proofs.Searched.{there_inserted}
use Rattle.bk_frames.proofs.frames.Frames.place.Goals as goal

pub returns-in-Some-clause-here : goal.returns-in-Some-clause-here
returns-in-Some-clause-here c = ap (λ m. get m c.args.slot.n) c.settle.ensures.extents ∙ there_inserted c.args.self.now.extents c.args.slot.n _

pub returns-in-Some-clause-lowest : goal.returns-in-Some-clause-lowest
returns-in-Some-clause-lowest c = λ at has. (c.in-Some.ensures.some, c.settle.ensures.extents)

pub returns-in-Some-clause-behind : goal.returns-in-Some-clause-behind
returns-in-Some-clause-behind c = λ none. absurd (none c.in-Some.at c.in-Some.ensures.some.room)

pub returns-in-None-clause-lowest : goal.returns-in-None-clause-lowest
returns-in-None-clause-lowest c = λ at has. absurd (c.in-None.ensures.none at has)
