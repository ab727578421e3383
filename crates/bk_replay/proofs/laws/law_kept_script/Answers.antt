use Rattle.bk_script.proofs.Left.{IsScript-filter}
use Rattle.bk_state.specs.Low.{is_line_under}
use Rattle.bk_state.specs.Start.{state_of}
use Rattle.bk_replay.proofs.laws.law_kept_script.Goals as goal

pub returns : goal.returns
returns c = λ level image records slots script.
    IsScript-filter (λ r. is_line_under level (state_of image) r.line) image.lines image.turns records slots script
