use Rattle.std.proofs.Common.{◌==◌, sym}
use Rattle.bk_script.specs.Lines.{line_of}
use Rattle.bk_script.proofs.Parts.{fields_of-four}
use Rattle.bk_script.proofs.line.read_line.Goals as goal

pub returns-in-Some-cut-2 : goal.returns-in-Some-cut-2
unfolding line_of
returns-in-Some-cut-2 c =
    rw (c.in-Some.ensures.found, c.in-Some-cut.ensures.found, c.in-Some-cut-2.ensures.found)
    (sym (fields_of-four c.in-Some.first.now c.in-Some-cut.second.now c.in-Some-cut-2._third.now (λ b. b == 32) c.in-Some-cut-2._more.now))
