use Rattle.std.proofs.Common.{◌≡◌, ◌++◌}
use Rattle.bk_asm.specs.Listing.{word_lines}
use Rattle.bk_asm.proofs.lines.push_lines.Given as goal

abbrev pub invariant-loop-line : goal.invariant-loop-line
invariant-loop-line l = l.out.items ≡ l.fn.out.items ++ word_lines l.line l.program
