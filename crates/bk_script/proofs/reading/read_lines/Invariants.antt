use Rattle.std.proofs.Common.{◌≡◌, ◌+◌, ◌==◌, ◌≤◌, length, []}
use Rattle.std.specs.List.{slice_split}
use Rattle.bk_script.specs.Limits.{most_bytes}
use Rattle.bk_script.specs.Lines.{lines_at}
use Rattle.bk_script.proofs.reading.read_lines.Given as goal

abbrev pub invariant-loop-text : goal.invariant-loop-text
invariant-loop-text l = record {
  same : lines_at l.lines l.turns l.at l.typed.items (slice_split (λ b. b == 10) l.rest)
      ≡ lines_at l.lines l.turns 1 [] (slice_split (λ b. b == 10) l.bytes);
  room : l.at + length l.rest ≤ most_bytes + 1;
}

abbrev pub decreases-loop-text : goal.decreases-loop-text
decreases-loop-text l = length l.rest
