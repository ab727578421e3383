use Rattle.std.proofs.Common.{◌≡◌, ◌+◌, drop}
use Rattle.bk_replay.specs.Played.{count_front}
use Rattle.bk_replay.proofs.playing.count_front.Given as goal

abbrev pub invariant-loop-i : goal.invariant-loop-i
invariant-loop-i l = l.i + count_front l.slot (drop l.i l.records) ≡ count_front l.slot l.records
