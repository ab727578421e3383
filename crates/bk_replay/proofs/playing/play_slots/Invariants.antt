use Rattle.std.proofs.Common.{◌≡◌, ◌≤◌, ℕ}
use Rattle.bk_base.specs.Written.{Took}
use Rattle.bk_report.specs.Text.{lines_of}
use Rattle.bk_script.specs.Script.{IsInOrder}
use Rattle.bk_system.specs.Loops.{slots_of}
use Rattle.bk_system.specs.Slot.{records_for}
use Rattle.bk_replay.specs.Played.{after_slots}
use Rattle.bk_replay.proofs.Records.{From}
use Rattle.bk_replay.proofs.playing.play_slots.Given as goal

abbrev pub invariant-loop-slot : goal.invariant-loop-slot
invariant-loop-slot g l = record {
  progress : l.kernel.progress ≡ after_slots l.fn.kernel.progress.state l.script.typed l.slot;
  state : l.kernel.progress.state ≡ (slots_of l.fn.kernel.progress.state l.script.typed l.slot).state;
  slots : l.kernel.progress.slots ≡ l.slot;
  fresh : l.kernel.progress.since ≡ 0;
  took : Took (g.O.Sink.taken l.fn.out) (g.O.Sink.taken l.out) (g.O.Sink.faults l.fn.out) (g.O.Sink.faults l.out) (lines_of (slots_of l.fn.kernel.progress.state l.script.typed l.slot).items);
  order : IsInOrder l.rest;
  from : From l.slot l.rest;
  same : (j : ℕ) → l.slot ≤ j → records_for j l.rest ≡ records_for j l.script.typed;
}
