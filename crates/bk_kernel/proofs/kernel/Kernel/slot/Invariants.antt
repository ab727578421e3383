use Rattle.std.proofs.Common.{◌≡◌, ◌≤◌, ◌-◌}
use Rattle.bk_base.specs.Written.{Took}
use Rattle.bk_report.specs.Text.{lines_of}
use Rattle.bk_system.specs.Loops.{all_arrived, turns_of}
use Rattle.bk_system.specs.Slot.{subject_of}
use Rattle.bk_kernel.specs.Progress.{with_arrived, with_turns}
use Rattle.bk_kernel.proofs.kernel.Kernel.slot.Given as goal

abbrev pub invariant-loop-left : goal.invariant-loop-left
invariant-loop-left g l = record {
  few : l.left ≤ l.turns;
  progress : l.self.progress ≡ with_turns (with_arrived l.fn.self.progress l.typed) (turns_of l.fn.self.progress.slots l.subject (all_arrived l.fn.self.progress.state l.typed) (l.turns - l.left)) (l.turns - l.left);
  took : Took (g.O.Sink.taken l.fn.out) (g.O.Sink.taken l.out) (g.O.Sink.faults l.fn.out) (g.O.Sink.faults l.out) (lines_of (turns_of l.fn.self.progress.slots l.subject (all_arrived l.fn.self.progress.state l.typed) (l.turns - l.left)).items);
  subject : l.subject ≡ subject_of l.fn.self.progress.state.fixed l.fn.self.progress.slots;
  turns : l.turns ≡ l.fn.self.progress.state.fixed.turns;
}

abbrev pub decreases-loop-left : goal.decreases-loop-left
decreases-loop-left g l = l.left
