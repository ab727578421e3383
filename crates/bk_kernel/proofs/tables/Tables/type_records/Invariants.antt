use Rattle.std.proofs.Common.{◌≡◌, drop}
use Rattle.bk_system.specs.Loops.{all_arrived}
use Rattle.bk_kernel.proofs.tables.Tables.type_records.Given as goal

abbrev pub invariant-loop-record : goal.invariant-loop-record
invariant-loop-record l = record {
  state : all_arrived l.self.state (drop l.record-index l.typed) ≡ all_arrived l.fn.self.state l.typed;
  machine : l.self.machine ≡ l.fn.self.machine;
  loaded : l.self.loaded ≡ l.fn.self.loaded;
}
