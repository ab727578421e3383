use Rattle.std.proofs.Common.{◌≡◌, drop}
use Rattle.bk_system.specs.Arrivals.{arrived}
use Rattle.bk_kernel.proofs.tables.Tables.type_bytes.Given as goal

abbrev pub invariant-loop-byte : goal.invariant-loop-byte
invariant-loop-byte l = record {
  state : arrived l.self.state l.line (drop l.byte-index l.bytes) ≡ arrived l.fn.self.state l.line l.bytes;
  machine : l.self.machine ≡ l.fn.self.machine;
  loaded : l.self.loaded ≡ l.fn.self.loaded;
}
