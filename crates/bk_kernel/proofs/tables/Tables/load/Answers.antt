use Rattle.std.proofs.Common.{◌≡◌, ◌<◌, Some, length, ap, arith}
use Rattle.std.specs.Prelude.{slice_get}
use Rattle.bk_kernel.specs.Tables.{TablesState}
use Rattle.bk_kernel.proofs.Loading.{has-loaded, item-there, loaded-there, set-loaded}
use Rattle.bk_kernel.proofs.tables.Tables.load.Goals as goal

pub set_pages-requires : goal.set_pages-requires
set_pages-requires c = omega (arith, c.requires, ap (λ (x : TablesState). length x.state.processes) c.self.view_is, c.self.invariant.tables.processes_are, c.self.invariant.tables.few)

pub invariant_of-self : goal.invariant_of-self
invariant_of-self c =
    let t = c.self.inside in
    let s = c.args.subject in
    let q = c.index-next.result.now in
    let below : s < length t.processes.items = omega (arith, c.requires, ap (λ (x : TablesState). length x.state.processes) c.self.view_is) in
    let found : slice_get t.processes.items s ≡ Some q = item-there t.processes.items s q below c.index-next.ensures in
    let (p, there, old) = loaded-there t.processes.items t.store t.machine t.loaded c.self.invariant.loaded in
    record {
      tables = c.self.invariant.tables;
      loaded = has-loaded t.processes.items t.store c.set_pages.new.machine s q found
          (set-loaded t.machine c.set_process.new.self c.set_pages.new.machine t.store s q c.set_process.ensures c.set_pages.ensures.rest c.set_pages.ensures.pages old.outside old.vectors);
    }
