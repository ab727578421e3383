use Rattle.std.proofs.Common.{ap, subst}
use Rattle.std.specs.Prelude.{◌<◌, length}
use Rattle.bk_process.specs.declared.process.Process.{Process}
use Rattle.bk_kernel.specs.Tables.{TablesState}
use Rattle.bk_kernel.proofs.Loading.{found-loaded}
use Rattle.bk_kernel.proofs.tables.Tables.general.Goals as goal

pub returns : goal.returns
returns c = record {
  value = λ p there. ap (λ (x : Process). x.registers.general)
      (found-loaded c.self.inside.processes.items c.args.self.now.state c.self.inside.loaded c.args.self.now.loaded p c.index.result.now (ap (λ (x : TablesState). x.state.processes) c.self.view_is) (ap (λ (x : TablesState). x.loaded) c.self.view_is) there c.index.ensures);
  there = subst (λ (x : TablesState). x.loaded < length x.state.processes) c.self.view_is c.self.invariant.loaded.there;
}
