use Rattle.std.proofs.Common.{length, sym, ap, subst}
use Rattle.bk_load.specs.Kept.{IsKept}
use Rattle.bk_store.specs.Stored.{Stored}
use Rattle.bk_kernel.specs.Tables.{TablesState}
use Rattle.bk_kernel.proofs.Loading.{typed-loaded}
use Rattle.bk_kernel.proofs.Typing.{typed-kept}
use Rattle.bk_kernel.proofs.tables.Tables.type_byte.Goals as goal

pub invariant_of-self : goal.invariant_of-self
invariant_of-self c =
    let t = c.self.inside in
    record {
      tables = subst (λ (s : Stored). IsKept t.clearances.items (length t.lines.items) (length t.processes.items) (length s.levels) s.lines) (sym c.type_byte.ensures) c.self.invariant.tables;
      loaded = typed-loaded t.processes.items t.store c.type_byte.new.self t.machine t.loaded c.args.line c.args.byte c.self.invariant.loaded c.type_byte.ensures;
    }

pub returns : goal.returns
returns c =
    let t = c.self.inside in
    record {
      state = typed-kept t.clearances.items t.lines.items t.turns t.schedule.items t.processes.items t.store c.type_byte.new.self t.machine.core.words c.args.self.now.state c.args.line c.args.byte
          (ap (λ (x : TablesState). x.state) c.self.view_is) c.self.invariant.tables.lines_are c.type_byte.ensures;
      rest = (ap (λ (x : TablesState). x.machine) c.self.view_is, ap (λ (x : TablesState). x.loaded) c.self.view_is);
    }
