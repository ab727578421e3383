use Rattle.std.proofs.Common.{◌≡◌, ◌∙◌, length, map, drop, sym, subst, ap, arith}
use Rattle.std.proofs.lemmas.List.{length-map}
use Rattle.bk_load.specs.Kept.{IsKept}
use Rattle.bk_system.specs.Event.{with_resumed}
use Rattle.bk_kernel.proofs.Loading.{all-items, resumed-all}
use Rattle.bk_kernel.proofs.tables.Tables.end_slot.Goals as goal

pub invariant_of-self : goal.invariant_of-self
invariant_of-self c =
    let t = c.self.inside in
    let ps = c.resume_all.new.processes in
    let resumed : ps ≡ map with_resumed t.processes.items = c.resume_all.ensures ∙ ap (map with_resumed) c.deref_mut.ensures.value in
    let size : length ps ≡ length t.processes.items = ap length resumed ∙ length-map t.processes.items with_resumed in
    let all = all-items ps (drop (length ps) t.processes.items) t.processes.len (omega (arith, size, t.processes.ok.0)) in
    record {
      tables = subst (λ n. IsKept t.clearances.items (length t.lines.items) n (length t.store.levels) t.store.lines) (sym (ap length all ∙ size)) c.self.invariant.tables;
      loaded = resumed-all t.processes.items _ t.store t.machine t.loaded c.self.invariant.loaded (all ∙ resumed);
    }
