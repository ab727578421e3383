use Rattle.std.proofs.Common.{◌≡◌, ◌+◌, ◌-◌, ◌∙◌, ℕ, sym, ap, subst, arith}
use Rattle.bk_state.specs.State.{process_of}
use Rattle.bk_system.specs.declared.at.At.{At}
use Rattle.bk_kernel.specs.Instructions.{HasRun}
use Rattle.bk_kernel.specs.Stretch.{turn_after}
use Rattle.bk_kernel.specs.Tables.{TablesState}
use Rattle.bk_kernel.proofs.Placed.{runs-found}
use Rattle.bk_kernel.proofs.Stretched.{stretch-gone}
use Rattle.bk_kernel.proofs.tables.Tables.go_on.Goals as goal

pub returns-clause-made : goal.returns-clause-made
returns-clause-made c =
    let old : TablesState = c.args.self.now in
    let at : At = c.args.at in
    let turns : ℕ = c.run-ran.result.turns in
    let last : At = record { slot = at.slot; turn = at.turn + (turns - 1); subject = at.subject } in
    let is_last : last ≡ turn_after at (turns - 1) = λ i. record { slot = at.slot; turn = number i; subject = at.subject } in
    let (p, found, running) = runs-found (process_of old.state at.subject) c.requires.running in
    stretch-gone old c.run-ran.new.self c.end.new.self at last p c.args.most turns c.run-ran.result.event c.end.result found running c.run-ran.ensures.few
    (subst (λ (n : ℕ). HasRun (record old { loaded = n }) c.run-ran.new.self p turns c.run-ran.result.event) (sym c.requires.loaded) (c.run-ran.ensures.ran p (ap (process_of old.state) (sym c.requires.loaded) ∙ found)))
    c.run-ran.ensures.runs is_last c.end.ensures.state c.end.ensures.items c.end.ensures.references c.end.ensures.runs c.end.ensures.last
  where
    number : c.args.at.turn + (c.run-ran.result.turns - 1) ≡ (c.run-ran.result.turns - 1) + c.args.at.turn
    number = omega arith
