use Rattle.std.proofs.Common.{◌≡◌, ◌∙◌, ℕ, Some, sym, ap}
use Rattle.std.specs.Prelude.{slice_index}
use Rattle.bk_state.specs.State.{State, process_of}
use Rattle.bk_system.specs.Turn.{fault_number, is_reflected}
use Rattle.bk_kernel.specs.Tables.{interrupted}
use Rattle.bk_kernel.proofs.Kept.{interrupted-ends}
use Rattle.bk_kernel.proofs.tables.Tables.end_in.Goals as goal

pub returns-clause-state : goal.returns-clause-state
returns-clause-state c = λ p there.
    let v : State = c.args.self.now.state in
    let s : ℕ = c.args.self.now.loaded in
    let n : ℕ = fault_number c.args.cause in
    let entry : ℕ = slice_index p.entries n in
    let here : process_of v s ≡ Some p = ap (process_of v) (sym c.requires) ∙ there in
    c.fault-fault.ensures.state p here
    ∙ ap (interrupted v s p n entry) (c.fault-fault.ensures.taken p here)
    ∙ ap (λ (k : ℕ). interrupted v k p n entry (is_reflected v k p entry)) (sym c.requires)
    ∙ interrupted-ends v c.args.at p n 0 entry (is_reflected v c.args.at.subject p entry)
