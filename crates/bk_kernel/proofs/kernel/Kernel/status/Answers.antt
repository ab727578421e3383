use Rattle.std.proofs.Common.{◌∙◌, sym, ap}
use Rattle.std.specs.Prelude.{option_map}
use Rattle.bk_process.specs.declared.process.Process.{Process}
use Rattle.bk_process.specs.declared.status.Status9.TheVariants.{Running}
use Rattle.bk_state.specs.State.{process_of}
use Rattle.bk_kernel.specs.Progress.{KernelState}
use Rattle.bk_kernel.proofs.Placed.{status-is, status-none}
use Rattle.bk_kernel.proofs.kernel.Kernel.status.Goals as goal

pub returns-in-Some : goal.returns-in-Some
returns-in-Some c =
    status-is (process_of c.args.self.now.progress.state c.args.subject) c.in-Some.found
    (sym c.in-Some.is ∙ c.status.ensures ∙ ap (λ (k : KernelState). option_map (λ (x : Process). x.status) (process_of k.progress.state c.args.subject)) c.self.view_is)

pub returns-in-None : goal.returns-in-None
returns-in-None c =
    status-none (process_of c.args.self.now.progress.state c.args.subject) Running
    (sym c.in-None.is ∙ c.status.ensures ∙ ap (λ (k : KernelState). option_map (λ (x : Process). x.status) (process_of k.progress.state c.args.subject)) c.self.view_is)
