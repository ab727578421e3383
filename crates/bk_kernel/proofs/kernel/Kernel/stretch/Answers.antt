use Rattle.std.proofs.Common.{◌≡◌, ◌-◌, ◌^◌, ◌≤◌, ◌∙◌, ℕ, ap, subst, arith}
use Rattle.bk_report.specs.declared.item.ReportItem.{ReportItem}
use Rattle.std.specs.Prelude.{List}
use Rattle.bk_system.specs.Report.{calls_in}
use Rattle.bk_system.specs.Step.{Step}
use Rattle.bk_kernel.specs.Progress.{KernelState, Progress, kernel_from, raised, with_turns}
use Rattle.bk_kernel.specs.Stretch.{HasStretched, at_next, turns_from}
use Rattle.bk_kernel.proofs.Going.{counted_is}
use Rattle.bk_kernel.proofs.kernel.Kernel.stretch.Goals as goal

pub returns-clause-made : goal.returns-clause-made
returns-clause-made c =
    let made = c.stretch-made.ensures.made in
    let new : KernelState = kernel_from c.stretch-made.new.self c.self.inside.slots c.saturating_add-self-inside.result c.saturating_add-self-inside-2.result c.saturating_add-self-inside-3.result in
    subst (λ (old : KernelState). HasStretched old new c.args.subject c.args.most c.stretch-made.result.turns c.stretch-made.result.items) c.self.view_is (record {
      before = made.before;
      turns_are = made.turns_are;
      few = made.few;
      quiet = made.quiet;
      items = made.items;
      references = made.references;
      runs = made.runs;
      last = made.last;
    })

pub returns-clause-after : goal.returns-clause-after
returns-clause-after c =
    let t = c.self.inside in
    let made = c.stretch-made.ensures.made in
    let n : ℕ = c.stretch-made.result.turns in
    let step : Step = turns_from (record { slot = t.slots; turn = t.since; subject = c.args.subject }) t.tables.state n in
    let since : c.saturating_add-self-inside.result ≡ raised 16 t.since n = omega (arith, c.saturating_add-self-inside.ensures) in
    let turns : c.saturating_add-self-inside-2.result ≡ raised 32 t.turns n = omega (arith, c.saturating_add-self-inside-2.ensures, c.from.ensures) in
    let called : c.saturating_add-self-inside-3.result ≡ raised 32 t.calls c.calls_in.result = omega (arith, c.saturating_add-self-inside-3.ensures) in
    let items : c.calls_in.result ≡ calls_in step.items = c.calls_in.ensures ∙ ap (λ (xs : List ReportItem). calls_in xs) made.items in
    let bound : t.tables.machine.references ≤ 2 ^ 64 - 1 = omega (arith, c.references-references.ensures) in
    let references : c.stretch-made.new.self.machine.references ≡ raised 64 t.tables.machine.references step.references = made.references ∙ counted_is t.tables.machine.references step.references bound in
    let new : Progress = (kernel_from c.stretch-made.new.self t.slots c.saturating_add-self-inside.result c.saturating_add-self-inside-2.result c.saturating_add-self-inside-3.result).progress in
    subst (λ (old : KernelState). new ≡ with_turns old.progress (turns_from (at_next old.progress c.args.subject) old.progress.state n) n) c.self.view_is
    (λ i. record {
      state = made.state i;
      slots = t.slots;
      since = since i;
      turns = turns i;
      references = references i;
      calls = (called ∙ ap (raised 32 t.calls) items) i;
    })
