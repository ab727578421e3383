use Rattle.std.proofs.Common.{◌≡◌, ◌∙◌, ap, arith}
use Rattle.bk_space.specs.Counts.{counted_on}
use Rattle.bk_state.specs.State.{State}
use Rattle.bk_system.specs.Step.{Step}
use Rattle.bk_system.specs.declared.at.At.{At}
use Rattle.bk_kernel.specs.Progress.{Progress, after_turn, next_turn, with_turns}
use Rattle.bk_kernel.specs.Stretch.{at_next, turns_from}
use Rattle.bk_kernel.specs.Tables.{last_after}
use Rattle.bk_kernel.proofs.Going.{one-turn, no-turn}
use Rattle.bk_kernel.proofs.Lines.{first_item, second_item}
use Rattle.bk_kernel.proofs.kernel.Kernel.turn.Goals as goal

pub stretch-requires-clause-numbered : goal.stretch-requires-clause-numbered
stretch-requires-clause-numbered c = omega (arith, c.number-number.ensures)

pub returns-clause-after : goal.returns-clause-after
unfolding after_turn
returns-clause-after c =
    let p : Progress = c.args.self.now.progress in
    let at : At = at_next p c.args.subject in
    let made = c.stretch.ensures.made in
    let one : c.stretch.result.turns ≡ 1 = omega (arith, made.turns_are, made.few) in
    c.stretch.ensures.after ∙ ap (λ n. with_turns p (turns_from at p.state n) n) one ∙ ap (λ (step : Step). with_turns p step 1) (one-turn at p.state)

pub returns-clause-items : goal.returns-clause-items
returns-clause-items c =
    let p : Progress = c.args.self.now.progress in
    let at : At = at_next p c.args.subject in
    let made = c.stretch.ensures.made in
    let one : c.stretch.result.turns ≡ 1 = omega (arith, made.turns_are, made.few) in
    made.items ∙ ap (λ n. (turns_from at p.state n).items) one ∙ ap (λ (step : Step). step.items) (one-turn at p.state)

pub returns-clause-first : goal.returns-clause-first
returns-clause-first c =
    let p : Progress = c.args.self.now.progress in
    let at : At = at_next p c.args.subject in
    let made = c.stretch.ensures.made in
    let one : c.stretch.result.turns ≡ 1 = omega (arith, made.turns_are, made.few) in
    first_item c.stretch.result.items.0 c.stretch.result.items.1 (next_turn p c.args.subject).items (made.items ∙ ap (λ n. (turns_from at p.state n).items) one ∙ ap (λ (step : Step). step.items) (one-turn at p.state)) c.stretch.ensures.order

pub returns-clause-second : goal.returns-clause-second
returns-clause-second c =
    let p : Progress = c.args.self.now.progress in
    let at : At = at_next p c.args.subject in
    let made = c.stretch.ensures.made in
    let one : c.stretch.result.turns ≡ 1 = omega (arith, made.turns_are, made.few) in
    second_item c.stretch.result.items.0 c.stretch.result.items.1 (next_turn p c.args.subject).items (made.items ∙ ap (λ n. (turns_from at p.state n).items) one ∙ ap (λ (step : Step). step.items) (one-turn at p.state)) c.stretch.ensures.order

pub returns-clause-references : goal.returns-clause-references
returns-clause-references c =
    let p : Progress = c.args.self.now.progress in
    let at : At = at_next p c.args.subject in
    let made = c.stretch.ensures.made in
    let one : c.stretch.result.turns ≡ 1 = omega (arith, made.turns_are, made.few) in
    made.references
    ∙ ap (λ n. counted_on c.args.self.now.machine.references (turns_from at p.state n).references) one
    ∙ ap (λ (step : Step). counted_on c.args.self.now.machine.references step.references) (one-turn at p.state)

pub returns-clause-last : goal.returns-clause-last
returns-clause-last c =
    let p : Progress = c.args.self.now.progress in
    let at : At = at_next p c.args.subject in
    let made = c.stretch.ensures.made in
    let none : made.before ≡ 0 = omega (arith, made.turns_are, made.few) in
    made.last
    ∙ ap (λ n. last_after (turns_from at p.state n).state c.args.subject c.args.self.now.machine.last) none
    ∙ ap (λ (v : State). last_after v c.args.subject c.args.self.now.machine.last) (no-turn at p.state)
