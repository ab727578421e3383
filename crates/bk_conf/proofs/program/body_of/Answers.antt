use Rattle.std.proofs.Common.{◌≤◌, ◌∷◌, length, ap, sym, ◌∙◌, refl, arith}
use Rattle.bk_conf.specs.Views.{lines_left}
use Rattle.bk_conf.proofs.Bodies.{passed_end, passed_none, passed_shorter}
use Rattle.bk_conf.proofs.program.body_of.Goals as goal

pub overflow_sub-text : goal.overflow_sub-text
overflow_sub-text c = passed_shorter c.args.text.now c.lines.rest.now c.lines.lines c.lines.invariant

pub returns-then-ends_program-clause-found : goal.returns-then-ends_program-clause-found
returns-then-ends_program-clause-found c =
    let shorter : length c.lines.rest.now ≤ length c.args.text.now = passed_shorter c.args.text.now c.lines.rest.now c.lines.lines c.lines.invariant in
    passed_end c.args.text.now c.lines.rest.now c.lines.lines c.first_line.result.0.now _ c.lines.invariant c.first_line.ensures.first
    (sym c.ends_program.ensures ∙ c.if-ends_program.true) c.split_at.ensures.front refl (omega (arith, c.first_line.ensures.shorter, shorter))

pub returns-in-None-clause-none : goal.returns-in-None-clause-none
returns-in-None-clause-none c =
    passed_none c.args.text.now c.lines.rest.now c.lines.lines c.first_line.result.0.now c.lines.invariant
    (c.first_line.ensures.first ∙ ap (λ left. c.first_line.result.0.now ∷ lines_left left) c.in-None.is)
    (sym c.ends_program.ensures ∙ c.if-ends_program.false)
