use Rattle.std.proofs.Common.{rules, ◌≡◌, ◌∷◌, ◌++◌, [], List, Some, ap, sym, ◌∙◌, arith}
use Rattle.bk_asm_text.specs.Before.{before_at, before_fault}
use Rattle.bk_asm_text.specs.Flat.{plain_statements, said}
use Rattle.bk_asm_text.specs.Plain.{PlainStatement}
use Rattle.bk_asm_text.specs.Statements.{lines_of, next_line, statement_of}
use Rattle.bk_asm_text.proofs.Before.{before_some}
use Rattle.bk_asm_text.proofs.splitting.split_front.Goals as goal

pub each-init : goal.each-init
unfolding before_fault
each-init c = record {
  read = ap (λ (statements : List PlainStatement). before_at 1 statements (lines_of c.args.text.now)) c.new-statements.ensures.none;
  fits = c.new-statements.ensures.fits;
  labels = c.new-parts.ensures.labels;
  values = c.new-parts.ensures.values;
}

pub each-preserved : goal.each-preserved
each-preserved c =
    let before = plain_statements c.each.statements in
    let parts = c.read_statement.new.parts in
    let one = said c.each.at parts.labels.items parts.values.items c.in-Some-2.body in
    let is : statement_of c.each.at c.in-Some.one.line.now ≡ Some one = search rules in
    let at : c.saturating_add-at.result ≡ next_line c.each.at = grind (arith, c.saturating_add-at.ensures) in
    let more : plain_statements c.push.new.self ≡ before ++ one ∷ [] = search rules in
    record {
      read = (λ i. before_at (at i) (more i) (lines_of c.in-Some.one.after.now))
          ∙ sym (before_some c.each.at before c.in-Some.one.line.now (lines_of c.in-Some.one.after.now) one is)
          ∙ sym (ap (before_at c.each.at before) c.in-Some.ensures.found)
          ∙ c.each.invariant.read;
      fits = c.in_ok-push.ensures.fits;
      labels = c.in_ok-push.ensures.labels;
      values = c.in_ok-push.ensures.values;
    }
