use Rattle.std.proofs.Common.{◌≡◌, ◌∷◌, ◌++◌, [], length, ap, sym, subst, ◌∙◌, arith}
use Rattle.std.specs.Prelude.{map}
use Rattle.std.proofs.lemmas.List.{map-append}
use Rattle.std.proofs.lemmas.Result.{err_from_is_err_and}
use Rattle.bk_base.specs.Faults.{Refuses}
use Rattle.bk_asm_text.specs.Flat.{plain_rest, plain_statement}
use Rattle.bk_asm.specs.Faults.{settle}
use Rattle.bk_asm.specs.Seen.{plain_known, plain_placed}
use Rattle.bk_asm.proofs.Settling.{settle_next, settle_stops, settle_end}
use Rattle.bk_asm.proofs.place.settle.Goals as goal

pub statements-preserved : goal.statements-preserved
statements-preserved c =
    let next = c.in-Some.ensures.first in
    let before = map plain_placed c.statements.placed.items in
    let more : map plain_placed c.push.new.self.items ≡ before ++ plain_placed c.in_ok-one.one ∷ [] =
    ap (map plain_placed) c.in_ok-push.ensures.items ∙ map-append plain_placed c.statements.placed.items (c.in_ok-one.one ∷ []) in
    let rest = plain_rest c.next.new.self in
    record {
      settled = ap (λ xs. settle c.args.origin xs (plain_known c.place.new.self) rest) more
          ∙ sym (settle_next c.args.origin before (plain_known c.statements.known) (plain_statement c.in-Some.statement) rest (plain_placed c.in_ok-one.one) (plain_known c.place.new.self)
          c.in_ok-one.ensures.passed c.in_ok-one.ensures.placed c.in_ok-one.ensures.after)
          ∙ ap (settle c.args.origin before (plain_known c.statements.known)) (sym next)
          ∙ c.statements.invariant.settled;
      from = c.in_ok-one.ensures.from;
      within = c.in_ok-one.ensures.within;
      near = omega (arith, c.in_ok-one.ensures.near, c.statements.invariant.near, ap length next);
    }

pub returns-in_err-one : goal.returns-in_err-one
returns-in_err-one c =
    let p = err_from_is_err_and c.from_residual-in_err-one.result c.from_residual-in_err-one.ensures.1 in
    let next = c.in-Some.ensures.first in
    let before = map plain_placed c.statements.placed.items in
    let total = ap (settle c.args.origin before (plain_known c.statements.known)) (sym next) ∙ c.statements.invariant.settled in
    rw (p.1, p.2) (subst (Refuses c.in_err-one.field-0.0) total
    (settle_stops c.args.origin before (plain_known c.statements.known) (plain_statement c.in-Some.statement) _ c.in_err-one.field-0.0 c.in_err-one.ensures.bad))

pub returns : goal.returns
returns c =
    let before = map plain_placed c.statements.placed.items in
    sym c.statements.invariant.settled
    ∙ ap (settle c.args.origin before (plain_known c.statements.known)) c.in_default.ensures.none
    ∙ settle_end c.args.origin before (plain_known c.statements.known)
