use Rattle.std.proofs.Common.{◌∙◌, sym, ap, arith}
use Rattle.bk_access.specs.Held.{modes_at, puts}
use Rattle.bk_access.proofs.TableLemmas.{modes_at-held_by}
use Rattle.bk_access.proofs.access.Access.next_put.Goals as goal

pub returns-then-at-to-clause-some : goal.returns-then-at-to-clause-some
returns-then-at-to-clause-some c = (
  record {
    within = c.next_put_in-at.ensures.within;
    held_so =
        ap (λ held. puts (modes_at held c.args.subject c.next_put_in-at.result)) (sym c.self.view_is)
        ∙ ap puts (modes_at-held_by c.self.inside.rows.items c.args.subject c.next_put_in-at.result)
        ∙ c.next_put_in-at.ensures.found c.if-at-to.true;
    first = λ k low high.
        ap (λ held. puts (modes_at held c.args.subject k)) (sym c.self.view_is)
        ∙ ap puts (modes_at-held_by c.self.inside.rows.items c.args.subject k)
        ∙ c.next_put_in-at.ensures.first k low high;
  },
  c.if-at-to.true,
)

pub returns-else-at-to-clause-none : goal.returns-else-at-to-clause-none
returns-else-at-to-clause-none c = λ none k low high.
    ap (λ held. puts (modes_at held c.args.subject k)) (sym c.self.view_is)
    ∙ ap puts (modes_at-held_by c.self.inside.rows.items c.args.subject k)
    ∙ c.next_put_in-at.ensures.first k low (omega (arith, high, c.if-at-to.false))
