use Rattle.std.proofs.Common.{◌≡◌, ◌∙◌, ◌-◌, ◌≤◌, get_or, ap, sym, subst, arith}
use Rattle.std.proofs.lemmas.Option.{IfSome_then}
use Rattle.bk_tree.specs.declared.order.Entry.{Entry}
use Rattle.bk_tree.specs.Order.{rank, IsLastOf}
use Rattle.bk_tree.proofs.Leaves.{none_then}
use Rattle.bk_tree.proofs.OrderLemmas.{rising_from}
use Rattle.bk_tree.proofs.Ranks.{last_none, last_some, none_behind}
use Rattle.bk_tree.proofs.order.last_inferior.Goals as goal

pub returns-then-end-eq0-clause-none : goal.returns-then-end-eq0-clause-none
returns-then-end-eq0-clause-none c =
    let order = c.args.order.now.items in
    none_behind 0 order (rising_from 0 order c.requires) c.args.of c.rank-end.result (c.rank-end.ensures.value ∙ ap (λ k. rank k order) c.past.ensures) c.if-end-eq0.true

pub returns-else-end-eq0-clause-some : goal.returns-else-end-eq0-clause-some
returns-else-end-eq0-clause-some c =
    let order = c.args.order.now.items in
    let end = c.rank-end.result in
    let d = c.index.result.now in
    let is = c.rank-end.ensures.value ∙ ap (λ k. rank k order) c.past.ensures in
    let some : 1 ≤ end = omega (arith, c.if-end-eq0.false) in
    let same : d ≡ get_or order (end - 1) d = c.index.ensures in
    let key : d.key ≡ (get_or order (end - 1) d).key = ap (λ (e : Entry). e.key) same in
    IfSome_then c.slot_from.result c.slot_from.ensures.some (λ slot h.
    let least = h.1 in
    subst (IsLastOf order c.args.of) (ap (λ (e : Entry). e.slot) (sym same) ∙ sym h.0)
    (last_some 0 order (rising_from 0 order c.requires) c.args.of end d is some (omega (arith, least, key, c.key-key.ensures.value))))

pub returns-else-end-eq0-clause-none : goal.returns-else-end-eq0-clause-none
returns-else-end-eq0-clause-none c =
    let order = c.args.order.now.items in
    let end = c.rank-end.result in
    let d = c.index.result.now in
    let is = c.rank-end.ensures.value ∙ ap (λ k. rank k order) c.past.ensures in
    let some : 1 ≤ end = omega (arith, c.if-end-eq0.false) in
    let same : d ≡ get_or order (end - 1) d = c.index.ensures in
    let key : d.key ≡ (get_or order (end - 1) d).key = ap (λ (e : Entry). e.key) same in
    none_then c.slot_from.result c.slot_from.ensures.none (λ less.
    last_none 0 order (rising_from 0 order c.requires) c.args.of end d is some (omega (arith, less, key, c.key-key.ensures.value)))
