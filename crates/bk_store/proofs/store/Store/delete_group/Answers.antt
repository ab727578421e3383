use Rattle.std.proofs.Common.{◌∙◌, sym, ap, subst, ◌<◌}
use Rattle.std.specs.FinMap.{len}
use Rattle.bk_store.specs.Stored.{without_group}
use Rattle.bk_store.proofs.Deleted.{keep-left, len-left}
use Rattle.bk_store.proofs.store.Store.delete_group.Goals as goal

pub loop-path-smaller : goal.loop-path-smaller
loop-path-smaller c =
    let less = c.remove_one.ensures.some c.loop-path-test.true in
    subst (λ v. len v.objects < len c.loop-path.self.objects) (sym less.gone) (len-left c.loop-path.self.objects less.path less.was)

pub loop-path-preserved : goal.loop-path-preserved
loop-path-preserved c =
    let less = c.remove_one.ensures.some c.loop-path-test.true in
    ap (without_group c.args.path) less.gone ∙ keep-left c.loop-path.self c.args.path less.path less.inferior ∙ c.loop-path.invariant

pub returns : goal.returns
returns c =
    let none = c.remove_one.ensures.none c.loop-path-test.false in
    none.0 ∙ sym none.1 ∙ c.loop-path.invariant
