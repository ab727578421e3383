use Rattle.std.proofs.Common.{◌∙◌, sym, subst, refl}
use Rattle.bk_access.specs.Held.{nothing_held}
use Rattle.bk_tree.specs.Objects.{begun as begun_tree}
use Rattle.bk_store.specs.Joined.{store_of, tables_of, IsStore}
use Rattle.bk_store.proofs.Looked.{begun-store, begun-keeps}
use Rattle.bk_store.proofs.store.Store.reserve.Goals as goal

pub invariant_of-result : goal.invariant_of-result
invariant_of-result c =
    subst (λ m. IsStore c.args.lines m c.in_ok-access.access (tables_of c.in_ok-frames.frames c.in_ok-mailboxes.mailboxes.items c.in_ok-inputs.inputs.items)) (sym c.in_ok-tree.ensures)
    (subst (λ held. IsStore c.args.lines (begun_tree c.args.root) held (tables_of c.in_ok-frames.frames c.in_ok-mailboxes.mailboxes.items c.in_ok-inputs.inputs.items)) (sym c.in_ok-access.ensures)
    (subst (IsStore c.args.lines (begun_tree c.args.root) (nothing_held c.args.root.quota)) (λ i. record { frames = sym c.in_ok-frames.ensures i; mailboxes = sym c.in_ok-mailboxes.ensures i; inputs = sym c.in_ok-inputs.ensures i })
    (begun-keeps c.args.levels c.args.lines c.args.root.quota c.args.root c.requires.directory c.requires.quota.0 refl)))

pub returns : goal.returns
returns c =
    (λ i. store_of c.args.levels c.args.lines (c.in_ok-tree.ensures i) (c.in_ok-access.ensures i) (record { frames = c.in_ok-frames.ensures i; mailboxes = c.in_ok-mailboxes.ensures i; inputs = c.in_ok-inputs.ensures i }))
    ∙ begun-store c.args.levels c.args.lines c.args.root.quota c.args.root c.requires.directory
