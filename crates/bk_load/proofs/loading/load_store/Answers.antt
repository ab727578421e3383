use Rattle.std.proofs.Common.{length, refl, sym, ap, subst, ◌∙◌}
use Rattle.std.specs.Prelude.{All}
use Rattle.bk_load.specs.Loading.{with_holds, CanHold}
use Rattle.bk_load.proofs.Together.{can_hold, loaded}
use Rattle.bk_load.proofs.loading.load_store.Goals as goal

pub load_holds-requires : goal.load_holds-requires
load_holds-requires c =
    subst (λ holds. All (CanHold c.load_objects.new.store) holds) (sym c.as_slice.ensures)
    (can_hold c.args.image.now c.requires.accepted (length c.args.image.now.objects) refl c.load_objects.new.store c.load_objects.new.core.words c.load_objects.ensures.all)

pub returns-clause-loaded : goal.returns-clause-loaded
returns-clause-loaded c =
    loaded c.args.image.now (length c.args.image.now.objects) c.load_objects.new.store c.load_holds.new.store c.load_objects.new.core.words refl c.load_objects.ensures.all
    (c.load_holds.ensures ∙ ap (λ holds. with_holds holds c.load_objects.new.store) c.as_slice.ensures)
