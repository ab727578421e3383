use Rattle.std.proofs.Common.{rules, sym}
use Rattle.std.proofs.lemmas.List.Sorted.{answers_always}
use Rattle.bk_state.specs.declared.image.ObjectRec.{ObjectRec}
use Rattle.bk_image.proofs.Ordered.{searched_some, searched_none}
use Rattle.bk_image.proofs.lookup.facts_at.Goals as goal

pub returns-in-Ok : goal.returns-in-Ok
returns-in-Ok c =
    let tied = c.in-Ok.ensures.position (λ (o : ObjectRec). o.path) (answers_always _ _ _ (λ f a r g called. search rules)) in
    let object = c.index-objects-place in
    sym (searched_some c.args.path c.args.objects.now c.in-Ok.place c.requires c.in-Ok.ensures.bound tied object.result)

pub returns-in-Err : goal.returns-in-Err
returns-in-Err c =
    let parted = c.in-Err.ensures.position (λ (o : ObjectRec). o.path) (answers_always _ _ _ (λ f a r g called. search rules)) in
    sym (searched_none c.args.path c.args.objects.now c.in-Err.field-0 c.requires c.in-Err.ensures.bound parted)
