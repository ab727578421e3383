use Rattle.std.proofs.Common.{◌≡◌, ◌∙◌, ap, sym, Some}
use Rattle.std.proofs.lemmas.Option.{same_Some}
use Rattle.bk_tree.specs.declared.place.Object.{Object}
use Rattle.bk_tree.specs.Objects.{facts_of}
use Rattle.std.specs.Prelude.{option_map}
use Rattle.bk_tree.proofs.Found.{stands}
use Rattle.bk_tree.proofs.Indexed.{found_there}
use Rattle.bk_tree.proofs.cells.facts_at.Goals as goal

pub object_at-requires : goal.object_at-requires
object_at-requires c =
    let (a, there, slot) = found_there _ _ c.requires.finds c.args.path c.in-Some.ensures.path c.in-Some.slot.n (sym c.in-Some.ensures.slot) in
    (record { path = c.args.path; facts = a.facts }, stands c.args.places.now.items c.args.path c.in-Some.slot.n a.facts (there ∙ (λ i. Some (record { slot = slot i; facts = a.facts }))))

pub returns-in-Some : goal.returns-in-Some
returns-in-Some c =
    let (a, there, slot) = found_there _ _ c.requires.finds c.args.path c.in-Some.ensures.path c.in-Some.slot.n (sym c.in-Some.ensures.slot) in
    let at = stands c.args.places.now.items c.args.path c.in-Some.slot.n a.facts (there ∙ (λ i. Some (record { slot = slot i; facts = a.facts }))) in
    let is : c.object_at.result ≡ record { path = c.args.path; facts = a.facts } = same_Some c.object_at.result (record { path = c.args.path; facts = a.facts }) (same_Some (Some c.object_at.result) (Some (record { path = c.args.path; facts = a.facts })) (sym c.object_at.ensures ∙ at)) in
    ap (λ (o : Object). Some o.facts) is ∙ ap (option_map facts_of) (sym there)
