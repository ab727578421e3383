use Rattle.std.proofs.Common.{◌≡◌, ◌∙◌, [], refl, sym, ap, subst, arith, unwrap_or}
use Rattle.std.specs.Prelude.{option_map}
use Rattle.bk_level.specs.Levels.{level_at}
use Rattle.bk_object.specs.declared.Facts.{Facts}
use Rattle.bk_tree.specs.Objects.{facts_of}
use Rattle.bk_store.specs.Stored.{may_put, may_rise}
use Rattle.bk_store.specs.Joined.{tables_of}
use Rattle.bk_store.proofs.Rises.{owned, passed_before, passed_more, may_rise_where, may_not_rise, Passed}
use Rattle.bk_store.proofs.store.Store.may_rise.Goals as goal

pub facts-requires : goal.facts-requires
facts-requires c =
    owned c.self.inside.tree c.self.inside.access c.self.invariant.slots c.args.subject c.in-Some.slot.n c.in-Some.ensures.some.0.held_so

pub loop-slot-init : goal.loop-slot-init
loop-slot-init c = record { passed = λ path facts k at lt. absurd (omega (arith, lt)); within = omega arith }

pub loop-slot-smaller : goal.loop-slot-smaller
loop-slot-smaller c = omega (arith, c.in-Some.ensures.some.0.within, c.in-Some.ensures.some.1)

pub loop-slot-preserved : goal.loop-slot-preserved
loop-slot-preserved c = record {
  passed = passed_more c.self.inside.levels c.self.inside.tree c.self.inside.access c.args.subject c.at-current.result c.loop-slot.from c.in-Some.slot.n c.loop-slot.invariant.passed
      c.in-Some.ensures.some.0
      (λ path facts at.
      (λ i. may_put (sym c.modes.ensures.value i) c.at-current.result (level_at c.self.inside.levels (sym (c.facts.ensures path facts at) i).level))
      ∙ ap (may_put c.modes.result c.at-current.result) (sym c.at-object.ensures)
      ∙ sym c.may_put.ensures ∙ c.if-not-may_put.false);
  within = omega (arith, c.in-Some.ensures.some.1);
}

pub returns-then-not-may_put : goal.returns-then-not-may_put
returns-then-not-may_put c =
    let (path, facts, at) = owned c.self.inside.tree c.self.inside.access c.self.invariant.slots c.args.subject c.in-Some.slot.n c.in-Some.ensures.some.0.held_so in
    sym (may_not_rise c.self.inside.levels c.self.inside.lines c.self.inside.tree c.self.inside.access (tables_of c.self.inside.frames c.self.inside.mailboxes.items c.self.inside.inputs.items)
    c.self.invariant.slots c.args.subject c.args.level c.requires.subject path facts c.in-Some.slot.n at
    ((λ i. may_put (sym c.modes.ensures.value i) (sym c.at-current.ensures i) (level_at c.self.inside.levels (sym (c.facts.ensures path facts at) i).level))
    ∙ ap (may_put c.modes.result c.at-current.result) (sym c.at-object.ensures)
    ∙ sym c.may_put.ensures ∙ c.if-not-may_put.true))
    ∙ ap (λ v. may_rise v c.args.subject c.args.level) c.self.view_is

pub returns : goal.returns
returns c =
    let (root, at, directory) = c.law_kept.ensures.root in
    let slots : c.self.inside.access.slots ≡ c.facts-slots.result.quota =
    c.self.invariant.slots.places ∙ ap (λ o. unwrap_or (option_map (λ (f : Facts). f.quota) (option_map facts_of o)) 0) at ∙ ap (λ (f : Facts). f.quota) (sym (c.facts-slots.ensures [] root at)) in
    let all = passed_before c.self.inside.levels c.self.inside.tree c.self.inside.access c.args.subject c.at-current.result c.loop-slot.from c.facts-slots.result.quota c.loop-slot.invariant.passed
    (c.in_default.ensures.none refl) in
    sym (may_rise_where c.self.inside.levels c.self.inside.lines c.self.inside.tree c.self.inside.access (tables_of c.self.inside.frames c.self.inside.mailboxes.items c.self.inside.inputs.items)
    c.self.invariant.slots c.args.subject c.args.level
    (subst (λ current. Passed c.self.inside.levels c.self.inside.tree c.self.inside.access c.args.subject current c.self.inside.access.slots) c.at-current.ensures
    (subst (Passed c.self.inside.levels c.self.inside.tree c.self.inside.access c.args.subject c.at-current.result) (sym slots) all)))
    ∙ ap (λ v. may_rise v c.args.subject c.args.level) c.self.view_is
