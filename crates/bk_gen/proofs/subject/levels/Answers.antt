use Rattle.std.proofs.Common.{◌≡◌, [], map, ap, ◌∙◌, arith}
use Rattle.std.proofs.lemmas.List.FromFn.{length-map-range_with_len}
use Rattle.bk_level.specs.Levels.{has_level}
use Rattle.bk_level.specs.Masks.{categories_of}
use Rattle.bk_gen.specs.Subjects.{level_of, numbers_below, generated_levels}
use Rattle.bk_gen.proofs.Levels.{no_categories, level_new}
use Rattle.bk_gen.proofs.Ranges.{one_more}
use Rattle.bk_gen.proofs.subject.levels.Goals as goal

pub add_level-requires-clause-few : goal.add_level-requires-clause-few
add_level-requires-clause-few c = rw c.loop-class.invariant (omega (arith, length-map-range_with_len level_of 0 c.loop-class.class))

pub add_level-requires-clause-new : goal.add_level-requires-clause-new
add_level-requires-clause-new c =
    (λ i. has_level (c.loop-class.invariant i) (record { class = c.loop-class.class; categories = no_categories i }))
    ∙ level_new c.loop-class.class c.loop-class-test.true

pub loop-class-preserved : goal.loop-class-preserved
loop-class-preserved c =
    one_more [] c.loop-class.levels c.add_level.new.levels c.loop-class.class level_of (record { class = c.loop-class.class; categories = categories_of 0 })
    c.loop-class.invariant c.add_level.ensures (λ i. record { class = c.loop-class.class; categories = no_categories i })

pub returns : goal.returns
unfolding generated_levels
returns c =
    let all : c.loop-class.class ≡ 4 = omega arith in
    c.loop-class.invariant ∙ ap (λ n. map level_of (numbers_below n)) all
