use Rattle.std.proofs.Common.{◌<◌, length, get_or, Some, refl, sym, ap, ◌∙◌, arith}
use Rattle.bk_image.specs.Objects.{room}
use Rattle.bk_store.specs.Stored.{objects_of}
use Rattle.bk_load.proofs.Filled.{few_words, insert-same, offset_inside, partial, partial-fresh, written_at}
use Rattle.bk_load.proofs.loading.write_words.Goals as goal

pub overflow_cast-i : goal.overflow_cast-i
overflow_cast-i c = omega (arith, few_words c.args.object.now.facts c.requires.blocks, c.requires.words, c.loop-i-test.true, ap length c.as_slice-words.ensures)

pub loop-i-init : goal.loop-i-init
loop-i-init c =
    let o = c.args.object.now in
    record {
      objects = sym (insert-same (objects_of c.args.store.now c.args.core.now.words) o.path (partial o 0) (c.requires.new ∙ ap Some (sym (partial-fresh o))));
      kernel = refl;
    }

pub overflow_mul-i : goal.overflow_mul-i
overflow_mul-i c = omega (arith, few_words c.args.object.now.facts c.requires.blocks, c.requires.words, c.loop-i-test.true, ap length c.as_slice-words.ensures)

pub write_word-requires-clause-inside : goal.write_word-requires-clause-inside
write_word-requires-clause-inside c =
    let o = c.args.object.now in
    let below : c.loop-i.i < length o.words = omega (arith, c.loop-i-test.true, ap length c.as_slice-words.ensures) in
    let within : c.loop-i.i < room o.facts = omega (arith, below, c.requires.words) in
    offset_inside c.args.store.now c.args.core.now.words o.path o.facts c.loop-i.i _ c.requires.new within (omega arith)

pub loop-i-preserved : goal.loop-i-preserved
loop-i-preserved c =
    let o = c.args.object.now in
    let below : c.loop-i.i < length o.words = omega (arith, c.loop-i-test.true, ap length c.as_slice-words.ensures) in
    record {
      objects = c.write_word.ensures.words ∙ written_at (objects_of c.args.store.now c.args.core.now.words) _ o _ c.loop-i.i _ c.loop-i.invariant.objects (omega arith) below c.requires.words (ap (λ words. get_or words c.loop-i.i 0) c.as_slice-words.ensures);
      kernel = c.write_word.ensures.kernel ∙ c.loop-i.invariant.kernel;
    }
