use Rattle.std.proofs.Common.{ap, ◌∙◌}
use Rattle.std.specs.FinMap as map
use Rattle.bk_load.proofs.Filled.{few_blocks, get-inserted, insert-again}
use Rattle.bk_state.specs.Start.{object_from}
use Rattle.bk_store.specs.Stored.{fresh, objects_of}
use Rattle.bk_load.proofs.loading.load_object.Goals as goal

pub write_words-requires-clause-new : goal.write_words-requires-clause-new
write_words-requires-clause-new c =
    let o = c.args.object.now in
    ap (λ m. map.get m o.path) c.create.ensures.created.objects ∙ get-inserted (objects_of c.args.store.now c.args.core.now.words) o.path (fresh o.facts)

pub write_words-requires-clause-blocks : goal.write_words-requires-clause-blocks
write_words-requires-clause-blocks c = few_blocks c.args.object.now.facts.kind c.args.object.now.facts.blocks c.requires.fit.blocks

pub returns : goal.returns
returns c =
    let o = c.args.object.now in
    record {
      more = record {
        objects =
            c.write_words.ensures.objects ∙ ap (λ m. map.insert m o.path (object_from o)) c.create.ensures.created.objects
            ∙ insert-again (objects_of c.args.store.now c.args.core.now.words) o.path (fresh o.facts) (object_from o);
        access = c.create.ensures.created.access;
        levels = c.create.ensures.created.levels;
        lines = c.create.ensures.created.lines;
      };
      kernel = c.write_words.ensures.kernel ∙ c.create.ensures.kernel;
    }
