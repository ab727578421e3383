use Rattle.bk_load.proofs.Kept.{start-kept}
use Rattle.bk_load.proofs.Together.{all_begun}
use Rattle.bk_load.proofs.loading.load.Goals as goal

pub load_store-requires-clause-root : goal.load_store-requires-clause-root
load_store-requires-clause-root c = c.in_ok-store.ensures c.args.core.now.words

pub returns : goal.returns
returns c = record {
  state = all_begun c.args.image.now c.load_store.new.store c.load_store.new.core.words c.in_ok-beginning.beginning c.load_store.ensures.loaded c.in_ok-beginning.ensures;
  kept = start-kept c.args.image.now c.load_store.new.store c.load_store.new.core.words c.in_ok-beginning.beginning c.requires c.load_store.ensures.loaded c.in_ok-beginning.ensures;
  kernel = c.load_store.ensures.kernel;
}
