use Rattle.bk_path.proofs.KeyLemmas.{inferior_within, within_inferior}
use Rattle.bk_path.proofs.KeyOrder.{key-order}
use Rattle.bk_path.proofs.path.law_keys.Goals as goal

pub returns : goal.returns
returns c = record { order = key-order; inferior = inferior_within; between = within_inferior }
