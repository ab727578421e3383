use Rattle.std.proofs.Common.{◌++◌, ◌∙◌, replicate, ap}
use Rattle.bk_object.specs.Modes.{no_modes}
use Rattle.bk_object.specs.Pairs.{split_pairs}
use Rattle.bk_object.proofs.RowLemmas.{split_pairs-append}
use Rattle.bk_object.proofs.row.RowOf+16.widen.Goals as goal

pub returns : goal.returns
returns c =
    split_pairs-append c.copy_from_slice.new.self (replicate 16 0)
    ∙ ap (λ pairs. split_pairs pairs ++ replicate 32 no_modes) c.copy_from_slice.ensures.after
    ∙ ap (λ row. row ++ replicate 32 no_modes) c.self.view_is
