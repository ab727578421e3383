use Rattle.bk_image.proofs.Fronts.{no_prefix}
use Rattle.bk_image.proofs.laws.law_no_prefix.Goals as goal

pub returns : goal.returns
returns c = no_prefix
