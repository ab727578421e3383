use Rattle.bk_script.proofs.Again.{script_of-text_of}
use Rattle.bk_script.proofs.laws.law_read_again.Goals as goal

pub returns : goal.returns
returns c = λ lines turns slots records few s short. script_of-text_of lines turns records slots few s short
