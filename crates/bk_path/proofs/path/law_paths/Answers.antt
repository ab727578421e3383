use Rattle.bk_path.proofs.PathLemmas.{IsInferior-trans, child-parent, inferior-front}
use Rattle.bk_path.proofs.path.law_paths.Goals as goal

pub returns-clause-prefix : goal.returns-clause-prefix
returns-clause-prefix c = inferior-front

pub returns-clause-transitive : goal.returns-clause-transitive
returns-clause-transitive c = IsInferior-trans

pub returns-clause-child_of_parent : goal.returns-clause-child_of_parent
returns-clause-child_of_parent c = child-parent
