use Rattle.std.proofs.Common.{◌∙◌, ap, subst}
use Rattle.bk_path.specs.Paths.{pack, IsPath}
use Rattle.bk_path.proofs.PathLemmas.{words-pack, path_of-IsPath}
use Rattle.bk_path.proofs.path.Path.pack.Goals as goal

pub returns-clause-value : goal.returns-clause-value
returns-clause-value c = words-pack c.self.inside c.self.invariant ∙ ap pack c.self.view_is

pub returns-clause-path : goal.returns-clause-path
returns-clause-path c = subst IsPath c.self.view_is (path_of-IsPath c.self.inside c.self.invariant)
