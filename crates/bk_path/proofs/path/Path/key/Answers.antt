use Rattle.std.proofs.Common.{◌≡◌, ◌+◌, ◌*◌, ◌/◌, ◌%◌, ap, subst, ◌∙◌}
use Rattle.bk_path.specs.Paths.{IsPath}
use Rattle.bk_path.specs.Keys.{key_of}
use Rattle.bk_path.proofs.KeyWords.{key_is}
use Rattle.bk_path.proofs.PathLemmas.{path_of-IsPath, words-pack}
use Rattle.bk_path.proofs.path.Path.key.Goals as goal

pub returns-clause-path : goal.returns-clause-path
returns-clause-path c = subst IsPath c.self.view_is (path_of-IsPath c.self.inside c.self.invariant)

pub returns-clause-value : goal.returns-clause-value
returns-clause-value c =
    let first = c.self.inside.first in
    let second = c.self.inside.second in
    let words : (c.from.result * 65536 + c.from-2.result) * 8 + c.from-3.result ≡ (first % 4096 * 65536 + second) * 8 + first / 4096 = λ i. (c.from.ensures i * 65536 + c.from-2.ensures i) * 8 + c.from-3.ensures i in
    words ∙ key_is _ (path_of-IsPath c.self.inside c.self.invariant) first second (words-pack c.self.inside c.self.invariant) ∙ ap key_of c.self.view_is
