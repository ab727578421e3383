use Rattle.std.proofs.Common.{◌-◌, take, reverse, ap, ◌∙◌, arith}
use Rattle.std.proofs.lemmas.List.{take-set}
use Rattle.bk_path.proofs.PathLemmas.{parent-front}
use Rattle.bk_path.proofs.path.Path.parent.Goals as goal

pub returns-clause-some : goal.returns-clause-some
returns-clause-some c =
    let deep = c.depth-depth.ensures.value in
    let some = c.if-depth-eq0.false in
    c.from_entries.ensures
    ∙ ap reverse (take-set c.entries-entries.result (c.depth-depth.result - 1) 0)
    ∙ ap (λ n. reverse (take (n - 1) c.entries-entries.result)) deep
    ∙ parent-front c.args.self c.entries-entries.result (omega (arith, deep, some)) c.entries-entries.ensures.front
