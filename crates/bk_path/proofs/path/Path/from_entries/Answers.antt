use Rattle.std.proofs.Common.{rules, ◌≡◌, length, sym, subst, ◌∙◌}
use Rattle.bk_path.specs.Packed.{IsPacked, path_of}
use Rattle.bk_path.proofs.PathLemmas.{words-IsPacked, path_of-words, first_of}
use Rattle.bk_path.proofs.path.Path.from_entries.Goals as goal

pub invariant_of-result : goal.invariant_of-result
invariant_of-result c =
    let seven : length c.args.entries ≡ 7 = search rules in
    subst (λ a. IsPacked (record { first = a; second = c.word-2.result })) (sym c.word.ensures)
    (subst (λ b. IsPacked (record { first = first_of c.args.depth c.args.entries; second = b })) (sym c.word-2.ensures)
    (words-IsPacked c.args.depth c.args.entries c.requires.depth seven c.requires.small c.requires.zeros))

pub returns : goal.returns
returns c =
    let seven : length c.args.entries ≡ 7 = search rules in
    (λ i. path_of (record { first = c.word.ensures i; second = c.word-2.ensures i }))
    ∙ path_of-words c.args.depth c.args.entries c.requires.depth seven c.requires.small
