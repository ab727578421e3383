use Rattle.std.specs.List.{list_all}
use Rattle.std.proofs.Common.{◌-◌, ◌/◌, ◌==◌, take, drop, refl, ◌∙◌, ap, sym}
use Rattle.bk_path.specs.Paths.{entries_of}
use Rattle.bk_path.proofs.PathLemmas.{nothing-packs, unpack-deep, unpack-rest, whole-rest}
use Rattle.bk_path.proofs.path.Path.unpack.Goals as goal

pub returns-then-depth-gt7-clause-none : goal.returns-then-depth-gt7-clause-none
returns-then-depth-gt7-clause-none c _ = nothing-packs c.args.first c.args.second (unpack-deep c.args.first c.args.second c.if-depth-gt7.true)

pub returns-else-is_zero-clause-none : goal.returns-else-is_zero-clause-none
returns-else-is_zero-clause-none c _ = nothing-packs c.args.first c.args.second (unpack-rest c.args.first c.args.second
    (ap (λ xs. list_all (λ entry. entry == 0) xs)
    (sym (whole-rest (c.args.first / 4096) (entries_of c.args.first c.args.second) refl) ∙ ap (λ xs. take (7 - c.args.first / 4096) (drop (c.args.first / 4096) xs)) (sym c.entries_of-entries.ensures))
    ∙ sym c.is_zero.ensures
    ∙ c.if-is_zero.false))
