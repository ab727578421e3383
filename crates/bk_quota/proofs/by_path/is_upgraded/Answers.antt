use Rattle.std.proofs.Common.{◌∙◌, sym}
use Rattle.bk_quota.proofs.GoverningLemmas.{upgraded-directory, upgraded-other}
use Rattle.bk_quota.proofs.by_path.is_upgraded.Goals as goal

pub returns-then-is_directory : goal.returns-then-is_directory
returns-then-is_directory g c =
    c.has_other_level.ensures
    ∙ upgraded-directory g.F.FactsByPath.facts_of (g.F.FactsByPath.objects c.args.all.now) c.args.path c.args.above c.in-Some.facts c.requires.below c.requires.parent (sym c.in-Some.is ∙ c.facts_at.ensures) (sym c.is_directory.ensures ∙ c.if-is_directory.true)

pub returns-else-is_directory : goal.returns-else-is_directory
returns-else-is_directory g c =
    c.is_directory.ensures
    ∙ upgraded-other g.F.FactsByPath.facts_of (g.F.FactsByPath.objects c.args.all.now) c.args.path c.args.above c.in-Some.facts c.requires.below c.requires.parent (sym c.in-Some.is ∙ c.facts_at.ensures) (sym c.is_directory.ensures ∙ c.if-is_directory.false)
