use Rattle.std.proofs.Common.{ap₂, [], ◌∷◌}
use Rattle.bk_report.proofs.Pairs.{pairs_at}
use Rattle.bk_report.proofs.printing.pair.Goals as goal

pub returns : goal.returns
returns c =
    let p = pairs_at c.args.n c.requires in
    ap₂ (λ tens ones. tens ∷ ones ∷ []) p.0 p.1
