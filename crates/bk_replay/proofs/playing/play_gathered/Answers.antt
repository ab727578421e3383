use Rattle.bk_base.proofs.Written.{on_err_any}
use Rattle.bk_replay.proofs.Pieces.{broke_behind, broke_last}
use Rattle.bk_replay.proofs.playing.play_gathered.Goals as goal

pub returns-in_err-summary-clause-failed : goal.returns-in_err-summary-clause-failed
returns-in_err-summary-clause-failed g c = on_err_any c.from_residual.result
    (broke_behind _ _ _ _ _ _ _ _ _ _ c.requires.fresh c.play_kernel.new.out.in_step c.in_err-summary.ensures.failed)

pub returns-in_err-empty-clause-failed : goal.returns-in_err-empty-clause-failed
returns-in_err-empty-clause-failed g c = on_err_any c.from_residual-in_err-empty.result
    (broke_last _ _ _ _ _ _ _ _ _ _ _ _ c.requires.fresh c.empty.new.self.in_step c.in_ok-summary.ensures.written c.in_err-empty.ensures.history c.in_err-empty.ensures.cause.failed c.in_err-empty.ensures.cause.later)
