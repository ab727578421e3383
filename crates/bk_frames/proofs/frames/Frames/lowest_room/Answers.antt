use Rattle.std.proofs.Common.{sym, subst, Option, IfNone, ℕ}
use Rattle.bk_frames.specs.Extents.{HasNoRoom}
use Rattle.bk_frames.proofs.Searched.{lowest_seen, none_seen}
use Rattle.bk_frames.proofs.frames.Frames.lowest_room.Goals as goal

pub returns-in_err-at-clause-none : goal.returns-in_err-at-clause-none
returns-in_err-at-clause-none c = subst (λ (o : Option ℕ). IfNone o (HasNoRoom c.args.self.now c.args.blocks)) (sym c.from_residual.ensures)
    (none_seen _ _ _ _ _ _ _ _ c.self.invariant _ c.self.view_is c.args.blocks c.in_err-at.ensures.none)

pub returns-clause-some : goal.returns-clause-some
returns-clause-some c = lowest_seen _ _ _ _ _ _ _ _ c.self.invariant _ c.self.view_is c.args.blocks c.in_ok-at.at c.requires c.in_ok-at.ensures.some.0 c.in_ok-at.ensures.some.1
