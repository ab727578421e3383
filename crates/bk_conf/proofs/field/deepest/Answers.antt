use Rattle.std.proofs.Common.{sym, ◌∙◌}
use Rattle.bk_conf.proofs.Fields.{deepest_err}
use Rattle.bk_conf.proofs.field.deepest.Goals as goal

pub returns-in-Err : goal.returns-in-Err
returns-in-Err c =
    sym (deepest_err c.loop-entry.path _ c.in-Err.kind c.in-Some.entry.now _ c.in-Some.ensures.found (sym c.deeper.ensures ∙ c.in-Err.is))
    ∙ c.loop-entry.invariant
