use Rattle.std.proofs.Common.{sym, ◌∙◌}
use Rattle.bk_conf.proofs.Fields.{subjects_stop}
use Rattle.bk_conf.proofs.kind.subjects_in.Goals as goal

pub returns-in-Err : goal.returns-in-Err
returns-in-Err c =
    sym c.loop-field.invariant
    ∙ subjects_stop c.loop-field.subjects.items c.args.f.now c.loop-field.field-index _ c.in-Err.kind c.loop-field-test.true (sym c.subject_in.ensures ∙ c.in-Err.is)
