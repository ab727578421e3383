use Rattle.std.proofs.Common.{◌++◌, sym, ◌∙◌, ap, append_assoc}
use Rattle.std.proofs.lemmas.List.{append-nil}
use Rattle.bk_report.specs.Lines.{has_bit, kept, line_records_of}
use Rattle.bk_report.proofs.Naming.{line_records_of-cut, line_records_of-none}
use Rattle.bk_report.proofs.records.line_records.Goals as goal

pub loop-text-preserved : goal.loop-text-preserved
loop-text-preserved c =
    let set = has_bit c.args.lines in
    ap (λ items. items ++ line_records_of set c.in-Some.more.now) c.in_ok-keep.ensures
    ∙ append_assoc c.loop-text.records.items (kept set c.in-Some.text.now) (line_records_of set c.in-Some.more.now)
    ∙ ap (λ more. c.loop-text.records.items ++ more) (sym (line_records_of-cut set c.loop-text.rest.now c.in-Some.text.now c.in-Some.more.now c.in-Some.ensures.found))
    ∙ c.loop-text.invariant

pub returns : goal.returns
returns c =
    let set = has_bit c.args.lines in
    sym (append-nil c.loop-text.records.items)
    ∙ ap (λ more. c.loop-text.records.items ++ more) (sym (line_records_of-none set c.loop-text.rest.now c.in_default.ensures.none))
    ∙ c.loop-text.invariant
