use Rattle.std.proofs.Common.{◌≡◌, Some, None, Ok, Err, sym, ap, ◌∙◌, arith, subst}
use Rattle.std.proofs.lemmas.Result.{err_from_is_err_and}
use Rattle.bk_script.specs.declared.line.Line.TheVariants.{Record, Ends}
use Rattle.bk_script.specs.Fault.{fault_at}
use Rattle.bk_base.specs.Faults.{first_failing}
use Rattle.bk_script.specs.Lines.{record_checks, end_checks}
use Rattle.bk_base.specs.Faults.{Gives}
use Rattle.bk_script.specs.Script.{parts_of}
use Rattle.bk_script.proofs.Parts.{script_of-long}
use Rattle.bk_script.proofs.Reader.{Stands, Next, others, none_left, neither, record_refused, record_taken, end_refused, end_taken}
use Rattle.bk_script.proofs.reading.read_lines.Goals as goal

pub returns-then-bytes-gt-MOST_BYTES : goal.returns-then-bytes-gt-MOST_BYTES
returns-then-bytes-gt-MOST_BYTES c = rw c.bad.ensures (script_of-long c.args.lines c.args.turns c.args.bytes.now c.if-bytes-gt-MOST_BYTES.true)

pub returns-in-None : goal.returns-in-None
returns-in-None c =
    let stands : Stands c.args.lines c.args.turns c.loop-text.at c.args.bytes.now c.loop-text.rest.now c.loop-text.typed.items =
    record { short = omega arith; same = c.loop-text.invariant.same } in
    let next : Next c.loop-text.rest.now c.in-Some.text.now c.in-Some.more.now None =
    record { found = c.in-Some.ensures.found; says = sym c.in_ok-read_line.ensures ∙ c.in-None.is } in
    rw c.bad-in-None.ensures (neither stands next)

pub returns-in_err-check_record-in-Some-Record : goal.returns-in_err-check_record-in-Some-Record
returns-in_err-check_record-in-Some-Record c =
    let stands : Stands c.args.lines c.args.turns c.loop-text.at c.args.bytes.now c.loop-text.rest.now c.loop-text.typed.items =
    record { short = omega arith; same = c.loop-text.invariant.same } in
    let next : Next c.loop-text.rest.now c.in-Some.text.now c.in-Some.more.now (Some (Record c.in-Some-Record.slot c.in-Some-Record.line c.in-Some-Record.hex)) =
    record { found = c.in-Some.ensures.found; says = sym c.in_ok-read_line.ensures ∙ c.in-Some-Record.is ∙ ap Some c.in-Some-Record.field-0-is } in
    let checked : first_failing (fault_at c.loop-text.at) (record_checks c.args.lines c.loop-text.typed.items c.in-Some-Record.slot c.in-Some-Record.line) ≡ Err c.in_err-check_record-in-Some-Record.field-0.0 =
    rw (← c.deref.ensures.value) (sym c.check_record.ensures.exact ∙ c.in_err-check_record-in-Some-Record.was) in
    let p = err_from_is_err_and c.from_residual-in_err-check_record-in-Some-Record.result c.from_residual-in_err-check_record-in-Some-Record.ensures.1 in
    rw (p.1, p.2) (record_refused stands next checked)

pub returns-in_err-check_end-in-Some-Ends : goal.returns-in_err-check_end-in-Some-Ends
returns-in_err-check_end-in-Some-Ends c =
    let stands : Stands c.args.lines c.args.turns c.loop-text.at c.args.bytes.now c.loop-text.rest.now c.loop-text.typed.items =
    record { short = omega arith; same = c.loop-text.invariant.same } in
    let next : Next c.loop-text.rest.now c.in-Some.text.now c.in-Some.more.now (Some (Ends c.in-Some-Ends.slots)) =
    record { found = c.in-Some.ensures.found; says = sym c.in_ok-read_line.ensures ∙ c.in-Some-Ends.is ∙ ap Some c.in-Some-Ends.field-0-is } in
    let checked : first_failing (fault_at c.loop-text.at) (end_checks c.args.turns c.loop-text.typed.items c.in-Some-Ends.slots) ≡ Err c.in_err-check_end-in-Some-Ends.field-0.0 =
    rw (← c.deref-in-Some-Ends.ensures.value) (sym c.check_end.ensures.exact ∙ c.in_err-check_end-in-Some-Ends.was) in
    let p = err_from_is_err_and c.from_residual-in_err-check_end-in-Some-Ends.result c.from_residual-in_err-check_end-in-Some-Ends.ensures.1 in
    rw (p.1, p.2) (end_refused stands next checked)

pub returns-in-Some-Ends : goal.returns-in-Some-Ends
returns-in-Some-Ends c =
    let stands : Stands c.args.lines c.args.turns c.loop-text.at c.args.bytes.now c.loop-text.rest.now c.loop-text.typed.items =
    record { short = omega arith; same = c.loop-text.invariant.same } in
    let next : Next c.loop-text.rest.now c.in-Some.text.now c.in-Some.more.now (Some (Ends c.in-Some-Ends.slots)) =
    record { found = c.in-Some.ensures.found; says = sym c.in_ok-read_line.ensures ∙ c.in-Some-Ends.is ∙ ap Some c.in-Some-Ends.field-0-is } in
    let checked : first_failing (fault_at c.loop-text.at) (end_checks c.args.turns c.loop-text.typed.items c.in-Some-Ends.slots) ≡ Ok tt =
    rw (← c.deref-in-Some-Ends.ensures.value) (sym c.check_end.ensures.exact ∙ c.in_ok-check_end-in-Some-Ends.was) in
    subst (Gives parts_of c.ended.result) (sym (end_taken stands next checked)) (rw (← c.from_vec.ensures) c.ended.ensures.exact)

pub loop-text-preserved : goal.loop-text-preserved
loop-text-preserved c =
    let stands : Stands c.args.lines c.args.turns c.loop-text.at c.args.bytes.now c.loop-text.rest.now c.loop-text.typed.items =
    record { short = omega arith; same = c.loop-text.invariant.same } in
    let next : Next c.loop-text.rest.now c.in-Some.text.now c.in-Some.more.now (Some (Record c.in-Some-Record.slot c.in-Some-Record.line c.in-Some-Record.hex)) =
    record { found = c.in-Some.ensures.found; says = sym c.in_ok-read_line.ensures ∙ c.in-Some-Record.is ∙ ap Some c.in-Some-Record.field-0-is } in
    let checked : first_failing (fault_at c.loop-text.at) (record_checks c.args.lines c.loop-text.typed.items c.in-Some-Record.slot c.in-Some-Record.line) ≡ Ok tt =
    rw (← c.deref.ensures.value) (sym c.check_record.ensures.exact ∙ c.in_ok-check_record-in-Some-Record.was) in
    let taken = record_taken stands next checked in
    record {
      same = ap (others c.args.lines c.args.turns c.loop-text.at c.in-Some.more.now) c.in_ok-push-in-Some-Record.ensures.items ∙ taken.same;
      room = omega (arith, c.in-Some.ensures.shorter, c.loop-text.invariant.room);
    }

pub returns : goal.returns
returns c =
    let stands : Stands c.args.lines c.args.turns c.loop-text.at c.args.bytes.now c.loop-text.rest.now c.loop-text.typed.items =
    record { short = omega arith; same = c.loop-text.invariant.same } in
    rw c.bad-2.ensures (none_left stands c.in_default.ensures.none)
