use Rattle.std.proofs.Common.{◌≡◌, ◌+◌, rules, ap, ◌∙◌}
use Rattle.std.specs.Prelude.{Ok, map}
use Rattle.bk_base.specs.Faults.{first_failing}
use Rattle.bk_expr.specs.Tree.{plain}
use Rattle.bk_expr.specs.declared.worked.Worked.{Worked}
use Rattle.bk_asm_text.specs.Fault.{fault_at}
use Rattle.bk_asm_text.specs.Flat.{plain_statement}
use Rattle.bk_asm.specs.Faults.{checks}
use Rattle.bk_asm.specs.Pieces.{role_of, form_size}
use Rattle.bk_asm.specs.Places.{assigned, labelled, range_at, settled, size_at, size_by}
use Rattle.bk_asm.specs.Seen.{at_most, plain_known, seen}
use Rattle.bk_asm.proofs.Settling.{size_is}
use Rattle.bk_asm.proofs.place.Known.place.Goals as goal

pub returns-clause-placed : goal.returns-clause-placed
returns-clause-placed c =
    let known = plain_known c.args.self.now in
    let statement = plain_statement c.args.statement in
    let worked : c.in_ok-worked.worked ≡ settled known statement = search rules in
    let passed : first_failing (fault_at c.args.statement.line) (checks c.args.origin known statement) ≡ Ok tt = search rules in
    let told : c.size_at-size.result ≡ at_most (size_at known statement) =
    c.size_at-size.ensures.size ∙ ap (λ (w : Worked). at_most (size_by known.address (form_size statement.body) w (role_of statement.body))) worked in
    let size : c.unwrap_or-size.result ≡ size_at known statement =
    c.unwrap_or-size.ensures ∙ size_is c.args.origin known statement c.size_at-size.result passed told c.requires.from in
    let range : c.range_at-range.result ≡ range_at known statement = search rules in
    λ i. record { statement = statement; address = known.address; range = range i; size = size i }

pub returns-clause-after : goal.returns-clause-after
returns-clause-after c =
    let known = plain_known c.args.self.now in
    let statement = plain_statement c.args.statement in
    let worked : c.in_ok-worked.worked ≡ settled known statement = search rules in
    let passed : first_failing (fault_at c.args.statement.line) (checks c.args.origin known statement) ≡ Ok tt = search rules in
    let told : c.size_at-size.result ≡ at_most (size_at known statement) =
    c.size_at-size.ensures.size ∙ ap (λ (w : Worked). at_most (size_by known.address (form_size statement.body) w (role_of statement.body))) worked in
    let size : c.unwrap_or-size.result ≡ size_at known statement =
    c.unwrap_or-size.ensures ∙ size_is c.args.origin known statement c.size_at-size.result passed told c.requires.from in
    let range : c.range_at-range.result ≡ range_at known statement = search rules in
    let table : seen c.set_labels.new.self ≡ labelled known statement = search rules in
    let defined : seen c.assign.new.table ≡ assigned (labelled known statement) (settled known statement) (role_of statement.body) =
    c.in_ok-again.ensures.assigned (map plain c.args.statement.values.now) ∙ (λ i. assigned (table i) (worked i) (role_of statement.body)) in
    λ i. record { address = known.address + size i; range = range i; defined = defined i }
