use Rattle.std.proofs.Common.{◌≡◌, ℕ, List, [], Ok, ap, sym, subst, ◌∙◌}
use Rattle.std.specs.Prelude.{map}
use Rattle.std.proofs.lemmas.Result.{err_from_is_err_and}
use Rattle.bk_base.specs.Faults.{Refuses}
use Rattle.bk_asm_text.specs.Before.{plain_front}
use Rattle.bk_asm.specs.declared.program.Program.{Program}
use Rattle.bk_asm.specs.declared.program.Symbol.{Symbol}
use Rattle.bk_asm.specs.declared.place.Placed.{Placed as PlacedInMemory}
use Rattle.bk_asm.specs.Assembled.{words_of}
use Rattle.bk_asm.specs.Codes.{coded}
use Rattle.bk_asm.specs.Faults.{settle}
use Rattle.bk_asm.specs.Places.{start}
use Rattle.bk_asm.specs.Seen.{plain_placed, seen}
use Rattle.bk_asm.proofs.Whole.{assembled_from, unsettled, outside, uncoded, all_coded}
use Rattle.bk_asm.proofs.assembling.assemble_text.Goals as goal

abbrev program_of : ℕ → List ℕ → List Symbol → Program
program_of origin words symbols = record { origin = origin; words = words; symbols = symbols }

pub returns-in_err-placed : goal.returns-in_err-placed
returns-in_err-placed c =
    let p = err_from_is_err_and c.from_residual-in_err-placed.result c.from_residual-in_err-placed.ensures.1 in
    let front = plain_front c.in_ok-front.front in
    let origin = c.args.origin in
    let stop = c.in_err-placed.field-0.0 in
    rw (p.1, p.2, assembled_from c.args.text.now origin front c.in_ok-front.ensures) (unsettled origin front.fault (settle origin [] (start origin) front.statements) stop c.in_err-placed.ensures)

pub returns-in-Some : goal.returns-in-Some
returns-in-Some c =
    let front = plain_front c.in_ok-front.front in
    let origin = c.args.origin in
    assembled_from c.args.text.now origin front c.in_ok-front.ensures
    ∙ outside origin c.in-Some.fault front.fault (settle origin [] (start origin) front.statements) (map plain_placed c.in_ok-placed.placed.items, seen c.in_ok-placed.table) c.in_ok-placed.ensures c.in-Some.is

pub returns-in_err-bytes : goal.returns-in_err-bytes
returns-in_err-bytes c =
    let p = err_from_is_err_and c.from_residual-in_err-bytes.result c.from_residual-in_err-bytes.ensures.1 in
    let front = plain_front c.in_ok-front.front in
    let origin = c.args.origin in
    let stop = c.in_err-bytes.field-0.0 in
    let defined = seen c.in_ok-placed.table in
    let refuses : Refuses stop (coded defined [] (map plain_placed c.in_ok-placed.placed.items)) =
    subst (λ (xs : List PlacedInMemory). Refuses stop (coded defined [] (map plain_placed xs))) c.as_slice.ensures.value c.in_err-bytes.ensures in
    rw (p.1, p.2, assembled_from c.args.text.now origin front c.in_ok-front.ensures)
    (uncoded origin front.fault (settle origin [] (start origin) front.statements) (map plain_placed c.in_ok-placed.placed.items, defined) stop c.in_ok-placed.ensures c.in_default.is refuses)

pub returns : goal.returns
returns c =
    let front = plain_front c.in_ok-front.front in
    let origin = c.args.origin in
    let defined = seen c.in_ok-placed.table in
    let is : coded defined [] (map plain_placed c.in_ok-placed.placed.items) ≡ Ok c.in_ok-bytes.bytes.items =
    subst (λ (xs : List PlacedInMemory). coded defined [] (map plain_placed xs) ≡ Ok c.in_ok-bytes.bytes.items) c.as_slice.ensures.value c.in_ok-bytes.ensures in
    let words : words_of c.in_ok-bytes.bytes.items ≡ c.in_ok-words.words = ap words_of (sym c.as_slice-2.ensures.value) ∙ sym c.in_ok-words.ensures in
    assembled_from c.args.text.now origin front c.in_ok-front.ensures
    ∙ all_coded origin front.fault (settle origin [] (start origin) front.statements) (map plain_placed c.in_ok-placed.placed.items, defined) c.in_ok-bytes.bytes.items c.in_ok-placed.ensures c.in_default.is is
    ∙ (λ i. Ok (program_of origin (words i) (sym c.in_ok-symbols.ensures i)))
