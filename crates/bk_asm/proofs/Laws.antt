-- What is assembled is so as the law says.
use Rattle.std.proofs.Common.{◌≡◌, ℕ, List, [], ◌∷◌, ◌++◌, Some, None, Ok, refl, sym, ap, ◌∙◌, append_assoc, arith}
use Rattle.std.specs.Prelude.{Option, Result, flat_map}
use Rattle.bk_base.specs.Faults.{◌>>=◌, first_failing}
use Rattle.bk_base.proofs.FaultLemmas.{bind_ok}
use Rattle.bk_asm_text.specs.declared.fault.AsmFault.{AsmFault}
use Rattle.bk_asm_text.specs.Before.{before_fault}
use Rattle.bk_asm_text.specs.Fault.{fault_at}
use Rattle.bk_asm_text.proofs.Before.{statements_whole, whole_none}
use Rattle.bk_asm.specs.declared.program.Program.{Program}
use Rattle.bk_asm.specs.Assembled.{assembled, none_outside, words_of, symbols_of}
use Rattle.bk_asm.specs.Codes.{coded, coded_at, coded_behind, piece_checks}
use Rattle.bk_asm.specs.Faults.{settle}
use Rattle.bk_asm.specs.Law.{IsAssembly, bytes_of}
use Rattle.bk_asm.specs.Names.{Defined, values_in}
use Rattle.bk_asm.specs.Pieces.{pieces_of}
use Rattle.bk_asm.specs.Places.{Placed, as_value, start}
use Rattle.bk_asm.proofs.Lawful.{chained, behind, sorted_all}
use Rattle.bk_asm.proofs.Whole.{assembled_from}

-- the bytes of a statement that has them
bytes_are : (defined : Defined) (one : Placed) (bytes : List ℕ) → coded_at defined one ≡ Ok bytes → bytes ≡ bytes_of defined one
unfolding coded_at
bytes_are defined one bytes e =
    let values = values_in defined one.range in
    let here = as_value one.address in
    let passed = bind_ok (first_failing (fault_at one.statement.line) (piece_checks values here (pieces_of one.statement.body))) (λ p. Ok (bytes_of defined one)) bytes e in
    let same : ◌≡◌ {A = Result (List ℕ) AsmFault} (Ok (bytes_of defined one)) (Ok bytes) = passed.2 in
    cc

all_bytes : (defined : Defined) (before : List ℕ) (places : List Placed) (bytes : List ℕ) → coded defined before places ≡ Ok bytes → bytes ≡ before ++ flat_map (bytes_of defined) places
unfolding coded
all_bytes defined before [] bytes e =
    let same : ◌≡◌ {A = Result (List ℕ) AsmFault} (Ok before) (Ok bytes) = e in
    let alike : bytes ≡ before = cc in
    alike ∙ sym (append_nil before)
  where
    append_nil : (xs : List ℕ) → xs ++ [] ≡ xs
    append_nil [] = refl
    append_nil (x ∷ xs) = ap (λ ys. x ∷ ys) (append_nil xs)
all_bytes defined before (one ∷ places) bytes e =
    let first = bind_ok (coded_behind defined before one) (λ more. coded defined more places) bytes e in
    let here = bind_ok (coded_at defined one) (λ bytes. Ok (before ++ bytes)) first.0 first.1 in
    let joined : ◌≡◌ {A = Result (List ℕ) AsmFault} (Ok (before ++ here.0)) (Ok first.0) = here.2 in
    let alike : first.0 ≡ before ++ here.0 = cc in
    all_bytes defined first.0 places bytes first.2
    ∙ ap (λ (xs : List ℕ). xs ++ flat_map (bytes_of defined) places) (alike ∙ ap (λ (xs : List ℕ). before ++ xs) (bytes_are defined one here.0 here.1))
    ∙ append_assoc before (bytes_of defined one) (flat_map (bytes_of defined) places)

abbrev program_of : ℕ → List ℕ → Defined → Program
program_of origin words defined = record { origin = origin; words = words; symbols = symbols_of defined }

none_told : (fault : Option AsmFault) (u : Unit {0}) → none_outside fault ≡ Ok u → fault ≡ None
none_told None u e = refl
none_told (Some fault) u e = absurd cc

pub is_assembly : (text : List ℕ) (origin : ℕ) (program : Program) → assembled text origin ≡ Ok program → IsAssembly text origin program
is_assembly text origin program e =
    let front = before_fault text in
    let made = sym (assembled_from text origin front refl) ∙ e in
    let one = bind_ok (settle origin [] (start origin) front.statements)
    (λ s. none_outside front.fault >>= λ passed. coded s.1 [] s.0 >>= λ bytes. Ok (record { origin = origin; words = words_of bytes; symbols = symbols_of s.1 })) program made in
    let two = bind_ok (none_outside front.fault) (λ passed. coded one.0.1 [] one.0.0 >>= λ bytes. Ok (record { origin = origin; words = words_of bytes; symbols = symbols_of one.0.1 })) program one.2 in
    let three = bind_ok (coded one.0.1 [] one.0.0) (λ bytes. Ok (record { origin = origin; words = words_of bytes; symbols = symbols_of one.0.1 })) program two.2 in
    let chain = chained origin [] (start origin) front.statements one.0 one.1 in
    let defined = one.0.1 in
    let places = chain.0 in
    let coded_so : coded defined [] places ≡ Ok three.0 = ap (coded defined []) (sym chain.1) ∙ three.1 in
    let program_is : ◌≡◌ {A = Result Program AsmFault} (Ok (record { origin = origin; words = words_of three.0; symbols = symbols_of defined })) (Ok program) = three.2 in
    let plain : program ≡ record { origin = origin; words = words_of three.0; symbols = symbols_of defined } = cc in
    record {
      places = places;
      defined = defined;
      lines = statements_whole text ∙ whole_none front (none_told front.fault two.0 two.1) ∙ ap Ok (sym chain.2);
      addresses = λ before one others is.
          let h = behind origin defined before one others (start origin) places is chain.3 in
          record { address = h.address; range = omega (arith, h.range); size = h.stands.size; bytes = h.stands.bytes; labels = h.stands.labels; assignment = h.stands.assignment };
      once = sorted_all origin defined (start origin) places chain.3 tt;
      words = plain ∙ ap (λ (bytes : List ℕ). program_of origin (words_of bytes) defined) (all_bytes defined [] places three.0 coded_so);
    }
