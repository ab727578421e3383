-- The bytes of statements one after another.
use Rattle.std.proofs.Common.{◌≡◌, ℕ, Bool, List, [], ◌∷◌, ◌++◌, Ok, Err, refl, ap, sym, ◌∙◌, append_assoc}
use Rattle.std.specs.Prelude.{Result}
use Rattle.std.specs.List.{list_any}
use Rattle.bk_base.specs.declared.stop.Stop.{Stop}
use Rattle.bk_base.specs.declared.stop.Stop.TheVariants.{Bad, NoMemory}
use Rattle.bk_base.specs.Faults.{◌>>=◌, Refuses, first_failing}
use Rattle.bk_expr.specs.Value.{Values}
use Rattle.bk_asm_text.specs.declared.fault.AsmFault.{AsmFault}
use Rattle.bk_asm_text.specs.declared.fault.AsmKind.TheVariants.{Undefined, Divide, Range}
use Rattle.bk_asm_text.specs.Fault.{fault_at}
use Rattle.bk_asm.specs.Codes.{coded, coded_at, coded_behind, is_undefined_in, divides_in, is_beyond, pieces_bytes, zeros_of, piece_checks}
use Rattle.bk_asm.specs.Pieces.{Piece, pieces_of, role_of}
use Rattle.bk_asm.specs.Names.{Defined, values_in}
use Rattle.bk_asm.specs.Places.{Placed, as_value}

-- behind a statement that has bytes
pub coded_next : (defined : Defined) (before more : List ℕ) (one : Placed) (rest : List Placed) → coded_behind defined before one ≡ Ok more
    → coded defined before (one ∷ rest) ≡ coded defined more rest
unfolding coded
coded_next defined before more one rest is = ap (λ r. r >>= λ bytes. coded defined bytes rest) is

-- at a statement that has none
pub coded_stops : (defined : Defined) (before : List ℕ) (one : Placed) (rest : List Placed) (stop : Stop AsmFault)
    → Refuses stop (coded_at defined one) → Refuses stop (coded defined before (one ∷ rest))
unfolding coded
coded_stops defined before one rest NoMemory refuses = tt
coded_stops defined before one rest (Bad fault) refuses =
    ap (λ r. (r >>= λ bytes. Ok (before ++ bytes)) >>= λ bytes. coded defined bytes rest) refuses

-- no statement is left
pub coded_end : (defined : Defined) (before : List ℕ) → coded defined before [] ≡ Ok before
unfolding coded
coded_end defined before = refl

-- what the checks of a statement's pieces give, by what fails in them
abbrev pub told : (line : ℕ) → (undefined divides beyond : Bool) → Result (Unit {0}) AsmFault
told line undefined divides beyond = first_failing (fault_at line) ((Undefined, undefined) ∷ (Divide, divides) ∷ (Range, beyond) ∷ [])

-- what fails in pieces of a statement, whose words begin at an address
pub record Failing (values : Values) (here : ℕ) (pieces : List Piece) (undefined divides beyond : Bool) : Type 0 where
  pub undefined_is : undefined ≡ list_any (is_undefined_in values here) pieces
  pub divides_is : divides ≡ list_any (divides_in values here) pieces
  pub beyond_is : beyond ≡ list_any (is_beyond values here) pieces

told_is : (line : ℕ) (values : Values) (here : ℕ) (pieces : List Piece) (undefined divides beyond : Bool) → Failing values here pieces undefined divides beyond
    → first_failing (fault_at line) (piece_checks values here pieces) ≡ told line undefined divides beyond
told_is line values here pieces undefined divides beyond failing =
    λ i. told line (sym failing.undefined_is i) (sym failing.divides_is i) (sym failing.beyond_is i)

-- what a statement is coded by
abbrev pub coded_by : (one : Placed) (values : Values) (here : ℕ) (pieces : List Piece) → Result (List ℕ) AsmFault
coded_by one values here pieces = first_failing (fault_at one.statement.line) (piece_checks values here pieces)
    >>= λ passed. Ok (pieces_bytes values here here pieces ++ zeros_of one.size (role_of one.statement.body))

coded_at_by : (defined : Defined) (one : Placed) (here : ℕ) (pieces : List Piece) → here ≡ as_value one.address → pieces ≡ pieces_of one.statement.body
    → coded_at defined one ≡ coded_by one (values_in defined one.range) here pieces
unfolding coded_at
coded_at_by defined one here pieces at is = λ i. coded_by one (values_in defined one.range) (sym at i) (sym is i)

-- a statement whose pieces fail nowhere
pub coded_now : (defined : Defined) (before out : List ℕ) (one : Placed) (here : ℕ) (pieces : List Piece) (undefined divides beyond : Bool)
    → here ≡ as_value one.address → pieces ≡ pieces_of one.statement.body → Failing (values_in defined one.range) here pieces undefined divides beyond
    → told one.statement.line undefined divides beyond ≡ Ok tt
    → out ≡ (before ++ pieces_bytes (values_in defined one.range) here here pieces) ++ zeros_of one.size (role_of one.statement.body)
    → coded_behind defined before one ≡ Ok out
coded_now defined before out one here pieces undefined divides beyond at is failing passes written =
    let values = values_in defined one.range in
    let bytes = pieces_bytes values here here pieces in
    let zeros = zeros_of one.size (role_of one.statement.body) in
    ap (λ r. r >>= λ bytes. Ok (before ++ bytes)) (coded_at_by defined one here pieces at is)
    ∙ ap (λ r. (r >>= λ passed. Ok (bytes ++ zeros)) >>= λ bytes. Ok (before ++ bytes)) (told_is one.statement.line values here pieces undefined divides beyond failing ∙ passes)
    ∙ ap Ok (sym (append_assoc before bytes zeros) ∙ sym written)

-- .. fail
pub refused_now : (defined : Defined) (one : Placed) (here : ℕ) (pieces : List Piece) (undefined divides beyond : Bool) (fault : AsmFault)
    → here ≡ as_value one.address → pieces ≡ pieces_of one.statement.body → Failing (values_in defined one.range) here pieces undefined divides beyond
    → told one.statement.line undefined divides beyond ≡ Err fault → coded_at defined one ≡ Err fault
refused_now defined one here pieces undefined divides beyond fault at is failing refuses =
    let values = values_in defined one.range in
    let bytes = pieces_bytes values here here pieces in
    let zeros = zeros_of one.size (role_of one.statement.body) in
    coded_at_by defined one here pieces at is
    ∙ ap (λ r. r >>= λ passed. Ok (bytes ++ zeros)) (told_is one.statement.line values here pieces undefined divides beyond failing ∙ refuses)
