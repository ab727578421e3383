-- Statements put at their places one after another.
use Rattle.std.proofs.Common.{◌≡◌, ℕ, ◌+◌, ◌≤◌, List, [], ◌∷◌, ◌++◌, Ok, Some, refl, sym, ap, ◌∙◌, arith}
use Rattle.std.specs.Prelude.{Option}
use Rattle.std.specs.Option.{unwrap_or}
use Rattle.std.proofs.lemmas.Bool.Decides.{nat_tests}
use Rattle.bk_base.proofs.FaultLemmas.{all_pass}
use Rattle.bk_asm.specs.Seen.{at_most}
use Rattle.bk_base.specs.declared.stop.Stop.{Stop}
use Rattle.bk_base.specs.declared.stop.Stop.TheVariants.{Bad, NoMemory}
use Rattle.bk_base.specs.Faults.{◌>>=◌, Refuses}
use Rattle.bk_asm_text.specs.declared.fault.AsmFault.{AsmFault}
use Rattle.bk_asm_text.specs.Fault.{fault_at}
use Rattle.bk_asm_text.specs.Plain.{PlainStatement}
use Rattle.bk_asm.specs.Faults.{checked, checks, limit, settle}
use Rattle.bk_asm.specs.Places.{Known, Placed, placed, after, size_at}

-- behind a statement of which no check fails
pub settle_next : (origin : ℕ) (before : List Placed) (known : Known) (statement : PlainStatement) (rest : List PlainStatement) (one : Placed) (then : Known)
    → checked origin known statement ≡ Ok tt → one ≡ placed known statement → then ≡ after known statement
    → settle origin before known (statement ∷ rest) ≡ settle origin (before ++ one ∷ []) then rest
unfolding settle
settle_next origin before known statement rest one then passes is behind =
    ap (λ r. r >>= λ passed. settle origin (before ++ placed known statement ∷ []) (after known statement) rest) passes
    ∙ (λ i. settle origin (before ++ sym is i ∷ []) (sym behind i) rest)

-- at a statement of which a check fails
pub settle_stops : (origin : ℕ) (before : List Placed) (known : Known) (statement : PlainStatement) (rest : List PlainStatement) (stop : Stop AsmFault)
    → Refuses stop (checked origin known statement) → Refuses stop (settle origin before known (statement ∷ rest))
unfolding settle
settle_stops origin before known statement rest NoMemory refuses = tt
settle_stops origin before known statement rest (Bad fault) refuses =
    ap (λ r. r >>= λ passed. settle origin (before ++ placed known statement ∷ []) (after known statement) rest) refuses

-- no statement is left
pub settle_end : (origin : ℕ) (before : List Placed) (known : Known) → settle origin before known [] ≡ Ok (before, known.defined)
unfolding settle
settle_end origin before known = refl

-- the size that is told, where no check fails
pub size_is : (origin : ℕ) (known : Known) (statement : PlainStatement) (size : Option ℕ) → checked origin known statement ≡ Ok tt → size ≡ at_most (size_at known statement)
    → origin ≤ known.address → unwrap_or size 0 ≡ size_at known statement
size_is origin known statement size passes is from =
    let none = all_pass (fault_at statement.line) (checks origin known statement) tt passes in
    let within : known.address + size_at known statement ≤ limit origin = grind (arith, nat_tests, none.1.1.1.0) in
    let small : size_at known statement ≤ 8192 = omega (arith, within, from) in
    let told : at_most (size_at known statement) ≡ Some (size_at known statement) = grind (arith, nat_tests, small) in
    ap (λ o. unwrap_or o 0) (is ∙ told)
