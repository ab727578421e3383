-- The program that a text is, by its parts.
use Rattle.std.proofs.Common.{◌≡◌, ℕ, List, [], Some, None, Ok, Err, ap, sym, ◌∙◌}
use Rattle.std.specs.Prelude.{Result, Option}
use Rattle.bk_base.specs.declared.stop.Stop.{Stop}
use Rattle.bk_base.specs.declared.stop.Stop.TheVariants.{Bad, NoMemory}
use Rattle.bk_base.specs.Faults.{◌>>=◌, Refuses}
use Rattle.bk_asm_text.specs.declared.fault.AsmFault.{AsmFault}
use Rattle.bk_asm_text.specs.Before.{Before, before_fault}
use Rattle.bk_asm.specs.declared.program.Program.{Program}
use Rattle.bk_asm.specs.Assembled.{assembled, none_outside, words_of, symbols_of}
use Rattle.bk_asm.specs.Codes.{coded}
use Rattle.bk_asm.specs.Faults.{settle}
use Rattle.bk_asm.specs.Names.{Defined}
use Rattle.bk_asm.specs.Places.{Placed, start}

-- what follows once the lines before the first one outside the grammar are settled
abbrev pub from_settled : (origin : ℕ) → Option AsmFault → Result (List Placed × Defined) AsmFault → Result Program AsmFault
from_settled origin fault settled = settled >>= λ s. none_outside fault >>= λ passed. coded s.1 [] s.0
    >>= λ bytes. Ok (record { origin = origin; words = words_of bytes; symbols = symbols_of s.1 })

pub assembled_from : (text : List ℕ) (origin : ℕ) (front : Before) → front ≡ before_fault text
    → assembled text origin ≡ from_settled origin front.fault (settle origin [] (start origin) front.statements)
unfolding assembled
assembled_from text origin front is = ap (λ (f : Before). from_settled origin f.fault (settle origin [] (start origin) f.statements)) (sym is)

pub unsettled : (origin : ℕ) (fault : Option AsmFault) (settled : Result (List Placed × Defined) AsmFault) (stop : Stop AsmFault) → Refuses stop settled
    → Refuses stop (from_settled origin fault settled)
unsettled origin fault settled NoMemory refuses = tt
unsettled origin fault settled (Bad bad) refuses = ap (from_settled origin fault) refuses

pub outside : (origin : ℕ) (fault : AsmFault) (told : Option AsmFault) (settled : Result (List Placed × Defined) AsmFault) (s : List Placed × Defined) → settled ≡ Ok s → told ≡ Some fault
    → from_settled origin told settled ≡ Err fault
outside origin fault told settled s is some = λ i. from_settled origin (some i) (is i)

pub uncoded : (origin : ℕ) (told : Option AsmFault) (settled : Result (List Placed × Defined) AsmFault) (s : List Placed × Defined) (stop : Stop AsmFault) → settled ≡ Ok s → told ≡ None
    → Refuses stop (coded s.1 [] s.0) → Refuses stop (from_settled origin told settled)
uncoded origin told settled s NoMemory is none refuses = tt
uncoded origin told settled s (Bad bad) is none refuses =
    (λ i. from_settled origin (none i) (is i))
    ∙ ap (λ (bytes : Result (List ℕ) AsmFault). bytes >>= λ bytes. Ok (record { origin = origin; words = words_of bytes; symbols = symbols_of s.1 })) refuses

pub all_coded : (origin : ℕ) (told : Option AsmFault) (settled : Result (List Placed × Defined) AsmFault) (s : List Placed × Defined) (bytes : List ℕ) → settled ≡ Ok s → told ≡ None
    → coded s.1 [] s.0 ≡ Ok bytes → from_settled origin told settled ≡ Ok (record { origin = origin; words = words_of bytes; symbols = symbols_of s.1 })
all_coded origin told settled s bytes is none coded_ok =
    (λ i. from_settled origin (none i) (is i))
    ∙ ap (λ (bytes : Result (List ℕ) AsmFault). bytes >>= λ bytes. Ok (record { origin = origin; words = words_of bytes; symbols = symbols_of s.1 })) coded_ok
