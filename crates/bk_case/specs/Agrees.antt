use Rattle.std.specs.Prelude.{◌≡◌, ◌<◌, ◌^◌, List}
use Rattle.bk_cpu.specs.Plain.{page_in}
use Rattle.bk_exec.specs.Exec.{exec}
use Rattle.bk_space.specs.AddrSpace.{Page}
use Rattle.bk_space.specs.Counts.{counted_on}
use Rattle.bk_isa.specs.Codes.{HasSingle}
use Rattle.bk_isa.specs.Decode.{decode_of}
use Rattle.bk_space.specs.Widths.{bits_of}
use Rattle.bk_isa.specs.Results.{binary_of, unary_of}
use Rattle.bk_isa.specs.Extended.{mul_of, div_of, ash_of, ashc_of}
use Rattle.bk_case.specs.declared.step_case.StepCase.{StepCase}
use Rattle.bk_case.specs.declared.case.Case.{Case}
use Rattle.bk_case.specs.declared.case.Case.TheVariants.{Binary, Unary, Mul, Div, Ash, Ashc, Word}

-- the definitions give what the case says; a case whose operands an operation doesn't take agrees with none
abbrev pub Agrees : Case → Type 0
Agrees (Binary op width src dst old value flags) =
    (src < 2 ^ bits_of width) × (dst < 2 ^ bits_of width) × (binary_of op width src dst old ≡ (value, flags))
Agrees (Unary op width dst old value flags) =
    HasSingle op width × (dst < 2 ^ bits_of width) × (unary_of op width dst old ≡ (value, flags))
Agrees (Mul a b high low flags) = mul_of a b ≡ (high, low, flags)
Agrees (Div high low by quotient flags) = div_of high low by ≡ (quotient, flags)
Agrees (Ash value count old shifted flags) = ash_of value count ≡ (shifted, flags)
Agrees (Ashc high low count old shifted_high shifted_low flags) = ashc_of high low count ≡ (shifted_high, shifted_low, flags)
Agrees (Word word instr) = decode_of word ≡ instr

-- over some pages the instruction gives the registers, the event and the number of references of the case
abbrev pub IsGiven : StepCase → Type 0
IsGiven case = (pages : List Page) × ((exec (page_in pages) case.before).regs ≡ case.after) × ((exec (page_in pages) case.before).outcome ≡ case.event)
    × (counted_on 0 (exec (page_in pages) case.before).references ≡ case.references)
