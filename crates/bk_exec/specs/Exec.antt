use Rattle.std.specs.Prelude.{ℕ, Bool, true, false, Result, Ok, Err, Option, Some, None}
use Rattle.bk_space.specs.declared.cause.Cause.{Cause}
use Rattle.bk_space.specs.declared.cause.Cause.TheVariants as causes
use Rattle.bk_space.specs.declared.registers.Regs.{Regs}
use Rattle.bk_space.specs.AddrSpace.{AddrSpace, Write}
use Rattle.bk_isa.specs.declared.instr.Instr.{Instr}
use Rattle.bk_isa.specs.declared.instr.Instr.TheVariants.{Double, Single, Xor, Eis, Jmp, Jsr, Rts, Sob, Mark, Mfp, Mtp, Branch}
use Rattle.bk_isa.specs.declared.instr.Instr.TheVariants.{Codes, Spl, Emt, Trap, Halt, Wait, Rti, Bpt, Iot, Reset, Rtt}
use Rattle.bk_isa.specs.Decode.{decode_of}
use Rattle.bk_operand.specs.Part.{Part, given, cut_off, ◌>>=◌, next_word}
use Rattle.bk_exec.specs.declared.ending.Ending.{Ending}
use Rattle.bk_exec.specs.declared.ending.Ending.TheVariants.{Completed, Returned, Called, Broke, Interrupted, Trapped}
use Rattle.bk_exec.specs.declared.event.Event.{Event}
use Rattle.bk_exec.specs.declared.event.Event.TheVariants.{Ran, Call, Fault}
use Rattle.bk_exec.specs.Given.{Given, done, with_flags}
use Rattle.bk_exec.specs.Operands.{double_of, single_of, exclusive}
use Rattle.bk_exec.specs.Extended.{extending, looped}
use Rattle.bk_exec.specs.Control.{branched, jumping, calling, returning, marking, resuming, codes_of}
use Rattle.bk_exec.specs.Previous.{moving_from, moving_to}

-- an instruction that has been fetched; HALT and words that are none are reserved, and SPL, WAIT and RESET do nothing (own)
unfoldable pub executed : AddrSpace → Option Instr → Regs → Part Given
executed pages None regs = cut_off causes.Reserved
executed pages (Some (Double op width src dst)) regs = double_of pages op width src dst regs
executed pages (Some (Single op width dst)) regs = single_of pages op width dst regs
executed pages (Some (Xor r dst)) regs = exclusive pages r dst regs
executed pages (Some (Eis op r src)) regs = extending pages op r src regs
executed pages (Some (Jmp dst)) regs = jumping pages dst regs
executed pages (Some (Jsr r dst)) regs = calling pages r dst regs
executed pages (Some (Rts r)) regs = returning pages r regs
executed pages (Some (Sob r back)) regs = done None (looped r back regs)
executed pages (Some (Mark count)) regs = marking pages count regs
executed pages (Some (Mfp space src)) regs = moving_from pages space src regs
executed pages (Some (Mtp space dst)) regs = moving_to pages space dst regs
executed pages (Some (Branch cond offset)) regs = done None (branched cond offset regs)
executed pages (Some (Codes set mask)) regs = done None (with_flags regs (codes_of set mask regs.ps.flags))
executed pages (Some (Spl level)) regs = done None regs
executed pages (Some (Emt n)) regs = given (None, Called n) regs
executed pages (Some (Trap n)) regs = given (None, Trapped) regs
executed pages (Some Halt) regs = cut_off causes.Reserved
executed pages (Some Wait) regs = done None regs
executed pages (Some Rti) regs = resuming pages Completed regs
executed pages (Some Bpt) regs = given (None, Broke) regs
executed pages (Some Iot) regs = given (None, Interrupted) regs
executed pages (Some Reset) regs = done None regs
executed pages (Some Rtt) regs = resuming pages Returned regs

-- the instruction word is fetched, and then executed
unfoldable pub running : AddrSpace → Regs → Part Given
running pages regs = do
  word ← next_word pages regs
  executed pages (decode_of word.0) word.1

-- one instruction: the registers after, at most one write, the number of references, and the outcome
pub record Done : Type 0 where
  pub regs : Regs
  pub write : Option Write
  pub references : ℕ
  pub outcome : Event

-- an instruction that has completed with T set after it ends as the fault of BPT; one after RTT doesn't
abbrev pub event_of : Ending → Bool → Event
event_of Completed true = Fault causes.Break
event_of Completed false = Ran
event_of Returned trace = Ran
event_of (Called n) trace = Call n
event_of Broke trace = Fault causes.Break
event_of Interrupted trace = Fault causes.Iot
event_of Trapped trace = Fault causes.Trap

-- an instruction that is cut off leaves the registers as they were, and writes nothing
abbrev pub finished : Regs → ℕ → Result (Given × Regs) Cause → Done
finished before made (Ok x) = record { regs = x.1; write = x.0.0; references = made; outcome = event_of x.0.1 x.1.ps.trace }
finished before made (Err cause) = record { regs = before; write = None; references = made; outcome = Fault cause }

-- one instruction, from the pages and the registers
unfoldable pub exec : AddrSpace → Regs → Done
exec pages regs = finished regs (running pages regs).made (running pages regs).outcome
