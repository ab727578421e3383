-- A call made on a store, a core and a process, against the call that the definitions give.
use Rattle.std.specs.Prelude.{◌≡◌, ◌<◌, ◌≤◌, ◌*◌, ℕ, List, [], length, Option, Some, None, replicate, take, option_map, if◌then◌else◌}
use Rattle.bk_object.specs.Limits.{words_of_block}
use Rattle.bk_object.specs.Rows.{most_subjects}
use Rattle.bk_process.specs.declared.process.Process.{Process}
use Rattle.bk_state.specs.State.{State}
use Rattle.bk_state.specs.Causes.{cause_number, is_no}
use Rattle.bk_state.specs.declared.cause.CallCause.{CallCause}
use Rattle.bk_state.specs.declared.call.Call.{Call}
use Rattle.bk_state.specs.Calls.{call_refusal}
use Rattle.bk_state.specs.Answers.{Called, answered_by}
use Rattle.bk_core.specs.Memory.{kernel_blocks}
use Rattle.bk_store.specs.Stored.{Stored, objects_of}
use Rattle.bk_calls.specs.declared.caller.Caller.{Caller}
use Rattle.bk_calls.specs.declared.reply.Answer.{Answer}
use Rattle.bk_calls.specs.declared.reply.Answer.TheVariants.{Yes, No, Unknown}
use Rattle.bk_calls.specs.declared.reply.LineByte.{LineByte}
use Rattle.bk_calls.specs.declared.reply.Reply.{Reply}

-- the caller is one of the subjects, which are not too many, and the store has its levels
pub record IsCaller (caller : Caller) (store : Stored) : Type 0 where
  pub subject : caller.subject < caller.subjects
  pub subjects : caller.subjects ≤ most_subjects
  pub greatest : caller.f_s < length store.levels
  pub current : caller.f_c < length store.levels

-- The state, as far as a call of the caller looks at it: levels, objects and current access set; of the subjects their
-- number and the caller's levels (those of all others stand as the caller's, and no call looks at them).
abbrev pub seen_by : Caller → Stored → (words : List ℕ) → State
seen_by caller store words = record {
  fixed = record {
    levels = store.levels;
    subjects = replicate caller.subjects caller.f_s;
    lines = [];
    turns = 0;
    schedule = [];
  };
  current = replicate caller.subjects caller.f_c;
  objects = objects_of store words;
  access = store.access;
  processes = [];
}

-- the answer that a cause gives: no, or `?`
abbrev pub answer_of : Option CallCause → Answer
answer_of None = Yes
answer_of (Some cause) = if is_no cause then No (cause_number cause) else Unknown (cause_number cause)

-- a line and a byte as the record of both
abbrev pub line_byte : ℕ × ℕ → LineByte
line_byte sent = record { line = sent.0; byte = sent.1 }

-- what was made of store, words and process, and the reply, are what the call comes to, and the level that the caller rises to is
-- told; the kernel's blocks stay
pub record IsMade (before after : Stored) (words_before words_after : List ℕ) (process_after : Process) (reply : Reply) (x : Called) : Type 0 where
  pub objects : objects_of after words_after ≡ x.objects
  pub access : after.access ≡ x.access
  pub levels : after.levels ≡ before.levels
  pub lines : after.lines ≡ before.lines
  pub process : process_after ≡ x.process
  pub answer : reply.answer ≡ answer_of x.cause
  pub sent : reply.sent ≡ option_map line_byte x.sent
  pub level : reply.level ≡ x.raised
  pub kernel : take (words_of_block * kernel_blocks) words_after ≡ take (words_of_block * kernel_blocks) words_before

-- what a call by the caller comes to
abbrev pub made_by : Caller → Stored → (words : List ℕ) → Process → Call → Called
made_by caller store words process call =
    answered_by (seen_by caller store words) caller.subject process call (call_refusal (seen_by caller store words) caller.subject call process.registers.general)

-- over every store and core, what was made of the process, and the reply, are what the call by the caller comes to
abbrev pub IsMadeWithin : Caller → (before after : Process) → Reply → Call → Type 0
IsMadeWithin caller before after reply call = (store : Stored) (words : List ℕ) → IsMade store store words words after reply (made_by caller store words before call)

-- and by whoever calls
abbrev pub IsMadeAlone : (before after : Process) → Reply → Call → Type 0
IsMadeAlone before after reply call = (caller : Caller) → IsMadeWithin caller before after reply call
