-- What `run` makes of what it reads, and what its answer came to.
use Rattle.std.proofs.Common.{◌≡◌, ℕ, List, [], length, length-drop, refl, sym, ◌∙◌, ap, subst, arith, Some, None, Ok, Err}
use Rattle.std.specs.Prelude.{Option, Result}
use Rattle.std.specs.Io.KnownBytes.{Appends}
use Rattle.bk_base.specs.Outside.{SourceState, given_since}
use Rattle.bk_image.specs.declared.fault.ImageFault.{ImageFault}
use Rattle.bk_image.specs.Image.{image_of}
use Rattle.bk_kernel.specs.declared.kernel.Summary.{Summary}
use Rattle.bk_replay.specs.declared.replaying.RunStop.{RunStop}
use Rattle.bk_replay.specs.declared.replaying.RunStop.TheVariants as stop
use Rattle.bk_replay.specs.Played.{summary_of}
use Rattle.bk_replay.specs.Replayed as replayed
use Rattle.bk_replay.specs.Replayed.{Spells, IsNoImage, IsNoScript, OfRun, OfReport, Replayed, script_after}
use Rattle.bk_replay.specs.Isolated.{IsIsolated}
use Rattle.bk_replay.specs.Input.{OnInput}
use Rattle.bk_replay.proofs.Input.{input_map, some_all}
use Rattle.bk_replay.proofs.Isolated.{of_report}
use Rattle.bk_script.specs.declared.fault.ScriptFault.{ScriptFault}
use Rattle.bk_state.specs.declared.image.Image.{Image}
use Rattle.bk_system.specs.declared.script.TypedAt.{TypedAt}
use Rattle.bk_system.specs.Report.{report_of}
use Rattle.blpk.specs.Causes.{Asked, Made, Refuses}
use Rattle.blpk.specs.Made.{made_of, by_image, by_script, generated, most_for, most_for_words, most_read, HasRead, IsIsolatedFor}
use Rattle.blpk.specs.Outcomes.{CameTo, outcome_of}
use Rattle.blpk.specs.Words.{command_of}
use Rattle.blpk.specs.declared.words.Command.{Command}
use Rattle.blpk.specs.declared.words.Command.TheVariants.{Run, Build, Gen}
use Rattle.blpk.specs.declared.words.Command.TheVariants as command
use Rattle.blpk.specs.declared.outcome.Outcome.{Outcome}
use Rattle.blpk.specs.declared.outcome.Outcome.TheVariants as outcome
use Rattle.blpk.specs.declared.outcome.Refusal.{Refusal}
use Rattle.blpk.specs.declared.outcome.Refusal.TheVariants as refusal

-- ---- what is made

made_report : (bytes : List ℕ) (image : Image) (records : List TypedAt) (slots : ℕ) → Spells bytes image records slots → made_of Run bytes ≡ Ok (report_of image records slots)
made_report bytes image records slots p = ap (by_image bytes) p.image_is ∙ ap (by_script image) p.script_is

made_no_image : (fault : ImageFault) (bytes : List ℕ) → IsNoImage fault bytes → Refuses (refusal.Image fault) Run bytes
made_no_image fault bytes p = ap (by_image bytes) p

made_no_script : (fault : ScriptFault) (bytes : List ℕ) → IsNoScript fault bytes → Refuses (refusal.Script fault) Run bytes
made_no_script fault bytes p = ap (by_image bytes) p.image_is ∙ ap (by_script p.image) p.script_is

-- a text that is made is a report
by_script_is : (bytes : List ℕ) (image : Image) (count : ℕ) (r : Result (List TypedAt × ℕ) ScriptFault) (text : List ℕ) → image_of bytes ≡ Ok (image, count) → script_after image count bytes ≡ r → by_script image r ≡ Ok text →
    OfReport (λ report. report ≡ text) bytes
by_script_is bytes image count (Ok script) text there is e = record {
  image = image;
  records = script.0;
  slots = script.1;
  spells = record { count = count; image_is = there; script_is = is };
  run = let told : ◌≡◌ {A = Result (List ℕ) Refusal} (Ok (report_of image script.0 script.1)) (Ok text) = e in cc;
}
by_script_is bytes image count (Err fault) text there is e = let bad : ◌≡◌ {A = Result (List ℕ) Refusal} (Err (refusal.Script fault)) (Ok text) = e in cc

by_image_is : (bytes : List ℕ) (r : Result (Image × ℕ) ImageFault) (text : List ℕ) → image_of bytes ≡ r → by_image bytes r ≡ Ok text → OfReport (λ report. report ≡ text) bytes
by_image_is bytes (Ok image) text is e = by_script_is bytes image.0 image.1 (script_after image.0 image.1 bytes) text is refl e
by_image_is bytes (Err fault) text is e = let bad : ◌≡◌ {A = Result (List ℕ) Refusal} (Err (refusal.Image fault)) (Ok text) = e in cc

-- what a command makes is isolated
isolated_for : (before after : Option (List ℕ)) (took : List ℕ → Type 0) → ((text : List ℕ) → took text → Appends before after text) → (command : Command) (bytes : List ℕ) → Made took command bytes → IsIsolatedFor before after command bytes
isolated_for before after took takes Run bytes m =
    let r : OfReport (λ report. report ≡ m.text) bytes = by_image_is bytes (image_of bytes) m.text refl m.made in
    of_report before after bytes (record { image = r.image; records = r.records; slots = r.slots; spells = r.spells; run = subst (Appends before after) (sym r.run) (takes m.text m.holds) })
isolated_for before after took takes Build bytes m = tt
isolated_for before after took takes command.List bytes m = tt
isolated_for before after took takes (Gen n) bytes m = tt

pub asked_isolated : (words : List (List ℕ)) (before after : SourceState) (taken now : Option (List ℕ)) (took : List ℕ → Type 0) → ((text : List ℕ) → took text → Appends taken now text) →
    Asked words before after (Made took) → Asked words before after (IsIsolatedFor taken now)
asked_isolated words before after taken now took takes a = record {
  command = a.command;
  named = a.named;
  bytes = input_map (most_read a.command) before after (Made took a.command) (IsIsolatedFor taken now a.command) (isolated_for taken now took takes a.command) a.bytes;
}

-- ---- what it came to

module _ (before after : SourceState) (kept : Type 0) (took broke : List ℕ → Type 0) where
  pub came_of : (answer : Result Summary RunStop) → Replayed before after kept took broke answer → CameTo Run before after kept took broke (outcome_of answer)
  came_of (Ok summary) p = (
    p.0,
    input_map replayed.most_read before after (OfRun (λ image records slots. took (report_of image records slots) × (summary ≡ summary_of image records slots))) (Made took Run)
        (λ bytes x. record { text = report_of x.image x.records x.slots; made = made_report bytes x.image x.records x.slots x.spells; holds = x.run.0 }) p.1,
  )
  came_of (Err stop.Read) p = p
  came_of (Err (stop.Image fault)) p = (p.0, input_map replayed.most_read before after (IsNoImage fault) (Refuses (refusal.Image fault) Run) (made_no_image fault) p.1)
  came_of (Err (stop.Script fault)) p = (p.0, input_map replayed.most_read before after (IsNoScript fault) (Refuses (refusal.Script fault) Run) (made_no_script fault) p.1)
  came_of (Err stop.Write) p =
      input_map replayed.most_read before after (OfReport broke) (Made broke Run)
      (λ bytes x. record { text = report_of x.image x.records x.slots; made = made_report bytes x.image x.records x.slots x.spells; holds = x.run }) p
  came_of (Err stop.NoMemory) p = p

-- ---- gen

-- of an input that stays as it is nothing was read
nothing_read : (state : SourceState) (P : List ℕ → Type 0) → ((bytes : List ℕ) → P bytes) → OnInput 0 state state P
nothing_read state P each =
    let none : length (given_since state state) ≡ 0 = length-drop (length state.given) state.given ∙ omega arith in
    record {
      given = each (given_since state state);
      within = omega (arith, none);
      whole = λ h. absurd (omega (arith, h));
      left = some_all state.left P each;
    }

-- a text that holds of the last line holds of what is made
pub came_line : (n : ℕ) (state : SourceState) (P : List ℕ → Type 0) → P (generated n) → OnInput (most_read (Gen n)) state state (Made P (Gen n))
came_line n state P holds = nothing_read state (Made P (Gen n)) (λ bytes. record { text = generated n; made = refl; holds = holds })

-- `run` may read
pub run_reads : (words : List (List ℕ)) → command_of words ≡ Some Run → most_for_words words ≡ 0 → ⊥
run_reads words named none = let most : most_for_words words ≡ replayed.most_read = ap most_for named in omega (arith, most, none)

-- ---- failures

-- a run that failed came to that
pub outcome_read : (answer : Result Summary RunStop) → answer ≡ Err stop.Read → outcome_of answer ≡ outcome.Read
outcome_read answer e = ap outcome_of e

pub outcome_write : (answer : Result Summary RunStop) → answer ≡ Err stop.Write → outcome_of answer ≡ outcome.Write
outcome_write answer e = ap outcome_of e
