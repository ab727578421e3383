-- The report of an image and a script is isolated: what holds of its bytes by the laws.
use Rattle.std.proofs.Common.{◌≡◌, ℕ, List, length, drop, Some, None, ap, ◌∙◌, Ok, Err}
use Rattle.std.specs.Prelude.{Option, Result, IsOk}
use Rattle.std.specs.Io.KnownBytes.{Appends}
use Rattle.std.proofs.Math.Seq.{drop-append_seam}
use Rattle.bk_base.specs.Outside.{SourceState}
use Rattle.bk_report.specs.Lines.{line_records_of}
use Rattle.bk_image.specs.Accepted.{IsAccepted}
use Rattle.bk_image.proofs.Passed.{image_accepted}
use Rattle.bk_image.proofs.Secure.{accepted_secure}
use Rattle.bk_script.specs.Script.{IsScript}
use Rattle.bk_script.proofs.Spelt.{script_of-spelt}
use Rattle.bk_state.specs.declared.image.Image.{Image}
use Rattle.bk_state.specs.Start.{state_of}
use Rattle.bk_state.specs.Low.{is_line_under}
use Rattle.bk_system.specs.declared.script.TypedAt.{TypedAt}
use Rattle.bk_system.specs.Report.{report_of}
use Rattle.bk_laws.specs.Laws.{IsLimited}
use Rattle.bk_laws.proofs.Isolation.{lines}
use Rattle.bk_kernel.specs.declared.kernel.Summary.{Summary}
use Rattle.bk_replay.specs.declared.replaying.RunStop.{RunStop}
use Rattle.bk_replay.specs.Played.{summary_of}
use Rattle.bk_replay.specs.Input.{OnInput}
use Rattle.bk_replay.specs.Replayed.{OfRun, OfReport, Replayed, most_read}
use Rattle.bk_replay.specs.Isolated.{IsAlike, IsIsolated}
use Rattle.bk_replay.proofs.Input.{input_map}

limited : (image : Image) (records : List TypedAt) (slots : ℕ) → IsAccepted image → IsScript image.lines image.turns records slots → IsLimited image slots
limited image records slots accepted script = record {
  subjects = accepted.counts.subjects;
  lines = accepted.counts.lines;
  turns = accepted.counts.turns;
  slots = script.few;
  within = script.within;
}

alike : (before after : Option (List ℕ)) (image : Image) (records : List TypedAt) (slots : ℕ) → IsAccepted image → IsScript image.lines image.turns records slots →
    Appends before after (report_of image records slots) → IsAlike before after image records slots
alike None after image records slots accepted script took = λ level. tt
alike (Some old) None image records slots accepted script took = λ level. tt
alike (Some old) (Some now) image records slots accepted script took = λ level.
    ap (λ bytes. line_records_of (is_line_under level (state_of image)) (drop (length old) bytes)) took
    ∙ ap (line_records_of (is_line_under level (state_of image))) (drop-append_seam old (report_of image records slots))
    ∙ lines level image records slots (accepted_secure image accepted) (limited image records slots accepted script)

-- an output that took the report of these bytes took what is isolated
pub of_report : (before after : Option (List ℕ)) (bytes : List ℕ) → OfReport (Appends before after) bytes → IsIsolated before after bytes
of_report before after bytes r = record {
  image = r.image;
  records = r.records;
  slots = r.slots;
  spells = r.spells;
  run = alike before after r.image r.records r.slots (image_accepted bytes r.image r.spells.count r.spells.image_is)
      (script_of-spelt r.image.lines r.image.turns (drop r.spells.count bytes) r.records r.slots r.spells.script_is).1 r.run;
}

module _ (before after : SourceState) (taken now : Option (List ℕ)) (kept : Type 0) (took broke : List ℕ → Type 0) (takes : (text : List ℕ) → took text → Appends taken now text) where
  -- with Ok the output took a report, which is isolated
  pub isolated_of : (result : Result Summary RunStop) → Replayed before after kept took broke result → IsOk result → OnInput most_read before after (IsIsolated taken now)
  isolated_of (Ok summary) p ok =
      input_map most_read before after (OfRun (λ image records slots. took (report_of image records slots) × (summary ≡ summary_of image records slots))) (IsIsolated taken now)
      (λ bytes x. of_report taken now bytes (record { image = x.image; records = x.records; slots = x.slots; spells = x.spells; run = takes _ x.run.0 })) p.1
  isolated_of (Err stop) p ok = cc
