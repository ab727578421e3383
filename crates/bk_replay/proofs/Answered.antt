-- What the answer of a run is where no count rose.
use Rattle.std.proofs.Common.{◌≡◌, ◌⊎◌, inl, inr, ℕ, List, refl, Ok, Err}
use Rattle.std.specs.Prelude.{Result}
use Rattle.bk_base.specs.Outside.{SourceState, Rose}
use Rattle.bk_image.specs.Image.{image_of}
use Rattle.bk_image.specs.declared.fault.ImageFault.{ImageFault}
use Rattle.bk_kernel.specs.declared.kernel.Summary.{Summary}
use Rattle.bk_script.specs.declared.fault.ScriptFault.{ScriptFault}
use Rattle.bk_state.specs.declared.image.Image.{Image}
use Rattle.bk_system.specs.declared.script.TypedAt.{TypedAt}
use Rattle.bk_system.specs.Report.{report_of}
use Rattle.bk_replay.specs.declared.replaying.RunStop.{RunStop}
use Rattle.bk_replay.specs.declared.replaying.RunStop.TheVariants as stop
use Rattle.bk_replay.specs.Input.{OnInput}
use Rattle.bk_replay.specs.Played.{summary_of}
use Rattle.bk_replay.specs.Replayed.{Spells, IsNoImage, IsNoScript, OfRun, OfReport, Replayed, IsAsked, by_image, most_read}
use Rattle.bk_replay.proofs.Input.{input_map}

by_spells : (bytes : List ℕ) (image : Image) (records : List TypedAt) (slots : ℕ) (summary : Summary) → Spells bytes image records slots → by_image bytes (image_of bytes) (Ok summary)
by_spells bytes image records slots summary p = rw (p.image_is, p.script_is) refl

by_no_image : (bytes : List ℕ) (fault : ImageFault) → IsNoImage fault bytes → by_image bytes (image_of bytes) (Err (stop.Image fault))
by_no_image bytes fault p = rw p refl

by_no_script : (bytes : List ℕ) (fault : ScriptFault) → IsNoScript fault bytes → by_image bytes (image_of bytes) (Err (stop.Script fault))
by_no_script bytes fault p = rw (p.image_is, p.script_is) refl

module _ (before after : SourceState) (kept : Type 0) (took broke : List ℕ → Type 0) (failed : Type 0) (fails : (text : List ℕ) → broke text → failed) where
  abbrev Says : Result Summary RunStop → Type 0
  Says result = Replayed before after kept took broke result

  pub asked_of : (result : Result Summary RunStop) → Says result → (Rose before.faults after.faults → ⊥) → (failed → ⊥) → (result ≡ Err stop.NoMemory) ⊎ OnInput most_read before after (IsAsked result)
  asked_of (Ok summary) p a b =
      inr (input_map most_read before after (OfRun (λ image records slots. took (report_of image records slots) × (summary ≡ summary_of image records slots))) (IsAsked (Ok summary))
      (λ bytes x. by_spells bytes x.image x.records x.slots summary x.spells) p.1)
  asked_of (Err stop.Read) p a b = absurd (a p.1)
  asked_of (Err (stop.Image fault)) p a b = inr (input_map most_read before after (IsNoImage fault) (IsAsked (Err (stop.Image fault))) (λ bytes x. by_no_image bytes fault x) p.1)
  asked_of (Err (stop.Script fault)) p a b = inr (input_map most_read before after (IsNoScript fault) (IsAsked (Err (stop.Script fault))) (λ bytes x. by_no_script bytes fault x) p.1)
  asked_of (Err stop.Write) p a b = let run : OfReport broke _ = p.given in absurd (b (fails _ run.run))
  asked_of (Err stop.NoMemory) p a b = inl refl
