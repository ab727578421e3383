use Rattle.std.proofs.Common.{◌≡◌, ◌∙◌, ℕ, List, drop, refl, sym, ap, subst, arith, Ok, Err}
use Rattle.bk_image.specs.declared.fault.ImageFault.{ImageFault}
use Rattle.bk_base.specs.declared.stop.Stop.{Stop}
use Rattle.bk_base.specs.Faults.{Gives, Refuses}
use Rattle.bk_image.specs.Image.{image_of}
use Rattle.bk_state.specs.declared.image.Image.{Image}
use Rattle.bk_system.specs.declared.script.TypedAt.{TypedAt}
use Rattle.bk_script.specs.declared.fault.ScriptFault.{ScriptFault}
use Rattle.bk_script.specs.Lines.{script_of}
use Rattle.bk_base.specs.Written.{Broke}
use Rattle.bk_replay.specs.declared.playing.PlayStop.{PlayStop}
use Rattle.bk_replay.specs.Input.{OnInput}
use Rattle.bk_replay.specs.Replayed.{IsNoImage, IsNoScript, OfReport, script_after, most_read}
use Rattle.bk_replay.proofs.Whole.{Read, on_input, all_read}
use Rattle.bk_replay.proofs.replaying.read_and_play.Goals as goal

pub returns-in-Err-Bad-clause-answer : goal.returns-in-Err-Bad-clause-answer
returns-in-Err-Bad-clause-answer g c =
    let read : List ℕ = c.in-Ok.bytes.items in
    let all : Read (g.I.Source.state c.args.input.now) (g.I.Source.state c.read_all.new.src) read = record {
      given = c.in-Ok.ensures.given;
      bytes = c.in-Ok.ensures.bytes;
      most = omega (arith, c.in-Ok.ensures.most);
      end = λ h. c.in-Ok.ensures.end (omega (arith, h));
      ended = λ h. c.in-Ok.ensures.ended (omega (arith, h));
    } in
    let bad : image_of c.as_slice.result.now ≡ Err c.in-Err-Bad.fault =
    subst (λ (s : Stop ImageFault). Gives {X = Image × ℕ} (λ x. x) (Err s) (image_of c.as_slice.result.now)) c.in-Err-Bad.field-0-is c.in-Err-Bad.ensures.exact in
    let none : image_of read ≡ Err c.in-Err-Bad.fault = ap image_of (sym c.as_slice.ensures.value) ∙ bad in
    let found = on_input _ _ read (IsNoImage c.in-Err-Bad.fault) all (λ bytes d. d.image ∙ none) in
    (refl, subst (λ (f : ImageFault). OnInput most_read (g.I.Source.state c.args.input.now) (g.I.Source.state c.read_all.new.src) (IsNoImage f)) (sym c.in-Err-Bad.fault-is) found)

pub returns-in-Err-Bad-read_script-clause-answer : goal.returns-in-Err-Bad-read_script-clause-answer
returns-in-Err-Bad-read_script-clause-answer g c =
    let read : List ℕ = c.in-Ok.bytes.items in
    let all : Read (g.I.Source.state c.args.input.now) (g.I.Source.state c.read_all.new.src) read = record {
      given = c.in-Ok.ensures.given;
      bytes = c.in-Ok.ensures.bytes;
      most = omega (arith, c.in-Ok.ensures.most);
      end = λ h. c.in-Ok.ensures.end (omega (arith, h));
      ended = λ h. c.in-Ok.ensures.ended (omega (arith, h));
    } in
    let image : Image = c.in-Ok-read_image.read.0 in
    let count : ℕ = c.in-Ok-read_image.read.1 in
    let there : image_of read ≡ Ok (image, count) = ap image_of (sym c.as_slice.ensures.value) ∙ c.in-Ok-read_image.ensures.exact in
    let rest : c.split_at.result.1.now ≡ drop count read = c.split_at.ensures.back ∙ ap (drop count) c.as_slice-2.ensures.value in
    let bad : script_of image.lines image.turns c.split_at.result.1.now ≡ Err c.in-Err-Bad-read_script.fault =
    subst (λ (s : Stop ScriptFault). Refuses s (script_of image.lines image.turns c.split_at.result.1.now)) c.in-Err-Bad-read_script.field-0-is c.in-Err-Bad-read_script.ensures.bad in
    let fault : script_after image count read ≡ Err c.in-Err-Bad-read_script.fault = ap (script_of image.lines image.turns) (sym rest) ∙ bad in
    let found = on_input _ _ read (IsNoScript c.in-Err-Bad-read_script.fault) all
    (λ bytes d. record { image = image; count = count; image_is = d.image ∙ there; script_is = d.script image count there ∙ fault }) in
    (refl, subst (λ (f : ScriptFault). OnInput most_read (g.I.Source.state c.args.input.now) (g.I.Source.state c.read_all.new.src) (IsNoScript f)) (sym c.in-Err-Bad-read_script.fault-is) found)

pub returns-in-Ok-play-clause-answer : goal.returns-in-Ok-play-clause-answer
returns-in-Ok-play-clause-answer g c =
    let read : List ℕ = c.in-Ok.bytes.items in
    let all : Read (g.I.Source.state c.args.input.now) (g.I.Source.state c.read_all.new.src) read = record {
      given = c.in-Ok.ensures.given;
      bytes = c.in-Ok.ensures.bytes;
      most = omega (arith, c.in-Ok.ensures.most);
      end = λ h. c.in-Ok.ensures.end (omega (arith, h));
      ended = λ h. c.in-Ok.ensures.ended (omega (arith, h));
    } in
    let image : Image = c.in-Ok-read_image.read.0 in
    let count : ℕ = c.in-Ok-read_image.read.1 in
    let there : image_of read ≡ Ok (image, count) = ap image_of (sym c.as_slice.ensures.value) ∙ c.in-Ok-read_image.ensures.exact in
    let rest : c.split_at.result.1.now ≡ drop count read = c.split_at.ensures.back ∙ ap (drop count) c.as_slice-2.ensures.value in
    let records : List TypedAt = c.in-Ok-read_script.script.typed in
    let slots : ℕ = c.in-Ok-read_script.script.slots in
    let script : script_after image count read ≡ Ok (records, slots) = ap (script_of image.lines image.turns) (sym rest) ∙ c.in-Ok-read_script.ensures.ok in (
      all_read _ _ read image count (records, slots) all there script,
      on_input _ _ read _ all (λ bytes d. record {
        image = image;
        records = records;
        slots = slots;
        spells = record { count = count; image_is = d.image ∙ there; script_is = d.script image count there ∙ script };
        run = (c.in-Ok-play.ensures.written, c.in-Ok-play.ensures.totals);
      }),
    )

pub returns-in-Err-Write-clause-answer : goal.returns-in-Err-Write-clause-answer
returns-in-Err-Write-clause-answer g c =
    let read : List ℕ = c.in-Ok.bytes.items in
    let all : Read (g.I.Source.state c.args.input.now) (g.I.Source.state c.read_all.new.src) read = record {
      given = c.in-Ok.ensures.given;
      bytes = c.in-Ok.ensures.bytes;
      most = omega (arith, c.in-Ok.ensures.most);
      end = λ h. c.in-Ok.ensures.end (omega (arith, h));
      ended = λ h. c.in-Ok.ensures.ended (omega (arith, h));
    } in
    let image : Image = c.in-Ok-read_image.read.0 in
    let count : ℕ = c.in-Ok-read_image.read.1 in
    let there : image_of read ≡ Ok (image, count) = ap image_of (sym c.as_slice.ensures.value) ∙ c.in-Ok-read_image.ensures.exact in
    let rest : c.split_at.result.1.now ≡ drop count read = c.split_at.ensures.back ∙ ap (drop count) c.as_slice-2.ensures.value in
    let records : List TypedAt = c.in-Ok-read_script.script.typed in
    let slots : ℕ = c.in-Ok-read_script.script.slots in
    let script : script_after image count read ≡ Ok (records, slots) = ap (script_of image.lines image.turns) (sym rest) ∙ c.in-Ok-read_script.ensures.ok in
    let broke = c.in-Err-Write.ensures.failed (ap (λ (s : PlayStop). Err s) c.in-Err-Write.field-0-is) in
    on_input _ _ read (OfReport (Broke (g.O.Sink.taken c.args.out.now) (g.O.Sink.taken c.play.new.out) (g.O.Sink.faults c.args.out.now) (g.O.Sink.faults c.play.new.out))) all (λ bytes d. record {
      image = image;
      records = records;
      slots = slots;
      spells = record { count = count; image_is = d.image ∙ there; script_is = d.script image count there ∙ script };
      run = broke;
    })
