use Rattle.std.proofs.Common.{Global, ◌≡◌, ◌∙◌, ℕ, List, true, refl, sym, ap, subst, arith, Ok, Err}
use Rattle.bk_base.specs.Written.{Took, Broke}
use Rattle.bk_base.specs.declared.stop.Stop.{Stop}
use Rattle.bk_conf.specs.declared.fault.BuildFault.{BuildFault}
use Rattle.bk_replay.specs.Input.{OnInput}
use Rattle.blpk.specs.Causes.{Refuses}
use Rattle.blpk.specs.Made.{made_of, most_read, is_conversion}
use Rattle.blpk.specs.Outcomes.{MakesText, Wrote}
use Rattle.blpk.specs.declared.outcome.Refusal.TheVariants as refusal
use Rattle.blpk.proofs.Converted.{TextRead, refused_on, wrote_came}
use Rattle.blpk.proofs.perform.convert.Goals as goal

pub returns-in-Err-Bad-clause-came : goal.returns-in-Err-Bad-clause-came
returns-in-Err-Bad-clause-came g c =
    let read : List ℕ = c.in-Ok.text.items in
    let all : TextRead (g.I.Source.state c.args.input.now) (g.I.Source.state c.read_all.new.src) read = record {
      given = c.in-Ok.ensures.given;
      bytes = c.in-Ok.ensures.bytes;
      most = omega (arith, c.in-Ok.ensures.most);
      end = λ h. c.in-Ok.ensures.end (omega (arith, h));
      ended = λ h. c.in-Ok.ensures.ended (omega (arith, h));
    } in
    let bad : made_of c.args.command c.as_slice.result.now ≡ Err (refusal.Build c.in-Err-Bad.fault) =
    subst (λ (s : Stop BuildFault). MakesText {Z = Global} (Err s) (made_of c.args.command c.as_slice.result.now)) c.in-Err-Bad.field-0-is c.in-Err-Bad.ensures in
    let made : made_of c.args.command read ≡ Err (refusal.Build c.in-Err-Bad.fault) = ap (made_of c.args.command) (sym c.as_slice.ensures.value) ∙ bad in
    let found = refused_on c.args.command _ _ read (refusal.Build c.in-Err-Bad.fault) c.requires all made in (
      refl,
      subst (λ (f : BuildFault). OnInput (most_read c.args.command) (g.I.Source.state c.args.input.now) (g.I.Source.state c.read_all.new.src)
          (Refuses (refusal.Build f) c.args.command)) (sym c.in-Err-Bad.fault-is) found,
    )

pub returns-clause-came : goal.returns-clause-came
returns-clause-came g c =
    let read : List ℕ = c.in-Ok.text.items in
    let all : TextRead (g.I.Source.state c.args.input.now) (g.I.Source.state c.read_all.new.src) read = record {
      given = c.in-Ok.ensures.given;
      bytes = c.in-Ok.ensures.bytes;
      most = omega (arith, c.in-Ok.ensures.most);
      end = λ h. c.in-Ok.ensures.end (omega (arith, h));
      ended = λ h. c.in-Ok.ensures.ended (omega (arith, h));
    } in
    let text : List ℕ = c.in-Ok-text_made.bytes.items in
    let made : made_of c.args.command read ≡ Ok text = ap (made_of c.args.command) (sym c.as_slice.ensures.value) ∙ c.in-Ok-text_made.ensures in
    let took = Took (g.O.Sink.taken c.args.out.now) (g.O.Sink.taken c.write_text.new.out) (g.O.Sink.faults c.args.out.now) (g.O.Sink.faults c.write_text.new.out) in
    let broke = Broke (g.O.Sink.taken c.args.out.now) (g.O.Sink.taken c.write_text.new.out) (g.O.Sink.faults c.args.out.now) (g.O.Sink.faults c.write_text.new.out) in
    wrote_came c.args.command (g.I.Source.state c.args.input.now) (g.I.Source.state c.read_all.new.src) read text (c.write_text.new.out ≡ c.args.out.now) took broke
    c.write_text.result c.requires all made
    (subst (λ (t : List ℕ). Wrote (took t) (broke t) c.write_text.result) c.as_slice-2.ensures.value c.write_text.ensures.wrote)
