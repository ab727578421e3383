use Rattle.std.proofs.Common.{◌∷◌}
use Rattle.bk_image.specs.Spelling.{hold_bytes, path_bytes}
use Rattle.bk_image.specs.Writing.{HoldFits}
use Rattle.bk_image.proofs.PutLemmas.{StandsAt, text_next, fits_next, put_same, put_both}
use Rattle.bk_image.proofs.put.put_holds.Goals as goal

pub loop-hold-preserved : goal.loop-hold-preserved
loop-hold-preserved c =
    let all = c.args.holds.now in
    let i = c.loop-hold.hold-index in
    let one = c.hold-item.result in
    let here : StandsAt all i one = record { within = c.loop-hold-test.true; is = c.hold-item.is } in
    record {
      text = text_next hold_bytes all i one here c.args.out.now.items c.loop-hold.out.items c.put_path.new.out.items c.loop-hold.invariant.text (
          put_both c.loop-hold.out.items c.push.new.self.items c.put_path.new.out.items one.subject (one.modes.0 ∷ path_bytes one.path) c.in_ok-push.ensures.items
          (put_both c.push.new.self.items c.push-in-loop-hold.new.self.items c.put_path.new.out.items one.modes.0 (path_bytes one.path) (put_same c.push.new.self.items c.push-in-loop-hold.new.self.items c.bits.result one.modes.0 c.in_ok-push-2.ensures.items (c.bits.ensures tt)) c.in_ok-put_path.ensures.text));
      fits = fits_next HoldFits all i one here c.loop-hold.invariant.fits c.put_path.ensures.fits;
    }
