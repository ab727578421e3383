use Rattle.bk_image.specs.Spelling.{window_bytes, path_bytes}
use Rattle.bk_image.specs.Writing.{WindowFits}
use Rattle.bk_image.proofs.PutLemmas.{StandsAt, text_next, fits_next, put_both}
use Rattle.bk_image.proofs.put.put_windows.Goals as goal

pub loop-window-preserved : goal.loop-window-preserved
loop-window-preserved c =
    let all = c.args.windows.now in
    let i = c.loop-window.window-index in
    let one = c.window-item.result in
    let here : StandsAt all i one = record { within = c.loop-window-test.true; is = c.window-item.is } in
    record {
      text = text_next window_bytes all i one here c.args.out.now.items c.loop-window.out.items c.put_path.new.out.items c.loop-window.invariant.text (put_both c.loop-window.out.items c.push.new.self.items c.put_path.new.out.items one.index (path_bytes one.path) c.in_ok-push.ensures.items c.in_ok-put_path.ensures.text);
      fits = fits_next WindowFits all i one here c.loop-window.invariant.fits c.put_path.ensures.fits;
    }
