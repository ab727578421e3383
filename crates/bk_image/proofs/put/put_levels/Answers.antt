use Rattle.bk_image.specs.Spelling.{level_bytes}
use Rattle.bk_image.specs.Writing.{LevelFits}
use Rattle.bk_image.proofs.PutLemmas.{StandsAt, text_next, fits_next}
use Rattle.bk_image.proofs.put.put_levels.Goals as goal

pub loop-level-preserved : goal.loop-level-preserved
loop-level-preserved c =
    let levels = c.args.levels.now in
    let i = c.loop-level.level-index in
    let level = c.level-item.result in
    let here : StandsAt levels i level = record { within = c.loop-level-test.true; is = c.level-item.is } in
    record {
      text = text_next (level_bytes c.args.version) levels i level here c.args.out.now.items c.loop-level.out.items c.put_level.new.out.items c.loop-level.invariant.text c.in_ok-put_level.ensures.text;
      fits = fits_next LevelFits levels i level here c.loop-level.invariant.fits c.put_level.ensures.fits;
    }
