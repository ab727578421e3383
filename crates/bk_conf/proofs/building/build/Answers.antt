use Rattle.bk_conf.specs.Views.{said_of}
use Rattle.bk_conf.proofs.Images.{built_ok, built_err}
use Rattle.bk_conf.proofs.building.build.Goals as goal

pub returns-in-Ok-clause-ok : goal.returns-in-Ok-clause-ok
returns-in-Ok-clause-ok c = built_ok c.args.text.now (said_of c.in-Ok.said) c.image_in.result c.in-Ok.ensures c.image_in.ensures.exact

pub returns-in-Ok-clause-bad : goal.returns-in-Ok-clause-bad
returns-in-Ok-clause-bad c = built_err c.args.text.now (said_of c.in-Ok.said) c.image_in.result c.in-Ok.ensures c.image_in.ensures.exact
