use Rattle.bk_script.proofs.Spelt.{script_from_gives, text_from_gives}
use Rattle.bk_script.proofs.reading.read_script.Goals as goal

pub returns-clause-spelt : goal.returns-clause-spelt
returns-clause-spelt c = text_from_gives c.args.image.now.lines c.args.image.now.turns c.args.bytes.now c.read_lines.result c.read_lines.ensures

pub returns-clause-holds : goal.returns-clause-holds
returns-clause-holds c = script_from_gives c.args.image.now.lines c.args.image.now.turns c.args.bytes.now c.read_lines.result c.read_lines.ensures
