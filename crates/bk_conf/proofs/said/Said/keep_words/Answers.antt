use Rattle.std.proofs.Common.{ap, ◌∙◌}
use Rattle.bk_conf.specs.Views.{said_of, words_of}
use Rattle.bk_conf.proofs.Words.{insert_words}
use Rattle.bk_conf.proofs.said.Said.keep_words.Goals as goal

pub returns : goal.returns
returns c = ap (λ ws. record (said_of c.args.self.now) { words = ws }) (ap words_of c.in_ok-insert.ensures.entries ∙ insert_words c.args.self.now.words.entries c.args.name c.args.words)
