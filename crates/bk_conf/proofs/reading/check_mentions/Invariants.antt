use Rattle.std.proofs.Common.{◌≡◌, drop}
use Rattle.bk_conf.specs.Steps.{all_there}
use Rattle.bk_conf.specs.Views.{said_of}
use Rattle.bk_conf.proofs.reading.check_mentions.Given as goal

abbrev pub invariant-loop-named : goal.invariant-loop-named
invariant-loop-named l = all_there (said_of l.said) (drop l.named-index l.said.mentions.items) ≡ all_there (said_of l.said) l.said.mentions.items
