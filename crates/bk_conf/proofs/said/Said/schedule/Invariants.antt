use Rattle.std.proofs.Common.{◌≡◌, ◌++◌, take}
use Rattle.std.specs.Prelude.{map}
use Rattle.bk_conf.specs.Said.{named_at}
use Rattle.bk_conf.specs.Views.{said_of}
use Rattle.bk_conf.specs.declared.said.Mention.TheVariants as mention
use Rattle.bk_conf.proofs.said.Said.schedule.Given as goal

abbrev pub invariant-loop-subject : goal.invariant-loop-subject
invariant-loop-subject l =
    said_of l.self
    ≡ record (said_of l.fn.self) { mentions = (said_of l.fn.self).mentions ++ map (λ subject. named_at l.at (mention.Subject subject)) (take l.subject-index l.fn.schedule) }
