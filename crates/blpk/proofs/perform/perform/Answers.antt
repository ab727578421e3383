use Rattle.std.proofs.Common.{◌≡◌, inr, sym, ap, ◌∙◌, Some}
use Rattle.blpk.specs.declared.words.Command.TheVariants as command
use Rattle.blpk.proofs.perform.perform.Goals as goal

pub returns-in-Some-Gen-clause-performed : goal.returns-in-Some-Gen-clause-performed
returns-in-Some-Gen-clause-performed g c = inr (command.Gen c.in-Some-Gen.n, sym c.command_of.ensures ∙ c.in-Some-Gen.is ∙ ap Some c.in-Some-Gen.field-0-is, c.generate_run.ensures.came (g.I.Source.state c.args.input.now))
