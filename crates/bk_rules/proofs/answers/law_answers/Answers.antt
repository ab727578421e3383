use Rattle.std.proofs.Common.{ap}
use Rattle.bk_rules.specs.Decisions.{answer_for}
use Rattle.bk_rules.proofs.AnswersAgree.{answers_agree}
use Rattle.bk_rules.proofs.answers.law_answers.Goals as goal

pub returns-clause-refusal : goal.returns-clause-refusal
returns-clause-refusal c = answers_agree

pub returns-clause-answer : goal.returns-clause-answer
returns-clause-answer c = λ v s rule request. ap answer_for (answers_agree v s rule request)
