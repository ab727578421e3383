use Rattle.std.proofs.Common.{refl}
use Rattle.bk_laws.proofs.ExampleLemmas.{own_subject, other_subject, own_level, other_level, own_access, other_access, mailbox, message, message_above, below}
use Rattle.bk_laws.proofs.laws.law_example.Goals as goal

pub returns : goal.returns
returns c = record {
  own_subject = own_subject;
  other_subject = other_subject;
  own_level = own_level;
  other_level = other_level;
  own_access = own_access;
  other_access = other_access;
  mailbox = mailbox;
  message = message;
  message_above = message_above;
  below = below;
  own_turn = refl;
  other_turn = refl;
  raised_turn = refl;
  own_line = refl;
  other_line = refl;
  items = refl;
}
