-- What an event makes of the contents of an object fits the object's kind as before.
use Rattle.std.proofs.Common.{◌≡◌, ℕ, ◌+◌, ◌≤◌, Bool, true, false, List, [], ◌∷◌, ◌++◌, length, refl, ap, ◌∙◌, arith, nat_lt, min, length-append}
use Rattle.std.proofs.Common.{length-set, ◌==◌}
use Rattle.std.proofs.lemmas.Bool.Decides.{nat_tests}
use Rattle.std.proofs.lemmas.List.Folds.{list_all-append}
use Rattle.std.specs.List.{fold}
use Rattle.std.specs.Prelude.{if◌then◌else◌}
use Rattle.bk_level.proofs.LevelOrder.{and_second, and_both}
use Rattle.bk_space.specs.AddrSpace.{Write}
use Rattle.bk_object.specs.Limits.{most_messages, words_of_message, most_lost, most_typed}
use Rattle.bk_object.specs.declared.Kind.{Kind}
use Rattle.bk_object.specs.declared.Kind.TheVariants.{Directory, Segment, Mailbox, Line}
use Rattle.bk_object.specs.declared.Facts.{Facts}
use Rattle.bk_state.specs.State.{Fixed, Contents, Words, Messages, Typed}
use Rattle.bk_state.specs.Secure.{FitsKind}
use Rattle.bk_state.specs.Contents.{with_word, put, without_message, without_byte, queued}
use Rattle.bk_system.specs.Arrivals.{typed}
use Rattle.bk_system.specs.Turn.{stored_in}

-- contents that fit a kind fit it after the change
abbrev pub KeepsFit : (Contents → Contents) → Type 0
KeepsFit change = (fixed : Fixed) (kind : Kind) (facts : Facts) (contents : Contents) → FitsKind fixed kind facts contents → FitsKind fixed kind facts (change contents)

-- a deposit of one word
pub fits_with_word : (place word : ℕ) → KeepsFit (with_word place word)
fits_with_word place word fixed Directory facts c (none, is) = (none, ap (with_word place word) is)
fits_with_word place word fixed Segment facts (Words words) (least, most, long) = (least, most, length-set words place word ∙ long)
fits_with_word place word fixed Segment facts other h = absurd h
fits_with_word place word fixed Mailbox facts (Messages waiting lost) h = h
fits_with_word place word fixed Mailbox facts other h = absurd h
fits_with_word place word fixed (Line n) facts (Typed bytes) h = h
fits_with_word place word fixed (Line n) facts other h = absurd h

-- a message of four words
pub fits_put : (message : List ℕ) → length message ≡ words_of_message → KeepsFit (put message)
fits_put message four fixed Directory facts c (none, is) = (none, ap (put message) is)
fits_put message four fixed Segment facts (Words words) h = h
fits_put message four fixed Segment facts other h = absurd h
fits_put message four fixed Mailbox facts (Messages waiting lost) (none, few, each, small) = by (nat_lt (length waiting) most_messages) refl
  where
    by : (b : Bool) → nat_lt (length waiting) most_messages ≡ b → FitsKind fixed Mailbox facts (if b then Messages (waiting ++ message ∷ []) lost else Messages waiting (min (lost + 1) most_lost))
    by true is = (
      none,
      grind (arith, nat_tests, is, length-append waiting (message ∷ [])),
      list_all-append (λ message. length message == words_of_message) waiting (message ∷ []) ∙ and_both _ _ each (and_both _ true (ap (λ n. n == words_of_message) four) refl),
      small,
    )
    by false is = (none, few, each, grind arith)
fits_put message four fixed Mailbox facts other h = absurd h
fits_put message four fixed (Line n) facts (Typed bytes) h = h
fits_put message four fixed (Line n) facts other h = absurd h

-- a message that is taken
pub fits_without_message : KeepsFit without_message
fits_without_message fixed Directory facts c (none, is) = (none, ap without_message is)
fits_without_message fixed Segment facts (Words words) h = h
fits_without_message fixed Segment facts other h = absurd h
fits_without_message fixed Mailbox facts (Messages [] lost) h = h
fits_without_message fixed Mailbox facts (Messages (message ∷ waiting) lost) (none, few, each, small) = (none, omega arith, and_second (length message == words_of_message) _ each, omega arith)
fits_without_message fixed Mailbox facts other h = absurd h
fits_without_message fixed (Line n) facts (Typed bytes) h = h
fits_without_message fixed (Line n) facts other h = absurd h

-- a byte that is taken
pub fits_without_byte : KeepsFit without_byte
fits_without_byte fixed Directory facts c (none, is) = (none, ap without_byte is)
fits_without_byte fixed Segment facts (Words words) h = h
fits_without_byte fixed Segment facts other h = absurd h
fits_without_byte fixed Mailbox facts (Messages waiting lost) h = h
fits_without_byte fixed Mailbox facts other h = absurd h
fits_without_byte fixed (Line n) facts (Typed []) h = h
fits_without_byte fixed (Line n) facts (Typed (byte ∷ bytes)) (none, few, there, level) = (none, omega arith, there, level)
fits_without_byte fixed (Line n) facts other h = absurd h

-- a write of an instruction
pub fits_stored : (w : Write) → KeepsFit (stored_in w)
fits_stored w fixed Directory facts c (none, is) = (none, ap (stored_in w) is)
fits_stored w fixed Segment facts (Words words) (least, most, long) = (least, most, length-set words _ _ ∙ long)
fits_stored w fixed Segment facts other h = absurd h
fits_stored w fixed Mailbox facts (Messages waiting lost) h = h
fits_stored w fixed Mailbox facts other h = absurd h
fits_stored w fixed (Line n) facts (Typed bytes) h = h
fits_stored w fixed (Line n) facts other h = absurd h

-- a line keeps no more bytes than it can
few_kept : (bytes waiting : List ℕ) → length waiting ≤ most_typed → length (fold queued waiting bytes) ≤ most_typed
few_kept [] waiting few = few
few_kept (byte ∷ bytes) waiting few = few_kept bytes (queued waiting byte) (by (nat_lt (length waiting) most_typed) refl)
  where
    by : (b : Bool) → nat_lt (length waiting) most_typed ≡ b → length (if b then waiting ++ byte ∷ [] else waiting) ≤ most_typed
    by true is = grind (arith, nat_tests, is, length-append waiting (byte ∷ []))
    by false is = few

pub fits_typed : (bytes : List ℕ) → KeepsFit (typed bytes)
fits_typed bytes fixed Directory facts c (none, is) = (none, ap (typed bytes) is)
fits_typed bytes fixed Segment facts (Words words) h = h
fits_typed bytes fixed Segment facts other h = absurd h
fits_typed bytes fixed Mailbox facts (Messages waiting lost) h = h
fits_typed bytes fixed Mailbox facts other h = absurd h
fits_typed bytes fixed (Line n) facts (Typed waiting) (none, few, there, level) = (none, few_kept bytes waiting few, there, level)
fits_typed bytes fixed (Line n) facts other h = absurd h
