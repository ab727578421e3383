-- What holds of the bytes that a call read.
use Rattle.std.specs.Prelude.{◌≡◌, ℕ, ◌<◌, ◌≤◌, List, [], length, Some, IfSome, IsTrue}
use Rattle.bk_base.specs.Outside.{SourceState, given_since}

-- this holds of the bytes that a call was given, at most so many, and fewer only where the input came to its end; and of all
-- the bytes that the input had left, where it tells them
pub record OnInput (most : ℕ) (before after : SourceState) (P : List ℕ → Type 0) : Type 0 where
  pub given : P (given_since before after)
  pub within : length (given_since before after) ≤ most
  pub whole : length (given_since before after) < most → IsTrue after.ended
  pub left : IfSome before.left P

-- all was read: the last read found the end, and where the input tells, nothing is left
pub record IsAllRead (before after : SourceState) : Type 0 where
  pub ended : IsTrue after.ended
  pub left : IfSome before.left (λ bytes. after.left ≡ Some [])
