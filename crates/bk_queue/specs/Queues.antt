-- What waits in a mailbox and on a line, the oldest first.
use Rattle.std.specs.Prelude.{◌≡◌, ℕ, ◌+◌, ◌<◌, ◌≤◌, ◌==◌, List, length, min, true}
use Rattle.std.specs.List.{list_all}
use Rattle.bk_object.specs.Limits.{most_lost, most_messages, most_typed, words_of_message}

-- each message has four words
abbrev pub HaveFourWords : List (List ℕ) → Type 0
HaveFourWords messages = list_all (λ message. length message == words_of_message) messages ≡ true

-- the messages that wait, and how many were lost since one was last taken
pub record Mail : Type 0 where
  pub waiting : List (List ℕ)
  pub lost : ℕ
  pub few : length waiting ≤ most_messages
  pub four : HaveFourWords waiting
  pub counted : lost ≤ most_lost

-- one more lost message, in a count that stays at its last value
abbrev pub counted_on : ℕ → ℕ
counted_on lost = min (lost + 1) most_lost

-- the typed bytes that wait
pub record Typed : Type 0 where
  pub bytes : List ℕ
  pub few : length bytes ≤ most_typed
