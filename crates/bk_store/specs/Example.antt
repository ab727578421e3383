-- A mailbox, and words of core, whose changes and contents can be told by hand.
use Rattle.std.specs.Prelude.{ℕ, List, [], ◌∷◌, ◌++◌, replicate}
use Rattle.bk_store.specs.Entries.{Waiting}

-- a message
abbrev pub message : List ℕ
message = 0 ∷ 1 ∷ 2 ∷ 3 ∷ []

-- another message
abbrev pub other : List ℕ
other = 9 ∷ 9 ∷ 9 ∷ 9 ∷ []

-- a mailbox in which so many others wait
abbrev pub mailbox : (waiting lost : ℕ) → Waiting
mailbox waiting lost = record { messages = replicate waiting other; lost = lost }

-- a mailbox in which so many others wait, and the message behind them
abbrev pub behind : (waiting lost : ℕ) → Waiting
behind waiting lost = record { messages = replicate waiting other ++ message ∷ []; lost = lost }

-- three blocks of words, of which the second has twos
abbrev pub words : List ℕ
words = replicate 32 1 ++ replicate 32 2 ++ replicate 32 3
