-- What objects hold, and how it changes: words of a segment, messages of a mailbox, typed bytes of a line.
use Rattle.std.specs.Prelude.{ℕ, ◌+◌, ◌*◌, Bool, true, false, min, List, [], ◌∷◌, ◌++◌, length, replicate, nat_lt, slice_set, if◌then◌else◌}
use Rattle.bk_object.specs.Limits.{words_of_block, most_messages, most_lost, most_typed}
use Rattle.bk_object.specs.declared.Kind.{Kind}
use Rattle.bk_object.specs.declared.Kind.TheVariants.{Directory, Segment, Mailbox, Line}
use Rattle.bk_state.specs.State.{Object, Contents, Children, Words, Messages, Typed}

-- the contents of an object become others
abbrev pub with_contents : (Contents → Contents) → Object → Object
with_contents change object = record { facts = object.facts; contents = change object.contents }

-- what a new object holds: nothing, or words that are zero
abbrev pub new_contents : Kind → (blocks : ℕ) → Contents
new_contents Directory blocks = Children
new_contents Segment blocks = Words (replicate (words_of_block * blocks) 0)
new_contents Mailbox blocks = Messages [] 0
new_contents (Line n) blocks = Typed []

-- the word at that place becomes another
abbrev pub with_word : (place word : ℕ) → Contents → Contents
with_word place word Children = Children
with_word place word (Words words) = Words (slice_set words place word)
with_word place word (Messages waiting lost) = Messages waiting lost
with_word place word (Typed bytes) = Typed bytes

-- a message goes last where fewer than 16 wait; another is lost, and counted up to 65,535
abbrev pub put : (message : List ℕ) → Contents → Contents
put message Children = Children
put message (Words words) = Words words
put message (Messages waiting lost) =
    if nat_lt (length waiting) most_messages then Messages (waiting ++ message ∷ []) lost else Messages waiting (min (lost + 1) most_lost)
put message (Typed bytes) = Typed bytes

-- a message waits
abbrev pub has_message : Contents → Bool
has_message Children = false
has_message (Words words) = false
has_message (Messages [] lost) = false
has_message (Messages (message ∷ waiting) lost) = true
has_message (Typed bytes) = false

-- the oldest message goes, and the lost ones are counted anew
abbrev pub without_message : Contents → Contents
without_message Children = Children
without_message (Words words) = Words words
without_message (Messages [] lost) = Messages [] lost
without_message (Messages (message ∷ waiting) lost) = Messages waiting 0
without_message (Typed bytes) = Typed bytes

-- the waiting bytes of a line after one more is typed: it is kept while fewer than 64 wait, and lost otherwise
abbrev pub queued : (waiting : List ℕ) → (byte : ℕ) → List ℕ
queued waiting byte = if nat_lt (length waiting) most_typed then waiting ++ byte ∷ [] else waiting

-- a typed byte waits
abbrev pub has_byte : Contents → Bool
has_byte Children = false
has_byte (Words words) = false
has_byte (Messages waiting lost) = false
has_byte (Typed []) = false
has_byte (Typed (byte ∷ bytes)) = true

-- the oldest typed byte goes
abbrev pub without_byte : Contents → Contents
without_byte Children = Children
without_byte (Words words) = Words words
without_byte (Messages waiting lost) = Messages waiting lost
without_byte (Typed []) = Typed []
without_byte (Typed (byte ∷ bytes)) = Typed bytes
