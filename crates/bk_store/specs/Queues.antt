-- Messages that wait in mailboxes, and typed bytes that wait on lines.
use Rattle.std.specs.Prelude.{ℕ, nat_lt, Bool, false, List, [], length, Option, Some, None, ◌∷◌, ◌++◌, if◌then◌else◌}
use Rattle.std.specs.FinMap as finite
use Rattle.bk_base.specs.Maps.{map_values}
use Rattle.bk_object.specs.Limits.{most_messages}
use Rattle.bk_path.specs.Paths.{Path}
use Rattle.bk_queue.specs.declared.mailbox.Message.{Message}
use Rattle.bk_queue.specs.Queues.{counted_on}
use Rattle.bk_state.specs.Contents.{queued}
use Rattle.bk_state.specs.Start.{is_line}
use Rattle.bk_store.specs.Entries.{Waiting, Queue, Entry, Stored, NoQueue, OfMailbox, OfLine}
use Rattle.bk_store.specs.Changes.{changed_at}

-- ---- messages

-- one more message can wait
abbrev pub has_place : Waiting → Bool
has_place waiting = nat_lt (length waiting.messages) most_messages

-- the message waits behind all others where there is a place for one more; else it is lost and counted
abbrev pub sent : List ℕ → Waiting → Waiting
sent words waiting =
    if has_place waiting
    then record { messages = waiting.messages ++ words ∷ []; lost = waiting.lost }
    else record { messages = waiting.messages; lost = counted_on waiting.lost }

-- what waits once the oldest of these messages is taken
abbrev pub received_from : Waiting → List (List ℕ) → Waiting
received_from waiting [] = waiting
received_from waiting (message ∷ messages) = record { messages = messages; lost = 0 }

-- without the oldest message, and the count of lost ones begins anew; all stays where none waits
abbrev pub received : Waiting → Waiting
received waiting = received_from waiting waiting.messages

-- the oldest of these messages, with the count of lost ones
abbrev pub oldest_from : (lost : ℕ) → List (List ℕ) → Option Message
oldest_from lost [] = None
oldest_from lost (message ∷ messages) = Some (record { words = message; lost = lost })

-- the oldest message and the count of lost ones
abbrev pub oldest : Waiting → Option Message
oldest waiting = oldest_from waiting.lost waiting.messages

-- what waits in a mailbox becomes another
abbrev pub with_mail : (Waiting → Waiting) → Queue → Queue
with_mail change NoQueue = NoQueue
with_mail change (OfMailbox waiting) = OfMailbox (change waiting)
with_mail change (OfLine bytes) = OfLine bytes

-- what waits in an object becomes another
abbrev pub with_queue : (Queue → Queue) → Entry → Entry
with_queue change e = record e { queue = change e.queue }

-- the message goes to the mailbox at the path
abbrev pub with_message : Path → (words : List ℕ) → Stored → Stored
with_message path words v = changed_at path (with_queue (with_mail (sent words))) v

-- the oldest message of the mailbox at the path is taken
abbrev pub without_message : Path → Stored → Stored
without_message path v = changed_at path (with_queue (with_mail received)) v

-- the oldest message that waits, if it is a mailbox
abbrev pub message_of : Queue → Option Message
message_of NoQueue = None
message_of (OfMailbox waiting) = oldest waiting
message_of (OfLine bytes) = None

-- the oldest message of the object that is there
abbrev pub message_at : Option Entry → Option Message
message_at None = None
message_at (Some e) = message_of e.queue

-- one more message can wait, if it is a mailbox
abbrev pub place_of : Queue → Bool
place_of NoQueue = false
place_of (OfMailbox waiting) = has_place waiting
place_of (OfLine bytes) = false

-- one more message can wait in the object that is there
abbrev pub place_at : Option Entry → Bool
place_at None = false
place_at (Some e) = place_of e.queue

-- one more message can wait in the mailbox at the path
abbrev pub has_place_in : Stored → Path → Bool
has_place_in v path = place_at (finite.get v.objects path)

-- the oldest message of the mailbox at the path
abbrev pub message_in : Stored → Path → Option Message
message_in v path = message_at (finite.get v.objects path)

-- ---- typed bytes

-- without the oldest byte
abbrev pub without_first : List ℕ → List ℕ
without_first [] = []
without_first (byte ∷ bytes) = bytes

-- the oldest byte
abbrev pub first_of : List ℕ → Option ℕ
first_of [] = None
first_of (byte ∷ bytes) = Some byte

-- what waits on a line becomes another
abbrev pub with_input : (List ℕ → List ℕ) → Queue → Queue
with_input change NoQueue = NoQueue
with_input change (OfMailbox waiting) = OfMailbox waiting
with_input change (OfLine bytes) = OfLine (change bytes)

-- the object of that line takes the byte
abbrev pub typing : (line byte : ℕ) → Entry → Entry
typing line byte e = record e { queue = if is_line line e.facts.kind then with_input (λ bytes. queued bytes byte) e.queue else e.queue }

-- a byte is typed on the line; where no object has it the byte is lost
abbrev pub with_typed : (line byte : ℕ) → Stored → Stored
with_typed line byte v = record v { objects = map_values (typing line byte) v.objects }

-- the oldest byte of the line at the path is taken
abbrev pub without_byte : Path → Stored → Stored
without_byte path v = changed_at path (with_queue (with_input without_first)) v

-- the oldest byte that waits, if it is a line
abbrev pub byte_of : Queue → Option ℕ
byte_of NoQueue = None
byte_of (OfMailbox waiting) = None
byte_of (OfLine bytes) = first_of bytes

-- the oldest byte of the object that is there
abbrev pub byte_at : Option Entry → Option ℕ
byte_at None = None
byte_at (Some e) = byte_of e.queue

-- the oldest byte of the line at the path
abbrev pub byte_in : Stored → Path → Option ℕ
byte_in v path = byte_at (finite.get v.objects path)
