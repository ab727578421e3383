-- The calls that are for mailboxes and lines.
use Rattle.std.specs.Prelude.{ℕ, ◌%◌, Bool, not, List, [], ◌∷◌, Option, Some, None, slice_index}
use Rattle.bk_object.specs.Modes.{Write, Append}
use Rattle.bk_object.specs.Kinds.{is_mailbox, is_any_line}
use Rattle.bk_object.specs.declared.Kind.{Kind}
use Rattle.bk_object.specs.declared.Kind.TheVariants.{Directory, Segment, Mailbox, Line}
use Rattle.bk_state.specs.declared.cause.CallCause.TheVariants.{NoPath, NotNamed, NoObject, WrongKind, NotHeld, Empty}
use Rattle.bk_state.specs.State.{State, Object, Contents, Children, Words, Messages, Typed, find}
use Rattle.bk_state.specs.Contents.{with_contents, put, has_message, without_message, has_byte, without_byte}
use Rattle.bk_state.specs.Named.{passes}
use Rattle.bk_state.specs.Request.{Request, register}
use Rattle.bk_state.specs.KernelCall.{KernelCall, plain, plain_yes}
use Rattle.bk_state.specs.RowCalls.{changed_at}

-- the contents of the object at the path pass the test
abbrev pub has_at : (Contents → Bool) → State → Request → Bool
has_at test v request = passes (λ object. test object.contents) (find v request.path)

-- the values from an object's contents
abbrev pub of_contents : (Contents → List ℕ) → Option Object → List ℕ
of_contents values None = plain_yes
of_contents values (Some object) = values object.contents

-- R1 the lost count, R2 to R5 the oldest message
abbrev pub message_values : Contents → List ℕ
message_values Children = plain_yes
message_values (Words words) = plain_yes
message_values (Messages [] lost) = plain_yes
message_values (Messages (message ∷ waiting) lost) =
    0 ∷ lost ∷ slice_index message 0 ∷ slice_index message 1 ∷ slice_index message 2 ∷ slice_index message 3 ∷ []
message_values (Typed bytes) = plain_yes

-- R2 the oldest typed byte
abbrev pub byte_values : Contents → List ℕ
byte_values Children = plain_yes
byte_values (Words words) = plain_yes
byte_values (Messages waiting lost) = plain_yes
byte_values (Typed []) = plain_yes
byte_values (Typed (byte ∷ bytes)) = 0 ∷ 0 ∷ byte ∷ []

-- the number of a line
abbrev pub line_of : Kind → Option ℕ
line_of Directory = None
line_of Segment = None
line_of Mailbox = None
line_of (Line n) = Some n

-- the byte goes out on the line that the object is
abbrev pub byte_on : (byte : ℕ) → Option Object → Option (ℕ × ℕ)
byte_on byte None = None
byte_on byte (Some object) = on_line (line_of object.facts.kind)
  where
    on_line : Option ℕ → Option (ℕ × ℕ)
    on_line None = None
    on_line (Some n) = Some (n, byte)

-- the four words of a message: R0, R3, R4 and R5 as found
abbrev pub message_in : Request → List ℕ
message_in request = register request 0 ∷ register request 3 ∷ register request 4 ∷ register request 5 ∷ []

-- send: the message is put into the mailbox, or lost and counted; the answer is the same
abbrev pub send : KernelCall
send = record plain {
  checks = NoPath ∷ NotNamed ∷ NoObject ∷ WrongKind ∷ NotHeld ∷ [];
  is_for = is_mailbox;
  needs = Write ∷ Append ∷ [];
  changes = λ v s request. changed_at v request.path (with_contents (put (message_in request)));
}

-- receive: the oldest message, and how many were lost, which is then counted anew
abbrev pub receive : KernelCall
receive = record plain {
  checks = NoPath ∷ NotNamed ∷ NoObject ∷ WrongKind ∷ NotHeld ∷ Empty ∷ [];
  is_for = is_mailbox;
  needs = Write ∷ [];
  is_empty = λ v request. not (has_at has_message v request);
  changes = λ v s request. changed_at v request.path (with_contents without_message);
  gives = λ v s request. of_contents message_values (find v request.path);
}

-- line out: the low byte of R3 goes out on the line
abbrev pub line_out : KernelCall
line_out = record plain {
  checks = NoPath ∷ NotNamed ∷ NoObject ∷ WrongKind ∷ NotHeld ∷ [];
  is_for = is_any_line;
  needs = Write ∷ Append ∷ [];
  sends = λ v request. byte_on (register request 3 % 256) (find v request.path);
}

-- line in: the oldest typed byte of the line
abbrev pub line_in : KernelCall
line_in = record plain {
  checks = NoPath ∷ NotNamed ∷ NoObject ∷ WrongKind ∷ NotHeld ∷ Empty ∷ [];
  is_for = is_any_line;
  needs = Write ∷ [];
  is_empty = λ v request. not (has_at has_byte v request);
  changes = λ v s request. changed_at v request.path (with_contents without_byte);
  gives = λ v s request. of_contents byte_values (find v request.path);
}
