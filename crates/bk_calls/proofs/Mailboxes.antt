-- What a mailbox holds, as the state that a call sees.
use Rattle.std.proofs.Common.{◌≡◌, ℕ, Bool, true, false, List, [], ◌∷◌, ◌++◌, length, Option, Some, None, refl, sym, ap, subst, ◌∙◌}
use Rattle.std.specs.Prelude.{nat_lt, option_map, slice_index, if◌then◌else◌}
use Rattle.std.specs.FinMap as finite
use Rattle.std.proofs.lemmas.Option.{same_Some}
use Rattle.bk_path.specs.Paths.{Path}
use Rattle.bk_frames.specs.Extents.{Extent}
use Rattle.bk_object.specs.declared.Facts.{Facts}
use Rattle.bk_object.specs.Kinds.{is_mailbox}
use Rattle.bk_object.proofs.KindLemmas.{mailbox_kind}
use Rattle.bk_queue.specs.declared.mailbox.Message.{Message}
use Rattle.bk_queue.specs.Queues.{counted_on}
use Rattle.bk_quota.specs.Charges.{passes}
use Rattle.bk_state.specs.State.{Object, Messages, find}
use Rattle.bk_state.specs.Contents.{has_message, put, without_message}
use Rattle.bk_state.specs.QueueCalls.{message_values, of_contents}
use Rattle.bk_store.specs.Stored.{Entry, Queue, NoQueue, OfMailbox, OfLine, Stored, Waiting, contents_in, message_at, message_in, object_of, oldest}
use Rattle.bk_store.specs.Stored.{oldest_from, facts_in, received, received_from, sent, waiting_in, with_mail, with_queue}
use Rattle.bk_store.specs.Stored.{without_message as without_mail}
use Rattle.bk_store.specs.Joined.{FitsKind, HaveKinds}
use Rattle.bk_store.proofs.Stands.{get-objects_of}
use Rattle.bk_calls.specs.declared.caller.Caller.{Caller}
use Rattle.bk_calls.specs.Made.{seen_by}
use Rattle.bk_calls.proofs.Served.{entry_there, unchanged}

-- a message goes to the contents as to the queue
pub put-agrees : (message words : List ℕ) (q : Queue) (x : Option Extent) → contents_in words (with_mail (sent message) q) x ≡ put message (contents_in words q x)
put-agrees message words q (Some x) = refl
put-agrees message words NoQueue None = refl
put-agrees message words (OfMailbox waiting) None = by (nat_lt (length waiting.messages) 16)
  where
    later : Bool → Waiting
    later b = if b then record { messages = waiting.messages ++ message ∷ []; lost = waiting.lost } else record { messages = waiting.messages; lost = counted_on waiting.lost }

    by : (b : Bool) → Messages (later b).messages (later b).lost ≡ (if b then Messages (waiting.messages ++ message ∷ []) waiting.lost else Messages waiting.messages (counted_on waiting.lost))
    by true = refl
    by false = refl
put-agrees message words (OfLine bytes) None = refl

-- and is taken from the contents as from the queue
pub taken-agrees : (words : List ℕ) (q : Queue) (x : Option Extent) → contents_in words (with_mail received q) x ≡ without_message (contents_in words q x)
taken-agrees words q (Some x) = refl
taken-agrees words NoQueue None = refl
taken-agrees words (OfMailbox waiting) None = by waiting.messages waiting.lost
  where
    by : (messages : List (List ℕ)) (lost : ℕ) → waiting_in (OfMailbox (received_from (record { messages = messages; lost = lost }) messages)) ≡ without_message (Messages messages lost)
    by [] lost = refl
    by (message ∷ messages) lost = refl
taken-agrees words (OfLine bytes) None = refl

-- what waits in the mailbox at the path
pub mailbox_at : {P : Type 0} (store : Stored) (path : Path) (facts : Facts) → HaveKinds store → facts_in store path ≡ Some facts → is_mailbox facts.kind ≡ true →
    ((waiting : Waiting) → finite.get store.objects path ≡ Some (record { facts = facts; extent = None; queue = OfMailbox waiting }) → P) → P
mailbox_at {P} store path facts kinds has h use_it = entry_there store path facts has (λ e is same.
    let fits = subst (λ k. FitsKind k e.facts.blocks e.extent e.queue) (ap (λ (f : Facts). f.kind) same ∙ mailbox_kind facts.kind h) (kinds path e is) in
    use_it fits.1.0 (is ∙ (λ i. Some (record { facts = same i; extent = fits.0 i; queue = fits.1.1 i }))))

-- what the oldest message says of those that wait
none-waits : (waiting : Waiting) → oldest waiting ≡ None → has_message (Messages waiting.messages waiting.lost) ≡ false
none-waits waiting e = by waiting.messages waiting.lost e
  where
    by : (messages : List (List ℕ)) (lost : ℕ) → oldest_from lost messages ≡ None → has_message (Messages messages lost) ≡ false
    by [] lost h = refl
    by (message ∷ messages) lost h = cc

one-waits : (waiting : Waiting) (message : Message) → oldest waiting ≡ Some message → has_message (Messages waiting.messages waiting.lost) ≡ true
one-waits waiting message e = by waiting.messages waiting.lost e
  where
    by : (messages : List (List ℕ)) (lost : ℕ) → oldest_from lost messages ≡ Some message → has_message (Messages messages lost) ≡ true
    by [] lost h = cc
    by (first ∷ messages) lost h = refl

abbrev pub values_of : Message → List ℕ
values_of message = 0 ∷ message.lost ∷ slice_index message.words 0 ∷ slice_index message.words 1 ∷ slice_index message.words 2 ∷ slice_index message.words 3 ∷ []

its-values : (waiting : Waiting) (message : Message) → oldest waiting ≡ Some message → message_values (Messages waiting.messages waiting.lost) ≡ values_of message
its-values waiting message e = by waiting.messages waiting.lost e
  where
    by : (messages : List (List ℕ)) (lost : ℕ) → oldest_from lost messages ≡ Some message → message_values (Messages messages lost) ≡ values_of message
    by [] lost h = cc
    by (first ∷ messages) lost h = ap values_of (same_Some (record { words = first; lost = lost }) message h)

none-taken : (waiting : Waiting) → oldest waiting ≡ None → received waiting ≡ waiting
none-taken waiting e = by waiting.messages waiting.lost e
  where
    by : (messages : List (List ℕ)) (lost : ℕ) → oldest_from lost messages ≡ None → received_from waiting messages ≡ waiting
    by [] lost h = refl
    by (message ∷ messages) lost h = cc

module _ (caller : Caller) (store : Stored) (words : List ℕ) (path : Path) (facts : Facts) (kinds : HaveKinds store) (has : facts_in store path ≡ Some facts) (mailbox : is_mailbox facts.kind ≡ true) where
  abbrev waits : Waiting → Entry
  waits waiting = record { facts = facts; extent = None; queue = OfMailbox waiting }

  -- the contents that a call sees
  seen-mail : (waiting : Waiting) → finite.get store.objects path ≡ Some (waits waiting) → find (seen_by caller store words) path ≡ Some (record { facts = facts; contents = Messages waiting.messages waiting.lost })
  seen-mail waiting at = get-objects_of store words path ∙ ap (option_map (object_of words)) at

  pub no_message : (r : Option Message) → r ≡ None → r ≡ message_in store path → passes (λ (o : Object). has_message o.contents) (find (seen_by caller store words) path) ≡ false
  no_message r none is = mailbox_at store path facts kinds has mailbox (λ waiting at.
      ap (passes (λ (o : Object). has_message o.contents)) (seen-mail waiting at) ∙ none-waits waiting (sym (ap message_at at) ∙ sym is ∙ none))

  pub some_message : (r : Option Message) (message : Message) → r ≡ Some message → r ≡ message_in store path → passes (λ (o : Object). has_message o.contents) (find (seen_by caller store words) path) ≡ true
  some_message r message some is = mailbox_at store path facts kinds has mailbox (λ waiting at.
      ap (passes (λ (o : Object). has_message o.contents)) (seen-mail waiting at) ∙ one-waits waiting message (sym (ap message_at at) ∙ sym is ∙ some))

  pub message_told : (r : Option Message) (message : Message) → r ≡ Some message → r ≡ message_in store path → of_contents message_values (find (seen_by caller store words) path) ≡ values_of message
  message_told r message some is = mailbox_at store path facts kinds has mailbox (λ waiting at.
      ap (of_contents message_values) (seen-mail waiting at) ∙ its-values waiting message (sym (ap message_at at) ∙ sym is ∙ some))

  -- where no message waits, none is taken
  pub mail-stays : (r : Option Message) → r ≡ None → r ≡ message_in store path → without_mail path store ≡ store
  mail-stays r none is = mailbox_at store path facts kinds has mailbox (λ waiting at.
      unchanged store path (with_queue (with_mail received)) (waits waiting) at (ap waits (none-taken waiting (sym (ap message_at at) ∙ sym is ∙ none))))
