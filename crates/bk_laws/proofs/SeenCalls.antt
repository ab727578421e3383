-- A call of a subject under a level leaves the same under the level, answers the same and sends the same in two states in
-- which the same lies under it.
use Rattle.std.proofs.Common.{◌≡◌, ℕ, ◌/◌, Bool, true, false, ◌&&◌, not, List, [], ◌∷◌, Option, Some, None, refl, sym, ap, ◌∙◌, subst, ◌==◌, is_some, unwrap_or, inr}
use Rattle.std.specs.FinMap as map
use Rattle.std.specs.FinSet as set
use Rattle.bk_level.specs.Levels.{Level, dominates}
use Rattle.bk_path.specs.Paths.{Path, parent, is_root, is_same}
use Rattle.bk_object.specs.Modes.{Read, Execute, Write, Append, has}
use Rattle.bk_object.specs.Kinds.{is_directory}
use Rattle.bk_object.specs.Rows.{given, rescinded}
use Rattle.bk_object.specs.declared.Facts.{Facts}
use Rattle.bk_process.specs.declared.process.Process.{Process}
use Rattle.bk_quota.specs.Charges.{passes}
use Rattle.bk_state.specs.declared.rule.Rule.TheVariants.{GetRead, GetAppend, GetExecute, GetWrite, Release, Give, Rescind, Create, DeleteGroup, RaiseLevel}
use Rattle.bk_state.specs.declared.call.Call.{Call}
use Rattle.bk_state.specs.declared.call.Call.TheVariants.{ByRule, Other}
use Rattle.bk_state.specs.declared.call.Service.TheVariants.{Window, Unwindow, Deposit, Send, Receive, LineOut, LineIn, Entry, Identify, Quota, Pause}
use Rattle.bk_state.specs.declared.call.Service.TheVariants.{SetFaultEntry, Stop}
use Rattle.bk_state.specs.State.{State, Object, Contents, Triple, triple_cmp, facts_at, level_of, with_raised}
use Rattle.bk_state.specs.Quota.{level_number}
use Rattle.bk_state.specs.Secure.{Secure}
use Rattle.bk_state.specs.declared.cause.CallCause.{CallCause}
use Rattle.bk_state.specs.Request.{Request, register, request_in, new_facts}
use Rattle.bk_state.specs.QueueCalls.{message_in}
use Rattle.bk_state.specs.Calls.{call_of, definition_of, call_refusal}
use Rattle.bk_state.specs.RowCalls.{changed_at, with_row, give, rescind}
use Rattle.bk_state.specs.TreeCalls.{create, new_object}
use Rattle.bk_state.specs.Answers.{Called, outcome, level_after, raised_by, with_values, with_call, answered_by, called_by, called}
use Rattle.bk_state.specs.Contents.{with_contents, with_word, put, without_message, without_byte}
use Rattle.bk_laws.proofs.Changes.{moved, changed_at-is}
use Rattle.bk_state.specs.Named.{is_named}
use Rattle.bk_state.specs.Low.{is_subject_under, is_under}
use Rattle.bk_laws.proofs.Tests.{Passes, not_refused, not_false, passed}
use Rattle.bk_laws.proofs.Alike.{Alike, fixed_to}
use Rattle.bk_laws.proofs.Seen.{named_shows}
use Rattle.bk_laws.proofs.SeenQuotas.{number_seen}
use Rattle.bk_laws.proofs.SeenRefusals.{refusal-seen}
use Rattle.bk_laws.proofs.SeenReplies.{reply-seen, sent-seen}
use Rattle.bk_laws.proofs.SeenAccess.{alike-with_triple, alike-retain}
use Rattle.bk_laws.proofs.SeenObjects.{alike-with_contents, alike-with_row, alike-insert, alike-without_group}

none_passes : {A : Type 0} (test : A → Bool) (o : Option A) → is_some o ≡ false → passes test o ≡ true → ⊥
none_passes test None free h = cc
none_passes test (Some x) free h = cc

-- nothing stands below a free path
none_below : (v : State) → Secure v → (path : Path) → is_some (facts_at v path) ≡ false → (entry : ℕ) → facts_at v (entry ∷ path) ≡ None
none_below v sec path free entry = by (facts_at v (entry ∷ path)) refl
  where
    by : (o : Option Facts) → facts_at v (entry ∷ path) ≡ o → o ≡ None
    by None is = refl
    by (Some facts) is = absurd (none_passes (λ above. is_directory above.kind && dominates (level_of v facts) (level_of v above)) (facts_at v path) free (sec.parents entry path facts is))

module _ (level : Level) (v w0 : State) (sv : Secure v) (sw : Secure (fixed_to v.fixed w0)) (alike : Alike level v (fixed_to v.fixed w0)) (s : ℕ) (seen : is_subject_under level v s ≡ true) where
  abbrev w : State
  w = fixed_to v.fixed w0

  -- the same lies under the level where objects and current access set are those of these two
  abbrev Left : State → State → Type 0
  Left a b = Alike level (moved v v.current a.objects a.access v.processes) (moved v w0.current b.objects b.access w0.processes)

  -- ---- what changes

  left-changed : (a b : set.FinSet triple_cmp) (path : Path) (change : Object → Object) →
      Alike level (moved v v.current (changed_at (record v { access = a }) path change).objects a v.processes) (moved v w0.current (changed_at (record w { access = b }) path change).objects b w0.processes) →
      Left (changed_at (record v { access = a }) path change) (changed_at (record w { access = b }) path change)
  left-changed a b path change same =
      subst (λ x. Alike level (moved v v.current first.objects x v.processes) (moved v w0.current second.objects second.access w0.processes))
      (λ i. (sym (changed_at-is (record v { access = a }) path change) i).access)
      (subst (λ x. Alike level (moved v v.current first.objects a v.processes) (moved v w0.current second.objects x w0.processes))
      (λ i. (sym (changed_at-is (record w { access = b }) path change) i).access) same)
    where
      first : State
      first = changed_at (record v { access = a }) path change

      second : State
      second = changed_at (record w { access = b }) path change

  left-contents : (path : Path) (change : Contents → Contents) → Left (changed_at v path (with_contents change)) (changed_at w path (with_contents change))
  left-contents path change = left-changed v.access w0.access path (with_contents change) (alike-with_contents level v w0 alike path change)

  left-created : (request : Request) (path : Path) → is_root path ≡ false → is_named v s path ≡ true → is_some (facts_at v path) ≡ false →
      Alike level (record v { objects = map.insert v.objects path (new_object request (level_number v (parent path))) })
      (record w { objects = map.insert w0.objects path (new_object request (level_number w (parent path))) })
  left-created request [] root named free = cc
  left-created request (entry ∷ path) root named free =
      let h : passes (is_under level v) (facts_at v path) ≡ true = named_shows level v sv s seen (entry ∷ path) named in
      alike-insert level v w0 alike (entry ∷ path) (new_object request (level_number v path)) (new_object request (level_number w path))
      (ap (new_facts request) (number_seen level v w0 sv sw alike path h)) refl
      (λ _. inr (λ n. (none_below v sv (entry ∷ path) free n, none_below w sw (entry ∷ path) (ap is_some (sym (alike.facts (entry ∷ path) h)) ∙ free) n)))

  -- the same objects and accesses as before, or the same change of them in both
  left_itself : Left v w
  left_itself = alike

  give-left : (request : Request) → Passes v s give request → Left (give.changes v s request) (give.changes w s request)
  give-left request none =
      let (path, (bad, (named, (there, (kind, (root, (write, end))))))) = passed v s give request none in
      left-changed v.access w0.access request.path (with_row (given request.subject request.modes))
      (alike-with_row level v w0 alike request.path (given request.subject request.modes) (named_shows level v sv s seen request.path (not_false _ named)))

  rescind-left : (request : Request) → Passes v s rescind request → Left (rescind.changes v s request) (rescind.changes w s request)
  rescind-left request none =
      let (path, (bad, (named, (there, (kind, (root, (write, end))))))) = passed v s rescind request none in
      let keep : Triple → Bool = λ t. not ((t.0 == request.subject) && is_same t.1 request.path && has request.modes t.2) in
      left-changed (set.retain v.access keep) (set.retain w0.access keep) request.path (with_row (rescinded request.subject request.modes))
      (alike-with_row level (record v { access = set.retain v.access keep }) (record w0 { access = set.retain w0.access keep }) (alike-retain level v w0 alike keep)
      request.path (rescinded request.subject request.modes) (named_shows level v sv s seen request.path (not_false _ named)))

  create-left : (request : Request) → Passes v s create request → Left (create.changes v s request) (create.changes w s request)
  create-left request none =
      let (path, (bad, (named, (root, (write, (falls, (free, (quota, end)))))))) = passed v s create request none in
      left-created request request.path root (not_false _ named) free

  each_left : (call : Call) (request : Request) → Passes v s (definition_of call) request →
      Left (with_raised s ((definition_of call).raises request) ((definition_of call).changes v s request)) (with_raised s ((definition_of call).raises request) ((definition_of call).changes w s request))
  each_left (ByRule GetRead) request none = alike-with_triple level v w0 alike s request.path Read
  each_left (ByRule GetAppend) request none = alike-with_triple level v w0 alike s request.path Append
  each_left (ByRule GetExecute) request none = alike-with_triple level v w0 alike s request.path Execute
  each_left (ByRule GetWrite) request none = alike-with_triple level v w0 alike s request.path Write
  each_left (ByRule Release) request none = alike-retain level v w0 alike (λ t. not ((t.0 == s) && is_same t.1 request.path && has request.modes t.2))
  each_left (ByRule Give) request none = give-left request none
  each_left (ByRule Rescind) request none = rescind-left request none
  each_left (ByRule Create) request none = create-left request none
  each_left (ByRule DeleteGroup) request none = alike-without_group level v w0 alike request.path
  each_left (ByRule RaiseLevel) request none = left_itself
  each_left (Other Window) request none = left_itself
  each_left (Other Unwindow) request none = left_itself
  each_left (Other Deposit) request none = left-contents request.path (with_word (register request 3 / 2) (register request 4))
  each_left (Other Send) request none = left-contents request.path (put (message_in request))
  each_left (Other Receive) request none = left-contents request.path without_message
  each_left (Other LineOut) request none = left_itself
  each_left (Other LineIn) request none = left-contents request.path without_byte
  each_left (Other Entry) request none = left_itself
  each_left (Other Identify) request none = left_itself
  each_left (Other Quota) request none = left_itself
  each_left (Other Pause) request none = left_itself
  each_left (Other SetFaultEntry) request none = left_itself
  each_left (Other Stop) request none = left_itself

  outcome-left : (call : Call) (general : List ℕ) → Passes v s (definition_of call) (request_in general) → Left (outcome v s call general) (outcome w s call general)
  unfolding outcome
  outcome-left call general none = each_left call (request_in general) none

  -- ---- the call

  -- two calls come to the same
  pub record CalledAlike (a b : Called) : Type 0 where
    pub left : Alike level (moved v v.current a.objects a.access v.processes) (moved v w0.current b.objects b.access w0.processes)
    pub number : level_after v s a.raised ≡ level_after w s b.raised
    pub process : a.process ≡ b.process
    pub cause : a.cause ≡ b.cause
    pub sent : a.sent ≡ b.sent

  answered-seen : (p : Process) (call : Call) (o : Option CallCause) → call_refusal v s call p.registers.general ≡ o → CalledAlike (answered_by v s p call o) (answered_by w s p call o)
  answered-seen p call None is =
      let none = not_refused v s call p.registers.general is in
      record {
        left = outcome-left call p.registers.general none;
        number = ap (unwrap_or (raised_by call p.registers.general)) (alike.current s seen);
        process = ap (λ values. with_values values (with_call call p.registers.general p)) (reply-seen level v w0 sv sw alike s seen call p.registers.general none);
        cause = refl;
        sent = sent-seen level v w0 sv sw alike s seen call p.registers.general none;
      }
  answered-seen p call (Some cause) is = record { left = alike; number = alike.current s seen; process = refl; cause = refl; sent = refl }

  called_by-seen : (p : Process) (o : Option Call) → CalledAlike (called_by v s p o) (called_by w s p o)
  called_by-seen p None = record { left = alike; number = alike.current s seen; process = refl; cause = refl; sent = refl }
  called_by-seen p (Some call) =
      subst (λ o. CalledAlike (answered_by v s p call (call_refusal v s call p.registers.general)) (answered_by w s p call o)) (refusal-seen level v w0 sv sw alike s seen call p.registers.general)
      (answered-seen p call (call_refusal v s call p.registers.general) refl)

  -- whatever the call's number
  pub called-seen : (p : Process) (number : ℕ) → CalledAlike (called v s p number) (called w s p number)
  unfolding called
  called-seen p number = called_by-seen p (call_of number)
