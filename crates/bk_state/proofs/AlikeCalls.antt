-- A call looks at the objects, the current access set and the levels; of the subjects at their number and at the caller's
-- own levels; and at nothing else.
use Rattle.std.proofs.Common.{◌≡◌, ℕ, ◌+◌, ◌*◌, ◌/◌, ◌%◌, ◌==◌, not, ◌&&◌, ◌||◌, List, [], ◌∷◌, length, Option, Some, None, refl, sym, ◌∙◌}
use Rattle.std.specs.Prelude.{is_none, is_some, nat_lt, nat_le, option_map, find as first, if◌then◌else◌}
use Rattle.std.specs.List.{list_any, list_all}
use Rattle.std.specs.FinMap as map
use Rattle.std.specs.FinSet as set
use Rattle.bk_level.specs.Levels.{level_at, dominates}
use Rattle.bk_path.specs.Paths.{Path, parent, is_same, is_inferior}
use Rattle.bk_object.specs.Limits.{bytes_of_block}
use Rattle.bk_object.specs.Modes.{Read, Execute, Write, Append, modes_where, has, is_within}
use Rattle.bk_object.specs.Kinds.{is_directory, kind_modes, kind_number, blocks_or_line}
use Rattle.bk_object.specs.Rows.{in_row, given, rescinded}
use Rattle.bk_object.specs.declared.Facts.{Facts}
use Rattle.bk_quota.specs.Charges.{passes, charge_of, governing_in, level_in, quota_in, used_in}
use Rattle.bk_process.specs.declared.process.Process.{Process}
use Rattle.bk_state.specs.declared.cause.CallCause.{CallCause}
use Rattle.bk_state.specs.declared.cause.CallCause.TheVariants as causes
use Rattle.bk_state.specs.declared.rule.Rule.TheVariants.{GetRead, GetAppend, GetExecute, GetWrite, Release, Give, Rescind, Create, DeleteGroup, RaiseLevel}
use Rattle.bk_state.specs.declared.call.Call.{Call}
use Rattle.bk_state.specs.declared.call.Call.TheVariants.{ByRule, Other}
use Rattle.bk_state.specs.declared.call.Service.TheVariants.{Window, Unwindow, Deposit, Send, Receive, LineOut, LineIn, Entry, Identify, Quota}
use Rattle.bk_state.specs.declared.call.Service.TheVariants.{Pause, SetFaultEntry, Stop}
use Rattle.bk_state.specs.State.{State, Object, find, clearance_of, with_raised}
use Rattle.bk_state.specs.Causes.{answer_number, cause_number}
use Rattle.bk_state.specs.Contents.{with_contents, with_word, put, has_message, without_message, has_byte, without_byte}
use Rattle.bk_state.specs.Named.{is_named}
use Rattle.bk_state.specs.Allowed.{is_simple, is_star, is_star_of_putting, by_mode}
use Rattle.bk_state.specs.Request.{Request, register, request_in, is_outside, new_facts}
use Rattle.bk_state.specs.KernelCall.{KernelCall, fails, is_above_greatest, is_wrong_current, breaks_star}
use Rattle.bk_state.specs.AccessCalls.{get_read, get_append, get_execute, get_write, release, without_triples}
use Rattle.bk_state.specs.RowCalls.{give, rescind, changed_by, changed_at, with_row}
use Rattle.bk_state.specs.TreeCalls.{create, delete_group, is_no_object, new_object}
use Rattle.bk_state.specs.SegmentCalls.{window, unwindow, deposit}
use Rattle.bk_state.specs.QueueCalls.{send, receive, line_out, line_in, message_in, of_contents, message_values, byte_values, byte_on}
use Rattle.bk_state.specs.TellingCalls.{entry, identify, quota, child_at, entry_values}
use Rattle.bk_state.specs.ProcessCalls.{pause, set_fault_entry, stop}
use Rattle.bk_state.specs.LevelCalls.{raise_level}
use Rattle.bk_state.specs.Calls.{call_of, definition_of, call_refusal}
use Rattle.bk_state.specs.Answers.{outcome, raised_by, reply, with_values, with_call, refused, answered_by, called_by, called}

-- ---- the object at a path becomes another

changed_as : (v w : State) (path : Path) (change : Object → Object) (o : Option Object) → v.objects ≡ w.objects → (changed_by v path change o).objects ≡ (changed_by w path change o).objects
changed_as v w path change None objects = objects
changed_as v w path change (Some o) objects = λ i. map.insert (objects i) path (change o)

changed_objects : (v w : State) (path : Path) (change : Object → Object) → v.objects ≡ w.objects → (changed_at v path change).objects ≡ (changed_at w path change).objects
changed_objects v w path change objects = (λ i. (changed_by v path change (map.get (objects i) path)).objects) ∙ changed_as v w path change (find w path) objects

changed_access : (v : State) (path : Path) (change : Object → Object) (o : Option Object) → (changed_by v path change o).access ≡ v.access
changed_access v path change None = refl
changed_access v path change (Some o) = refl

kept_access : (v w : State) (path : Path) (change : Object → Object) → v.access ≡ w.access → (changed_at v path change).access ≡ (changed_at w path change).access
kept_access v w path change access = changed_access v path change (find v path) ∙ access ∙ sym (changed_access w path change (find w path))

-- ---- a level that is raised is no part of the objects and of the current access set

raised_objects : (v : State) (s : ℕ) (level : Option ℕ) → (with_raised s level v).objects ≡ v.objects
raised_objects v s None = refl
raised_objects v s (Some level) = refl

raised_access : (v : State) (s : ℕ) (level : Option ℕ) → (with_raised s level v).access ≡ v.access
raised_access v s None = refl
raised_access v s (Some level) = refl

module _ (v w : State) (s : ℕ) (objects : v.objects ≡ w.objects) (access : v.access ≡ w.access) (levels : v.fixed.levels ≡ w.fixed.levels) (levels_of : clearance_of v s ≡ clearance_of w s) (subjects : length v.fixed.subjects ≡ length w.fixed.subjects) where
  -- ---- what each call's definition says is the same over both

  record Alike (call : KernelCall) (request : Request) : Type 0 where
    wrong : call.is_wrong v request ≡ call.is_wrong w request
    empty : call.is_empty v request ≡ call.is_empty w request
    objects_same : (call.changes v s request).objects ≡ (call.changes w s request).objects
    access_same : (call.changes v s request).access ≡ (call.changes w s request).access
    gives : call.gives v s request ≡ call.gives w s request
    sends : call.sends v request ≡ call.sends w request

  child : (path : Path) (at : ℕ) → child_at v path at ≡ child_at w path at
  child path at = λ i. if nat_lt (length path) 7 then option_map (λ o. o.facts) (map.get (objects i) (at ∷ path)) else None

  entry_as : (path : Path) (o : Option Facts) → entry_values v s path o ≡ entry_values w s path o
  entry_as path None = refl
  entry_as path (Some facts) = λ i. 0 ∷ 0 ∷ (256 * kind_number facts.kind + blocks_or_line facts.kind facts.blocks) ∷ facts.level ∷ (modes_where (λ mode. set.contains (access i) (s, path, mode))).0 ∷ (in_row facts.row s).0 ∷ []

  get_read-alike : (request : Request) → Alike get_read request
  get_read-alike request = record {
    wrong = refl;
    empty = refl;
    objects_same = objects;
    access_same = λ i. set.insert (access i) (s, request.path, Read);
    gives = refl;
    sends = refl;
  }

  get_append-alike : (request : Request) → Alike get_append request
  get_append-alike request = record {
    wrong = refl;
    empty = refl;
    objects_same = objects;
    access_same = λ i. set.insert (access i) (s, request.path, Append);
    gives = refl;
    sends = refl;
  }

  get_execute-alike : (request : Request) → Alike get_execute request
  get_execute-alike request = record {
    wrong = refl;
    empty = refl;
    objects_same = objects;
    access_same = λ i. set.insert (access i) (s, request.path, Execute);
    gives = refl;
    sends = refl;
  }

  get_write-alike : (request : Request) → Alike get_write request
  get_write-alike request = record {
    wrong = refl;
    empty = refl;
    objects_same = objects;
    access_same = λ i. set.insert (access i) (s, request.path, Write);
    gives = refl;
    sends = refl;
  }

  release-alike : (request : Request) → Alike release request
  release-alike request = record {
    wrong = refl;
    empty = refl;
    objects_same = objects;
    access_same = λ i. set.retain (access i) (λ t. not ((t.0 == s) && is_same t.1 request.path && has request.modes t.2));
    gives = refl;
    sends = refl;
  }

  give-alike : (request : Request) → Alike give request
  give-alike request = record {
    wrong = λ i. is_outside 1 15 (register request 3) || nat_le (subjects i) (register request 4);
    empty = refl;
    objects_same = changed_objects v w request.path (with_row (given request.subject request.modes)) objects;
    access_same = kept_access v w request.path (with_row (given request.subject request.modes)) access;
    gives = refl;
    sends = refl;
  }

  rescind-alike : (request : Request) → Alike rescind request
  rescind-alike request = record {
    wrong = λ i. is_outside 1 15 (register request 3) || nat_le (subjects i) (register request 4);
    empty = refl;
    objects_same = changed_objects (without_triples v request.subject request.path request.modes) (without_triples w request.subject request.path request.modes) request.path (with_row (rescinded request.subject request.modes)) objects;
    access_same = kept_access (without_triples v request.subject request.path request.modes) (without_triples w request.subject request.path request.modes) request.path (with_row (rescinded request.subject request.modes))
        (λ i. set.retain (access i) (λ t. not ((t.0 == request.subject) && is_same t.1 request.path && has request.modes t.2)));
    gives = refl;
    sends = refl;
  }

  create-alike : (request : Request) → Alike create request
  create-alike request = record {
    wrong = λ i. is_no_object (register request 3 / 256) (register request 3 % 256) (register request 5) || nat_le (length (levels i)) (register request 4);
    empty = refl;
    objects_same = λ i. map.insert (objects i) request.path (new_object request (level_in (λ o. o.facts) (objects i) (parent request.path)));
    access_same = access;
    gives = refl;
    sends = refl;
  }

  delete_group-alike : (request : Request) → Alike delete_group request
  delete_group-alike request = record {
    wrong = refl;
    empty = refl;
    objects_same = λ i. map.retain_keys (objects i) (λ other. not (is_inferior other request.path));
    access_same = λ i. set.retain (access i) (λ t. not (is_inferior t.1 request.path));
    gives = refl;
    sends = refl;
  }

  raise_level-alike : (request : Request) → Alike raise_level request
  raise_level-alike request = record {
    wrong = λ i. nat_le (length (levels i)) (register request 3);
    empty = refl;
    objects_same = objects;
    access_same = access;
    gives = refl;
    sends = refl;
  }

  window-alike : (request : Request) → Alike window request
  window-alike request = record {
    wrong = refl;
    empty = refl;
    objects_same = objects;
    access_same = access;
    gives = refl;
    sends = refl;
  }

  unwindow-alike : (request : Request) → Alike unwindow request
  unwindow-alike request = record {
    wrong = refl;
    empty = refl;
    objects_same = objects;
    access_same = access;
    gives = refl;
    sends = refl;
  }

  deposit-alike : (request : Request) → Alike deposit request
  deposit-alike request = record {
    wrong = refl;
    empty = refl;
    objects_same = changed_objects v w request.path (with_contents (with_word (register request 3 / 2) (register request 4))) objects;
    access_same = kept_access v w request.path (with_contents (with_word (register request 3 / 2) (register request 4))) access;
    gives = refl;
    sends = refl;
  }

  send-alike : (request : Request) → Alike send request
  send-alike request = record {
    wrong = refl;
    empty = refl;
    objects_same = changed_objects v w request.path (with_contents (put (message_in request))) objects;
    access_same = kept_access v w request.path (with_contents (put (message_in request))) access;
    gives = refl;
    sends = refl;
  }

  receive-alike : (request : Request) → Alike receive request
  receive-alike request = record {
    wrong = refl;
    empty = λ i. not (passes (λ o. has_message o.contents) (map.get (objects i) request.path));
    objects_same = changed_objects v w request.path (with_contents without_message) objects;
    access_same = kept_access v w request.path (with_contents without_message) access;
    gives = λ i. of_contents message_values (map.get (objects i) request.path);
    sends = refl;
  }

  line_out-alike : (request : Request) → Alike line_out request
  line_out-alike request = record {
    wrong = refl;
    empty = refl;
    objects_same = objects;
    access_same = access;
    gives = refl;
    sends = λ i. byte_on (register request 3 % 256) (map.get (objects i) request.path);
  }

  line_in-alike : (request : Request) → Alike line_in request
  line_in-alike request = record {
    wrong = refl;
    empty = λ i. not (passes (λ o. has_byte o.contents) (map.get (objects i) request.path));
    objects_same = changed_objects v w request.path (with_contents without_byte) objects;
    access_same = kept_access v w request.path (with_contents without_byte) access;
    gives = λ i. of_contents byte_values (map.get (objects i) request.path);
    sends = refl;
  }

  entry-alike : (request : Request) → Alike entry request
  entry-alike request = record {
    wrong = refl;
    empty = λ i. is_none (child request.path (register request 3) i);
    objects_same = objects;
    access_same = access;
    gives = (λ i. entry_values v s (register request 3 ∷ request.path) (child request.path (register request 3) i)) ∙ entry_as (register request 3 ∷ request.path) (child_at w request.path (register request 3));
    sends = refl;
  }

  identify-alike : (request : Request) → Alike identify request
  identify-alike request = record {
    wrong = refl;
    empty = refl;
    objects_same = objects;
    access_same = access;
    gives = λ i. 0 ∷ 0 ∷ s ∷ (levels_of i).current ∷ (levels_of i).greatest ∷ [];
    sends = refl;
  }

  quota-alike : (request : Request) → Alike quota request
  quota-alike request = record {
    wrong = refl;
    empty = refl;
    objects_same = objects;
    access_same = access;
    gives = λ i.
        0 ∷ 0 ∷ quota_in (λ o. o.facts) (objects i) (governing_in (λ o. o.facts) (objects i) request.path)
        ∷ used_in (λ o. o.facts) (objects i) (governing_in (λ o. o.facts) (objects i) request.path) ∷ [];
    sends = refl;
  }

  pause-alike : (request : Request) → Alike pause request
  pause-alike request = record {
    wrong = refl;
    empty = refl;
    objects_same = objects;
    access_same = access;
    gives = refl;
    sends = refl;
  }

  set_fault_entry-alike : (request : Request) → Alike set_fault_entry request
  set_fault_entry-alike request = record {
    wrong = refl;
    empty = refl;
    objects_same = objects;
    access_same = access;
    gives = refl;
    sends = refl;
  }

  stop-alike : (request : Request) → Alike stop request
  stop-alike request = record {
    wrong = refl;
    empty = refl;
    objects_same = objects;
    access_same = access;
    gives = refl;
    sends = refl;
  }

  each-alike : (call : Call) (request : Request) → Alike (definition_of call) request
  each-alike (ByRule GetRead) request = get_read-alike request
  each-alike (ByRule GetAppend) request = get_append-alike request
  each-alike (ByRule GetExecute) request = get_execute-alike request
  each-alike (ByRule GetWrite) request = get_write-alike request
  each-alike (ByRule Release) request = release-alike request
  each-alike (ByRule Give) request = give-alike request
  each-alike (ByRule Rescind) request = rescind-alike request
  each-alike (ByRule Create) request = create-alike request
  each-alike (ByRule DeleteGroup) request = delete_group-alike request
  each-alike (ByRule RaiseLevel) request = raise_level-alike request
  each-alike (Other Window) request = window-alike request
  each-alike (Other Unwindow) request = unwindow-alike request
  each-alike (Other Deposit) request = deposit-alike request
  each-alike (Other Send) request = send-alike request
  each-alike (Other Receive) request = receive-alike request
  each-alike (Other LineOut) request = line_out-alike request
  each-alike (Other LineIn) request = line_in-alike request
  each-alike (Other Entry) request = entry-alike request
  each-alike (Other Identify) request = identify-alike request
  each-alike (Other Quota) request = quota-alike request
  each-alike (Other Pause) request = pause-alike request
  each-alike (Other SetFaultEntry) request = set_fault_entry-alike request
  each-alike (Other Stop) request = stop-alike request

  -- ---- checks

  named : (path : Path) → is_named v s path ≡ is_named w s path
  named [] = refl
  named (at ∷ path) = λ i. passes (λ facts. is_directory facts.kind) (option_map (λ o. o.facts) (map.get (objects i) path)) && (set.contains (access i) (s, path, Read) || set.contains (access i) (s, path, Write))

  above_greatest : (call : KernelCall) (request : Request) (level : Option ℕ) → is_above_greatest v s call request level ≡ is_above_greatest w s call request level
  above_greatest call request None = λ i. not (passes (λ facts. by_mode (λ mode. is_simple mode (level_at (levels i) (levels_of i).greatest) (level_at (levels i) facts.level)) call.mode) (option_map (λ o. o.facts) (map.get (objects i) request.path)))
  above_greatest call request (Some level) = λ i. not (dominates (level_at (levels i) (levels_of i).greatest) (level_at (levels i) level))

  wrong_current : (call : KernelCall) (request : Request) (level : Option ℕ) → is_wrong_current v s call request level ≡ is_wrong_current w s call request level
  wrong_current call request None = λ i. not (passes (λ facts. by_mode (λ mode. is_star mode (level_at (levels i) (levels_of i).current) (level_at (levels i) facts.level)) call.mode) (option_map (λ o. o.facts) (map.get (objects i) request.path)))
  wrong_current call request (Some level) = λ i. not (dominates (level_at (levels i) level) (level_at (levels i) (levels_of i).current))

  star_property : (level : Option ℕ) → breaks_star v s level ≡ breaks_star w s level
  star_property None = refl
  star_property (Some level) = λ i. not (list_all
      (λ t. not (t.0 == s) || passes (λ facts. is_star_of_putting t.2 (level_at (levels i) level) (level_at (levels i) facts.level)) (option_map (λ o. o.facts) (map.get (objects i) t.1)))
      (set.items (access i)))

  each_fails : (call : KernelCall) (request : Request) → Alike call request → (cause : CallCause) → fails v s call request cause ≡ fails w s call request cause
  each_fails call request alike causes.NoPath = refl
  each_fails call request alike causes.BadArgument = alike.wrong
  each_fails call request alike causes.NotNamed = λ i. not (named request.path i)
  each_fails call request alike causes.NoObject = λ i. is_none (option_map (λ o. o.facts) (map.get (objects i) request.path))
  each_fails call request alike causes.WrongKind = λ i. not (passes (λ facts. call.is_for facts.kind && is_within (call.modes request) (kind_modes facts.kind)) (option_map (λ o. o.facts) (map.get (objects i) request.path)))
  each_fails call request alike causes.IsRoot = refl
  each_fails call request alike causes.NoParentWrite = λ i. not (set.contains (access i) (s, parent request.path, Write))
  each_fails call request alike causes.NotHeld = λ i. not (list_any (λ mode. set.contains (access i) (s, request.path, mode)) call.needs)
  each_fails call request alike causes.NotInRow = λ i. not (passes (λ facts. is_within (call.modes request) (in_row facts.row s)) (option_map (λ o. o.facts) (map.get (objects i) request.path)))
  each_fails call request alike causes.AboveGreatest = above_greatest call request (call.raises request)
  each_fails call request alike causes.WrongCurrent = wrong_current call request (call.raises request)
  each_fails call request alike causes.StarProperty = star_property (call.raises request)
  each_fails call request alike causes.LevelFalls = λ i. not (passes (λ above. dominates (level_at (levels i) request.level) (level_at (levels i) above.level)) (option_map (λ o. o.facts) (map.get (objects i) (parent request.path))))
  each_fails call request alike causes.Taken = λ i. is_some (option_map (λ o. o.facts) (map.get (objects i) request.path))
  each_fails call request alike causes.OverQuota = λ i.
      not (nat_le
      (used_in (λ o. o.facts) (objects i) (governing_in (λ o. o.facts) (objects i) (parent request.path)) + charge_of (new_facts request (level_in (λ o. o.facts) (objects i) (parent request.path))) (level_in (λ o. o.facts) (objects i) (parent request.path)))
      (quota_in (λ o. o.facts) (objects i) (governing_in (λ o. o.facts) (objects i) (parent request.path))))
  each_fails call request alike causes.TooLong = λ i. not (passes (λ facts. nat_lt (register request 3) (bytes_of_block * facts.blocks)) (option_map (λ o. o.facts) (map.get (objects i) request.path)))
  each_fails call request alike causes.Empty = alike.empty
  each_fails call request alike causes.NoCall = refl

  refusals : (call : Call) (general : List ℕ) → call_refusal v s call general ≡ call_refusal w s call general
  unfolding call_refusal
  refusals call general = λ i. first (λ cause. each_fails (definition_of call) (request_in general) (each-alike call (request_in general)) cause i) (definition_of call).checks

  -- ---- the call

  outcome_objects : (call : Call) (general : List ℕ) → (outcome v s call general).objects ≡ (outcome w s call general).objects
  unfolding outcome
  outcome_objects call general =
      raised_objects _ s ((definition_of call).raises (request_in general)) ∙ (each-alike call (request_in general)).objects_same
      ∙ sym (raised_objects _ s ((definition_of call).raises (request_in general)))

  outcome_access : (call : Call) (general : List ℕ) → (outcome v s call general).access ≡ (outcome w s call general).access
  unfolding outcome
  outcome_access call general =
      raised_access _ s ((definition_of call).raises (request_in general)) ∙ (each-alike call (request_in general)).access_same
      ∙ sym (raised_access _ s ((definition_of call).raises (request_in general)))

  replies : (call : Call) (general : List ℕ) → reply v s call general ≡ reply w s call general
  unfolding reply
  replies call general = (each-alike call (request_in general)).gives

  refused-alike : (p : Process) (cause : CallCause) → refused v p cause ≡ refused w p cause
  refused-alike p cause = λ i. record {
    objects = objects i;
    access = access i;
    raised = None;
    process = with_values (answer_number cause ∷ cause_number cause ∷ []) p;
    cause = Some cause;
    sent = None;
  }

  answered-alike : (p : Process) (call : Call) (o : Option CallCause) → answered_by v s p call o ≡ answered_by w s p call o
  answered-alike p call None = λ i. record {
    objects = outcome_objects call p.registers.general i;
    access = outcome_access call p.registers.general i;
    raised = raised_by call p.registers.general;
    process = with_values (replies call p.registers.general i) (with_call call p.registers.general p);
    cause = None;
    sent = (each-alike call (request_in p.registers.general)).sends i;
  }
  answered-alike p call (Some cause) = refused-alike p cause

  by_call : (p : Process) (o : Option Call) → called_by v s p o ≡ called_by w s p o
  by_call p None = refused-alike p causes.NoCall
  by_call p (Some call) = (λ i. answered_by v s p call (refusals call p.registers.general i)) ∙ answered-alike p call (call_refusal w s call p.registers.general)

  pub called-alike : (p : Process) (number : ℕ) → called v s p number ≡ called w s p number
  unfolding called
  called-alike p number = by_call p (call_of number)
