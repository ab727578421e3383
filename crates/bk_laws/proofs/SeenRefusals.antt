-- A call of a subject under a level is refused, and for the same cause, by what lies under the level.
use Rattle.std.proofs.Common.{◌≡◌, ℕ, ◌+◌, ◌*◌, Bool, true, false, ◌&&◌, not, List, [], ◌∷◌, length, Some, None, refl, ap, ◌∙◌, subst, cond, nat_lt}
use Rattle.std.proofs.Common.{nat_le, is_some, is_none, Option, sym}
use Rattle.std.specs.Prelude.{if◌then◌else◌}
use Rattle.std.specs.Cmp.{both_ways}
use Rattle.std.specs.List.{find as first, list_any, AllByRecursion}
use Rattle.bk_level.specs.Levels.{Level, dominates, level_at}
use Rattle.bk_path.specs.Paths.{Path, parent, is_root}
use Rattle.bk_object.specs.Limits.{bytes_of_block}
use Rattle.bk_object.specs.Modes.{AccessMode, Read, Write, is_within}
use Rattle.bk_object.specs.Kinds.{kind_modes, is_directory}
use Rattle.bk_object.specs.Rows.{in_row}
use Rattle.bk_quota.specs.Charges.{passes, charge_of}
use Rattle.bk_state.specs.declared.rule.Rule.TheVariants.{GetRead, GetAppend, GetExecute, GetWrite, Release, Give, Rescind, Create, DeleteGroup, RaiseLevel}
use Rattle.bk_state.specs.declared.call.Call.{Call}
use Rattle.bk_state.specs.declared.call.Call.TheVariants.{ByRule, Other}
use Rattle.bk_state.specs.declared.call.Service.TheVariants.{Window, Unwindow, Deposit, Send, Receive, LineOut, LineIn, Entry, Identify, Quota, Pause}
use Rattle.bk_state.specs.declared.call.Service.TheVariants.{SetFaultEntry, Stop}
use Rattle.bk_state.specs.State.{State, Contents, find, facts_at, holds, current_level, greatest_level, level_of}
use Rattle.bk_state.specs.Quota.{governing, level_number, quota_at, used}
use Rattle.bk_state.specs.Secure.{Secure}
use Rattle.bk_state.specs.declared.cause.CallCause.{CallCause}
use Rattle.bk_state.specs.declared.cause.CallCause.TheVariants.{NoPath, BadArgument, NotInRow, AboveGreatest, WrongCurrent, NoParentWrite, LevelFalls}
use Rattle.bk_state.specs.declared.cause.CallCause.TheVariants.{Taken, NotHeld, TooLong, IsRoot, NotNamed, WrongKind, NoObject}
use Rattle.bk_state.specs.Request.{Request, register, request_in, new_facts}
use Rattle.bk_state.specs.Allowed.{is_simple, is_star, by_mode, may_rise}
use Rattle.bk_state.specs.AccessCalls.{get_read, get_append, get_execute, get_write}
use Rattle.bk_state.specs.RowCalls.{give, rescind}
use Rattle.bk_state.specs.TreeCalls.{create, delete_group}
use Rattle.bk_state.specs.SegmentCalls.{window, deposit}
use Rattle.bk_state.specs.QueueCalls.{send, receive, line_out, line_in}
use Rattle.bk_state.specs.KernelCall.{KernelCall, fails, has_room, is_above_greatest, is_wrong_current}
use Rattle.bk_state.specs.LevelCalls.{raise_level}
use Rattle.bk_state.specs.TellingCalls.{child_at, entry, quota}
use Rattle.bk_state.specs.Contents.{has_message, has_byte}
use Rattle.bk_state.specs.Calls.{definition_of, call_refusal}
use Rattle.bk_state.specs.Named.{is_named}
use Rattle.bk_state.specs.Low.{is_subject_under, is_under, shows}
use Rattle.bk_laws.proofs.Tests.{passes_there, not_false}
use Rattle.bk_laws.proofs.Alike.{Alike, fixed_to, held_shows, same_object}
use Rattle.bk_laws.proofs.Rising.{may_put, held_may_rise, may_rise-from}
use Rattle.bk_laws.proofs.SecureAccess.{named_parent}
use Rattle.bk_laws.proofs.Seen.{read_under, written_under, any_under, named_shows, shows_parent, is_named-seen, held-seen}
use Rattle.bk_laws.proofs.SeenQuotas.{number_seen, quota_seen}

module _ (level : Level) (v w0 : State) (sv : Secure v) (sw : Secure (fixed_to v.fixed w0)) (alike : Alike level v (fixed_to v.fixed w0)) (s : ℕ) (seen : is_subject_under level v s ≡ true) where
  abbrev w : State
  w = fixed_to v.fixed w0

  -- ---- checks

  -- those that look at the facts of the object and of its parent, and at the caller's own accesses, alone
  data Plain : CallCause → Type 0 where
    plain_object : Plain NoObject
    plain_kind : Plain WrongKind
    plain_root : Plain IsRoot
    plain_parent : Plain NoParentWrite
    plain_row : Plain NotInRow
    plain_greatest : Plain AboveGreatest
    plain_current : Plain WrongCurrent
    plain_level : Plain LevelFalls
    plain_taken : Plain Taken
    plain_held : Plain NotHeld
    plain_long : Plain TooLong

  above_greatest-seen : (call : KernelCall) (request : Request) (raised : Option ℕ) → shows level v request.path ≡ true →
      is_above_greatest v s call request raised ≡ is_above_greatest w s call request raised
  above_greatest-seen call request None h =
      ap (λ a. not (passes (λ facts. by_mode (λ mode. is_simple mode (greatest_level v s) (level_of v facts)) call.mode) a)) (alike.facts request.path h)
  above_greatest-seen call request (Some number) h = refl

  raised-seen : (number : ℕ) → dominates (level_at v.fixed.levels number) (current_level v s) ≡ dominates (level_at v.fixed.levels number) (current_level w s)
  raised-seen number = ap (λ n. dominates (level_at v.fixed.levels number) (level_at v.fixed.levels n)) (alike.current s seen)

  wrong_current-seen : (call : KernelCall) (request : Request) (raised : Option ℕ) → shows level v request.path ≡ true →
      is_wrong_current v s call request raised ≡ is_wrong_current w s call request raised
  wrong_current-seen call request None h = λ i.
      not (passes (λ facts. by_mode (λ mode. is_star mode (level_at v.fixed.levels (alike.current s seen i)) (level_of v facts)) call.mode) (alike.facts request.path h i))
  wrong_current-seen call request (Some number) h = ap not (raised-seen number)

  plain-seen : (call : KernelCall) (request : Request) {cause : CallCause} → Plain cause → shows level v request.path ≡ true → fails v s call request cause ≡ fails w s call request cause
  plain-seen call request plain_object h = ap is_none (alike.facts request.path h)
  plain-seen call request plain_kind h =
      ap (λ a. not (passes (λ facts. call.is_for facts.kind && is_within (call.modes request) (kind_modes facts.kind)) a)) (alike.facts request.path h)
  plain-seen call request plain_root h = refl
  plain-seen call request plain_parent h = ap not (alike.holds_same s (parent request.path) Write seen)
  plain-seen call request plain_row h = ap (λ a. not (passes (λ facts. is_within (call.modes request) (in_row facts.row s)) a)) (alike.facts request.path h)
  plain-seen call request plain_greatest h = above_greatest-seen call request (call.raises request) h
  plain-seen call request plain_current h = wrong_current-seen call request (call.raises request) h
  plain-seen call request plain_level h =
      ap (λ a. not (passes (λ above. dominates (level_at v.fixed.levels request.level) (level_of v above)) a)) (alike.facts (parent request.path) (shows_parent level v sv request.path h))
  plain-seen call request plain_taken h = ap is_some (alike.facts request.path h)
  plain-seen call request plain_held h = ap not (held-seen level v w0 sv sw alike s seen request.path call.needs)
  plain-seen call request plain_long h = ap (λ a. not (passes (λ facts. nat_lt (register request 3) (bytes_of_block * facts.blocks)) a)) (alike.facts request.path h)

  -- whether what the caller holds may be held at the level with that number
  may_put-seen : (number : ℕ) (path : Path) (mode : AccessMode) → holds v s path mode ≡ true →
      passes (may_put v number mode) (facts_at v path) ≡ passes (may_put v number mode) (facts_at w path)
  may_put-seen number path mode held = ap (passes (may_put v number mode)) (alike.facts path (held_shows level v s seen sv path mode held))

  may_rise-seen : (number : ℕ) → may_rise v s number ≡ may_rise w s number
  may_rise-seen number = both_ways _ _
      (λ rises. may_rise-from w s number (λ path mode held.
      let before : holds v s path mode ≡ true = alike.holds_same s path mode seen ∙ held in
      sym (may_put-seen number path mode before) ∙ held_may_rise v s number rises path mode before))
      (λ rises. may_rise-from v s number (λ path mode held.
      may_put-seen number path mode held ∙ held_may_rise w s number rises path mode (sym (alike.holds_same s path mode seen) ∙ held)))

  -- whether a new object has room
  room-seen : (request : Request) → is_root request.path ≡ false → is_named v s request.path ≡ true → has_room v request ≡ has_room w request
  room-seen request root named = by request.path root named
    where
      by : (path : Path) → is_root path ≡ false → is_named v s path ≡ true →
          nat_le (used v (governing v (parent path)) + charge_of (new_facts request (level_number v (parent path))) (level_number v (parent path))) (quota_at v (governing v (parent path)))
          ≡ nat_le (used w (governing w (parent path)) + charge_of (new_facts request (level_number w (parent path))) (level_number w (parent path))) (quota_at w (governing w (parent path)))
      by [] root named = cc
      by (entry ∷ path) root named =
          let dir = named_parent v s (entry ∷ path) root named in
          let under : passes (is_under level v) (facts_at v path) ≡ true = named_shows level v sv s seen (entry ∷ path) named in
          let (facts, there) = passes_there _ _ dir in
          let (limit, in_use) = quota_seen level v w0 sv sw alike path under facts there (subst (λ a. passes (λ x. is_directory x.kind) a ≡ true) there dir) in
          let number = number_seen level v w0 sv sw alike path under in
          λ i. nat_le (in_use i + charge_of (new_facts request (number i)) (number i)) (limit i)

  -- the child of a directory that lies under the level
  pub child-seen : (path : Path) (entry : ℕ) → passes (is_under level v) (facts_at v path) ≡ true → child_at v path entry ≡ child_at w path entry
  child-seen path entry under = λ i. if nat_lt (length path) 7 then alike.facts (entry ∷ path) under i else None

  -- what is held for receive and line in, and for entry and quota
  pub held_to_write : (path : Path) → not (list_any (holds v s path) (Write ∷ [])) ≡ false → passes (is_under level v) (facts_at v path) ≡ true
  held_to_write path held = any_under level v sv s seen path (Write ∷ []) (written_under level v sv s seen path, tt) (not_false _ held)

  -- whether the contents of what is held so fail a test
  contents-seen : (test : Contents → Bool) (path : Path) → not (list_any (holds v s path) (Write ∷ [])) ≡ false →
      not (passes (λ object. test object.contents) (find v path)) ≡ not (passes (λ object. test object.contents) (find w path))
  contents-seen test path held = ap (λ a. not (passes (λ object. test object.contents) a)) (same_object level v w alike sv path (held_to_write path held))

  pub held_to_read : (path : Path) → not (list_any (holds v s path) (Read ∷ Write ∷ [])) ≡ false → passes (is_under level v) (facts_at v path) ≡ true
  held_to_read path held = any_under level v sv s seen path (Read ∷ Write ∷ []) (read_under level v sv s seen path, (written_under level v sv s seen path, tt)) (not_false _ held)

  -- ---- the first check that fails

  -- the first of these that fails is the same in both
  record Agrees (call : KernelCall) (request : Request) (causes : List CallCause) : Type 0 where
    same : first (fails v s call request) causes ≡ first (fails w s call request) causes

  agree_none : (call : KernelCall) (request : Request) → Agrees call request []
  agree_none call request = record { same = refl }

  agree_then : {call : KernelCall} {request : Request} {cause : CallCause} {causes : List CallCause} → fails v s call request cause ≡ fails w s call request cause →
      (fails v s call request cause ≡ false → Agrees call request causes) → Agrees call request (cause ∷ causes)
  agree_then {call} {request} {cause} {causes} same rest = record { same = by (fails v s call request cause) refl ∙ ap (λ b. cond b (Some cause) (first (fails w s call request) causes)) same }
    where
      by : (b : Bool) → fails v s call request cause ≡ b → cond b (Some cause) (first (fails v s call request) causes) ≡ cond b (Some cause) (first (fails w s call request) causes)
      by true is = refl
      by false is = (rest is).same

  plain_then : {call : KernelCall} {request : Request} {cause : CallCause} {causes : List CallCause} → shows level v request.path ≡ true → Plain cause →
      (fails v s call request cause ≡ false → Agrees call request causes) → Agrees call request (cause ∷ causes)
  plain_then {call} {request} h plain rest = agree_then (plain-seen call request plain h) rest

  plain_all : (call : KernelCall) (request : Request) (causes : List CallCause) → AllByRecursion Plain causes → shows level v request.path ≡ true → Agrees call request causes
  plain_all call request [] all h = agree_none call request
  plain_all call request (cause ∷ causes) all h = agree_then (plain-seen call request all.0 h) (λ _. plain_all call request causes all.1 h)

  named_then : {call : KernelCall} {request : Request} {causes : List CallCause} → (is_named v s request.path ≡ true → shows level v request.path ≡ true → Agrees call request causes) →
      Agrees call request (NotNamed ∷ causes)
  named_then {call} {request} rest = agree_then (ap not (is_named-seen level v w0 sv sw alike s seen request.path))
      (λ is. rest (not_false _ is) (named_shows level v sv s seen request.path (not_false _ is)))

  -- a path, a name, and then plain checks
  path_named : (call : KernelCall) (request : Request) (causes : List CallCause) → AllByRecursion Plain causes → Agrees call request (NoPath ∷ NotNamed ∷ causes)
  path_named call request causes all = agree_then refl (λ _. named_then (λ named h. plain_all call request causes all h))

  -- with the argument between them, of which both states judge alike
  argument_named : (call : KernelCall) (request : Request) (causes : List CallCause) → call.is_wrong v request ≡ call.is_wrong w request → AllByRecursion Plain causes →
      Agrees call request (NoPath ∷ BadArgument ∷ NotNamed ∷ causes)
  argument_named call request causes wrong all = agree_then refl (λ _. agree_then wrong (λ _. named_then (λ named h. plain_all call request causes all h)))

  -- each call's checks
  create_agrees : (request : Request) → Agrees create request create.checks
  create_agrees request = agree_then refl (λ _. agree_then refl (λ _. named_then (λ named h.
      plain_then h plain_root (λ root. plain_then h plain_parent (λ _. plain_then h plain_level (λ _. plain_then h plain_taken
      (λ _. agree_then (ap not (room-seen request root named)) (λ _. agree_none _ _))))))))

  receive_agrees : (request : Request) → Agrees receive request receive.checks
  receive_agrees request = agree_then refl (λ _. named_then (λ named h.
      plain_then h plain_object (λ _. plain_then h plain_kind (λ _. plain_then h plain_held
      (λ held. agree_then (contents-seen has_message request.path held) (λ _. agree_none _ _))))))

  line_in_agrees : (request : Request) → Agrees line_in request line_in.checks
  line_in_agrees request = agree_then refl (λ _. named_then (λ named h.
      plain_then h plain_object (λ _. plain_then h plain_kind (λ _. plain_then h plain_held
      (λ held. agree_then (contents-seen has_byte request.path held) (λ _. agree_none _ _))))))

  entry_agrees : (request : Request) → Agrees entry request entry.checks
  entry_agrees request = agree_then refl (λ _. agree_then refl (λ _. named_then (λ named h.
      plain_then h plain_object (λ _. plain_then h plain_kind (λ _. plain_then h plain_held
      (λ held. agree_then (ap is_none (child-seen request.path (register request 3) (held_to_read request.path held))) (λ _. agree_none _ _)))))))

  raise_level_agrees : (request : Request) → Agrees raise_level request raise_level.checks
  raise_level_agrees request = agree_then refl (λ _. agree_then refl (λ _. agree_then (ap not (raised-seen (register request 3)))
      (λ _. agree_then (ap not (may_rise-seen (register request 3))) (λ _. agree_none _ _))))

  agrees : (call : Call) (request : Request) → Agrees (definition_of call) request (definition_of call).checks
  agrees (ByRule GetRead) request = path_named get_read request _ (plain_object, (plain_kind, (plain_row, (plain_greatest, (plain_current, tt)))))
  agrees (ByRule GetAppend) request = path_named get_append request _ (plain_object, (plain_kind, (plain_row, (plain_current, tt))))
  agrees (ByRule GetExecute) request = path_named get_execute request _ (plain_object, (plain_kind, (plain_row, (plain_greatest, (plain_current, tt)))))
  agrees (ByRule GetWrite) request = path_named get_write request _ (plain_object, (plain_kind, (plain_row, (plain_greatest, (plain_current, tt)))))
  agrees (ByRule Release) request = agree_then refl (λ _. agree_then refl (λ _. agree_none _ _))
  agrees (ByRule Give) request = argument_named give request _ refl (plain_object, (plain_kind, (plain_root, (plain_parent, tt))))
  agrees (ByRule Rescind) request = argument_named rescind request _ refl (plain_object, (plain_kind, (plain_root, (plain_parent, tt))))
  agrees (ByRule Create) request = create_agrees request
  agrees (ByRule DeleteGroup) request = path_named delete_group request _ (plain_object, (plain_root, (plain_parent, tt)))
  agrees (ByRule RaiseLevel) request = raise_level_agrees request
  agrees (Other Window) request = argument_named window request _ refl (plain_object, (plain_kind, (plain_held, tt)))
  agrees (Other Unwindow) request = agree_then refl (λ _. agree_none _ _)
  agrees (Other Deposit) request = argument_named deposit request _ refl (plain_object, (plain_kind, (plain_held, (plain_long, tt))))
  agrees (Other Send) request = path_named send request _ (plain_object, (plain_kind, (plain_held, tt)))
  agrees (Other Receive) request = receive_agrees request
  agrees (Other LineOut) request = path_named line_out request _ (plain_object, (plain_kind, (plain_held, tt)))
  agrees (Other LineIn) request = line_in_agrees request
  agrees (Other Entry) request = entry_agrees request
  agrees (Other Identify) request = agree_none _ _
  agrees (Other Quota) request = path_named quota request _ (plain_object, (plain_kind, (plain_held, tt)))
  agrees (Other Pause) request = agree_none _ _
  agrees (Other SetFaultEntry) request = agree_then refl (λ _. agree_none _ _)
  agrees (Other Stop) request = agree_none _ _

  -- the cause of the refusal, if there is one
  pub refusal-seen : (call : Call) (general : List ℕ) → call_refusal v s call general ≡ call_refusal w s call general
  unfolding call_refusal
  refusal-seen call general = (agrees call (request_in general)).same
