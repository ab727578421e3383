-- What a call tells the caller, and the byte that it sends, depend on what lies under the caller's level.
use Rattle.std.proofs.Common.{◌≡◌, ℕ, ◌+◌, ◌*◌, ◌%◌, Bool, true, false, ◌&&◌, not, List, [], ◌∷◌, Option, Some, None, refl, ap, ◌∙◌, subst, unwrap_or}
use Rattle.bk_level.specs.Levels.{Level}
use Rattle.bk_path.specs.Paths.{Path}
use Rattle.bk_object.specs.Modes.{modes_where, no_modes, is_within}
use Rattle.bk_object.specs.Kinds.{is_directory, kind_modes, kind_number, blocks_or_line}
use Rattle.bk_object.specs.Rows.{in_row}
use Rattle.bk_object.specs.declared.Facts.{Facts}
use Rattle.bk_quota.specs.Charges.{passes}
use Rattle.bk_state.specs.declared.call.Call.{Call}
use Rattle.bk_state.specs.declared.call.Call.TheVariants.{ByRule, Other}
use Rattle.bk_state.specs.declared.call.Service.TheVariants.{Window, Unwindow, Deposit, Send, Receive, LineOut, LineIn, Entry, Identify, Quota}
use Rattle.bk_state.specs.declared.call.Service.TheVariants.{Pause, SetFaultEntry, Stop}
use Rattle.bk_state.specs.declared.rule.Rule.TheVariants.{GetRead, GetAppend, GetExecute, GetWrite, Release, Give, Rescind, Create, DeleteGroup, RaiseLevel}
use Rattle.bk_state.specs.declared.cause.CallCause.TheVariants.{WrongKind}
use Rattle.bk_state.specs.State.{State, Object, Children, find, facts_at, clearance_of}
use Rattle.bk_state.specs.Secure.{Secure}
use Rattle.bk_state.specs.Request.{Request, register, request_in}
use Rattle.bk_state.specs.TellingCalls.{child_at, entry_values, entry, quota}
use Rattle.bk_state.specs.KernelCall.{KernelCall, fails}
use Rattle.bk_state.specs.Calls.{definition_of}
use Rattle.bk_state.specs.QueueCalls.{message_values, byte_values, of_contents, byte_on, receive, line_out, line_in}
use Rattle.bk_state.specs.Answers.{reply, sent_by}
use Rattle.bk_laws.proofs.Changes.{facts_in}
use Rattle.bk_state.specs.Low.{is_subject_under, is_under}
use Rattle.bk_laws.proofs.Tests.{Passes, passes_there, not_false, passed}
use Rattle.bk_laws.proofs.Alike.{Alike, fixed_to, same_object}
use Rattle.bk_laws.proofs.Seen.{named_shows}
use Rattle.bk_laws.proofs.SeenQuotas.{quota_seen}
use Rattle.bk_laws.proofs.SeenRefusals.{child-seen, held_to_write, held_to_read}

-- the byte on a line is decided by the facts
byte_on-facts : (byte : ℕ) (a b : Option Object) → facts_in a ≡ facts_in b → byte_on byte a ≡ byte_on byte b
byte_on-facts byte None None e = refl
byte_on-facts byte None (Some y) e = cc
byte_on-facts byte (Some x) None e = cc
byte_on-facts byte (Some x) (Some y) e = ap (λ facts. byte_on byte (Some (record { facts = facts; contents = Children }))) (ap (λ o. unwrap_or o x.facts) e)

module _ (level : Level) (v w0 : State) (sv : Secure v) (sw : Secure (fixed_to v.fixed w0)) (alike : Alike level v (fixed_to v.fixed w0)) (s : ℕ) (seen : is_subject_under level v s ≡ true) where
  abbrev w : State
  w = fixed_to v.fixed w0

  entry-seen : (child : Path) (o : Option Facts) → entry_values v s child o ≡ entry_values w s child o
  entry-seen child None = refl
  entry-seen child (Some facts) = λ i.
      0 ∷ 0 ∷ (256 * kind_number facts.kind + blocks_or_line facts.kind facts.blocks) ∷ facts.level
      ∷ (modes_where (λ mode. alike.holds_same s child mode seen i)).0 ∷ (in_row facts.row s).0 ∷ []

  -- what a call that is answered yes tells its caller, and the byte that it sends, are the same in both
  record Told (call : KernelCall) (request : Request) : Type 0 where
    gives : call.gives v s request ≡ call.gives w s request
    sends : call.sends v request ≡ call.sends w request

  receive-told : (request : Request) → Passes v s receive request → Told receive request
  receive-told request none = record {
    gives =
        let (path, (named, (there, (kind, (held, (empty, end)))))) = passed v s receive request none in
        ap (of_contents message_values) (same_object level v w alike sv request.path (held_to_write level v w0 sv sw alike s seen request.path held));
    sends = refl;
  }

  line_out-told : (request : Request) → Passes v s line_out request → Told line_out request
  line_out-told request none = record {
    gives = refl;
    sends =
        let (path, (named, (there, (kind, (held, end))))) = passed v s line_out request none in
        byte_on-facts (register request 3 % 256) (find v request.path) (find w request.path)
        (alike.facts request.path (named_shows level v sv s seen request.path (not_false _ named)));
  }

  line_in-told : (request : Request) → Passes v s line_in request → Told line_in request
  line_in-told request none = record {
    gives =
        let (path, (named, (there, (kind, (held, (empty, end)))))) = passed v s line_in request none in
        ap (of_contents byte_values) (same_object level v w alike sv request.path (held_to_write level v w0 sv sw alike s seen request.path held));
    sends = refl;
  }

  entry-told : (request : Request) → Passes v s entry request → Told entry request
  entry-told request none = record {
    gives =
        let (path, (bad, (named, (there, (kind, (held, (empty, end))))))) = passed v s entry request none in
        entry-seen (register request 3 ∷ request.path) (child_at v request.path (register request 3))
        ∙ ap (entry_values w s (register request 3 ∷ request.path))
        (child-seen level v w0 sv sw alike s seen request.path (register request 3) (held_to_read level v w0 sv sw alike s seen request.path held));
    sends = refl;
  }

  quota-told : (request : Request) → Passes v s quota request → Told quota request
  quota-told request none = record {
    gives =
        let (path, (named, (there, (kind, (held, end))))) = passed v s quota request none in
        of_directory (held_to_read level v w0 sv sw alike s seen request.path held) (not_false _ (wrong_kind kind));
    sends = refl;
  }
    where
      -- of the two parts of the test of its kind, quota asks for the first alone
      wrong_kind : fails v s quota request WrongKind ≡ false → not (passes (λ facts. is_directory facts.kind) (facts_at v request.path)) ≡ false
      wrong_kind kind = by (facts_at v request.path) kind
        where
          by : (a : Option Facts) → not (passes (λ facts. is_directory facts.kind && is_within no_modes (kind_modes facts.kind)) a) ≡ false →
              not (passes (λ facts. is_directory facts.kind) a) ≡ false
          by None h = h
          by (Some facts) h = first_part (is_directory facts.kind) _ h
            where
              first_part : (a b : Bool) → not (a && b) ≡ false → not a ≡ false
              first_part true b h = refl
              first_part false b h = h

      of_directory : passes (is_under level v) (facts_at v request.path) ≡ true → passes (λ facts. is_directory facts.kind) (facts_at v request.path) ≡ true →
          quota.gives v s request ≡ quota.gives w s request
      of_directory under dir =
          let (facts, is) = passes_there _ _ dir in
          let (limit, in_use) = quota_seen level v w0 sv sw alike request.path under facts is (subst (λ a. passes (λ x. is_directory x.kind) a ≡ true) is dir) in
          λ i. 0 ∷ 0 ∷ limit i ∷ in_use i ∷ []

  each_told : (call : Call) (request : Request) → Passes v s (definition_of call) request → Told (definition_of call) request
  each_told (Other Receive) request none = receive-told request none
  each_told (Other LineOut) request none = line_out-told request none
  each_told (Other LineIn) request none = line_in-told request none
  each_told (Other Entry) request none = entry-told request none
  each_told (Other Quota) request none = quota-told request none
  -- this one tells the caller's levels
  each_told (Other Identify) request none = record {
    gives = ap (λ n. 0 ∷ 0 ∷ s ∷ n ∷ (clearance_of v s).greatest ∷ []) (alike.current s seen);
    sends = refl;
  }
  -- these tell nothing of the state
  each_told (ByRule GetRead) request none = record { gives = refl; sends = refl }
  each_told (ByRule GetAppend) request none = record { gives = refl; sends = refl }
  each_told (ByRule GetExecute) request none = record { gives = refl; sends = refl }
  each_told (ByRule GetWrite) request none = record { gives = refl; sends = refl }
  each_told (ByRule Release) request none = record { gives = refl; sends = refl }
  each_told (ByRule Give) request none = record { gives = refl; sends = refl }
  each_told (ByRule Rescind) request none = record { gives = refl; sends = refl }
  each_told (ByRule Create) request none = record { gives = refl; sends = refl }
  each_told (ByRule DeleteGroup) request none = record { gives = refl; sends = refl }
  each_told (ByRule RaiseLevel) request none = record { gives = refl; sends = refl }
  each_told (Other Window) request none = record { gives = refl; sends = refl }
  each_told (Other Unwindow) request none = record { gives = refl; sends = refl }
  each_told (Other Deposit) request none = record { gives = refl; sends = refl }
  each_told (Other Send) request none = record { gives = refl; sends = refl }
  each_told (Other Pause) request none = record { gives = refl; sends = refl }
  each_told (Other SetFaultEntry) request none = record { gives = refl; sends = refl }
  each_told (Other Stop) request none = record { gives = refl; sends = refl }

  -- the values of R0 and those after it
  pub reply-seen : (call : Call) (general : List ℕ) → Passes v s (definition_of call) (request_in general) → reply v s call general ≡ reply w s call general
  unfolding reply
  reply-seen call general none = (each_told call (request_in general) none).gives

  -- the byte that goes out, and its line
  pub sent-seen : (call : Call) (general : List ℕ) → Passes v s (definition_of call) (request_in general) → sent_by v call general ≡ sent_by w call general
  sent-seen call general none = (each_told call (request_in general) none).sends
