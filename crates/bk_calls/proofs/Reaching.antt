-- How the checks of a service fail, by what the store and the registers show.
use Rattle.std.proofs.Common.{◌≡◌, ℕ, Bool, true, false, ◌&&◌, List, [], ◌∷◌, Option, Some, None, refl, sym, ap, ◌∙◌}
use Rattle.std.specs.Prelude.{is_none, not, slice_index, find as first, if◌then◌else◌}
use Rattle.std.specs.List.{list_any}
use Rattle.bk_object.specs.Kinds.{kind_modes}
use Rattle.bk_object.specs.Modes.{is_within, no_modes}
use Rattle.bk_object.specs.declared.Facts.{Facts}
use Rattle.bk_object.specs.declared.Modes.{Modes}
use Rattle.bk_path.specs.Paths.{Path, unpack}
use Rattle.bk_quota.specs.Charges.{passes}
use Rattle.bk_state.specs.State.{State, facts_at, holds}
use Rattle.bk_state.specs.Named.{is_named}
use Rattle.bk_state.specs.Request.{path_in, request_in}
use Rattle.bk_state.specs.Calls.{call_fails, service_call}
use Rattle.bk_state.specs.declared.call.Call.TheVariants.{Other}
use Rattle.bk_state.specs.declared.call.Service.{Service}
use Rattle.bk_state.specs.declared.cause.CallCause.{CallCause}
use Rattle.bk_state.specs.declared.cause.CallCause.TheVariants.{NoPath, BadArgument, NotNamed, NoObject, WrongKind, NotHeld}
use Rattle.bk_store.specs.Stored.{Stored, facts_in, holds as holds_in}
use Rattle.bk_calls.specs.Made.{seen_by}
use Rattle.bk_calls.specs.Reached.{front_refusal, is_of, modes_in, Suits}
use Rattle.bk_calls.specs.declared.caller.Caller.{Caller}
use Rattle.bk_calls.specs.declared.reach.Asked.{Asked}
use Rattle.bk_calls.proofs.Seen.{facts-seen}

-- a check that passes is passed over, and one that fails is the first
pub skip : {A : Type 0} (f : A → Bool) (a : A) (rest : List A) → f a ≡ false → first f (a ∷ rest) ≡ first f rest
skip f a rest e = ap (λ b. if b then Some a else first f rest) e

pub hit : {A : Type 0} (f : A → Bool) (a : A) (rest : List A) → f a ≡ true → first f (a ∷ rest) ≡ Some a
hit f a rest e = ap (λ b. if b then Some a else first f rest) e

-- no mode is one of any kind
no_mode : (b : Bool) (of : Modes) → (b && is_within no_modes of) ≡ b
no_mode true of = refl
no_mode false of = refl

-- the checks after each
abbrev from_held : List CallCause
from_held = NotHeld ∷ []

abbrev from_kind : List CallCause
from_kind = WrongKind ∷ from_held

abbrev from_object : List CallCause
from_object = NoObject ∷ from_kind

abbrev from_named : List CallCause
from_named = NotNamed ∷ from_object

abbrev from_argument : List CallCause
from_argument = BadArgument ∷ from_named

-- the words are no path
pub pathless : (caller : Caller) (store : Stored) (words : List ℕ) (service : Service) (general : List ℕ) →
    None ≡ unpack (slice_index general 1) (slice_index general 2) → front_refusal caller store words service general ≡ Some NoPath
pathless caller store words service general none = hit (call_fails (seen_by caller store words) caller.subject (Other service) general) NoPath from_argument (ap is_none (sym none))

module _ (caller : Caller) (store : Stored) (words : List ℕ) (asked : Asked) (service : Service) (general : List ℕ) (suits : Suits asked service general) (path : Path)
    (at : Some path ≡ unpack (slice_index general 1) (slice_index general 2)) (path_is : path_in general ≡ path) where
  abbrev seen : State
  seen = seen_by caller store words

  abbrev fails : CallCause → Bool
  fails = call_fails seen caller.subject (Other service) general

  -- the object is of the service's kind, and none of its modes is asked for
  abbrev fits_kind : Facts → Bool
  fits_kind facts = (service_call service).is_for facts.kind && is_within ((service_call service).modes (request_in general)) (kind_modes facts.kind)

  spelt : fails NoPath ≡ false
  spelt = ap is_none (sym at)

  named : (b : Bool) → b ≡ is_named seen caller.subject path → fails NotNamed ≡ not b
  named b e = ap (λ p. not (is_named seen caller.subject p)) path_is ∙ ap not (sym e)

  there : (o : Option Facts) → o ≡ facts_in store path → fails NoObject ≡ is_none o
  there o e = ap (λ p. is_none (facts_at seen p)) path_is ∙ ap is_none (facts-seen caller store words path ∙ sym e)

  fitting : (facts : Facts) → fits_kind facts ≡ is_of asked.sort facts.kind
  fitting facts = ap (λ m. (service_call service).is_for facts.kind && is_within m (kind_modes facts.kind)) suits.modes ∙ no_mode ((service_call service).is_for facts.kind) (kind_modes facts.kind) ∙ suits.sort facts.kind

  kind : (facts : Facts) → facts_in store path ≡ Some facts → (b : Bool) → b ≡ is_of asked.sort facts.kind → fails WrongKind ≡ not b
  kind facts is b e =
      ap (λ p. not (passes fits_kind (facts_at seen p))) path_is
      ∙ ap (λ o. not (passes fits_kind o)) (facts-seen caller store words path ∙ is)
      ∙ ap not (fitting facts ∙ sym e)

  held : (b : Bool) → b ≡ list_any (holds_in store caller.subject path) (modes_in asked.needs) → fails NotHeld ≡ not b
  held b e =
      ap (λ p. not (list_any (holds seen caller.subject p) (service_call service).needs)) path_is
      ∙ ap (λ modes. not (list_any (holds_in store caller.subject path) modes)) suits.needs ∙ ap not (sym e)

  pub outside : asked.is_wrong ≡ true → front_refusal caller store words service general ≡ Some BadArgument
  outside wrong = skip fails NoPath from_argument spelt ∙ hit fails BadArgument from_named (suits.wrong seen ∙ wrong)

  module _ (fit : asked.is_wrong ≡ false) (b : Bool) (e : b ≡ is_named seen caller.subject path) where
    past_argument : front_refusal caller store words service general ≡ first fails from_named
    past_argument = skip fails NoPath from_argument spelt ∙ skip fails BadArgument from_named (suits.wrong seen ∙ fit)

    pub unnamed : b ≡ false → front_refusal caller store words service general ≡ Some NotNamed
    unnamed is = past_argument ∙ hit fails NotNamed from_object (named b e ∙ ap not is)

    module _ (is : b ≡ true) where
      past_named : front_refusal caller store words service general ≡ first fails from_object
      past_named = past_argument ∙ skip fails NotNamed from_object (named b e ∙ ap not is)

      pub not_there : None ≡ facts_in store path → front_refusal caller store words service general ≡ Some NoObject
      not_there none = past_named ∙ hit fails NoObject from_kind (there None none)

      module _ (facts : Facts) (has_facts : facts_in store path ≡ Some facts) where
        past_there : front_refusal caller store words service general ≡ first fails from_kind
        past_there = past_named ∙ skip fails NoObject from_kind (there (Some facts) (sym has_facts))

        pub other_kind : (k : Bool) → k ≡ is_of asked.sort facts.kind → k ≡ false → front_refusal caller store words service general ≡ Some WrongKind
        other_kind k same differs = past_there ∙ hit fails WrongKind from_held (kind facts has_facts k same ∙ ap not differs)

        module _ (k : Bool) (same : k ≡ is_of asked.sort facts.kind) (fits : k ≡ true) where
          past_kind : front_refusal caller store words service general ≡ first fails from_held
          past_kind = past_there ∙ skip fails WrongKind from_held (kind facts has_facts k same ∙ ap not fits)

          pub not_held : (h : Bool) → h ≡ list_any (holds_in store caller.subject path) (modes_in asked.needs) → h ≡ false → front_refusal caller store words service general ≡ Some NotHeld
          not_held h by none = past_kind ∙ hit fails NotHeld [] (held h by ∙ ap not none)

          pub none_fails : (h : Bool) → h ≡ list_any (holds_in store caller.subject path) (modes_in asked.needs) → h ≡ true → front_refusal caller store words service general ≡ None
          none_fails h by some = past_kind ∙ skip fails NotHeld [] (held h by ∙ ap not some)
