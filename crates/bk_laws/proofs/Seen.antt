-- What a subject under a level holds and names lies under the level, and is the same in two states in which the same lies
-- under it.
use Rattle.std.proofs.Common.{◌≡◌, ◌≢◌, ℕ, Bool, true, false, ◌&&◌, ◌||◌, List, [], ◌∷◌, refl, ap, ◌∙◌}
use Rattle.std.specs.List.{list_any, AllByRecursion}
use Rattle.bk_level.specs.Levels.{Level}
use Rattle.bk_state.specs.Secure.{Secure}
use Rattle.bk_path.specs.Paths.{Path, parent}
use Rattle.bk_object.specs.Modes.{AccessMode, Read, Execute, Write, Append}
use Rattle.bk_object.specs.Kinds.{is_directory}
use Rattle.bk_quota.specs.Charges.{passes}
use Rattle.bk_state.specs.State.{State, facts_at, holds}
use Rattle.bk_state.specs.Named.{is_named}
use Rattle.bk_state.specs.Low.{is_subject_under, is_under, shows}
use Rattle.bk_laws.proofs.SecureAccess.{held_under, held_below, named_below}
use Rattle.bk_laws.proofs.Alike.{Alike, fixed_to, shows_under, above_under}

module _ (level : Level) (v : State) (sec : Secure v) (s : ℕ) (seen : is_subject_under level v s ≡ true) where
  -- what it holds by another mode than append lies under the level, and so what it reads, executes or writes
  pub other_under : (path : Path) (mode : AccessMode) → mode ≢ Append → holds v s path mode ≡ true → passes (is_under level v) (facts_at v path) ≡ true
  other_under path mode other held = above_under level v s seen (facts_at v path) (held_under v s path mode sec other held)

  pub read_under : (path : Path) → holds v s path Read ≡ true → passes (is_under level v) (facts_at v path) ≡ true
  read_under path held = other_under path Read (λ e. cc) held

  pub executed_under : (path : Path) → holds v s path Execute ≡ true → passes (is_under level v) (facts_at v path) ≡ true
  executed_under path held = other_under path Execute (λ e. cc) held

  pub written_under : (path : Path) → holds v s path Write ≡ true → passes (is_under level v) (facts_at v path) ≡ true
  written_under path held = other_under path Write (λ e. cc) held

  -- what it holds by one of some modes, where each of them means that the object lies under the level
  pub any_under : (path : Path) (modes : List AccessMode) → AllByRecursion (λ mode. holds v s path mode ≡ true → passes (is_under level v) (facts_at v path) ≡ true) modes →
      list_any (holds v s path) modes ≡ true → passes (is_under level v) (facts_at v path) ≡ true
  any_under path [] each held = cc
  any_under path (mode ∷ modes) each held = by (holds v s path mode) refl held (any_under path modes each.1)
    where
      by : (b : Bool) → holds v s path mode ≡ b → (b || list_any (holds v s path) modes) ≡ true →
          (list_any (holds v s path) modes ≡ true → passes (is_under level v) (facts_at v path) ≡ true) → passes (is_under level v) (facts_at v path) ≡ true
      by true is h rest = each.0 is
      by false is h rest = rest h

  read_or_written : (path : Path) → (holds v s path Read || holds v s path Write) ≡ true → passes (is_under level v) (facts_at v path) ≡ true
  read_or_written path held = above_under level v s seen (facts_at v path) (held_below v s path sec held)

  -- what it names shows
  pub named_shows : (path : Path) → is_named v s path ≡ true → shows level v path ≡ true
  named_shows [] named = refl
  named_shows (entry ∷ path) named = above_under level v s seen (facts_at v path) (named_below v s entry path sec named)

-- the parent of what shows shows
pub shows_parent : (level : Level) (v : State) → Secure v → (path : Path) → shows level v path ≡ true → shows level v (parent path) ≡ true
shows_parent level v sec [] h = refl
shows_parent level v sec (entry ∷ path) h = shows_under level v path sec h

and_swap : (x y h : Bool) → (h ≡ true → x ≡ y) → (x && h) ≡ (y && h)
and_swap x y true same = ap (λ b. b && true) (same refl)
and_swap true true false same = refl
and_swap true false false same = refl
and_swap false true false same = refl
and_swap false false false same = refl

module _ (level : Level) (v w0 : State) (sv : Secure v) (sw : Secure (fixed_to v.fixed w0)) (alike : Alike level v (fixed_to v.fixed w0)) where
  abbrev w : State
  w = fixed_to v.fixed w0

  -- the facts of what lies under the level
  pub facts_under : (path : Path) → passes (is_under level v) (facts_at v path) ≡ true → facts_at v path ≡ facts_at w path
  facts_under path under = alike.facts path (shows_under level v path sv under)

  module _ (s : ℕ) (seen : is_subject_under level v s ≡ true) where
    pub is_named-seen : (path : Path) → is_named v s path ≡ is_named w s path
    is_named-seen [] = refl
    is_named-seen (entry ∷ path) =
        and_swap (passes (λ facts. is_directory facts.kind) (facts_at v path)) (passes (λ facts. is_directory facts.kind) (facts_at w path)) (holds v s path Read || holds v s path Write)
        (λ held. ap (passes (λ facts. is_directory facts.kind)) (facts_under path (read_or_written level v sv s seen path held)))
        ∙ (λ i. passes (λ facts. is_directory facts.kind) (facts_at w path) && (alike.holds_same s path Read seen i || alike.holds_same s path Write seen i))

    -- what it holds by one of some modes
    pub held-seen : (path : Path) (modes : List AccessMode) → list_any (holds v s path) modes ≡ list_any (holds w s path) modes
    held-seen path modes = λ i. list_any (λ mode. alike.holds_same s path mode seen i) modes
