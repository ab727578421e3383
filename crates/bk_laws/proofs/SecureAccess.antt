-- Changes of the current access set alone that keep a secure state secure. What it says of levels, and of who names an object,
-- comes first.
use Rattle.std.proofs.Common.{◌≡◌, ◌≢◌, ℕ, Bool, true, false, ◌||◌, [], ◌∷◌, refl, sym, ◌∙◌, subst, ◌⊎◌, inl, inr}
use Rattle.std.specs.FinSet as set
use Rattle.bk_level.specs.Levels.{Level, dominates}
use Rattle.bk_level.proofs.LevelOrder.{and_first, and_second, both-from_same}
use Rattle.bk_state.specs.Secure.{Secure}
use Rattle.bk_state.specs.Allowed.{is_simple, is_star, is_allowed}
use Rattle.bk_state.specs.AccessCalls.{with_triple}
use Rattle.bk_laws.proofs.Changes.{held_after, holds-retain}
use Rattle.bk_path.specs.Paths.{Path, parent, is_root}
use Rattle.bk_object.specs.Modes.{AccessMode, Read, Execute, Write, Append, has, is_within, only}
use Rattle.bk_object.specs.Kinds.{is_directory}
use Rattle.bk_object.specs.Rows.{in_row}
use Rattle.bk_object.specs.declared.Facts.{Facts}
use Rattle.bk_quota.specs.Charges.{passes}
use Rattle.bk_state.specs.State.{State, Triple, facts_at, holds, current_level, greatest_level, level_of}
use Rattle.bk_state.specs.Named.{is_named}
use Rattle.bk_laws.proofs.Tests.{passes_both, passes_more}
use Rattle.bk_laws.proofs.Rows.{within-only}
use Rattle.bk_laws.proofs.SecureFrame.{may_hold, is_above, are_sound, secure_beside}

-- the parent of a path below root that is named is a directory
pub named_parent : (v : State) (s : ℕ) (path : Path) → is_root path ≡ false → is_named v s path ≡ true → passes (λ facts. is_directory facts.kind) (facts_at v (parent path)) ≡ true
named_parent v s [] root named = cc
named_parent v s (entry ∷ path) root named = and_first (passes (λ facts. is_directory facts.kind) (facts_at v path)) _ named

-- the *-property puts what is held by r, e or w under the current level, and what is held by w or a above it
pub star_below : (mode : AccessMode) (current object : Level) → mode ≢ Append → is_star mode current object ≡ true → dominates current object ≡ true
star_below Read current object other star = star
star_below Execute current object other star = star
star_below Write current object other star = (both-from_same object current star).1
star_below Append current object other star = absurd (other refl)

pub star_above : (mode : AccessMode) (current object : Level) → (mode ≡ Write) ⊎ (mode ≡ Append) → is_star mode current object ≡ true → dominates object current ≡ true
star_above Write current object one star = (both-from_same object current star).0
star_above Append current object one star = star
star_above Read current object (inl is) star = cc
star_above Read current object (inr is) star = cc
star_above Execute current object (inl is) star = cc
star_above Execute current object (inr is) star = cc

-- what may be held meets the *-property
pub star_of : (v : State) (s : ℕ) (mode : AccessMode) (facts : Facts) → is_allowed v s facts mode ≡ true → is_star mode (current_level v s) (level_of v facts) ≡ true
star_of v s mode facts h = and_second (is_simple mode (greatest_level v s) (level_of v facts)) _ h

-- what a subject holds lies at or below its current level, but where it holds it by append
pub held_under : (v : State) (s : ℕ) (path : Path) (mode : AccessMode) → Secure v → mode ≢ Append → holds v s path mode ≡ true → passes (is_above v s) (facts_at v path) ≡ true
held_under v s path mode sec other held = passes_more (may_hold v s mode) (is_above v s) (facts_at v path)
    (λ facts is h. star_below mode (current_level v s) (level_of v facts) other (star_of v s mode facts (and_second (has (in_row facts.row s) mode) _ h)))
    (sec.access s path mode held)

-- the current level of who holds a directory by read or write dominates the directory's
pub held_below : (v : State) (s : ℕ) (path : Path) → Secure v → (holds v s path Read || holds v s path Write) ≡ true → passes (is_above v s) (facts_at v path) ≡ true
held_below v s path sec held = by (holds v s path Read) refl held
  where
    by : (b : Bool) → holds v s path Read ≡ b → (b || holds v s path Write) ≡ true → passes (is_above v s) (facts_at v path) ≡ true
    by true is h = held_under v s path Read sec (λ e. cc) is
    by false is h = held_under v s path Write sec (λ e. cc) h

-- so that of who names an object dominates its parent's
pub named_below : (v : State) (s entry : ℕ) (path : Path) → Secure v → is_named v s (entry ∷ path) ≡ true → passes (is_above v s) (facts_at v path) ≡ true
named_below v s entry path sec named = held_below v s path sec (and_second (passes (λ facts. is_directory facts.kind) (facts_at v path)) _ named)

-- the subject holds one object by one mode more: it names the object, row and levels allow it
pub secure_with_triple : (v : State) (s : ℕ) (path : Path) (mode : AccessMode) → Secure v →
    passes (may_hold v s mode) (facts_at v path) ≡ true → is_named v s path ≡ true → Secure (with_triple v s path mode)
secure_with_triple v s path mode sec allowed named = secure_beside v (set.insert v.access (s, path, mode)) v.processes sec
    (λ j q y h. new_access j q y (held_after v s path mode j q y h))
    (λ j entry q y h. new_naming j entry q y (held_after v s path mode j (entry ∷ q) y h)) sec.processes (are_sound v sec)
  where
    new_access : (j : ℕ) (q : Path) (y : AccessMode) → ((j ≡ s) × (q ≡ path) × (y ≡ mode)) ⊎ (holds v j q y ≡ true) → passes (may_hold v j y) (facts_at v q) ≡ true
    new_access j q y (inl (es, ep, ex)) = rw (es, ep, ex) allowed
    new_access j q y (inr h) = sec.access j q y h

    new_naming : (j entry : ℕ) (q : Path) (y : AccessMode) → ((j ≡ s) × (entry ∷ q ≡ path) × (y ≡ mode)) ⊎ (holds v j (entry ∷ q) y ≡ true) → passes (is_above v j) (facts_at v q) ≡ true
    new_naming j entry q y (inl (es, ep, ex)) = named_below v j entry q sec (rw es (subst (λ z. is_named v s z ≡ true) (sym ep) named))
    new_naming j entry q y (inr h) = sec.naming j entry q y h

-- to lose accesses keeps a state secure
pub secure_retain : (v : State) (keep : Triple → Bool) → Secure v → Secure (record v { access = set.retain v.access keep })
secure_retain v keep sec = secure_beside v (set.retain v.access keep) v.processes sec
    (λ s path mode h. sec.access s path mode (and_first (holds v s path mode) (keep (s, path, mode)) (sym (holds-retain v keep s path mode) ∙ h)))
    (λ s entry path mode h. sec.naming s entry path mode (and_first (holds v s (entry ∷ path) mode) (keep (s, entry ∷ path, mode)) (sym (holds-retain v keep s (entry ∷ path) mode) ∙ h)))
    sec.processes (are_sound v sec)

-- the subject gets a triple: the object's row has the mode, and the levels allow it
pub secure_got : (v : State) (s : ℕ) (path : Path) (mode : AccessMode) → Secure v → is_named v s path ≡ true →
    passes (λ facts. is_within (only mode) (in_row facts.row s)) (facts_at v path) ≡ true → passes (λ facts. is_allowed v s facts mode) (facts_at v path) ≡ true → Secure (with_triple v s path mode)
secure_got v s path mode sec named row allowed =
    let has_mode = passes_more _ (λ facts. has (in_row facts.row s) mode) (facts_at v path) (λ facts _ h. within-only mode (in_row facts.row s) h) row in
    secure_with_triple v s path mode sec (passes_both _ _ (facts_at v path) has_mode allowed) named
