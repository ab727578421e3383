-- Whether a subject may rise, by the slots of what it holds.
use Rattle.std.proofs.Common.{◌≡◌, ℕ, ◌+◌, ◌<◌, ◌≤◌, ◌==◌, Bool, true, false, not, ◌&&◌, ◌||◌, List, [], ◌∷◌, Option, Some, None, refl, sym, ap, ◌∙◌}
use Rattle.std.proofs.Common.{subst, arith, is_some, nat_lt, true≢false}
use Rattle.std.proofs.lemmas.Bool.Decides.{nat_tests}
use Rattle.std.specs.Prelude.{option_map}
use Rattle.std.specs.Ordering.{eq_by_cmp}
use Rattle.std.specs.List.{list_all, list_any}
use Rattle.std.specs.FinMap as finite
use Rattle.std.specs.FinSet as set
use Rattle.bk_level.specs.Levels.{Level, level_at}
use Rattle.bk_level.proofs.LevelOrder.{and_first, and_second, and_both}
use Rattle.bk_object.specs.declared.Facts.{Facts}
use Rattle.bk_object.specs.declared.modes.Modes.{Modes}
use Rattle.bk_object.specs.Modes.{AccessMode, Read, Execute, Write, Append, has}
use Rattle.bk_object.specs.Rows.{most_subjects}
use Rattle.bk_path.specs.Paths.{Path, path_cmp}
use Rattle.bk_path.specs.Orders.{same_path, ties-same}
use Rattle.bk_quota.specs.Charges.{passes}
use Rattle.bk_access.specs.Held.{Held, holds, modes_at, puts, IsNextPut}
use Rattle.bk_state.specs.Allowed.{is_star, is_star_of_putting, may_rise as may_rise_in}
use Rattle.bk_state.specs.State.{State}
use Rattle.bk_state.proofs.Holding.{each_of_own, all_of_own}
use Rattle.bk_tree.specs.declared.place.Placed.{Placed}
use Rattle.bk_tree.specs.Objects.{Objects, HasSlot, IsAt}
use Rattle.bk_store.specs.Stored.{Entry, Stored, facts_in, may_put, may_rise}
use Rattle.bk_store.specs.Joined.{Tables, access_of, entry_of, is_held, slot_in, store_of, HasSlots}
use Rattle.bk_store.specs.Stands.{StandsFor}
use Rattle.bk_store.proofs.Entries.{get-entry, its_slot}
use Rattle.bk_store.proofs.Stands.{stands-facts}
use Rattle.bk_store.proofs.Triples.{in_range, member, subject_in}

-- ---- the slot of what is held is an object's

one_of : {A : Type 0} (t : A → Bool) (xs : List A) → list_any t xs ≡ true → (x : A) × (t x ≡ true)
one_of t [] one = cc
one_of {A = A} t (x ∷ xs) one = by (t x) refl one (one_of t xs)
  where
    by : (b : Bool) → t x ≡ b → (b || list_any t xs) ≡ true → (list_any t xs ≡ true → (y : A) × (t y ≡ true)) → (y : A) × (t y ≡ true)
    by true is h rest = (x, is)
    by false is h rest = rest h

any_more : {A : Type 0} (t u : A → Bool) (xs : List A) → ((x : A) → t x ≡ true → u x ≡ true) → list_any t xs ≡ true → list_any u xs ≡ true
any_more t u [] more one = cc
any_more t u (x ∷ xs) more one = by (t x) refl one (u x) refl (any_more t u xs more)
  where
    by : (b : Bool) → t x ≡ b → (b || list_any t xs) ≡ true → (c : Bool) → u x ≡ c → (list_any t xs ≡ true → list_any u xs ≡ true) → (c || list_any u xs) ≡ true
    by b is h true its rest = refl
    by true is h false its rest = absurd (true≢false (sym (more x is) ∙ its))
    by false is h false its rest = rest h

module _ (tree : Objects) (held : Held) (slots : HasSlots tree held) (s slot : ℕ) where
  is_its : Path → Bool
  is_its p = passes (λ k. k == slot) (slot_in tree p)

  there : (p : Path) (o : Option Placed) → finite.get tree p ≡ o → passes (λ k. k == slot) (option_map (λ placed. placed.slot) o) ≡ true → HasSlot tree slot
  there p None is here = cc
  there p (Some a) is here =
      let same : a.slot ≡ slot = grind (arith, nat_tests, here) in
      (p, a.facts, is ∙ (λ i. Some (record { slot = same i; facts = a.facts })))

  found : (p : Path) → slot_in tree p ≡ Some slot → list_any is_its (finite.keys tree) ≡ true
  unfolding is_its
  found p at = any_more (eq_by_cmp path_cmp p) is_its (finite.keys tree)
      (λ q tied. ap (λ r. passes (λ k. k == slot) (slot_in tree r)) (sym (same_path p q (sym (ties-same p q) ∙ tied))) ∙ ap (passes (λ k. k == slot)) at ∙ itself)
      (sym (finite.contains_key-keys tree p) ∙ is_there (finite.get tree p) at)
    where
      itself : (slot == slot) ≡ true
      itself = grind (arith, nat_tests)

      is_there : (o : Option Placed) → option_map (λ placed. placed.slot) o ≡ Some slot → is_some o ≡ true
      is_there None h = cc
      is_there (Some a) h = refl

  pub owned : puts (modes_at held s slot) ≡ true → HasSlot tree slot
  unfolding is_its
  owned held_so = by (list_any is_its (finite.keys tree)) refl
    where
      by : (b : Bool) → list_any is_its (finite.keys tree) ≡ b → HasSlot tree slot
      by true is = let (p, here) = one_of is_its (finite.keys tree) is in there p (finite.get tree p) refl here
      by false is = absurd (true≢false (sym held_so ∙ ap puts (slots.free slot (λ p at. true≢false (sym (found p at) ∙ is)) s)))

-- ---- the slots below a number

-- what the subject holds of the objects at slots below the number may be held at the level
abbrev pub Passed : List Level → Objects → Held → (s : ℕ) → (current : Level) → (to : ℕ) → Type 0
Passed levels tree held s current to = (path : Path) (facts : Facts) (k : ℕ) → IsAt tree path k facts → k < to →
    may_put (modes_at held s k) current (level_at levels facts.level) ≡ true

puts_nothing : (w a x y : Bool) → (w || a) ≡ false → ((not w || x) && (not a || y)) ≡ true
puts_nothing true a x y h = cc
puts_nothing false true x y h = cc
puts_nothing false false x y h = refl

-- the slots up to the next one of which something is put into the object
pub passed_before : (levels : List Level) (tree : Objects) (held : Held) (s : ℕ) (current : Level) (from to : ℕ) → Passed levels tree held s current from →
    ((k : ℕ) → from ≤ k → k < to → puts (modes_at held s k) ≡ false) → Passed levels tree held s current to
passed_before levels tree held s current from to before none path facts k at lt = by (nat_lt k from) refl
  where
    by : (b : Bool) → nat_lt k from ≡ b → may_put (modes_at held s k) current (level_at levels facts.level) ≡ true
    by true is = before path facts k at (grind (arith, nat_tests, is))
    by false is = puts_nothing (has (modes_at held s k) Write) (has (modes_at held s k) Append) _ _ (none k (grind (arith, nat_tests, is)) lt)

-- and that one
pub passed_more : (levels : List Level) (tree : Objects) (held : Held) (s : ℕ) (current : Level) (from slot : ℕ) → Passed levels tree held s current from → IsNextPut held s from slot →
    ((path : Path) (facts : Facts) → IsAt tree path slot facts → may_put (modes_at held s slot) current (level_at levels facts.level) ≡ true) → Passed levels tree held s current (slot + 1)
passed_more levels tree held s current from slot before next own path facts k at lt = by (k == slot) refl
  where
    by : (b : Bool) → (k == slot) ≡ b → may_put (modes_at held s k) current (level_at levels facts.level) ≡ true
    by true is =
        let same : slot ≡ k = grind (arith, nat_tests, is) in
        subst (λ n. IsAt tree path n facts → may_put (modes_at held s n) current (level_at levels facts.level) ≡ true) same (own path facts) at
    by false is = passed_before levels tree held s current from slot before next.first path facts k at (grind (arith, nat_tests, is, lt))

-- ---- all of them

star_of : (mode : AccessMode) (modes : Modes) (current object : Level) → may_put modes current object ≡ true → has modes mode ≡ true → is_star_of_putting mode current object ≡ true
star_of Read modes current object may has_it = refl
star_of Execute modes current object may has_it = refl
star_of Write modes current object may has_it = of_true (has modes Write) _ has_it (and_first _ _ may)
  where
    of_true : (a b : Bool) → a ≡ true → (not a || b) ≡ true → b ≡ true
    of_true true b is h = h
    of_true false b is h = cc
star_of Append modes current object may has_it = of_true (has modes Append) _ has_it (and_second _ _ may)
  where
    of_true : (a b : Bool) → a ≡ true → (not a || b) ≡ true → b ≡ true
    of_true true b is h = h
    of_true false b is h = cc

module _ (levels : List Level) (lines : ℕ) (tree : Objects) (held : Held) (tables : Tables) (slots : HasSlots tree held) (s level : ℕ) where
  abbrev store : Stored
  store = store_of levels lines tree held tables

  abbrev current : Level
  current = level_at levels level

  abbrev test : Path → AccessMode → Bool
  test path mode = passes (λ facts. is_star_of_putting mode current (level_at levels facts.level)) (facts_in store path)

  test_there : (path : Path) (mode : AccessMode) (o : Option Placed) → finite.get tree path ≡ o →
      test path mode ≡ passes (λ (a : Placed). is_star_of_putting mode current (level_at levels a.facts.level)) o
  test_there path mode o is =
      ap (λ e. passes (λ (facts : Facts). is_star_of_putting mode current (level_at levels facts.level)) (option_map (λ (x : Entry). x.facts) e)) (get-entry tree tables path ∙ ap (option_map (entry_of tables)) is) ∙ by o
    where
      by : (o : Option Placed) → passes (λ (facts : Facts). is_star_of_putting mode current (level_at levels facts.level)) (option_map (λ (x : Entry). x.facts) (option_map (entry_of tables) o))
          ≡ passes (λ (a : Placed). is_star_of_putting mode current (level_at levels a.facts.level)) o
      by None = refl
      by (Some a) = refl

  -- the subject may rise where all slots have passed
  pub may_rise_where : Passed levels tree held s current held.slots → may_rise store s level ≡ true
  may_rise_where all = all_of_own (access_of tree held) s test (λ path mode held_so.
      by path mode (finite.get tree path) refl (and_second (in_range s) (is_held tree held (s, path, mode)) (sym (member tree held s path mode) ∙ held_so)))
    where
      by : (path : Path) (mode : AccessMode) (o : Option Placed) → finite.get tree path ≡ o → passes (λ slot. holds held s slot mode) (option_map (λ (a : Placed). a.slot) o) ≡ true → test path mode ≡ true
      by path mode None is held_so = cc
      by path mode (Some a) is held_so =
          test_there path mode (Some a) is
          ∙ star_of mode (modes_at held s a.slot) current (level_at levels a.facts.level)
          (all path a.facts a.slot is (slots.within path a.slot (its_slot tree path a.slot a.facts is))) held_so

  -- and not where one has not
  pub may_not_rise : s < most_subjects → (path : Path) (facts : Facts) (slot : ℕ) → IsAt tree path slot facts →
      may_put (modes_at held s slot) current (level_at levels facts.level) ≡ false → may_rise store s level ≡ false
  may_not_rise small path facts slot at barred = by (may_rise store s level) refl
    where
      held_there : (mode : AccessMode) → has (modes_at held s slot) mode ≡ true → set.contains (access_of tree held) (s, path, mode) ≡ true
      held_there mode has_it =
          member tree held s path mode
          ∙ and_both (in_range s) (is_held tree held (s, path, mode)) (subject_in s small) (ap (passes (λ k. holds held s k mode)) (its_slot tree path slot facts at) ∙ has_it)

      starred : may_rise store s level ≡ true → (mode : AccessMode) → has (modes_at held s slot) mode ≡ true → is_star_of_putting mode current (level_at levels facts.level) ≡ true
      starred rises mode has_it =
          sym (test_there path mode (Some (record { slot = slot; facts = facts })) at) ∙ each_of_own (access_of tree held) s test rises path mode (held_there mode has_it)

      put_of : (w a x y : Bool) → (w ≡ true → x ≡ true) → (a ≡ true → y ≡ true) → ((not w || x) && (not a || y)) ≡ true
      put_of true true x y f g = and_both x y (f refl) (g refl)
      put_of true false x y f g = and_both x true (f refl) refl
      put_of false true x y f g = g refl
      put_of false false x y f g = refl

      by : (b : Bool) → may_rise store s level ≡ b → may_rise store s level ≡ false
      by true rises = absurd (true≢false (sym (put_of (has (modes_at held s slot) Write) (has (modes_at held s slot) Append) (is_star Write current (level_at levels facts.level)) (is_star Append current (level_at levels facts.level))
          (starred rises Write) (starred rises Append)) ∙ barred))
      by false rises = rises

-- ---- in the state that the store stands for

pub may_rise-stands : (v : Stored) (words : List ℕ) (st : State) → StandsFor v words st → (s level : ℕ) → may_rise v s level ≡ may_rise_in st s level
may_rise-stands v words st stands s level = λ i. list_all
    (λ t. not (t.0 == s) || passes (λ facts. is_star_of_putting t.2 (level_at (stands.levels i) level) (level_at (stands.levels i) facts.level)) (stands-facts v words st stands t.1 i))
    (set.items (stands.access i))
