-- What is held by paths once the access table has changed at a slot.
use Rattle.std.proofs.Common.{◌≡◌, ℕ, ◌<◌, Bool, true, false, not, ◌&&◌, ◌||◌, ◌==◌, Option, Some, None, refl, sym, ap, ◌∙◌, arith}
use Rattle.std.specs.Prelude.{option_map}
use Rattle.std.specs.Cmp.{both_ways}
use Rattle.std.specs.FinMap as finite
use Rattle.std.specs.FinSet as set
use Rattle.std.proofs.lemmas.Bool.Decides.{nat_tests}
use Rattle.bk_object.specs.Modes.{AccessMode, has}
use Rattle.bk_object.specs.declared.modes.Modes.{Modes}
use Rattle.std.proofs.Common.{◌≢◌}
use Rattle.std.proofs.lemmas.Option.{same_Some}
use Rattle.bk_access.specs.Held.{modes_at}
use Rattle.bk_access.proofs.HeldLemmas.{elsewhere-with_modes}
use Rattle.bk_object.specs.Modes.{union, without}
use Rattle.bk_object.specs.Rows.{most_subjects}
use Rattle.bk_path.specs.Paths.{Path, is_same}
use Rattle.bk_path.specs.Orders.{same_path, is_same-itself}
use Rattle.bk_quota.specs.Charges.{passes}
use Rattle.bk_access.specs.Held.{Held, holds, added, removed}
use Rattle.bk_access.proofs.HeldLemmas.{holds-added, holds-removed}
use Rattle.bk_state.specs.State.{Triple}
use Rattle.bk_state.proofs.Orders.{triple_total}
use Rattle.bk_tree.specs.declared.place.Placed.{Placed}
use Rattle.bk_tree.specs.Objects.{Objects}
use Rattle.bk_store.specs.Stored.{triples_of}
use Rattle.bk_store.specs.Joined.{slot_in, is_held, access_of, HasSlots}
use Rattle.bk_store.proofs.Triples.{in_range, subject_in, member, triples_there, triple_apart, alike}

-- the triples that a change is about
abbrev pub is_about : (subject : ℕ) → Path → Modes → Triple → Bool
is_about subject path modes t = (t.0 == subject) && is_same t.1 path && has modes t.2

module _ (tree : Objects) (held : Held) (keeps : HasSlots tree held) (path : Path) (slot : ℕ) (at : slot_in tree path ≡ Some slot) where
  pub own_test : (p : Path) (k : ℕ) → slot_in tree p ≡ Some k → (k == slot) ≡ is_same p path
  own_test p k is = both_ways (k == slot) (is_same p path)
      (λ e. let same : k ≡ slot = grind (arith, nat_tests, e) in
      let one : p ≡ path = keeps.own p path slot (is ∙ ap Some same) at in
      ap (is_same p) (sym one) ∙ is_same-itself p)
      (λ e. let same : k ≡ slot = same_Some k slot (sym is ∙ ap (slot_in tree) (same_path p path e) ∙ at) in
      grind (arith, nat_tests, same))

  not_there : (p : Path) → slot_in tree p ≡ None → is_same p path ≡ false
  not_there p is = by (is_same p path) refl
    where
      by : (b : Bool) → is_same p path ≡ b → b ≡ false
      by true e = let both : Some slot ≡ None = sym at ∙ ap (slot_in tree) (sym (same_path p path e)) ∙ is in cc
      by false e = refl

  held-added : (subject : ℕ) (modes : Modes) (s : ℕ) (p : Path) (x : AccessMode) → is_held tree (added subject slot modes held) (s, p, x) ≡ (is_held tree held (s, p, x) || (((s == subject) && is_same p path) && has modes x))
  held-added subject modes s p x = by (slot_in tree p) refl
    where
      nothing : (a m : Bool) → ((a && false) && m) ≡ false
      nothing a m = grind arith

      by : (o : Option ℕ) → slot_in tree p ≡ o → passes (λ k. holds (added subject slot modes held) s k x) o ≡ (passes (λ k. holds held s k x) o || (((s == subject) && is_same p path) && has modes x))
      by None is = sym (ap (λ b. ((s == subject) && b) && has modes x) (not_there p is) ∙ nothing (s == subject) (has modes x))
      by (Some k) is = holds-added subject slot s k modes held x ∙ ap (λ b. holds held s k x || (((s == subject) && b) && has modes x)) (own_test p k is)

  held-removed : (subject : ℕ) (modes : Modes) (s : ℕ) (p : Path) (x : AccessMode) → is_held tree (removed subject slot modes held) (s, p, x) ≡ (is_held tree held (s, p, x) && not (((s == subject) && is_same p path) && has modes x))
  held-removed subject modes s p x = by (slot_in tree p) refl
    where
      by : (o : Option ℕ) → slot_in tree p ≡ o → passes (λ k. holds (removed subject slot modes held) s k x) o ≡ (passes (λ k. holds held s k x) o && not (((s == subject) && is_same p path) && has modes x))
      by None is = refl
      by (Some k) is = holds-removed subject slot s k modes held x ∙ ap (λ b. holds held s k x && not (((s == subject) && b) && has modes x)) (own_test p k is)

  pub access-added : (subject : ℕ) (modes : Modes) → subject < most_subjects → access_of tree (added subject slot modes held) ≡ set.union (access_of tree held) (set.from_list (triples_of subject path modes))
  access-added subject modes small = set.same_set triple_total triple_apart _ _ each
    where
      outside : (s : ℕ) → (s == subject) ≡ true → in_range s ≡ true
      outside s e = let same : s ≡ subject = grind (arith, nat_tests, e) in ap in_range same ∙ subject_in subject small

      joined : (r h a u m : Bool) → (a ≡ true → r ≡ true) → (r && (h || ((a && u) && m))) ≡ ((r && h) || ((a && u) && m))
      joined true h a u m f = refl
      joined false h true u m f = cc (f refl)
      joined false h false u m f = refl

      each : (t : Triple) → set.contains (access_of tree (added subject slot modes held)) t ≡ set.contains (set.union (access_of tree held) (set.from_list (triples_of subject path modes))) t
      each t =
          member tree (added subject slot modes held) t.0 t.1 t.2
          ∙ ap (λ b. in_range t.0 && b) (held-added subject modes t.0 t.1 t.2)
          ∙ joined (in_range t.0) (is_held tree held t) (t.0 == subject) (is_same t.1 path) (has modes t.2) (outside t.0)
          ∙ sym (set.contains-union triple_total (access_of tree held) (set.from_list (triples_of subject path modes)) t
          ∙ (λ i. member tree held t.0 t.1 t.2 i || (set.contains-from_list triple_total (triples_of subject path modes) t ∙ triples_there subject path modes t.0 t.1 t.2) i))

  pub access-removed : (subject : ℕ) (modes : Modes) → access_of tree (removed subject slot modes held) ≡ set.retain (access_of tree held) (λ t. not (is_about subject path modes t))
  access-removed subject modes = set.same_set triple_total triple_apart _ _ each
    where
      joined : (r h a u m : Bool) → (r && (h && not ((a && u) && m))) ≡ ((r && h) && not (a && u && m))
      joined r h a u m = grind arith

      each : (t : Triple) → set.contains (access_of tree (removed subject slot modes held)) t ≡ set.contains (set.retain (access_of tree held) (λ t. not (is_about subject path modes t))) t
      each t =
          member tree (removed subject slot modes held) t.0 t.1 t.2
          ∙ ap (λ b. in_range t.0 && b) (held-removed subject modes t.0 t.1 t.2)
          ∙ joined (in_range t.0) (is_held tree held t) (t.0 == subject) (is_same t.1 path) (has modes t.2)
          ∙ sym (set.contains-retain (access_of tree held) (λ t. not (is_about subject path modes t)) t (λ u e. alike (λ t. not (is_about subject path modes t)) t u e)
          ∙ ap (λ b. b && not (is_about subject path modes t)) (member tree held t.0 t.1 t.2))

  pub others-added : (subject : ℕ) (modes : Modes) (k : ℕ) → ((p : Path) → slot_in tree p ≢ Some k) → (s : ℕ) → modes_at (added subject slot modes held) s k ≡ modes_at held s k
  others-added subject modes k none s = elsewhere-with_modes subject slot s k (union (modes_at held subject slot) modes) held (λ both. none path (at ∙ ap Some (sym both.1)))

  pub others-removed : (subject : ℕ) (modes : Modes) (k : ℕ) → ((p : Path) → slot_in tree p ≢ Some k) → (s : ℕ) → modes_at (removed subject slot modes held) s k ≡ modes_at held s k
  others-removed subject modes k none s = elsewhere-with_modes subject slot s k (without (modes_at held subject slot) modes) held (λ both. none path (at ∙ ap Some (sym both.1)))

  pub store-added : (subject : ℕ) (modes : Modes) → HasSlots tree (added subject slot modes held)
  store-added subject modes = record { own = keeps.own; within = keeps.within; free = λ k none s. others-added subject modes k none s ∙ keeps.free k none s; places = keeps.places }

  pub store-removed : (subject : ℕ) (modes : Modes) → HasSlots tree (removed subject slot modes held)
  store-removed subject modes = record { own = keeps.own; within = keeps.within; free = λ k none s. others-removed subject modes k none s ∙ keeps.free k none s; places = keeps.places }

-- of an object that isn't there nothing is held
pub access-none : (tree : Objects) (held : Held) (path : Path) → finite.get tree path ≡ None → (subject : ℕ) (modes : Modes) →
    access_of tree held ≡ set.retain (access_of tree held) (λ t. not (is_about subject path modes t))
access-none tree held path none subject modes = set.same_set triple_total triple_apart _ _ each
  where
    gone : (r h a u m : Bool) → (h ≡ true → u ≡ false) → (r && h) ≡ ((r && h) && not (a && u && m))
    gone r false a u m f = grind arith
    gone r true a true m f = cc (f refl)
    gone r true a false m f = grind arith

    elsewhere : (t : Triple) → is_held tree held t ≡ true → is_same t.1 path ≡ false
    elsewhere t e = by (is_same t.1 path) refl
      where
        by : (b : Bool) → is_same t.1 path ≡ b → b ≡ false
        by true same =
            let not_held : is_held tree held t ≡ false = ap (λ p. is_held tree held (t.0, p, t.2)) (same_path t.1 path same) ∙ ap (λ o. passes (λ k. holds held t.0 k t.2) (option_map (λ (a : Placed). a.slot) o)) none in
            cc (sym e ∙ not_held)
        by false same = refl

    each : (t : Triple) → set.contains (access_of tree held) t ≡ set.contains (set.retain (access_of tree held) (λ t. not (is_about subject path modes t))) t
    each t =
        member tree held t.0 t.1 t.2
        ∙ gone (in_range t.0) (is_held tree held t) (t.0 == subject) (is_same t.1 path) (has modes t.2) (elsewhere t)
        ∙ sym (set.contains-retain (access_of tree held) (λ t. not (is_about subject path modes t)) t (λ u e. alike (λ t. not (is_about subject path modes t)) t u e)
        ∙ ap (λ b. b && not (is_about subject path modes t)) (member tree held t.0 t.1 t.2))
