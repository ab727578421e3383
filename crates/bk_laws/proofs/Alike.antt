-- Two states in which the same lies under a level, subject by subject and path by path.
use Rattle.std.proofs.Common.{◌≡◌, ℕ, Bool, true, false, ◌&&◌, [], ◌∷◌, Option, Some, None, length, refl, sym, ap, ◌∙◌, subst, nat_lt}
use Rattle.std.specs.Prelude.{List, slice_index, if◌then◌else◌}
use Rattle.std.specs.Cmp.{both_ways}
use Rattle.std.specs.FinMap as map
use Rattle.std.specs.FinSet as set
use Rattle.bk_level.specs.Levels.{Level, dominates}
use Rattle.bk_level.proofs.LevelOrder.{and_second, dominates-trans}
use Rattle.bk_path.specs.Paths.{Path, path_cmp}
use Rattle.bk_object.specs.Modes.{AccessMode}
use Rattle.bk_object.specs.Kinds.{is_directory}
use Rattle.bk_object.specs.declared.Facts.{Facts}
use Rattle.bk_process.specs.declared.process.Process.{Process}
use Rattle.bk_quota.specs.Charges.{passes}
use Rattle.bk_state.specs.State.{State, Fixed, Object, triple_cmp, find, facts_at, holds, process_of, current_level, level_of}
use Rattle.bk_state.specs.Secure.{Secure}
use Rattle.bk_laws.proofs.Changes.{facts_in, with_objects, moved}
use Rattle.bk_state.specs.Low.{is_subject_under, is_under, shows, contents_under, low}
use Rattle.bk_laws.proofs.Tests.{some_same, passes_more, passes_there}
use Rattle.bk_laws.proofs.SecureFrame.{is_above}

-- What lies under the level is the same in both. The second state has the first's fixed part.
pub record Alike (level : Level) (v w : State) : Type 0 where
  pub subjects : (s : ℕ) → is_subject_under level v s ≡ is_subject_under level w s
  pub current : (s : ℕ) → is_subject_under level v s ≡ true → slice_index v.current s ≡ slice_index w.current s
  pub process : (s : ℕ) → is_subject_under level v s ≡ true → process_of v s ≡ process_of w s
  pub holds_same : (s : ℕ) (path : Path) (mode : AccessMode) → is_subject_under level v s ≡ true → holds v s path mode ≡ holds w s path mode
  pub shows_same : (path : Path) → shows level v path ≡ shows level w path
  pub facts : (path : Path) → shows level v path ≡ true → facts_at v path ≡ facts_at w path
  pub contents : (path : Path) → contents_under level v (find v path) ≡ contents_under level v (find w path)

-- the state with the fixed part of another
abbrev pub fixed_to : Fixed → State → State
fixed_to fixed w = record w { fixed = fixed }

if_alike : {A : Type 0} (a b : Bool) (x y z : A) → a ≡ b → (a ≡ true → x ≡ y) → (if a then x else z) ≡ (if b then y else z)
if_alike true b x y z e same = same refl ∙ ap (λ c. if c then y else z) e
if_alike false b x y z e same = ap (λ c. if c then y else z) e

and_alike : (a b x y : Bool) → a ≡ b → (a ≡ true → x ≡ y) → (a && x) ≡ (b && y)
and_alike true b x y e same = same refl ∙ ap (λ c. c && y) e
and_alike false b x y e same = ap (λ c. c && y) e

-- then the low views are the same
pub low_from_alike : (level : Level) (v : State) (current : List ℕ) (objects : map.FinMap path_cmp Object) (access : set.FinSet triple_cmp) (processes : List Process) →
    Alike level v (moved v current objects access processes) → low level v ≡ low level (moved v current objects access processes)
unfolding low
low_from_alike level v current objects access processes alike = λ i. record {
  fixed = v.fixed;
  subjects = λ s. alike.subjects s i;
  current = λ s. if_alike (is_subject_under level v s) (is_subject_under level w s) (Some (slice_index v.current s)) (Some (slice_index w.current s)) None (alike.subjects s) (λ h. ap Some (alike.current s h)) i;
  process = λ s. if_alike (is_subject_under level v s) (is_subject_under level w s) (process_of v s) (process_of w s) None (alike.subjects s) (alike.process s) i;
  holds = λ s path mode. and_alike (is_subject_under level v s) (is_subject_under level w s) (holds v s path mode) (holds w s path mode) (alike.subjects s) (alike.holds_same s path mode) i;
  facts = λ path. if_alike (shows level v path) (shows level w path) (facts_at v path) (facts_at w path) None (alike.shows_same path) (alike.facts path) i;
  contents = λ path. alike.contents path i;
}
  where
    w : State
    w = moved v current objects access processes

-- an object whose level is under the level shows
pub shows_under : (level : Level) (v : State) (path : Path) → Secure v → passes (is_under level v) (facts_at v path) ≡ true → shows level v path ≡ true
shows_under level v [] sec under = refl
shows_under level v (entry ∷ path) sec under =
    let (f, there) = passes_there _ _ under in
    let f_under : is_under level v f ≡ true = subst (λ a. passes (is_under level v) a ≡ true) there under in
    passes_more _ _ (facts_at v path) (λ above is h. dominates-trans level (level_of v f) (level_of v above) f_under (and_second (is_directory above.kind) _ h))
    (sec.parents entry path f there)

module _ (level : Level) (v : State) (s : ℕ) (under : is_subject_under level v s ≡ true) where
  pub current_under : dominates level (current_level v s) ≡ true
  current_under = and_second (nat_lt s (length v.fixed.subjects)) _ under

  -- what the current level of a subject under the level dominates lies under the level
  pub above_under : (o : Option Facts) → passes (is_above v s) o ≡ true → passes (is_under level v) o ≡ true
  above_under o h = passes_more _ _ o (λ facts is d. dominates-trans level (current_level v s) (level_of v facts) current_under d) h

  -- so what the subject holds shows
  pub held_shows : Secure v → (path : Path) (mode : AccessMode) → holds v s path mode ≡ true → shows level v path ≡ true
  held_shows sec [] mode held = refl
  held_shows sec (entry ∷ path) mode held = above_under (facts_at v path) (sec.naming s entry path mode held)

-- the contents of an object that is not under the level are not seen
pub nothing_under : (level : Level) (v : State) (o : Option Object) → passes (is_under level v) (facts_in o) ≡ false → contents_under level v o ≡ None
nothing_under level v None high = refl
nothing_under level v (Some o) high = ap (λ b. if b then Some o.contents else None) high

-- where the low views are the same, the same subjects are under the level
pub subject-low : (level : Level) (v w : State) → low level v ≡ low level w → (s : ℕ) → is_subject_under level v s ≡ is_subject_under level w s
unfolding low
subject-low level v w same s = ap (λ view. view.subjects s) same

if_true : {A : Type 0} (b : Bool) (x y z : A) → b ≡ true → (if b then x else z) ≡ (if b then y else z) → x ≡ y
if_true true x y z is e = e
if_true false x y z is e = cc

and_true : (b x y : Bool) → b ≡ true → (b && x) ≡ (b && y) → x ≡ y
and_true true x y is e = e
and_true false x y is e = cc

module _ (level : Level) (fixed : Fixed) where
  shows_there : (a b : State) → low level (fixed_to fixed a) ≡ low level (fixed_to fixed b) → Secure (fixed_to fixed a) → (path : Path) →
      shows level (fixed_to fixed a) path ≡ true → shows level (fixed_to fixed b) path ≡ true
  unfolding low
  shows_there a b e sec [] h = refl
  shows_there a b e sec (n ∷ path) h =
      let same = sym (ap (λ c. if c then facts_at a path else None) (shows_under level (fixed_to fixed a) path sec h)) ∙ ap (λ x. x.facts path) e in
      found (shows level (fixed_to fixed b) path) (subst (λ o. passes (is_under level (fixed_to fixed a)) o ≡ true) same h)
    where
      found : (c : Bool) → passes (is_under level (fixed_to fixed a)) (if c then facts_at b path else None) ≡ true → passes (is_under level (fixed_to fixed a)) (facts_at b path) ≡ true
      found true h = h
      found false h = cc

-- and where the low views are the same, so is each part
pub alike_from_low : (level : Level) (v w : State) → Secure v → Secure (fixed_to v.fixed w) → low level v ≡ low level (fixed_to v.fixed w) → Alike level v (fixed_to v.fixed w)
unfolding low
alike_from_low level v w sv sw e = record {
  subjects = subjects;
  current = λ s h. some_same (if_true (is_subject_under level v s) (Some (slice_index v.current s)) (Some (slice_index w.current s)) None h
      (ap (λ x. x.current s) e ∙ ap (λ c. if c then Some (slice_index w.current s) else None) (sym (subjects s))));
  process = λ s h. if_true (is_subject_under level v s) _ _ None h (ap (λ x. x.process s) e ∙ ap (λ c. if c then process_of w s else None) (sym (subjects s)));
  holds_same = λ s path mode h. and_true (is_subject_under level v s) _ _ h (ap (λ y. y.holds s path mode) e ∙ ap (λ c. c && holds w s path mode) (sym (subjects s)));
  shows_same = shows_same;
  facts = λ path h. if_true (shows level v path) _ _ None h (ap (λ x. x.facts path) e ∙ ap (λ c. if c then facts_at w path else None) (sym (shows_same path)));
  contents = λ path. ap (λ x. x.contents path) e;
}
  where
    subjects : (s : ℕ) → is_subject_under level v s ≡ is_subject_under level (fixed_to v.fixed w) s
    subjects s = ap (λ x. x.subjects s) e

    shows_same : (path : Path) → shows level v path ≡ shows level (fixed_to v.fixed w) path
    shows_same path = both_ways _ _ (shows_there level v.fixed v w e sv path) (shows_there level v.fixed w v (sym e) sw path)

-- The object at a path whose own level is under the level is the same, where its facts are the same.
pub same_object : (level : Level) (v w : State) → Alike level v w → Secure v → (path : Path) → passes (is_under level v) (facts_at v path) ≡ true → find v path ≡ find w path
same_object level v w alike sec path under = by (find v path) (find w path) under (alike.facts path (shows_under level v path sec under)) (alike.contents path)
  where
    both : (x y : Object) → x.facts ≡ y.facts → x.contents ≡ y.contents → Some x ≡ Some y
    both x y f c = λ i. Some (record { facts = f i; contents = c i })

    by : (a b : Option Object) → passes (is_under level v) (facts_in a) ≡ true → facts_in a ≡ facts_in b →
        contents_under level v a ≡ contents_under level v b → a ≡ b
    by None b under f c = cc
    by (Some x) None under f c = cc
    by (Some x) (Some y) under f c =
        let facts : x.facts ≡ y.facts = some_same f in
        let shown = if_true (is_under level v x.facts) (Some x.contents) (Some y.contents) None under (c ∙ ap (λ f. if is_under level v f then Some y.contents else None) (sym facts)) in
        both x y facts (some_same shown)

pub alike_itself : (level : Level) (v : State) → Alike level v v
alike_itself level v = record {
  subjects = λ s. refl;
  current = λ s h. refl;
  process = λ s h. refl;
  holds_same = λ s path mode h. refl;
  shows_same = λ path. refl;
  facts = λ path h. refl;
  contents = λ path. refl;
}

-- It stays so with other objects in both that have the same facts as before, and contents under the level that are the same.
pub alike-contents : (level : Level) (v w : State) → Alike level v (fixed_to v.fixed w) → (a b : map.FinMap path_cmp Object) →
    ((path : Path) → facts_in (map.get a path) ≡ facts_at v path) → ((path : Path) → facts_in (map.get b path) ≡ facts_at w path) →
    ((path : Path) → contents_under level v (map.get a path) ≡ contents_under level v (map.get b path)) →
    Alike level (with_objects v a) (with_objects (fixed_to v.fixed w) b)
alike-contents level v w alike a b same_v same_w contents = record {
  subjects = alike.subjects;
  current = alike.current;
  process = alike.process;
  holds_same = alike.holds_same;
  shows_same = shows_same;
  facts = λ path h. same_v path ∙ alike.facts path (shown path h) ∙ sym (same_w path);
  contents = contents;
}
  where
    shows_same : (path : Path) → shows level (with_objects v a) path ≡ shows level (with_objects (fixed_to v.fixed w) b) path
    shows_same [] = refl
    shows_same (entry ∷ path) =
        ap (passes (is_under level v)) (same_v path) ∙ alike.shows_same (entry ∷ path) ∙ sym (ap (passes (is_under level v)) (same_w path))

    shown : (path : Path) → shows level (with_objects v a) path ≡ true → shows level v path ≡ true
    shown [] h = refl
    shown (entry ∷ path) h = sym (ap (passes (is_under level v)) (same_v path)) ∙ h
