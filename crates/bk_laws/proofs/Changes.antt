-- What the changes of a state leave: at each path, of each access, and in the rest.
use Rattle.std.proofs.Common.{◌≡◌, ◌≢◌, ℕ, zero, suc, [], ◌∷◌, ◌==◌, arith, Bool, true, false, ◌&&◌, ◌||◌, not, Option, Some, None, refl, sym, ap}
use Rattle.std.proofs.Common.{◌∙◌, is_eq, ◌⊎◌, inl, inr, unwrap_or, ◌<◌, length, true≢false}
use Rattle.std.proofs.lemmas.Bool.Decides.{nat_tests}
use Rattle.std.proofs.lemmas.List.{set-get_or, get_or-set_same}
use Rattle.std.specs.Prelude.{List, option_map, slice_get, slice_index, slice_set, if◌then◌else◌}
use Rattle.std.specs.Ordering.{eq_by_cmp}
use Rattle.std.specs.FinMap as map
use Rattle.std.specs.FinSet as set
use Rattle.bk_base.proofs.MapValues.{get-map_values}
use Rattle.bk_object.specs.Modes.{AccessMode}
use Rattle.bk_object.specs.declared.Facts.{Facts}
use Rattle.bk_path.specs.Paths.{Path, path_cmp, is_same, is_inferior}
use Rattle.bk_path.specs.Orders.{path_total, path_apart, same_path, ties-same}
use Rattle.bk_process.specs.declared.process.Process.{Process}
use Rattle.bk_space.specs.AddrSpace.{Write, applied, page_number}
use Rattle.bk_space.specs.Status.{word_of}
use Rattle.bk_space.specs.declared.reference.Mode.TheVariants.{Supervisor}
use Rattle.bk_space.specs.declared.reference.Space.TheVariants.{D}
use Rattle.bk_space.specs.declared.reference.Width.TheVariants.{Word}
use Rattle.bk_state.specs.State.{State, Object, Contents, Triple, triple_cmp, find, facts_at, holds, with_raised}
use Rattle.bk_state.specs.RowCalls.{changed_at, changed_by}
use Rattle.bk_state.specs.AccessCalls.{with_triple}
use Rattle.bk_state.specs.TreeCalls.{without_group}
use Rattle.bk_state.specs.Contents.{with_contents}
use Rattle.bk_system.specs.Arrivals.{taking, arrived}
use Rattle.bk_system.specs.Turn.{stored_in, written_by, written, less}
use Rattle.bk_state.proofs.Orders.{triple_total}
use Rattle.bk_state.proofs.Triples.{same_triple}
use Rattle.bk_laws.proofs.Tests.{false_if}

-- the facts of an object, if there is one
abbrev pub facts_in : Option Object → Option Facts
facts_in o = option_map (λ object. object.facts) o

-- the state with other objects
abbrev pub with_objects : State → map.FinMap path_cmp Object → State
with_objects v objects = record v { objects = objects }

-- the state with the objects and the current access set of another
abbrev pub with_changes : State → State → State
with_changes v w = record v { objects = w.objects; access = w.access }

-- the state with all but its fixed part given
abbrev pub moved : State → (current : List ℕ) → map.FinMap path_cmp Object → set.FinSet triple_cmp → List Process → State
moved v current objects access processes = record { fixed = v.fixed; current = current; objects = objects; access = access; processes = processes }

-- the two writes of a reflection: of the processor status, and of the program counter
abbrev pub status_push : Process → Write
status_push p = record { mode = Supervisor; space = D; width = Word; addr = less p.registers.supervisor 2; value = word_of p.registers.ps }

abbrev pub counter_push : Process → Write
counter_push p = record { mode = Supervisor; space = D; width = Word; addr = less p.registers.supervisor 4; value = p.registers.pc }

-- ---- accesses

-- what is held after a triple is added
pub holds-with_triple : (v : State) (s : ℕ) (path : Path) (mode : AccessMode) (j : ℕ) (other : Path) (x : AccessMode) →
    holds (with_triple v s path mode) j other x ≡ (eq_by_cmp triple_cmp (j, other, x) (s, path, mode) || holds v j other x)
holds-with_triple v s path mode j other x = set.contains-insert triple_total v.access (s, path, mode) (j, other, x)

-- a triple that is held after one is added is that one, or was held before
pub held_after : (v : State) (s : ℕ) (path : Path) (mode : AccessMode) (j : ℕ) (other : Path) (x : AccessMode) →
    holds (with_triple v s path mode) j other x ≡ true → ((j ≡ s) × (other ≡ path) × (x ≡ mode)) ⊎ (holds v j other x ≡ true)
held_after v s path mode j other x e = by (eq_by_cmp triple_cmp (j, other, x) (s, path, mode)) refl (sym (holds-with_triple v s path mode j other x) ∙ e)
  where
    by : (b : Bool) → eq_by_cmp triple_cmp (j, other, x) (s, path, mode) ≡ b → (b || holds v j other x) ≡ true → ((j ≡ s) × (other ≡ path) × (x ≡ mode)) ⊎ (holds v j other x ≡ true)
    by true is h = inl (same_triple (j, other, x) (s, path, mode) is)
    by false is h = inr h

-- what is left of the access set
pub holds-retain : (v : State) (keep : Triple → Bool) (s : ℕ) (path : Path) (x : AccessMode) →
    set.contains (set.retain v.access keep) (s, path, x) ≡ (holds v s path x && keep (s, path, x))
holds-retain v keep s path x =
    set.contains-retain v.access keep (s, path, x) (λ t same. let parts = same_triple (s, path, x) t (ap is_eq same) in λ i. keep (sym parts.0 i, sym parts.1 i, sym parts.2 i))

-- ---- objects

-- an object after one comes to a path, and its facts
pub find-insert : (v : State) (path : Path) (o : Object) (q : Path) →
    find (with_objects v (map.insert v.objects path o)) q ≡ (if is_same q path then Some o else find v q)
find-insert v path o q = map.get-insert path_total v.objects path o q ∙ ap (λ b. if b then Some o else find v q) (ties-same q path)

pub facts_at-insert : (v : State) (path : Path) (o : Object) (q : Path) →
    facts_at (with_objects v (map.insert v.objects path o)) q ≡ (if is_same q path then Some o.facts else facts_at v q)
facts_at-insert v path o q = ap facts_in (find-insert v path o q) ∙ by (is_same q path)
  where
    by : (b : Bool) → facts_in (if b then Some o else find v q) ≡ (if b then Some o.facts else facts_at v q)
    by true = refl
    by false = refl

-- an object after the one at a path becomes another
pub find-changed_at : (v : State) (path : Path) (f : Object → Object) (q : Path) →
    find (changed_at v path f) q ≡ (if is_same q path then option_map f (find v path) else find v q)
find-changed_at v path f q = by (map.get v.objects path) refl
  where
    none : (b : Bool) → is_same q path ≡ b → map.get v.objects path ≡ None → map.get v.objects q ≡ (if b then None else map.get v.objects q)
    none true is e = ap (map.get v.objects) (same_path q path is) ∙ e
    none false is e = refl

    by : (o : Option Object) → map.get v.objects path ≡ o → find (changed_by v path f o) q ≡ (if is_same q path then option_map f o else find v q)
    by None e = none (is_same q path) refl e
    by (Some o) e = find-insert v path (f o) q

pub facts-with_contents : (change : Contents → Contents) (o : Option Object) → facts_in (option_map (with_contents change) o) ≡ facts_in o
facts-with_contents change None = refl
facts-with_contents change (Some o) = refl

-- other contents change no facts
pub facts_at-contents : (v : State) (path : Path) (change : Contents → Contents) (q : Path) → facts_at (changed_at v path (with_contents change)) q ≡ facts_at v q
facts_at-contents v path change q = ap facts_in (find-changed_at v path (with_contents change) q) ∙ by (is_same q path) refl
  where
    by : (b : Bool) → is_same q path ≡ b → facts_in (if b then option_map (with_contents change) (find v path) else find v q) ≡ facts_at v q
    by true is = facts-with_contents change (find v path) ∙ ap (facts_at v) (sym (same_path q path is))
    by false is = refl

-- bytes that arrive on a line change its contents
pub find-arrived : (v : State) (line : ℕ) (bytes : List ℕ) (q : Path) → find (arrived v line bytes) q ≡ option_map (taking line bytes) (find v q)
unfolding arrived
find-arrived v line bytes q = get-map_values path_cmp (taking line bytes) v.objects q

-- and no facts
pub facts_at-arrived : (v : State) (line : ℕ) (bytes : List ℕ) (q : Path) → facts_at (arrived v line bytes) q ≡ facts_at v q
facts_at-arrived v line bytes q = ap facts_in (find-arrived v line bytes q) ∙ by (find v q)
  where
    by : (o : Option Object) → facts_in (option_map (taking line bytes) o) ≡ facts_in o
    by None = refl
    by (Some o) = refl

-- an object after a group goes, and its facts
pub find-without_group : (v : State) (path : Path) (q : Path) →
    find (without_group v path) q ≡ (if not (is_inferior q path) then find v q else None)
find-without_group v path q = map.get-retain_keys v.objects (λ x. not (is_inferior x path)) q (λ x same. ap (λ y. not (is_inferior y path)) (sym (path_apart q x same)))

pub facts_at-without_group : (v : State) (path : Path) (q : Path) →
    facts_at (without_group v path) q ≡ (if not (is_inferior q path) then facts_at v q else None)
facts_at-without_group v path q = ap facts_in (find-without_group v path q) ∙ by (is_inferior q path)
  where
    by : (b : Bool) → facts_in (if not b then find v q else None) ≡ (if not b then facts_at v q else None)
    by true = refl
    by false = refl

-- ---- processes

after_zero : (k : ℕ) → (suc k == 0) ≡ false
after_zero k = grind (arith, nat_tests)

before_suc : (n : ℕ) → (0 == suc n) ≡ false
before_suc n = grind (arith, nat_tests)

both_suc : (k n : ℕ) → (suc k == suc n) ≡ (k == n)
both_suc k n = by (k == n) refl
  where
    by : (b : Bool) → (k == n) ≡ b → (suc k == suc n) ≡ b
    by true same = grind (arith, nat_tests, same)
    by false apart = grind (arith, nat_tests, apart)

same_either : {A : Type 0} (b : Bool) (x : A) → x ≡ (if b then x else x)
same_either true x = refl
same_either false x = refl

-- a list after one of its values is set
pub slice_get-set : {A : Type 0} (xs : List A) (n : ℕ) (x : A) (k : ℕ) → slice_get (slice_set xs n x) k ≡ (if k == n then option_map (λ _. x) (slice_get xs k) else slice_get xs k)
slice_get-set [] n x k = same_either (k == n) None
slice_get-set (y ∷ ys) zero x zero = refl
slice_get-set (y ∷ ys) zero x (suc k) = ap (λ b. if b then option_map (λ _. x) (slice_get ys k) else slice_get ys k) (sym (after_zero k))
slice_get-set (y ∷ ys) (suc n) x zero = ap (λ b. if b then Some x else Some y) (sym (before_suc n))
slice_get-set (y ∷ ys) (suc n) x (suc k) = slice_get-set ys n x k ∙ ap (λ b. if b then option_map (λ _. x) (slice_get ys k) else slice_get ys k) (sym (both_suc k n))

pub slice_get-set_other : {A : Type 0} (xs : List A) (n : ℕ) (x : A) (k : ℕ) → k ≢ n → slice_get (slice_set xs n x) k ≡ slice_get xs k
slice_get-set_other xs n x k apart = slice_get-set xs n x k
    ∙ ap (λ b. if b then option_map (λ _. x) (slice_get xs k) else slice_get xs k) (false_if (k == n) (λ is. apart (grind (arith, nat_tests, is))))

-- ---- current levels

-- a number of a list after one of its numbers is set: as it was, or what was set
pub index-set : (xs : List ℕ) (s n j : ℕ) → (slice_index (slice_set xs s n) j ≡ slice_index xs j) ⊎ ((j ≡ s) × (slice_index (slice_set xs s n) j ≡ n))
index-set [] s n j = inl refl
index-set (x ∷ xs) zero n zero = inr (refl, refl)
index-set (x ∷ xs) zero n (suc j) = inl refl
index-set (x ∷ xs) (suc s) n zero = inl refl
index-set (x ∷ xs) (suc s) n (suc j) = elim (index-set xs s n j) [ inl e ↦ inl e | inr (e, f) ↦ inr (ap suc e, f) ]

pub index-set_same : (xs : List ℕ) (s n j : ℕ) → s < length xs → (j == s) ≡ true → slice_index (slice_set xs s n) j ≡ n
index-set_same xs s n j there is =
    let at : j ≡ s = grind (arith, nat_tests, is) in
    ap (slice_index (slice_set xs s n)) at ∙ get_or-set_same xs s n 0 there

pub index-set_other : (xs : List ℕ) (s n j : ℕ) → (j == s) ≡ false → slice_index (slice_set xs s n) j ≡ slice_index xs j
index-set_other xs s n j apart = by (index-set xs s n j)
  where
    by : (slice_index (slice_set xs s n) j ≡ slice_index xs j) ⊎ ((j ≡ s) × (slice_index (slice_set xs s n) j ≡ n)) → slice_index (slice_set xs s n) j ≡ slice_index xs j
    by (inl e) = e
    by (inr (at, e)) = let same : (j == s) ≡ true = grind (arith, nat_tests, at) in absurd (true≢false (sym same ∙ apart))

-- the number of a subject is set to what it is
pub set_itself : (xs : List ℕ) (s : ℕ) → slice_set xs s (slice_index xs s) ≡ xs
set_itself xs s = set-get_or xs s 0

-- what changes objects and current access set, and then raises a level if there is a number, changes no more than that
pub raised-is : (v w : State) (s : ℕ) (level : Option ℕ) → w ≡ with_changes v w →
    with_raised s level w ≡ record (with_changes v (with_raised s level w)) { current = slice_set v.current s (unwrap_or level (slice_index v.current s)) }
raised-is v w s None same = same ∙ (λ i. record (with_changes v w) { current = sym (set_itself v.current s) i })
raised-is v w s (Some level) same = λ i. record {
  fixed = (same i).fixed;
  current = slice_set (same i).current s level;
  objects = w.objects;
  access = w.access;
  processes = (same i).processes;
}

-- ---- all else

-- a change at one path changes objects alone
pub changed_at-is : (v : State) (path : Path) (change : Object → Object) → changed_at v path change ≡ with_objects v (changed_at v path change).objects
changed_at-is v path change = by (find v path)
  where
    by : (o : Option Object) → changed_by v path change o ≡ with_objects v (changed_by v path change o).objects
    by None = refl
    by (Some o) = refl

pub changed_at-changes : (v : State) (path : Path) (change : Object → Object) → changed_at v path change ≡ with_changes v (changed_at v path change)
changed_at-changes v path change = by (find v path)
  where
    by : (o : Option Object) → changed_by v path change o ≡ with_changes v (changed_by v path change o)
    by None = refl
    by (Some o) = refl

-- and so does a write
pub written-is : (windows : List (Option Path)) (v : State) (w : Write) → written windows v w ≡ with_objects v (written windows v w).objects
unfolding written
written-is windows v w = by (slice_get windows (page_number w.mode w.space w.addr))
  where
    by : (o : Option (Option Path)) → written_by v w o ≡ with_objects v (written_by v w o).objects
    by None = refl
    by (Some None) = refl
    by (Some (Some path)) = changed_at-is v path (with_contents (stored_in w))

pub applied-is : (windows : List (Option Path)) (v : State) (w : Option Write) →
    applied (written windows) v w ≡ with_objects v (applied (written windows) v w).objects
applied-is windows v None = refl
applied-is windows v (Some w) = written-is windows v w
