-- A store of root alone, the holds of an image one after another, and the state that comes of both.
use Rattle.std.proofs.Common.{◌≡◌, ℕ, ◌+◌, ◌<◌, ◌≤◌, Bool, true, false, cond, not, ◌&&◌, ◌||◌, ◌==◌, List, [], ◌∷◌, ◌++◌, length, take}
use Rattle.std.proofs.Common.{drop, get_or, Option, Some, None, is_none, is_some, refl, sym, ap, subst, ◌∙◌, arith}
use Rattle.std.proofs.Math.Seq.{take-length}
use Rattle.std.proofs.lemmas.List.{get_or_default}
use Rattle.std.proofs.lemmas.List.Folds.{list_any-append}
use Rattle.std.proofs.lemmas.Simd.{map-map}
use Rattle.std.specs.Prelude.{option_map, flat_map, All}
use Rattle.std.specs.List.{list_any}
use Rattle.std.specs.Ordering.{eq_by_cmp}
use Rattle.std.specs.FinMap as map
use Rattle.std.specs.FinSet as set
use Rattle.bk_level.specs.Levels.{Level}
use Rattle.bk_object.specs.Kinds.{is_directory}
use Rattle.bk_object.specs.declared.kind.Kind.{Kind}
use Rattle.bk_object.specs.declared.kind.Kind.TheVariants.{Directory, Segment, Mailbox, Line}
use Rattle.bk_path.specs.Paths.{Path, path_cmp, is_root}
use Rattle.bk_path.specs.Orders.{path_total, path_apart}
use Rattle.bk_state.specs.State.{Object, Children, State, Triple, triple_cmp}
use Rattle.bk_state.specs.Start.{contents_from, object_from, state_of, triples_from}
use Rattle.bk_state.specs.declared.clearance.Clearance.{Clearance}
use Rattle.bk_state.specs.declared.image.Hold.{Hold}
use Rattle.bk_state.specs.declared.image.Image.{Image}
use Rattle.bk_state.specs.declared.image.ObjectRec.{ObjectRec}
use Rattle.bk_state.proofs.Orders.{triple_total}
use Rattle.bk_image.specs.Accepted.{IsAccepted}
use Rattle.bk_image.specs.Objects.{objects_in, facts_at, fits_cell, fits_kind, has_cell, level_above}
use Rattle.bk_image.proofs.SecureLists.{Stands, lt_of, not_false, not_true, within, zero_of}
use Rattle.bk_image.proofs.SecureObjects.{checked_at, root_stands}
use Rattle.bk_image.proofs.Shares.{from_place}
use Rattle.bk_store.specs.Stored.{Entry, NoQueue, Stored, begun, object_of, objects_of, with_held}
use Rattle.bk_store.proofs.Stands.{get-objects_of}
use Rattle.bk_store.proofs.Triples.{triple_apart}
use Rattle.bk_load.specs.declared.beginning.Beginning.{Beginning}
use Rattle.bk_load.specs.Beginning.{clearance_from, HasBegun}
use Rattle.bk_load.specs.Kept.{current_levels, greatest_levels}
use Rattle.bk_load.specs.Loading.{with_holds, CanHold, HasFront, IsLoaded}
use Rattle.bk_load.proofs.Fronts.{stands_at}

-- ---- root

-- the facts of root
pub record IsRoot (image : Image) (o : ObjectRec) : Type 0 where
  pub directory : is_directory o.facts.kind ≡ true
  pub blocks : o.facts.blocks ≡ 0
  pub quota : (1 ≤ o.facts.quota) × (o.facts.quota ≤ 3904)
  pub level : o.facts.level < length image.levels

-- the first object is root
pub first_root : (image : Image) → IsAccepted image → (o : ObjectRec) → o ≡ get_or image.objects 0 o → IsRoot image o
first_root image accepted o is =
    let (first, rest, all, path, directory) = root_stands image accepted in
    let same : first ≡ o = sym (is ∙ ap (λ objects. get_or objects 0 o) all) in
    let c = checked_at image accepted first (record { front = []; tail = rest; whole = sym all }) in
    subst (λ x. IsRoot image x) same (record {
      directory = directory;
      blocks = none first.facts.kind first.facts.blocks directory c.kind;
      quota = within 1 3904 first.facts.quota (not_true _ (ap (λ b. fits_cell b first.facts.quota) (sym (cell first path)) ∙ c.quota));
      level = lt_of first.facts.level (length image.levels) c.listed;
    })
  where
    none : (kind : Kind) (blocks : ℕ) → is_directory kind ≡ true → fits_kind image.lines [] kind blocks ≡ true → blocks ≡ 0
    none Directory blocks h fits = zero_of blocks fits
    none Segment blocks h fits = cc
    none Mailbox blocks h fits = cc
    none (Line n) blocks h fits = cc

    cell : (x : ObjectRec) → x.path ≡ [] → has_cell (objects_in []) x ≡ true
    cell x path = ap (λ p. is_root p || is_directory x.facts.kind && not (level_above (objects_in []) p == x.facts.level)) path

nothing : (kind : Kind) (blocks : ℕ) (words : List ℕ) → is_directory kind ≡ true → contents_from kind blocks words ≡ Children
nothing Directory blocks words h = refl
nothing Segment blocks words h = cc
nothing Mailbox blocks words h = cc
nothing (Line n) blocks words h = cc

-- a store of root alone has that one object
alone : (levels : List Level) (lines : ℕ) (words : List ℕ) (o : ObjectRec) → o.path ≡ [] → is_directory o.facts.kind ≡ true → objects_of (begun levels lines o.facts) words ≡ objects_in (o ∷ [])
unfolding objects_in
alone levels lines words o path directory = map.same_map path_total path_apart _ _ (λ q.
    get-objects_of (begun levels lines o.facts) words q
    ∙ ap (option_map (object_of words)) (map.get-from_entries path_total (([], entry) ∷ []) q)
    ∙ by (eq_by_cmp path_cmp q [])
    ∙ (λ i. cond (eq_by_cmp path_cmp q (sym path i)) (Some (object_from o)) None)
    ∙ sym (map.get-from_entries path_total ((o.path, object_from o) ∷ []) q))
  where
    entry : Entry
    entry = record { facts = o.facts; extent = None; queue = NoQueue }

    by : (b : Bool) → option_map (object_of words) (cond b (Some entry) None) ≡ cond b (Some (object_from o)) None
    by true = λ i. Some (record { facts = o.facts; contents = sym (nothing o.facts.kind o.facts.blocks o.words directory) i })
    by false = refl

-- a store of root alone has the first object
pub has_root : (image : Image) → IsAccepted image → (o : ObjectRec) → o ≡ get_or image.objects 0 o → (v : Stored) → v ≡ begun image.levels image.lines o.facts → (words : List ℕ) → HasFront image 1 v words
has_root image accepted o is v begins words =
    let (first, rest, all, path, directory) = root_stands image accepted in
    let same : o ≡ first = is ∙ ap (λ objects. get_or objects 0 o) all in
    let front : take 1 image.objects ≡ o ∷ [] = ap (take 1) all ∙ ap (λ x. x ∷ []) (sym same) in
    record {
      objects = ap (λ w. objects_of w words) begins ∙ alone image.levels image.lines words o (ap (λ x. x.path) same ∙ path) (ap (λ x. is_directory x.facts.kind) same ∙ directory) ∙ ap objects_in (sym front);
      access = ap (λ w. w.access) begins;
      levels = ap (λ w. w.levels) begins;
      lines = ap (λ w. w.lines) begins;
    }

-- ---- holds

union-lists : (access : set.FinSet triple_cmp) (xs ys : List Triple) → set.union (set.union access (set.from_list xs)) (set.from_list ys) ≡ set.union access (set.from_list (xs ++ ys))
union-lists access xs ys = set.same_set triple_total triple_apart _ _ (λ t.
    set.contains-union triple_total (set.union access (set.from_list xs)) (set.from_list ys) t
    ∙ (λ i. (set.contains-union triple_total access (set.from_list xs) t ∙ ap (λ b. set.contains access t || b) (set.contains-from_list triple_total xs t)) i || set.contains-from_list triple_total ys t i)
    ∙ either (set.contains access t) (list_any (eq_by_cmp triple_cmp t) xs) (list_any (eq_by_cmp triple_cmp t) ys)
    ∙ ap (λ b. set.contains access t || b) (sym (set.contains-from_list triple_total (xs ++ ys) t ∙ list_any-append (eq_by_cmp triple_cmp t) xs ys))
    ∙ sym (set.contains-union triple_total access (set.from_list (xs ++ ys)) t))
  where
    either : (a b c : Bool) → ((a || b) || c) ≡ (a || (b || c))
    either true b c = refl
    either false b c = refl

union-nothing : (access : set.FinSet triple_cmp) → set.union access (set.from_list []) ≡ access
union-nothing access = set.same_set triple_total triple_apart _ _ (λ t.
    set.contains-union triple_total access (set.from_list []) t ∙ ap (λ b. set.contains access t || b) (set.contains-from_list triple_total [] t) ∙ none (set.contains access t))
  where
    none : (a : Bool) → (a || false) ≡ a
    none true = refl
    none false = refl

nothing-union : (access : set.FinSet triple_cmp) → set.union set.empty access ≡ access
nothing-union access = set.same_set triple_total triple_apart _ _ (λ t.
    set.contains-union triple_total set.empty access t ∙ ap (λ b. b || set.contains access t) (set.contains-empty triple_cmp t))

-- one hold, and those after it
pub held_next : (v : Stored) (holds : List Hold) (i : ℕ) (hold : Hold) → i < length holds → hold ≡ get_or holds i hold →
    with_holds (drop (i + 1) holds) (with_held hold.subject hold.path hold.modes v) ≡ with_holds (drop i holds) v
held_next v holds i hold lt is =
    (λ k. record v { access = union-lists v.access (triples_from hold) (flat_map triples_from (drop (i + 1) holds)) k })
    ∙ ap (λ hs. with_holds hs v) (sym (from_place holds i hold lt is))

pub held_all : (v : Stored) (holds : List Hold) → holds ≡ [] → with_holds holds v ≡ v
held_all v holds is = ap (λ hs. with_holds hs v) is ∙ (λ k. record v { access = union-nothing v.access k })

-- the holds of an accepted image are of subjects and objects that are there
pub can_hold : (image : Image) → IsAccepted image → (n : ℕ) → n ≡ length image.objects → (v : Stored) (words : List ℕ) → HasFront image n v words → All (CanHold v) image.holds
can_hold image accepted n whole v words front i d lt = by (get_or image.holds i d) (stands_at image.holds i (get_or image.holds i d) lt (same image.holds i d lt))
  where
    same : (holds : List Hold) (k : ℕ) (e : Hold) → k < length holds → get_or holds k e ≡ get_or holds k (get_or holds k e)
    same holds k e lt = get_or_default holds k e (get_or holds k e) lt

    objects : objects_of v words ≡ objects_in image.objects
    objects = front.objects ∙ ap (λ k. objects_in (take k image.objects)) whole ∙ ap objects_in (take-length image.objects)

    there : (path : Path) (e : Option Entry) → map.get v.objects path ≡ e → is_none (option_map (λ (x : Object). x.facts) (option_map (object_of words) e)) ≡ false → is_some e ≡ true
    there path None is h = cc
    there path (Some e) is h = refl

    by : (hold : Hold) → Stands image.holds hold → CanHold v hold
    by hold at =
        let c = accepted.holds at.front hold at.tail at.whole in
        let subject : hold.subject < length image.subjects = lt_of hold.subject (length image.subjects) (not_false _ c.0) in
        let exists : is_none (facts_at (objects_in image.objects) hold.path) ≡ false = c.1.1.1.1.0 in
        record {
          subject = omega (arith, subject, accepted.counts.subjects);
          there = there hold.path (map.get v.objects hold.path) refl (ap (λ (o : Option Object). is_none (option_map (λ (x : Object). x.facts) o)) (sym (get-objects_of v words hold.path) ∙ ap (λ m. map.get m hold.path) objects) ∙ exists);
        }

-- ---- the state

pub loaded : (image : Image) (n : ℕ) (v w : Stored) (words : List ℕ) → n ≡ length image.objects → HasFront image n v words → w ≡ with_holds image.holds v → IsLoaded image w words
unfolding state_of objects_in
loaded image n v w words whole front held =
    subst (λ x. IsLoaded image x words) (sym held) (record {
      objects = front.objects ∙ ap (λ k. objects_in (take k image.objects)) whole ∙ ap objects_in (take-length image.objects);
      access = ap (λ access. set.union access (set.from_list (flat_map triples_from image.holds))) front.access ∙ nothing-union (set.from_list (flat_map triples_from image.holds));
      levels = front.levels;
      lines = front.lines;
    })

abbrev together : Stored → (words : List ℕ) → Beginning → State
together v words b = record {
  fixed = record { levels = v.levels; subjects = greatest_levels b.clearances.items; lines = b.lines.items; turns = b.turns; schedule = b.schedule.items };
  current = current_levels b.clearances.items;
  objects = objects_of v words;
  access = v.access;
  processes = b.processes.items;
}

-- store, core and what is beside them are the image's state
pub all_begun : (image : Image) (v : Stored) (words : List ℕ) (b : Beginning) → IsLoaded image v words → HasBegun image b → together v words b ≡ state_of image
unfolding state_of
all_begun image v words b store beside = λ i. record {
  fixed = record {
    levels = store.levels i;
    subjects = (ap greatest_levels beside.clearances ∙ map-map (λ (c : Clearance). c.greatest) clearance_from image.subjects) i;
    lines = beside.lines i;
    turns = beside.turns i;
    schedule = beside.schedule i;
  };
  current = (ap current_levels beside.clearances ∙ map-map (λ (c : Clearance). c.current) clearance_from image.subjects) i;
  objects = store.objects i;
  access = store.access i;
  processes = beside.processes i;
}
