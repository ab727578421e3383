-- A store stands for a state, and each change of the store for that change of the state.
use Rattle.std.proofs.Common.{◌≡◌, ℕ, Bool, true, false, cond, not, ◌||◌, List, [], ◌∷◌, Option, Some, None, refl, sym, ap, subst, ◌∙◌}
use Rattle.std.specs.Prelude.{option_map, if◌then◌else◌}
use Rattle.std.specs.Ordering.{eq_by_cmp}
use Rattle.std.specs.FinMap as finite
use Rattle.std.specs.FinSet as set
use Rattle.bk_base.specs.Maps.{map_values}
use Rattle.bk_base.proofs.MapValues.{get-map_values}
use Rattle.bk_object.specs.declared.modes.Modes.{Modes}
use Rattle.bk_object.specs.Modes.{AccessMode, Read, Execute, Write, Append, mode_number}
use Rattle.bk_object.specs.declared.Facts.{Facts}
use Rattle.bk_object.specs.Rows.{given, rescinded}
use Rattle.bk_path.specs.Paths.{Path, path_cmp, is_inferior}
use Rattle.bk_path.specs.Orders.{path_total, path_apart}
use Rattle.bk_frames.specs.Extents.{Extent}
use Rattle.bk_state.specs.Start.{is_line}
use Rattle.bk_state.specs.State.{State, facts_at, triple_cmp, Object, Contents, Words, find}
use Rattle.bk_quota.specs.Charges.{level_in}
use Rattle.bk_state.specs.Quota.{governing, quota_at, used, level_number as state_level_number}
use Rattle.bk_state.specs.AccessCalls.{with_triple, without_triples}
use Rattle.bk_state.specs.RowCalls.{changed_at as state_changed_at, changed_by as state_changed_by, with_row as with_state_row}
use Rattle.bk_state.specs.TreeCalls.{without_group as without_state_group}
use Rattle.bk_state.proofs.Orders.{triple_total}
use Rattle.bk_store.specs.Stored.{Entry, Queue, Stored, IsCreated, cell_of, changed_at, changed_by, contents_in, facts_in, fresh, queued}
use Rattle.bk_store.specs.Stored.{level_number, object_of, objects_of, triples_of, typing, waiting_in, with_given, with_held, with_input}
use Rattle.bk_store.specs.Stored.{with_queue, with_rescinded, with_row, with_typed, without_group, without_held, word_written}
use Rattle.bk_store.specs.Stands.{StandsFor}
use Rattle.bk_store.proofs.Cells.{facts-same, level-same, usage-same, usage_in}
use Rattle.bk_store.proofs.Triples.{triple_apart}

-- an object of the line becomes another in its contents
abbrev pub taking : ℕ → (Contents → Contents) → Object → Object
taking line becomes o = record { facts = o.facts; contents = if is_line line o.facts.kind then becomes o.contents else o.contents }

pub get-objects_of : (v : Stored) (words : List ℕ) (p : Path) → finite.get (objects_of v words) p ≡ option_map (object_of words) (finite.get v.objects p)
get-objects_of v words p = get-map_values path_cmp (object_of words) v.objects p

-- one object more, or another one in its place
pub objects_of-insert : (words : List ℕ) (m : finite.FinMap path_cmp Entry) (path : Path) (e : Entry) → map_values (object_of words) (finite.insert m path e) ≡ finite.insert (map_values (object_of words) m) path (object_of words e)
objects_of-insert words m path e = finite.same_map path_total path_apart _ _ (λ q.
    get-map_values path_cmp (object_of words) (finite.insert m path e) q ∙ ap (option_map (object_of words)) (finite.get-insert path_total m path e q)
    ∙ by (eq_by_cmp path_cmp q path) (finite.get m q)
    ∙ sym (finite.get-insert path_total (map_values (object_of words) m) path (object_of words e) q ∙ ap (cond (eq_by_cmp path_cmp q path) (Some (object_of words e))) (get-map_values path_cmp (object_of words) m q)))
  where
    by : (b : Bool) (o : Option Entry) → option_map (object_of words) (cond b (Some e) o) ≡ cond b (Some (object_of words e)) (option_map (object_of words) o)
    by true o = refl
    by false o = refl

module _ (v : Stored) (words : List ℕ) (s : State) (stands : StandsFor v words s) where
  -- the object that is found is the state's
  pub found : (path : Path) → option_map (object_of words) (finite.get v.objects path) ≡ find s path
  found path = sym (get-objects_of v words path) ∙ ap (λ m. finite.get m path) stands.objects

  -- one object becomes another
  pub stands-changed : (path : Path) (change : Entry → Entry) (becomes : Object → Object) → ((e : Entry) → object_of words (change e) ≡ becomes (object_of words e)) →
      StandsFor (changed_at path change v) words (state_changed_at s path becomes)
  stands-changed path change becomes agree = subst (λ o. StandsFor (changed_at path change v) words (state_changed_by s path becomes o)) (found path) (by (finite.get v.objects path))
    where
      by : (o : Option Entry) → StandsFor (changed_by v path change o) words (state_changed_by s path becomes (option_map (object_of words) o))
      by None = stands
      by (Some e) = record {
        levels = stands.levels;
        lines = stands.lines;
        objects = objects_of-insert words v.objects path (change e) ∙ (λ i. finite.insert (stands.objects i) path (agree e i));
        access = stands.access;
      }

  -- the row grants more
  pub stands-given : (subject : ℕ) (path : Path) (modes : Modes) → StandsFor (with_given subject path modes v) words (state_changed_at s path (with_state_row (given subject modes)))
  stands-given subject path modes = stands-changed path (with_row (given subject modes)) (with_state_row (given subject modes)) (λ e. refl)

  -- the subject no longer holds the object by these modes
  pub stands-released : (subject : ℕ) (path : Path) (modes : Modes) → StandsFor (without_held subject path modes v) words (without_triples s subject path modes)
  stands-released subject path modes = record {
    levels = stands.levels;
    lines = stands.lines;
    objects = stands.objects;
    access = λ i. (without_triples (record s { access = stands.access i }) subject path modes).access;
  }

  -- the subject holds the object by one mode more
  pub stands-held : (subject : ℕ) (path : Path) (mode : AccessMode) → StandsFor (with_held subject path (record { 0 = mode_number mode }) v) words (with_triple s subject path mode)
  stands-held subject path mode = record {
    levels = stands.levels;
    lines = stands.lines;
    objects = stands.objects;
    access = ap (λ ts. set.union v.access (set.from_list ts)) (one mode) ∙ added v.access ∙ ap (λ a. set.insert a (subject, path, mode)) stands.access;
  }
    where
      one : (x : AccessMode) → triples_of subject path (record { 0 = mode_number x }) ≡ (subject, path, x) ∷ []
      one Read = refl
      one Execute = refl
      one Write = refl
      one Append = refl

      added : (access : set.FinSet triple_cmp) → set.union access (set.from_list ((subject, path, mode) ∷ [])) ≡ set.insert access (subject, path, mode)
      added access = set.same_set triple_total triple_apart _ _ (λ t.
          set.contains-union triple_total access (set.from_list ((subject, path, mode) ∷ [])) t
          ∙ ap (λ b. set.contains access t || b) (set.contains-from_list triple_total ((subject, path, mode) ∷ []) t)
          ∙ either (set.contains access t) (eq_by_cmp triple_cmp t (subject, path, mode))
          ∙ sym (set.contains-insert triple_total access (subject, path, mode) t))
        where
          either : (a b : Bool) → (a || (b || false)) ≡ (b || a)
          either true true = refl
          either true false = refl
          either false true = refl
          either false false = refl

  -- what waits in one object changes
  pub stands-queue : (path : Path) (change : Queue → Queue) (becomes : Contents → Contents) → ((q : Queue) → waiting_in (change q) ≡ becomes (waiting_in q)) → ((ws : List ℕ) → Words ws ≡ becomes (Words ws)) →
      StandsFor (changed_at path (with_queue change) v) words (state_changed_at s path (λ o. record { facts = o.facts; contents = becomes o.contents }))
  stands-queue path change becomes agree kept_words = stands-changed path (with_queue change) (λ o. record { facts = o.facts; contents = becomes o.contents }) (λ e. (λ i. record { facts = e.facts; contents = by e.queue e.extent i }))
    where
      by : (q : Queue) (x : Option Extent) → contents_in words (change q) x ≡ becomes (contents_in words q x)
      by q None = agree q
      by q (Some x) = kept_words _

  -- a byte is typed on a line
  pub stands-typed : (line byte : ℕ) (becomes : Contents → Contents) → ((q : Queue) → waiting_in (with_input (λ bytes. queued bytes byte) q) ≡ becomes (waiting_in q)) → ((ws : List ℕ) → Words ws ≡ becomes (Words ws)) →
      StandsFor (with_typed line byte v) words (record s { objects = map_values (taking line becomes) s.objects })
  stands-typed line byte becomes agree kept_words = record {
    levels = stands.levels;
    lines = stands.lines;
    objects = each ∙ ap (λ (m : finite.FinMap path_cmp Object). map_values (taking line becomes) m) stands.objects;
    access = stands.access;
  }
    where
      contents : (q : Queue) (x : Option Extent) (b : Bool) → contents_in words (if b then with_input (λ bytes. queued bytes byte) q else q) x ≡ (if b then becomes (contents_in words q x) else contents_in words q x)
      contents q x false = refl
      contents q None true = agree q
      contents q (Some x) true = kept_words _

      by : (o : Option Entry) → option_map (object_of words) (option_map (typing line byte) o) ≡ option_map (taking line becomes) (option_map (object_of words) o)
      by None = refl
      by (Some e) = λ i. Some (record { facts = e.facts; contents = contents e.queue e.extent (is_line line e.facts.kind) i })

      each : objects_of (with_typed line byte v) words ≡ map_values (taking line becomes) (objects_of v words)
      each = finite.same_map path_total path_apart _ _ (λ q.
          get-map_values path_cmp (object_of words) (map_values (typing line byte) v.objects) q
          ∙ ap (option_map (object_of words)) (get-map_values path_cmp (typing line byte) v.objects q)
          ∙ by (finite.get v.objects q)
          ∙ sym (get-map_values path_cmp (taking line becomes) (objects_of v words) q ∙ ap (option_map (taking line becomes)) (get-objects_of v words q)))

  -- the object and its inferiors go
  pub stands-deleted : (path : Path) → StandsFor (without_group path v) words (without_state_group s path)
  stands-deleted path = record {
    levels = stands.levels;
    lines = stands.lines;
    objects = each ∙ ap (λ (m : finite.FinMap path_cmp Object). finite.retain_keys m (λ other. not (is_inferior other path))) stands.objects;
    access = λ i. set.retain (stands.access i) (λ t. not (is_inferior t.1 path));
  }
    where
      kept_keys : {X : Type 0} (m : finite.FinMap path_cmp X) (q : Path) → finite.get (finite.retain_keys m (λ other. not (is_inferior other path))) q ≡ cond (not (is_inferior q path)) (finite.get m q) None
      kept_keys m q = finite.get-retain_keys m (λ other. not (is_inferior other path)) q (λ x same. ap (λ other. not (is_inferior other path)) (sym (path_apart q x same)))

      by : (b : Bool) (o : Option Entry) → option_map (object_of words) (cond b o None) ≡ cond b (option_map (object_of words) o) None
      by true o = refl
      by false o = refl

      each : objects_of (without_group path v) words ≡ finite.retain_keys (objects_of v words) (λ other. not (is_inferior other path))
      each = finite.same_map path_total path_apart _ _ (λ q.
          get-map_values path_cmp (object_of words) (finite.retain_keys v.objects (λ other. not (is_inferior other path))) q
          ∙ ap (option_map (object_of words)) (kept_keys v.objects q)
          ∙ by (not (is_inferior q path)) (finite.get v.objects q)
          ∙ sym (kept_keys (objects_of v words) q ∙ ap (λ o. cond (not (is_inferior q path)) o None) (get-objects_of v words q)))

  -- a new object comes
  pub stands-created : (new : Stored) (now : List ℕ) (path : Path) (facts : Facts) → IsCreated v new words now path facts → StandsFor new now (record s { objects = finite.insert s.objects path (fresh facts) })
  stands-created new now path facts made = record {
    levels = made.levels ∙ stands.levels;
    lines = made.lines ∙ stands.lines;
    objects = made.objects ∙ ap (λ (m : finite.FinMap path_cmp Object). finite.insert m path (fresh facts)) stands.objects;
    access = made.access ∙ stands.access;
  }

  -- a word of a segment is written
  pub stands-written : (now : List ℕ) (path : Path) (i value : ℕ) → objects_of v now ≡ word_written path i value (objects_of v words) → StandsFor v now (record s { objects = word_written path i value s.objects })
  stands-written now path i value is = record {
    levels = stands.levels;
    lines = stands.lines;
    objects = is ∙ ap (word_written path i value) stands.objects;
    access = stands.access;
  }

  -- facts, levels and cells are those of the state
  pub stands-facts : (path : Path) → facts_in v path ≡ facts_at s path
  stands-facts path = sym (facts-same (object_of words) (λ (o : Object). o.facts) v.objects path) ∙ ap (λ m. option_map (λ (o : Object). o.facts) (finite.get m path)) stands.objects

  pub stands-level : (path : Path) → level_number v path ≡ state_level_number s path
  stands-level path = sym (level-same (object_of words) (λ (o : Object). o.facts) v.objects path) ∙ ap (λ m. level_in (λ (o : Object). o.facts) m path) stands.objects

  pub stands-cell : (path : Path) → cell_of v path ≡ record { limit = quota_at s (governing s path); used = used s (governing s path) }
  stands-cell path = sym (usage-same (object_of words) (λ (o : Object). o.facts) v.objects path) ∙ ap (λ m. usage_in (λ (o : Object). o.facts) m path) stands.objects

-- the row grants less, and what was held by it goes
pub stands-rescinded : (v : Stored) (words : List ℕ) (s : State) → StandsFor v words s → (subject : ℕ) (path : Path) (modes : Modes) →
    StandsFor (with_rescinded subject path modes v) words (state_changed_at (without_triples s subject path modes) path (with_state_row (rescinded subject modes)))
stands-rescinded v words s stands subject path modes =
    stands-changed (without_held subject path modes v) words (without_triples s subject path modes) (stands-released v words s stands subject path modes) path (with_row (rescinded subject modes)) (with_state_row (rescinded subject modes)) (λ e. refl)
