-- What a store shows of its tables: what is there, what is held, and a store of root alone.
use Rattle.std.proofs.Common.{◌≡◌, ℕ, ◌<◌, ◌≤◌, Bool, true, false, cond, ◌&&◌, List, [], ◌∷◌, Option, Some, None, refl, sym, ap, ◌∙◌, arith}
use Rattle.std.specs.Prelude.{option_map, unwrap_or, if◌then◌else◌, replicate}
use Rattle.std.specs.Ordering.{eq_by_cmp, nat_cmp}
use Rattle.std.specs.FinMap as finite
use Rattle.std.specs.Cmp.{nat_cmp_total}
use Rattle.std.specs.FinSet as set
use Rattle.bk_base.proofs.MapValues.{get-map_values as get-sizes}
use Rattle.bk_base.proofs.Totals.{total_of, part, total-alike}
use Rattle.bk_level.specs.Levels.{Level}
use Rattle.bk_object.specs.Kinds.{is_directory}
use Rattle.bk_object.specs.declared.kind.Kind.{Kind}
use Rattle.bk_object.specs.declared.kind.Kind.TheVariants.{Directory, Segment, Mailbox, Line}
use Rattle.bk_frames.specs.Extents.{Extent, sizes_of, taken_in}
use Rattle.std.proofs.lemmas.List.{length-replicate}
use Rattle.bk_object.specs.Modes.{AccessMode, Read, Execute, Write, Append, has, modes_where, no_modes}
use Rattle.bk_object.specs.declared.Facts.{Facts}
use Rattle.bk_object.specs.declared.modes.Modes.{Modes}
use Rattle.bk_object.proofs.ModeLemmas.{has-modes_where, same_modes}
use Rattle.bk_object.specs.Rows.{most_subjects}
use Rattle.bk_path.specs.Paths.{Path, path_cmp}
use Rattle.bk_path.specs.Orders.{path_total, path_apart}
use Rattle.bk_quota.specs.Charges.{passes}
use Rattle.bk_access.specs.Held.{Held, holds, modes_at, nothing_held}
use Rattle.bk_access.proofs.HeldLemmas.{holds-nothing, at-nothing}
use Rattle.bk_state.specs.State.{Triple, triple_cmp}
use Rattle.bk_state.proofs.Orders.{triple_total}
use Rattle.bk_tree.specs.declared.place.Placed.{Placed}
use Rattle.bk_tree.specs.Objects.{Objects, facts_of, begun as begun_tree}
use Rattle.bk_store.specs.Stored.{Entry, NoQueue, begun}
use Rattle.bk_store.specs.Joined.{Tables, blocks_of, entries_of, entry_of, no_mail, queue_at, or_zero, segment_blocks, size_of, slot_in}
use Rattle.bk_store.specs.Joined.{access_of, store_of, IsStore}
use Rattle.std.proofs.lemmas.List.Sums.{sum_by-cons}
use Rattle.std.proofs.lemmas.Option.{same_Some}
use Rattle.bk_store.proofs.Triples.{in_range, subject_in, member, triple_apart}
use Rattle.bk_store.proofs.Entries.{get-entry}
use Rattle.bk_path.specs.Orders.{same_path, ties-same}

bit_most : (b : Bool) (n : ℕ) → (if b then n else 0) ≤ n
bit_most true n = omega arith
bit_most false n = omega arith

four_modes : (test : AccessMode → Bool) → (modes_where test).0 < 16
four_modes test = omega (arith, bit_most (test Read) 1, bit_most (test Execute) 2, bit_most (test Write) 4, bit_most (test Append) 8)

-- the modes at the slot are those by which the path is held
pub held_there : (tree : Objects) (held : Held) (s slot : ℕ) (path : Path) (m : Modes) → s < most_subjects → slot_in tree path ≡ Some slot → m ≡ modes_at held s slot → m.0 < 16 →
    m ≡ modes_where (λ x. set.contains (access_of tree held) (s, path, x))
held_there tree held s slot path m small at is four = same_modes m _ four (four_modes (λ x. set.contains (access_of tree held) (s, path, x))) (λ x.
    ap (λ a. has a x) is
    ∙ sym (member tree held s path x ∙ (λ i. subject_in s small i && passes (λ k. holds held s k x) (at i)))
    ∙ sym (has-modes_where (λ x. set.contains (access_of tree held) (s, path, x)) x))

none_and : (r : Bool) → (r && false) ≡ false
none_and true = refl
none_and false = refl

pub has-none : (x : AccessMode) → has no_modes x ≡ false
has-none Read = refl
has-none Execute = refl
has-none Write = refl
has-none Append = refl

-- of an object that isn't there nothing is held
pub held_none : (tree : Objects) (held : Held) (s : ℕ) (path : Path) (m : Modes) → finite.get tree path ≡ None → m.0 ≡ 0 → m ≡ modes_where (λ x. set.contains (access_of tree held) (s, path, x))
held_none tree held s path m none is = same_modes m _ (omega (arith, is)) (four_modes (λ x. set.contains (access_of tree held) (s, path, x))) (λ x.
    ap (λ n. has (record { 0 = n }) x) is ∙ has-none x
    ∙ sym (member tree held s path x ∙ ap (λ o. in_range s && passes (λ k. holds held s k x) (option_map (λ (a : Placed). a.slot) o)) none ∙ none_and (in_range s))
    ∙ sym (has-modes_where (λ x. set.contains (access_of tree held) (s, path, x)) x))

get-begun : (root : Facts) (p : Path) → finite.get (begun_tree root) p ≡ cond (eq_by_cmp path_cmp p []) (Some (record { slot = 0; facts = root })) None
get-begun root p = finite.get-from_entries path_total (([], record { slot = 0; facts = root }) ∷ []) p

-- a tree of root alone and empty tables are the store of root alone
module _ (levels : List Level) (lines slots : ℕ) (root : Facts) where
  abbrev pub begun_tables : Tables
  begun_tables = record { frames = record { first = 64; blocks = 3904; slots = slots; extents = finite.empty }; mailboxes = replicate slots no_mail; inputs = replicate lines [] }

  abbrev entry : Entry
  entry = record { facts = root; extent = None; queue = NoQueue }

  pub begun-store : is_directory root.kind ≡ true → store_of levels lines (begun_tree root) (nothing_held slots) begun_tables ≡ begun levels lines root
  begun-store directory = λ i. record { levels = levels; lines = lines; objects = objects i; access = access i }
    where
      nothing_waits : (kind : Kind) → is_directory kind ≡ true → queue_at begun_tables 0 kind ≡ NoQueue
      nothing_waits Directory h = refl
      nothing_waits Segment h = cc
      nothing_waits Mailbox h = cc
      nothing_waits (Line n) h = cc

      by : (b : Bool) → option_map (entry_of begun_tables) (cond b (Some (record { slot = 0; facts = root })) None) ≡ cond b (Some entry) None
      by true = λ i. Some (record { facts = root; extent = finite.get-empty nat_cmp 0 i; queue = nothing_waits root.kind directory i })
      by false = refl

      objects : entries_of (begun_tree root) begun_tables ≡ finite.from_entries (([], entry) ∷ [])
      objects = finite.same_map path_total path_apart _ _ (λ p. get-entry (begun_tree root) begun_tables p ∙ ap (option_map (entry_of begun_tables)) (get-begun root p) ∙ by (eq_by_cmp path_cmp p []) ∙ sym (finite.get-from_entries path_total (([], entry) ∷ []) p))

      nothing : (t : Triple) (o : Option ℕ) → passes (λ k. holds (nothing_held slots) t.0 k t.2) o ≡ false
      nothing t None = refl
      nothing t (Some k) = holds-nothing slots t.0 k t.2

      access : access_of (begun_tree root) (nothing_held slots) ≡ set.empty
      access = set.same_set triple_total triple_apart _ _ (λ t.
          member (begun_tree root) (nothing_held slots) t.0 t.1 t.2 ∙ ap (λ b. in_range t.0 && b) (nothing t (slot_in (begun_tree root) t.1)) ∙ none_and (in_range t.0) ∙ sym (set.contains-empty triple_cmp t))

  -- what is there is root
  is_root : {P : Type 0} (p : Path) (a : Placed) → finite.get (begun_tree root) p ≡ Some a → (p ≡ [] → a ≡ record { slot = 0; facts = root } → P) → P
  is_root {P} p a h use_it = by (eq_by_cmp path_cmp p []) refl (sym (get-begun root p) ∙ h)
    where
      by : (b : Bool) → eq_by_cmp path_cmp p [] ≡ b → cond b (Some (record { slot = 0; facts = root })) None ≡ Some a → P
      by true e h = use_it (same_path p [] (sym (ties-same p []) ∙ e)) (sym (same_Some (record { slot = 0; facts = root }) a h))
      by false e h = cc

  root_slot : (p : Path) (k : ℕ) → slot_in (begun_tree root) p ≡ Some k → (p ≡ []) × (0 ≡ k)
  root_slot p k h = by (eq_by_cmp path_cmp p []) refl (sym (ap (option_map (λ (a : Placed). a.slot)) (get-begun root p)) ∙ h)
    where
      by : (b : Bool) → eq_by_cmp path_cmp p [] ≡ b → option_map (λ (a : Placed). a.slot) (cond b (Some (record { slot = 0; facts = root })) None) ≡ Some k → (p ≡ []) × (0 ≡ k)
      by true e h = (same_path p [] (sym (ties-same p []) ∙ e), same_Some 0 k h)
      by false e h = cc

  no_words : (kind : Kind) (blocks : ℕ) → is_directory kind ≡ true → blocks_of kind blocks ≡ None
  no_words Directory blocks h = refl
  no_words Segment blocks h = cc
  no_words Mailbox blocks h = cc
  no_words (Line n) blocks h = cc

  no_line : (kind : Kind) (n : ℕ) → is_directory kind ≡ true → kind ≡ Line n → ⊥
  no_line Directory n h e = cc
  no_line Segment n h e = cc
  no_line Mailbox n h e = cc
  no_line (Line m) n h e = cc

  nothing_stands : (k : ℕ) → finite.get (sizes_of begun_tables.frames) k ≡ None
  nothing_stands k = get-sizes nat_cmp (λ e. e.blocks) begun_tables.frames.extents k ∙ ap (option_map (λ (e : Extent). e.blocks)) (finite.get-empty nat_cmp k)

  zero_total : {K X : Type 0} (es : List (K × X)) → total_of (λ (p : K) (a : X). 0) es ≡ 0
  zero_total [] = refl
  zero_total {K} {X} (e ∷ es) = omega (arith, zero_total es, sum_by-cons (λ (e : K × X). 0) e es)

  no_blocks : taken_in begun_tables.frames ≡ 0
  no_blocks = total-alike nat_cmp finite.nat_cmp-IsAntisymmetric nat_cmp_total (λ s (e : Extent). e.blocks) (λ s e. 0) finite.empty finite.empty (λ q. ap (part (λ s (e : Extent). e.blocks) q) (finite.get-empty nat_cmp q) ∙ sym (ap (part (λ s (e : Extent). 0) q) (finite.get-empty nat_cmp q))) ∙ zero_total (finite.entries begun_tables.frames.extents)

  taken_none : is_directory root.kind ≡ true → total_of (λ p a. size_of a.facts) (finite.entries (begun_tree root)) ≡ 0
  taken_none directory = total-alike path_cmp path_apart path_total (λ p (a : Placed). size_of a.facts) (λ p a. 0) (begun_tree root) (begun_tree root) (λ q. by q (finite.get (begun_tree root) q) refl) ∙ zero_total (finite.entries (begun_tree root))
    where
      by : (q : Path) (o : Option Placed) → finite.get (begun_tree root) q ≡ o → part (λ p (a : Placed). size_of a.facts) q o ≡ part (λ p (a : Placed). 0) q o
      by q None h = refl
      by q (Some a) h = is_root q a h (λ at is. ap (λ (x : Placed). size_of x.facts) is ∙ ap or_zero (no_words root.kind root.blocks directory))

  no_extent : {P : Type 0} (k : ℕ) (e : Extent) → finite.get begun_tables.frames.extents k ≡ Some e → P
  no_extent k e h = let none : finite.get begun_tables.frames.extents k ≡ None = finite.get-empty nat_cmp k in cc

  pub begun-keeps : is_directory root.kind ≡ true → 1 ≤ slots → slots ≡ root.quota → IsStore lines (begun_tree root) (nothing_held slots) begun_tables
  begun-keeps directory some quota = record {
    slots = record {
      own = λ p q k hp hq. (root_slot p k hp).0 ∙ sym (root_slot q k hq).0;
      within = λ p k hp. omega (arith, some, (root_slot p k hp).1);
      free = λ k none s. at-nothing slots s k;
      places = quota ∙ sym (ap (λ o. unwrap_or (option_map (λ (f : Facts). f.quota) (option_map facts_of o)) 0) (get-begun root []));
    };
    extents = record {
      sizes = λ p a h. is_root p a h (λ at is. nothing_stands a.slot ∙ sym (ap (λ (x : Placed). segment_blocks x.facts) is ∙ no_words root.kind root.blocks directory));
      unowned = λ k none. nothing_stands k;
      taken = no_blocks ∙ sym (taken_none directory);
      apart = record {
        sized = λ s e h. no_extent s e h;
        within = λ s e h. no_extent s e h;
        apart = λ s t e f h k differ. no_extent s e h;
      };
      first = refl;
      blocks = refl;
      places = refl;
    };
    queues = record {
      mailboxes = length-replicate slots no_mail;
      inputs = length-replicate lines [];
      within = λ p a n h kind. is_root p a h (λ at is. absurd (no_line root.kind n directory (ap (λ (x : Placed). x.facts.kind) (sym is) ∙ kind)));
      own = λ p q a b n h k kind_a kind_b. is_root p a h (λ at_p is_p. is_root q b k (λ at_q is_q. at_p ∙ sym at_q));
    };
  }
