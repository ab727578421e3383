-- What waits in the objects of a store once one mailbox, or one line, has changed.
use Rattle.std.proofs.Common.{◌≡◌, ◌≢◌, ℕ, ◌<◌, ◌≤◌, Bool, true, false, cond, ◌==◌, List, [], length, Option, Some, None, refl, sym, ap, ◌∙◌, arith, is_some}
use Rattle.std.specs.Prelude.{option_map, slice_set, slice_index_or, if◌then◌else◌}
use Rattle.std.specs.FinMap as finite
use Rattle.std.proofs.lemmas.List.{get_or-set_same, get_or-set_other}
use Rattle.std.proofs.lemmas.Bool.Decides.{nat_tests}
use Rattle.std.proofs.lemmas.Option.{same_Some}
use Rattle.bk_base.specs.Maps.{map_values}
use Rattle.bk_base.proofs.MapValues.{get-map_values}
use Rattle.bk_level.specs.Levels.{Level}
use Rattle.bk_object.specs.declared.kind.Kind.{Kind}
use Rattle.bk_object.specs.declared.kind.Kind.TheVariants.{Directory, Segment, Mailbox, Line}
use Rattle.bk_object.specs.Kinds.{is_any_line}
use Rattle.bk_path.specs.Paths.{Path, path_cmp, is_same}
use Rattle.bk_path.specs.Orders.{path_total, path_apart, same_path, is_same-itself}
use Rattle.bk_access.specs.Held.{Held}
use Rattle.bk_state.specs.Start.{is_line}
use Rattle.bk_tree.specs.declared.place.Placed.{Placed}
use Rattle.bk_tree.specs.Objects.{Objects}
use Rattle.bk_state.specs.QueueCalls.{line_of}
use Rattle.bk_store.specs.Stored.{Waiting, OfMailbox, OfLine, changed_at, queued, typing, with_input, with_mail, with_queue, with_typed}
use Rattle.bk_store.specs.Joined.{Tables, access_of, entries_of, entry_of, no_mail, queue_at, store_of, IsStore}
use Rattle.bk_store.proofs.Entries.{as_stored, get-entry, one-changed}

-- the tables with other mailboxes, or with other typed bytes
abbrev pub with_mailboxes : Tables → List Waiting → Tables
with_mailboxes tables mailboxes = record { frames = tables.frames; mailboxes = mailboxes; inputs = tables.inputs }

abbrev pub with_inputs : Tables → List (List ℕ) → Tables
with_inputs tables inputs = record { frames = tables.frames; mailboxes = tables.mailboxes; inputs = inputs }

pub some_number : (kind : Kind) → is_any_line kind ≡ true → is_some (line_of kind) ≡ true
some_number Directory h = cc
some_number Segment h = cc
some_number Mailbox h = cc
some_number (Line n) h = refl

pub line_kind : (kind : Kind) (n : ℕ) → line_of kind ≡ Some n → kind ≡ Line n
line_kind Directory n h = cc
line_kind Segment n h = cc
line_kind Mailbox n h = cc
line_kind (Line m) n h = ap Line (same_Some m n h)

module _ (lines : ℕ) (tree : Objects) (held : Held) (tables : Tables) (keeps : IsStore lines tree held tables) where
  pub mailboxes-kept : (mailboxes : List Waiting) → length mailboxes ≡ length tables.mailboxes → IsStore lines tree held (with_mailboxes tables mailboxes)
  mailboxes-kept mailboxes same = record {
    slots = keeps.slots;
    extents = keeps.extents;
    queues = record { mailboxes = same ∙ keeps.queues.mailboxes; inputs = keeps.queues.inputs; within = keeps.queues.within; own = keeps.queues.own };
  }

  pub inputs-kept : (inputs : List (List ℕ)) → length inputs ≡ length tables.inputs → IsStore lines tree held (with_inputs tables inputs)
  inputs-kept inputs same = record {
    slots = keeps.slots;
    extents = keeps.extents;
    queues = record { mailboxes = keeps.queues.mailboxes; inputs = same ∙ keeps.queues.inputs; within = keeps.queues.within; own = keeps.queues.own };
  }

  module _ (levels : List Level) (path : Path) (a : Placed) (at : finite.get tree path ≡ Some a) where
    alone : (q : Path) → finite.get tree q ≡ cond (is_same q path) (Some a) (finite.get tree q)
    alone q = by (is_same q path) refl
      where
        by : (b : Bool) → is_same q path ≡ b → finite.get tree q ≡ cond b (Some a) (finite.get tree q)
        by true e = ap (finite.get tree) (same_path q path e) ∙ at
        by false e = refl

    other_path : (q : Path) → is_same q path ≡ false → q ≢ path
    other_path q e one = let yes : is_same q path ≡ true = ap (λ p. is_same p path) one ∙ is_same-itself path in cc

    other_slot : (q : Path) (x : Placed) → is_same q path ≡ false → finite.get tree q ≡ Some x → x.slot ≢ a.slot
    other_slot q x e is same = other_path q e (keeps.slots.own q path a.slot (ap (option_map (λ (y : Placed). y.slot)) is ∙ ap Some same) (ap (option_map (λ (y : Placed). y.slot)) at))

    module _ (change : Waiting → Waiting) (kind : a.facts.kind ≡ Mailbox) where
      abbrev pub mailed : Tables
      mailed = with_mailboxes tables (slice_set tables.mailboxes a.slot (change (slice_index_or tables.mailboxes a.slot no_mail)))

      pub mail-changed : store_of levels lines tree held mailed ≡ changed_at path (with_queue (with_mail change)) (store_of levels lines tree held tables)
      mail-changed = one-changed levels lines tree tree tables mailed (access_of tree held) (access_of tree held) path a a (with_queue (with_mail change)) at
          (λ i. record { facts = a.facts; extent = finite.get tables.frames.extents a.slot; queue = here a.facts.kind kind i })
          alone
          (λ q x e is. (λ i. record { facts = x.facts; extent = finite.get tables.frames.extents x.slot; queue = there x.facts.kind x.slot (other_slot q x e is) i }))
          refl
        where
          inside : a.slot < length tables.mailboxes
          inside = omega (arith, keeps.queues.mailboxes, keeps.slots.within path a.slot (ap (option_map (λ (y : Placed). y.slot)) at))

          here : (k : Kind) → k ≡ Mailbox → queue_at mailed a.slot k ≡ with_mail change (queue_at tables a.slot k)
          here Directory e = cc
          here Segment e = cc
          here Mailbox e = ap OfMailbox (get_or-set_same tables.mailboxes a.slot (change (slice_index_or tables.mailboxes a.slot no_mail)) no_mail inside)
          here (Line n) e = cc

          there : (k : Kind) (slot : ℕ) → slot ≢ a.slot → queue_at mailed slot k ≡ queue_at tables slot k
          there Directory slot differ = refl
          there Segment slot differ = refl
          there Mailbox slot differ = ap OfMailbox (get_or-set_other tables.mailboxes a.slot slot (change (slice_index_or tables.mailboxes a.slot no_mail)) no_mail differ)
          there (Line n) slot differ = refl

    module _ (change : List ℕ → List ℕ) (n : ℕ) (kind : a.facts.kind ≡ Line n) where
      abbrev pub entered : Tables
      entered = with_inputs tables (slice_set tables.inputs n (change (slice_index_or tables.inputs n [])))

      pub line_inside : n < length tables.inputs
      line_inside = omega (arith, keeps.queues.inputs, keeps.queues.within path a n at kind)

      pub line-changed : store_of levels lines tree held entered ≡ changed_at path (with_queue (with_input change)) (store_of levels lines tree held tables)
      line-changed = one-changed levels lines tree tree tables entered (access_of tree held) (access_of tree held) path a a (with_queue (with_input change)) at
          (λ i. record { facts = a.facts; extent = finite.get tables.frames.extents a.slot; queue = here a.facts.kind kind i })
          alone
          (λ q x e is. (λ i. record { facts = x.facts; extent = finite.get tables.frames.extents x.slot; queue = there x.facts.kind x.slot (λ m kind_x same. other_path q e (keeps.queues.own q path x a n is at (kind_x ∙ ap Line same) kind)) i }))
          refl
        where
          here : (k : Kind) → k ≡ Line n → queue_at entered a.slot k ≡ with_input change (queue_at tables a.slot k)
          here Directory e = cc
          here Segment e = cc
          here Mailbox e = cc
          here (Line m) e =
              let same : m ≡ n = cc in
              ap OfLine (ap (λ k. slice_index_or (slice_set tables.inputs n (change (slice_index_or tables.inputs n []))) k []) same
              ∙ get_or-set_same tables.inputs n (change (slice_index_or tables.inputs n [])) [] line_inside
              ∙ ap (λ k. change (slice_index_or tables.inputs k [])) (sym same))

          there : (k : Kind) (slot : ℕ) → ((m : ℕ) → k ≡ Line m → m ≢ n) → queue_at entered slot k ≡ queue_at tables slot k
          there Directory slot differ = refl
          there Segment slot differ = refl
          there Mailbox slot differ = refl
          there (Line m) slot differ = ap OfLine (get_or-set_other tables.inputs n m (change (slice_index_or tables.inputs n [])) [] (differ m refl))

  -- a byte is typed: each object of the line takes it
  module _ (levels : List Level) (line byte : ℕ) where
    typed : (later : Tables) → ((q : Path) (x : Placed) → finite.get tree q ≡ Some x → entry_of later x ≡ typing line byte (entry_of tables x)) →
        store_of levels lines tree held later ≡ with_typed line byte (store_of levels lines tree held tables)
    typed later each = λ i. as_stored levels lines (objects i) (access_of tree held)
      where
        by : (q : Path) (o : Option Placed) → finite.get tree q ≡ o → option_map (entry_of later) o ≡ option_map (typing line byte) (option_map (entry_of tables) o)
        by q None is = refl
        by q (Some x) is = ap Some (each q x is)

        objects : entries_of tree later ≡ map_values (typing line byte) (entries_of tree tables)
        objects = finite.same_map path_total path_apart _ _ (λ q.
            get-entry tree later q ∙ by q (finite.get tree q) refl
            ∙ sym (get-map_values path_cmp (typing line byte) (entries_of tree tables) q ∙ ap (option_map (typing line byte)) (get-entry tree tables q)))

    abbrev pub with_byte : Tables
    with_byte = with_inputs tables (slice_set tables.inputs line (queued (slice_index_or tables.inputs line []) byte))

    pub typed-inside : line < lines → store_of levels lines tree held with_byte ≡ with_typed line byte (store_of levels lines tree held tables)
    typed-inside small = typed with_byte (λ q x is. (λ i. record { facts = x.facts; extent = finite.get tables.frames.extents x.slot; queue = each x.slot x.facts.kind i }))
      where
        inside : line < length tables.inputs
        inside = omega (arith, keeps.queues.inputs, small)

        each : (slot : ℕ) (k : Kind) → queue_at with_byte slot k ≡ (if is_line line k then with_input (λ bytes. queued bytes byte) (queue_at tables slot k) else queue_at tables slot k)
        each slot Directory = refl
        each slot Segment = refl
        each slot Mailbox = refl
        each slot (Line m) = by (m == line) refl
          where
            by : (b : Bool) → (m == line) ≡ b → queue_at with_byte slot (Line m) ≡ (if b then with_input (λ bytes. queued bytes byte) (queue_at tables slot (Line m)) else queue_at tables slot (Line m))
            by true e =
                let same : m ≡ line = grind (arith, nat_tests, e) in
                ap OfLine (ap (λ k. slice_index_or (slice_set tables.inputs line (queued (slice_index_or tables.inputs line []) byte)) k []) same
                ∙ get_or-set_same tables.inputs line (queued (slice_index_or tables.inputs line []) byte) [] inside
                ∙ ap (λ k. queued (slice_index_or tables.inputs k []) byte) (sym same))
            by false e = ap OfLine (get_or-set_other tables.inputs line m (queued (slice_index_or tables.inputs line []) byte) [] (grind (arith, nat_tests, e)))

    pub typed-outside : lines ≤ line → store_of levels lines tree held tables ≡ with_typed line byte (store_of levels lines tree held tables)
    typed-outside large = typed tables (λ q x is. (λ i. record { facts = x.facts; extent = finite.get tables.frames.extents x.slot; queue = each x.slot x.facts.kind (λ m kind. keeps.queues.within q x m is kind) i }))
      where
        each : (slot : ℕ) (k : Kind) → ((m : ℕ) → k ≡ Line m → m < lines) → queue_at tables slot k ≡ (if is_line line k then with_input (λ bytes. queued bytes byte) (queue_at tables slot k) else queue_at tables slot k)
        each slot Directory within = refl
        each slot Segment within = refl
        each slot Mailbox within = refl
        each slot (Line m) within = by (m == line) refl
          where
            by : (b : Bool) → (m == line) ≡ b → queue_at tables slot (Line m) ≡ (if b then with_input (λ bytes. queued bytes byte) (queue_at tables slot (Line m)) else queue_at tables slot (Line m))
            by true e = let same : m ≡ line = grind (arith, nat_tests, e) in absurd (omega (arith, same, large, within m refl))
            by false e = refl
