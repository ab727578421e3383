-- The words of a new object, which become the image's one after another.
use Rattle.std.proofs.Common.{◌≡◌, ℕ, suc, ◌+◌, ◌-◌, ◌*◌, ◌<◌, ◌≤◌, Bool, true, false, cond, ◌&&◌, List, [], ◌∷◌, ◌++◌, append_assoc}
use Rattle.std.proofs.Common.{length, take, get_or, replicate, Option, Some, None, is_eq, refl, sym, ap, subst, ◌∙◌, arith}
use Rattle.std.proofs.Math.Seq.{set-append_seam, take-length}
use Rattle.std.proofs.lemmas.List.{get_or_default, length-take-le, take_more}
use Rattle.std.proofs.lemmas.Bool.Decides.{nat_tests}
use Rattle.std.specs.Prelude.{option_map, unwrap_or, nat_lt, slice_set}
use Rattle.std.specs.Ordering.{eq_by_cmp}
use Rattle.std.specs.Cmp.{tied_itself}
use Rattle.std.specs.FinMap as map
use Rattle.bk_base.proofs.Totals.{tied}
use Rattle.bk_object.specs.declared.kind.Kind.{Kind}
use Rattle.bk_object.specs.declared.kind.Kind.TheVariants.{Directory, Segment, Mailbox, Line}
use Rattle.bk_object.specs.declared.facts.Facts.{Facts}
use Rattle.bk_object.specs.declared.modes.Modes.{Modes}
use Rattle.bk_object.specs.Kinds.{is_segment}
use Rattle.bk_path.specs.Paths.{Path, path_cmp}
use Rattle.bk_path.specs.Orders.{path_total, path_apart}
use Rattle.bk_quota.specs.Charges.{passes}
use Rattle.bk_state.specs.State.{Object, Words}
use Rattle.bk_state.specs.Start.{contents_from, object_from}
use Rattle.bk_state.specs.Contents.{new_contents}
use Rattle.bk_state.specs.declared.image.ObjectRec.{ObjectRec}
use Rattle.bk_state.specs.Contents.{with_word}
use Rattle.bk_image.specs.Objects.{Objects, room}
use Rattle.bk_tree.specs.Kept.{HasBlocks}
use Rattle.bk_store.specs.Stored.{Entry, Stored, fresh, object_of, objects_of, word_written, word_written_by, HasOffset}
use Rattle.bk_store.proofs.Stands.{get-objects_of}

-- the object with its first n words
abbrev pub partial : ObjectRec → ℕ → Object
partial o n = record { facts = o.facts; contents = contents_from o.facts.kind o.facts.blocks (take n o.words) }

-- ---- sizes

-- a segment has at most 128 blocks, and other objects have none
pub few_blocks : (kind : Kind) (blocks : ℕ) → HasBlocks kind blocks → blocks ≤ 128
few_blocks Directory blocks h = omega (arith, h)
few_blocks Segment blocks h = h.1
few_blocks Mailbox blocks h = omega (arith, h)
few_blocks (Line n) blocks h = omega (arith, h)

-- so an object has at most 4,096 words
pub few_words : (facts : Facts) → facts.blocks ≤ 128 → room facts ≤ 4096
few_words facts few = by facts.kind refl
  where
    by : (kind : Kind) → facts.kind ≡ kind → room facts ≤ 4096
    by Directory is = let e : room facts ≡ 0 = ap (λ k. room (record facts { kind = k })) is in omega (arith, e)
    by Segment is = let e : room facts ≡ 32 * facts.blocks = ap (λ k. room (record facts { kind = k })) is in omega (arith, e, few)
    by Mailbox is = let e : room facts ≡ 0 = ap (λ k. room (record facts { kind = k })) is in omega (arith, e)
    by (Line n) is = let e : room facts ≡ 0 = ap (λ k. room (record facts { kind = k })) is in omega (arith, e)

-- ---- maps

pub get-inserted : (m : Objects) (path : Path) (object : Object) → map.get (map.insert m path object) path ≡ Some object
get-inserted m path object = map.get-insert path_total m path object path ∙ ap (λ t. cond (is_eq t) (Some object) (map.get m path)) (tied_itself path_total path)

pub insert-again : (m : Objects) (path : Path) (one two : Object) → map.insert (map.insert m path one) path two ≡ map.insert m path two
insert-again m path one two = map.same_map path_total path_apart _ _ (λ q.
    map.get-insert path_total (map.insert m path one) path two q
    ∙ by q (eq_by_cmp path_cmp q path)
    ∙ sym (map.get-insert path_total m path two q))
  where
    inner : (q : Path) → map.get (map.insert m path one) q ≡ cond (eq_by_cmp path_cmp q path) (Some one) (map.get m q)
    inner q = map.get-insert path_total m path one q

    other : (q : Path) (b : Bool) → cond b (Some two) (cond b (Some one) (map.get m q)) ≡ cond b (Some two) (map.get m q)
    other q true = refl
    other q false = refl

    by : (q : Path) (b : Bool) → cond (eq_by_cmp path_cmp q path) (Some two) (map.get (map.insert m path one) q) ≡ cond (eq_by_cmp path_cmp q path) (Some two) (map.get m q)
    by q b = ap (cond (eq_by_cmp path_cmp q path) (Some two)) (inner q) ∙ other q (eq_by_cmp path_cmp q path)

pub insert-same : (m : Objects) (path : Path) (object : Object) → map.get m path ≡ Some object → map.insert m path object ≡ m
insert-same m path object there = map.same_map path_total path_apart _ _ (λ q. map.get-insert path_total m path object q ∙ by q (eq_by_cmp path_cmp q path) refl)
  where
    by : (q : Path) (b : Bool) → eq_by_cmp path_cmp q path ≡ b → cond b (Some object) (map.get m q) ≡ map.get m q
    by q true same = sym (ap (map.get m) (path_apart q path (tied (path_cmp q path) same)) ∙ there)
    by q false same = refl

-- ---- words

abbrev facts_with : Kind → (blocks level quota : ℕ) → List Modes → Facts
facts_with kind blocks level quota row = record { kind = kind; blocks = blocks; level = level; quota = quota; row = row }

-- no object has room for more words than its blocks hold
pub room_most : (facts : Facts) → room facts ≤ 32 * facts.blocks
room_most facts = by facts.kind facts.blocks facts.level facts.quota facts.row
  where
    by : (kind : Kind) (blocks level quota : ℕ) (row : List Modes) → room (facts_with kind blocks level quota row) ≤ 32 * blocks
    by Directory blocks level quota row = omega arith
    by Segment blocks level quota row = omega arith
    by Mailbox blocks level quota row = omega arith
    by (Line n) blocks level quota row = omega arith

-- what has room for words is a segment
pub has_room : (facts : Facts) (n : ℕ) → n < room facts → is_segment facts.kind ≡ true
has_room facts n lt = by facts.kind facts.blocks facts.level facts.quota facts.row lt
  where
    by : (kind : Kind) (blocks level quota : ℕ) (row : List Modes) → n < room (facts_with kind blocks level quota row) → is_segment kind ≡ true
    by Directory blocks level quota row lt = absurd (omega (arith, lt))
    by Segment blocks level quota row lt = refl
    by Mailbox blocks level quota row lt = absurd (omega (arith, lt))
    by (Line n) blocks level quota row lt = absurd (omega (arith, lt))

pub partial-fresh : (o : ObjectRec) → partial o 0 ≡ fresh o.facts
partial-fresh o = λ i. record { facts = o.facts; contents = by o.facts.kind o.facts.blocks i }
  where
    by : (kind : Kind) (blocks : ℕ) → contents_from kind blocks [] ≡ new_contents kind blocks
    by Directory blocks = refl
    by Segment blocks = let same : 32 * blocks - 0 ≡ 32 * blocks = omega arith in ap (λ n. Words (replicate n 0)) same
    by Mailbox blocks = refl
    by (Line n) blocks = refl

pub partial-whole : (o : ObjectRec) (n : ℕ) → n ≡ length o.words → partial o n ≡ object_from o
partial-whole o n is = ap (λ ws. record { facts = o.facts; contents = contents_from o.facts.kind o.facts.blocks ws }) (ap (λ k. take k o.words) is ∙ take-length o.words)

-- one word more, in place of the first zero
padded_next : (size : ℕ) (words : List ℕ) (n w : ℕ) → n < length words → length words ≤ size → w ≡ get_or words n w →
    slice_set (take n words ++ replicate (size - length (take n words)) 0) n w ≡ take (n + 1) words ++ replicate (size - length (take (n + 1) words)) 0
padded_next size words n w lt le is =
    let here : length (take n words) ≡ n = length-take-le n words (omega (arith, lt)) in
    let next : length (take (n + 1) words) ≡ n + 1 = length-take-le (n + 1) words (omega (arith, lt)) in
    let left : size - length (take n words) ≡ suc (size - (n + 1)) = omega (arith, here, lt, le) in
    let same : size - length (take (n + 1) words) ≡ size - (n + 1) = ap (λ k. size - k) next in
    (λ i. slice_set (take n words ++ replicate (left i) 0) (sym here i) w)
    ∙ set-append_seam (take n words) 0 (replicate (size - (n + 1)) 0) w
    ∙ sym (append_assoc (take n words) (w ∷ []) (replicate (size - (n + 1)) 0))
    ∙ (λ i. (ap (λ x. take n words ++ x ∷ []) is ∙ sym (take_more words n w lt)) i ++ replicate (sym same i) 0)

contents_next : (kind : Kind) (blocks level quota : ℕ) (row : List Modes) (words : List ℕ) (n w : ℕ) → n < length words → length words ≤ room (facts_with kind blocks level quota row) → w ≡ get_or words n w →
    with_word n w (contents_from kind blocks (take n words)) ≡ contents_from kind blocks (take (n + 1) words)
contents_next Directory blocks level quota row words n w lt le is = refl
contents_next Segment blocks level quota row words n w lt le is = ap Words (padded_next (32 * blocks) words n w lt le is)
contents_next Mailbox blocks level quota row words n w lt le is = refl
contents_next (Line k) blocks level quota row words n w lt le is = refl

-- the next word is written
pub written-next : (m : Objects) (o : ObjectRec) (n w : ℕ) → n < length o.words → length o.words ≤ room o.facts → w ≡ get_or o.words n w →
    word_written o.path n w (map.insert m o.path (partial o n)) ≡ map.insert m o.path (partial o (n + 1))
written-next m o n w lt le is =
    ap (word_written_by (map.insert m o.path (partial o n)) o.path n w) (get-inserted m o.path (partial o n))
    ∙ insert-again m o.path (partial o n) (record { facts = o.facts; contents = with_word n w (contents_from o.facts.kind o.facts.blocks (take n o.words)) })
    ∙ (λ i. map.insert m o.path (record { facts = o.facts; contents = contents_next o.facts.kind o.facts.blocks o.facts.level o.facts.quota o.facts.row o.words n w lt le is i }))

-- the same, where the objects and the place are known by equations
pub written_at : (m now : Objects) (o : ObjectRec) (n i w : ℕ) → now ≡ map.insert m o.path (partial o i) → n ≡ i → i < length o.words → length o.words ≤ room o.facts → w ≡ get_or o.words i 0 →
    word_written o.path n w now ≡ map.insert m o.path (partial o (i + 1))
written_at m now o n i w are same lt le is = (λ k. word_written o.path (same k) w (are k)) ∙ written-next m o i w lt le (is ∙ get_or_default o.words i 0 w lt)

-- the word lies inside the segment
pub offset_inside : (v : Stored) (words : List ℕ) (path : Path) (facts : Facts) (n offset : ℕ) → map.get (objects_of v words) path ≡ Some (fresh facts) → n < room facts → offset ≡ 2 * n → HasOffset v path offset
offset_inside v words path facts n offset there lt is = by (map.get v.objects path) (sym (get-objects_of v words path) ∙ there)
  where
    inside : nat_lt offset (64 * facts.blocks) ≡ true
    inside = let most = room_most facts in let low : offset < 64 * facts.blocks = omega (arith, most, lt, is) in grind (arith, nat_tests, low)

    both : (a b : Bool) → a ≡ true → b ≡ true → (a && b) ≡ true
    both true b one two = two
    both false b one two = one

    by : (e : Option Entry) → option_map (object_of words) e ≡ Some (fresh facts) → passes (λ e. is_segment e.facts.kind && nat_lt offset (64 * e.facts.blocks)) e ≡ true
    by None is = cc
    by (Some e) is =
        let same : e.facts ≡ facts = ap (λ (o : Option Object). (unwrap_or o (fresh facts)).facts) is in
        subst (λ (f : Facts). is_segment f.kind && nat_lt offset (64 * f.blocks) ≡ true) (sym same) (both (is_segment facts.kind) _ (has_room facts n lt) inside)
