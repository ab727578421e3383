-- Each object of the state of an accepted image has the blocks and the contents of its kind, and no two have one line.
use Rattle.std.proofs.Common.{◌≡◌, ℕ, ◌+◌, ◌*◌, ◌-◌, ◌≤◌, ◌<◌, true, false, ◌==◌, List, length, map, replicate, Some, find as first, unwrap_or, refl, sym, ap}
use Rattle.std.proofs.Common.{subst, ◌∙◌, inl, inr, arith}
use Rattle.std.specs.Prelude.{option_map, nat_lt, slice_index}
use Rattle.std.specs.List.{list_any, range_with_len}
use Rattle.std.proofs.lemmas.Bool.Decides.{nat_tests}
use Rattle.std.proofs.lemmas.List.{length-append, length-replicate}
use Rattle.std.proofs.lemmas.List.FromFn.{length-map-range_with_len, get_or-map-range_with_len}
use Rattle.bk_object.specs.declared.kind.Kind.{Kind}
use Rattle.bk_object.specs.declared.kind.Kind.TheVariants.{Directory, Segment, Mailbox, Line}
use Rattle.bk_object.specs.declared.facts.Facts.{Facts}
use Rattle.bk_object.specs.declared.modes.Modes.{Modes}
use Rattle.bk_path.specs.Paths.{Path}
use Rattle.bk_state.specs.State.{Fixed, Object, find, facts_at as facts_in_state}
use Rattle.bk_state.specs.Secure.{FitsKind}
use Rattle.bk_state.specs.Start.{state_of, contents_from, padded, is_line, line_level}
use Rattle.bk_state.specs.declared.image.Image.{Image}
use Rattle.bk_state.specs.declared.image.ObjectRec.{ObjectRec}
use Rattle.bk_image.specs.Objects.{objects_in, fits_kind, room}
use Rattle.bk_image.specs.Accepted.{IsAccepted}
use Rattle.bk_image.proofs.SecureLists.{Stands, first_at, stands_any, stands_apart, not_true, all_three, zero_of, lt_of, le_of, within}
use Rattle.bk_image.proofs.SecureFound.{found, found_facts}
use Rattle.bk_image.proofs.SecureObjects.{checked_at}

padded_length : (blocks : ℕ) (words : List ℕ) → length words ≤ 32 * blocks → length (padded blocks words) ≡ 32 * blocks
padded_length blocks words le = length-append words (replicate (32 * blocks - length words) 0) ∙ ap (λ n. length words + n) (length-replicate (32 * blocks - length words) 0) ∙ omega arith

-- the fields of an object's facts, with its kind
abbrev facts_with : Kind → (blocks level quota : ℕ) → List Modes → Facts
facts_with kind blocks level quota row = record { kind = kind; blocks = blocks; level = level; quota = quota; row = row }

kind_fits : (fixed : Fixed) (lines : ℕ) (before : List ObjectRec) (kind : Kind) (blocks level quota : ℕ) (row : List Modes) (words : List ℕ) →
    fits_kind lines before kind blocks ≡ true → nat_lt (room (facts_with kind blocks level quota row)) (length words) ≡ false →
    ((n : ℕ) → kind ≡ Line n → (n < length fixed.lines) × (level ≡ slice_index fixed.lines n)) →
    FitsKind fixed kind (facts_with kind blocks level quota row) (contents_from kind blocks words)
kind_fits fixed lines before Directory blocks level quota row words fits fit line = (zero_of blocks fits, refl)
kind_fits fixed lines before Segment blocks level quota row words fits fit line =
    let (low, high) = within 1 128 blocks (not_true _ fits) in
    (low, high, padded_length blocks words (le_of (length words) (32 * blocks) fit))
kind_fits fixed lines before Mailbox blocks level quota row words fits fit line = (zero_of blocks fits, omega arith, refl, omega arith)
kind_fits fixed lines before (Line n) blocks level quota row words fits fit line =
    let (none, low, fresh) = all_three _ _ _ fits in
    let (inside, same) = line n refl in
    (zero_of blocks none, omega arith, inside, same)

-- a line's number is below the lines, and no object before has it
pub line_is : (lines : ℕ) (before : List ObjectRec) (kind : Kind) (blocks n : ℕ) → fits_kind lines before kind blocks ≡ true → kind ≡ Line n → (n < lines) × (list_any (λ o. is_line n o.facts.kind) before ≡ false)
line_is lines before kind blocks n fits is =
    let (none, low, fresh) = all_three _ _ _ (subst (λ k. fits_kind lines before k blocks ≡ true) is fits) in
    (lt_of n lines low, not_true _ fresh)

has_number : (kind : Kind) (n : ℕ) → kind ≡ Line n → is_line n kind ≡ true
has_number kind n is = ap (is_line n) is ∙ itself n
  where
    itself : (k : ℕ) → (k == k) ≡ true
    itself k = grind (arith, nat_tests)

-- the level of a line is that of its object
line_level_is : (objects : List ObjectRec) (o : ObjectRec) (at : Stands objects o) (n : ℕ) → list_any (λ x. is_line n x.facts.kind) at.front ≡ false → o.facts.kind ≡ Line n → line_level objects n ≡ o.facts.level
line_level_is objects o at n fresh is =
    ap (λ x. unwrap_or (option_map (λ y. y.facts.level) x) 0)
    (ap (first (λ x. is_line n x.facts.kind)) (sym at.whole) ∙ first_at (λ x. is_line n x.facts.kind) at.front o at.tail fresh (has_number o.facts.kind n is))

line_at : (image : Image) → IsAccepted image → (o : ObjectRec) (at : Stands image.objects o) (n : ℕ) → o.facts.kind ≡ Line n →
    (n < length (map (line_level image.objects) (range_with_len 0 image.lines))) × (o.facts.level ≡ slice_index (map (line_level image.objects) (range_with_len 0 image.lines)) n)
line_at image accepted o at n is =
    let c = checked_at image accepted o at in
    let (low, fresh) = line_is image.lines at.front o.facts.kind o.facts.blocks n c.kind is in
    let same = line_level_is image.objects o at n fresh is in
    let place = get_or-map-range_with_len (line_level image.objects) 0 image.lines n n 0 low (omega arith) in
    (omega (arith, length-map-range_with_len (line_level image.objects) 0 image.lines, low), sym same ∙ sym place)

pub kinds_secure : (image : Image) → IsAccepted image → (path : Path) (object : Object) → find (state_of image) path ≡ Some object → FitsKind (state_of image).fixed object.facts.kind object.facts object.contents
unfolding state_of objects_in
kinds_secure image accepted path object is =
    let f = found image.objects path object is in
    let c = checked_at image accepted f.o f.stands in
    subst (λ (y : Object). FitsKind (state_of image).fixed y.facts.kind y.facts y.contents) f.object_is
    (kind_fits (state_of image).fixed image.lines f.stands.front f.o.facts.kind f.o.facts.blocks f.o.facts.level f.o.facts.quota f.o.facts.row f.o.words c.kind c.words
    (line_at image accepted f.o f.stands))

pub lines_secure : (image : Image) → IsAccepted image → (p q : Path) (facts other : Facts) (n : ℕ) → facts_in_state (state_of image) p ≡ Some facts → facts_in_state (state_of image) q ≡ Some other →
    facts.kind ≡ Line n → other.kind ≡ Line n → p ≡ q
unfolding state_of objects_in
lines_secure image accepted p q facts other n at_p at_q kind other_kind =
    let f = found_facts image.objects p facts at_p in
    let g = found_facts image.objects q other at_q in
    let f_is : f.o.facts.kind ≡ Line n = ap (λ x. x.kind) f.facts_are ∙ kind in
    let g_is : g.o.facts.kind ≡ Line n = ap (λ x. x.kind) g.facts_are ∙ other_kind in
    let f_fresh = (line_is image.lines f.stands.front f.o.facts.kind f.o.facts.blocks n (checked_at image accepted f.o f.stands).kind f_is).1 in
    let g_fresh = (line_is image.lines g.stands.front g.o.facts.kind g.o.facts.blocks n (checked_at image accepted g.o g.stands).kind g_is).1 in
    elim (stands_apart f.stands.front g.stands.front f.o g.o f.stands.tail g.stands.tail (f.stands.whole ∙ sym g.stands.whole)) as (λ _. p ≡ q) [
      | inl same ↦ sym f.path_is ∙ ap (λ o. o.path) same ∙ g.path_is
      | inr before ↦ elim before as (λ _. p ≡ q) [
        | inl at ↦ absurd (cc (sym (stands_any (λ o. is_line n o.facts.kind) g.stands.front f.o at (has_number f.o.facts.kind n f_is)) ∙ g_fresh))
        | inr at ↦ absurd (cc (sym (stands_any (λ o. is_line n o.facts.kind) f.stands.front g.o at (has_number g.o.facts.kind n g_is)) ∙ f_fresh))
      ]
    ]
