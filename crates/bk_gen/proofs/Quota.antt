-- No cell of the generated image is used over its limit: root alone has one, and all objects are charged 2,070 at most.
use Rattle.std.proofs.Common.{◌≡◌, ℕ, ◌+◌, ◌≤◌, Bool, true, false, not, ◌&&◌, ◌==◌, T, List, [], ◌∷◌, ◌++◌, map, Result, Ok, refl, sym, ap}
use Rattle.std.proofs.Common.{◌∙◌, arith}
use Rattle.std.specs.Prelude.{flat_map, nat_lt, if◌then◌else◌}
use Rattle.std.specs.List.{sum_by, list_all}
use Rattle.std.specs.FinMap as finmap
use Rattle.std.proofs.lemmas.Bool.{and_parts}
use Rattle.std.proofs.lemmas.Bool.Decides.{nat_tests}
use Rattle.std.proofs.lemmas.List.Sums.{sum_by-cons}
use Rattle.bk_base.specs.Faults.{◌>>=◌}
use Rattle.bk_object.specs.declared.facts.Facts.{Facts}
use Rattle.bk_object.specs.declared.kind.Kind.{Kind}
use Rattle.bk_object.specs.declared.modes.Modes.{Modes}
use Rattle.bk_object.specs.declared.kind.Kind.TheVariants.{Directory, Segment, Mailbox, Line}
use Rattle.bk_path.specs.Paths.{Path, path_cmp, parent, is_same}
use Rattle.bk_path.specs.Orders.{path_total, path_apart}
use Rattle.bk_quota.specs.Charges.{charge_of, share_in, governing_in, level_in}
use Rattle.bk_state.specs.State.{Object}
use Rattle.bk_state.specs.Start.{object_from}
use Rattle.bk_state.specs.declared.image.ObjectRec.{ObjectRec}
use Rattle.bk_image.specs.declared.fault.ImageFault.{ImageFault}
use Rattle.bk_image.specs.declared.fault.ImageField.TheVariants as field
use Rattle.bk_image.specs.declared.version.Version.TheVariants.{One}
use Rattle.bk_image.specs.Parts.{first_failing}
use Rattle.bk_image.specs.Objects.{Objects, objects_in, has_cell, used_at, is_over, size, quotas_at, lacks_lines, after_objects}
use Rattle.bk_gen.specs.Subjects.{numbers_below, levels_made}
use Rattle.bk_gen.specs.Objects.{granting, root, program, line_object, directory, group, generated_objects}
use Rattle.bk_gen.proofs.Found.{found, has_cell_by, has_cell_is}

-- all objects but root
unfoldable below_root : List ObjectRec
below_root = program ∷ map line_object (numbers_below levels_made) ++ directory (5 ∷ []) ∷ flat_map group (numbers_below 16)

root_first : generated_objects ≡ root ∷ below_root
unfolding generated_objects below_root
root_first = refl

abbrev entries_of : List ObjectRec → List (Path × Object)
entries_of objects = map (λ o. (o.path, object_from o)) objects

-- ---- what root's cell pays for

-- what an object is charged at most, whatever stands above it
abbrev most_charge : Facts → ℕ
most_charge facts = by facts.kind
  where
    by : Kind → ℕ
    by Directory = 1 + facts.quota
    by Segment = facts.blocks
    by Mailbox = 2
    by (Line n) = 1

either_most : (b : Bool) (quota : ℕ) → (if b then 1 else quota) ≤ 1 + quota
either_most true quota = omega arith
either_most false quota = omega arith

charge-most : (kind : Kind) (blocks level quota above : ℕ) (row : List Modes) → charge_of (record { kind = kind; blocks = blocks; level = level; quota = quota; row = row }) above
    ≤ most_charge (record { kind = kind; blocks = blocks; level = level; quota = quota; row = row })
charge-most Directory blocks level quota above row = either_most (level == above) quota
charge-most Segment blocks level quota above row = omega arith
charge-most Mailbox blocks level quota above row = omega arith
charge-most (Line n) blocks level quota above row = omega arith

asked_most : (b : Bool) (n most : ℕ) → n ≤ most → (if b then n else 0) ≤ most
asked_most true n most h = h
asked_most false n most h = omega arith

module _ (all : Objects) where
  share-most : (path : Path) (facts : Facts) → share_in (λ object. object.facts) all [] path facts ≤ most_charge facts
  share-most [] facts = omega arith
  share-most (entry ∷ path) facts =
      asked_most (is_same (governing_in (λ object. object.facts) all path) []) (charge_of facts (level_in (λ object. object.facts) all path)) (most_charge facts)
      (charge-most facts.kind facts.blocks facts.level facts.quota (level_in (λ object. object.facts) all path) facts.row)

  shares-most : (objects : List ObjectRec) → sum_by (λ (e : Path × Object). share_in (λ object. object.facts) all [] e.0 e.1.facts) (entries_of objects) ≤ sum_by (λ o. most_charge o.facts) objects
  shares-most [] = omega arith
  shares-most (o ∷ objects) =
      let rest = shares-most objects in
      let here = share-most o.path o.facts in
      let left = sum_by-cons (λ (e : Path × Object). share_in (λ object. object.facts) all [] e.0 e.1.facts) (o.path, object_from o) (entries_of objects) in
      let right = sum_by-cons (λ (o : ObjectRec). most_charge o.facts) o objects in
      omega (arith, rest, here, left, right)

sorted : T (finmap.is_sorted path_cmp (entries_of (root ∷ below_root)))
unfolding below_root group granting
sorted = tt

charges_are : sum_by (λ o. most_charge o.facts) below_root ≡ 2070
unfolding below_root group granting
charges_are = refl

-- the entries of a map of objects in the order of their paths are the objects
entries-objects_in : (objects : List ObjectRec) → T (finmap.is_sorted path_cmp (entries_of objects)) → finmap.entries (objects_in objects) ≡ entries_of objects
unfolding objects_in
entries-objects_in objects sorted =
    let es = entries_of objects in
    ap finmap.entries (finmap.same_map path_total path_apart (finmap.from_entries es) (finmap.from_sorted es) (λ q. finmap.get-from_entries path_total es q ∙ sym (finmap.get-from_sorted path_cmp es q sorted)))
    ∙ finmap.entries-from_sorted path_cmp es sorted

root_used : used_at (objects_in (root ∷ below_root)) [] ≤ 2071
root_used =
    let all = objects_in (root ∷ below_root) in
    let share = λ (e : Path × Object). share_in (λ object. object.facts) all [] e.0 e.1.facts in
    let entries = ap (sum_by share) (entries-objects_in (root ∷ below_root) sorted) in
    let first = sum_by-cons share ([], object_from root) (entries_of below_root) in
    omega (arith, entries, first, shares-most all below_root, charges_are)

-- ---- all cells

not_less : (a b : ℕ) → b ≤ a → nat_lt a b ≡ false
not_less a b h = grind (arith, nat_tests, h)

root_fits : is_over (objects_in (root ∷ below_root)) root ≡ false
root_fits = not_less 3904 (used_at (objects_in (root ∷ below_root)) []) (omega (arith, root_used))

-- no object has a cell, by what is found in all of them
no_cells : list_all (λ o. not (has_cell_by (found (root ∷ below_root) (parent o.path)) o)) below_root ≡ true
unfolding below_root group granting
no_cells = refl

no_cell_over : (b c : Bool) → not b ≡ true → (b && c) ≡ false
no_cell_over true c h = cc
no_cell_over false c h = refl

-- where no object has a cell, none is used over its limit
quotas_pass : (all objects : List ObjectRec) (at : ℕ) → list_all (λ o. not (has_cell_by (found all (parent o.path)) o)) objects ≡ true → quotas_at One (objects_in all) objects at ≡ Ok (tt {0})
unfolding quotas_at
quotas_pass all [] at none = refl
quotas_pass all (o ∷ objects) at none =
    let (here, rest) = and_parts (not (has_cell_by (found all (parent o.path)) o)) (list_all (λ o. not (has_cell_by (found all (parent o.path)) o)) objects) none in
    let over : is_over (objects_in all) o ≡ false = no_cell_over (has_cell (objects_in all) o) (nat_lt o.facts.quota (used_at (objects_in all) o.path)) (ap not (has_cell_is all o) ∙ here) in
    ap (λ (b : Bool). first_failing at ((field.Quota, b) ∷ []) >>= λ passed. quotas_at One (objects_in all) objects (at + size One o)) over
    ∙ quotas_pass all objects (at + size One o) rest

all_quotas_pass : (at : ℕ) → quotas_at One (objects_in (root ∷ below_root)) (root ∷ below_root) at ≡ Ok (tt {0})
unfolding quotas_at
all_quotas_pass at =
    ap (λ (b : Bool). first_failing at ((field.Quota, b) ∷ []) >>= λ passed. quotas_at One (objects_in (root ∷ below_root)) below_root (at + size One root)) root_fits
    ∙ quotas_pass (root ∷ below_root) below_root (at + size One root) no_cells

lines_there : first_failing 10 ((field.Lines, lacks_lines 4 (root ∷ below_root)) ∷ []) ≡ Ok (tt {0})
unfolding below_root group granting
lines_there = refl

-- nothing is at fault after all objects
pub objects_pass : (at : ℕ) → after_objects One 4 generated_objects at ≡ Ok (tt {0})
unfolding after_objects
objects_pass at =
    ap (λ (objects : List ObjectRec). after_objects One 4 objects at) root_first
    ∙ ap (λ (r : Result (Unit {0}) ImageFault). r >>= λ quotas. first_failing 10 ((field.Lines, lacks_lines 4 (root ∷ below_root)) ∷ [])) (all_quotas_pass at)
    ∙ lines_there
