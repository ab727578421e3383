-- What is read as an image is spelt by exactly the bytes that were taken.
use Rattle.std.proofs.Common.{◌≡◌, ℕ, zero, suc, ◌≤◌, Bool, true, false, List, [], ◌∷◌, ◌++◌, length, take, Result, Ok, Err, refl, sym, ap, subst, ◌∙◌, arith, ◌==◌}
use Rattle.std.specs.Prelude.{IfOk, not, ◌&&◌, nat_le, if◌then◌else◌, flat_map}
use Rattle.std.specs.List.{list_all}
use Rattle.std.proofs.lemmas.Bool.{and_from}
use Rattle.std.proofs.lemmas.Bool.Decides.{nat_tests}
use Rattle.std.proofs.lemmas.List.{take_at}
use Rattle.std.proofs.lemmas.List.Concat.{flat_map-cons}
use Rattle.bk_state.specs.declared.image.Image.{Image}
use Rattle.bk_level.specs.Levels.{Level, most_levels, has_only_below}
use Rattle.bk_state.specs.Limits.{most_turns, most_lines, most_places, most_objects, most_holds}
use Rattle.bk_image.specs.declared.fault.ImageFault.{ImageFault}
use Rattle.bk_image.specs.declared.fault.ImageField.TheVariants as field
use Rattle.bk_base.specs.declared.stop.Stop.{Stop}
use Rattle.bk_image.specs.declared.version.Version.{Version}
use Rattle.bk_image.specs.declared.version.Version.TheVariants.{One, Two}
use Rattle.bk_image.specs.Versions.{version_number, version_of, subjects_of, can_say, version_for, is_needless}
use Rattle.bk_image.specs.Parts.{Rest, Reads, ◌>>=◌, Gives, fault_at, each_of, is_outside}
use Rattle.bk_image.specs.Numbers.{byte, word}
use Rattle.bk_image.specs.Header.{is_magic, magic_at, byte_at, word_at, header_at}
use Rattle.bk_image.specs.Subjects.{level_at, after_levels, schedule_at, subject_at}
use Rattle.bk_image.specs.Objects.{objects_in, object_at, after_objects}
use Rattle.bk_image.specs.Holds.{hold_at}
use Rattle.bk_image.specs.Image.{image_at, image_of}
use Rattle.bk_image.specs.Spelling.{word_bytes, header_bytes, header_of, level_bytes, subject_bytes, object_bytes, hold_bytes, spelling, IsSpelt}
use Rattle.bk_base.proofs.FaultLemmas.{bind_ok, ok_is, all_pass}
use Rattle.bk_image.proofs.Takes.{IsBytes, Takes, Takes-nothing, Takes-then, checked_ok, Spells, checked_spells, all_take, by_places}
use Rattle.bk_image.proofs.Spelt.{byte_spells, word_spells, level_spells, level_said, two_is_not_one, all_push, schedule_spells, subject_spells, object_spells, hold_spells}
use Rattle.bk_image.proofs.Headers.{header_counted}
use Rattle.bk_image.proofs.Steps as step

-- ---- one part after another

-- what p reads, after the front was taken from the start, is spelt by all that is taken then
pub record Ends {X : Type 0} (text : X → List ℕ) (start : Rest) (front : List ℕ) (rest : Rest) (p : Reads X) : Type 0 where
  pub spells : Takes start front rest → (x : X × Rest) → p ≡ Ok x → Takes start (text x.0) x.1

-- with what is known of the part: that it was read
ends_told : {A X : Type 0} (text : X → List ℕ) (start : Rest) (front : List ℕ) (rest : Rest) (piece : A → List ℕ) (p : Rest → Reads A) (g : A × Rest → Reads X)
    → Spells piece p → ((a : A) (r : Rest) → p rest ≡ Ok (a, r) → Ends text start (front ++ piece a) r (g (a, r))) → Ends text start front rest (p rest >>= g)
ends_told text start front rest piece p g spells next = record {
  spells = λ taken x e.
      let b = bind_ok (p rest) g x e in
      (next b.0.0 b.0.1 b.1).spells (Takes-then start front rest (piece b.0.0) b.0.1 taken (spells rest b.0 taken.fits b.1)) x b.2;
}

ends_then : {A X : Type 0} (text : X → List ℕ) (start : Rest) (front : List ℕ) (rest : Rest) (piece : A → List ℕ) (p : Rest → Reads A) (g : A × Rest → Reads X)
    → Spells piece p → ((a : A) (r : Rest) → Ends text start (front ++ piece a) r (g (a, r))) → Ends text start front rest (p rest >>= g)
ends_then text start front rest piece p g spells next = ends_told text start front rest piece p g spells (λ a r is. next a r)

-- the parts of one kind, as many as were asked for, and with what is known of them
record Read {A : Type 0} (one : List A → Rest → Reads A) (n : ℕ) (rest : Rest) (xs : List A) (r : Rest) : Type 0 where
  count : length xs ≡ n
  fits : IsBytes rest.bytes
  is : each_of one n [] rest ≡ Ok (xs, r)

ends_each : {A X : Type 0} (text : X → List ℕ) (start : Rest) (front : List ℕ) (rest : Rest) (piece : A → List ℕ) (one : List A → Rest → Reads A) (n : ℕ) (g : List A × Rest → Reads X)
    → ((before : List A) → Spells piece (one before)) → ((xs : List A) (r : Rest) → Read one n rest xs r → Ends text start (front ++ flat_map piece xs) r (g (xs, r))) → Ends text start front rest (each_of one n [] rest >>= g)
ends_each text start front rest piece one n g spells next = record {
  spells = λ taken x e.
      let b = bind_ok (each_of one n [] rest) g x e in
      let t = all_take piece one spells n rest b.0 taken.fits b.1 in
      (next b.0.0 b.0.1 (record { count = t.0; fits = taken.fits; is = b.1 })).spells (Takes-then start front rest (flat_map piece b.0.0) b.0.1 taken t.1) x b.2;
}

ends_passed : {X : Type 0} (text : X → List ℕ) (start : Rest) (front : List ℕ) (rest : Rest) (c : Result (Unit {0}) ImageFault) (p : Reads X) → ((u : Unit {0}) → c ≡ Ok u → Ends text start front rest p) → Ends text start front rest (c >>= λ passed. p)
ends_passed text start front rest (Ok u) p h = h u refl
ends_passed text start front rest (Err d) p h = record { spells = λ taken x e. absurd cc }

ends_done : {X : Type 0} (text : X → List ℕ) (start : Rest) (rest : Rest) (y : X) → Ends text start (text y) rest (Ok (y, rest))
ends_done text start rest y = record { spells = λ taken x e. subst (λ z. Takes start (text z.0) z.1) (ok_is (y, rest) x e) taken }

-- ---- the header

magic_is : (a b c d : ℕ) → not (a == 66 && b == 76 && c == 80 && d == 75) ≡ false → (a ≡ 66) × (b ≡ 76) × (c ≡ 80) × (d ≡ 75)
magic_is a b c d h = (grind (arith, nat_tests, h), grind (arith, nat_tests, h), grind (arith, nat_tests, h), grind (arith, nat_tests, h))

magic_spells : Spells (λ x. 66 ∷ 76 ∷ 80 ∷ 75 ∷ []) magic_at
unfolding magic_at
magic_spells = checked_spells (λ x. 66 ∷ 76 ∷ 80 ∷ 75 ∷ []) 4 (λ b. (field.Magic, not (is_magic b)) ∷ []) (λ b. tt) (λ b count fit passed.
    let m = magic_is (byte b 0) (byte b 1) (byte b 2) (byte b 3) passed.0 in
    (λ i. sym m.0 i ∷ sym m.1 i ∷ sym m.2 i ∷ sym m.3 i ∷ []) ∙ by_places b 4 count)

-- the version that was read is 1 or 2
version_is : (rest : Rest) (x : ℕ × Rest) → IsBytes rest.bytes → word_at field.Version 1 2 rest ≡ Ok x → version_number (version_of x.0) ≡ x.0
unfolding word_at
version_is rest x fits e =
    let c = checked_ok 2 (λ b. (field.Version, is_outside 1 2 (word b 0)) ∷ []) (λ b. word b 0) rest x fits e in
    of_number x.0 (subst (λ (n : ℕ). is_outside 1 2 n ≡ false) c.is c.passed.0)
  where
    of_number : (n : ℕ) → is_outside 1 2 n ≡ false → version_number (version_of n) ≡ n
    of_number zero within = cc
    of_number (suc zero) within = refl
    of_number (suc (suc zero)) within = refl
    of_number (suc (suc (suc n))) within = absurd (grind (arith, nat_tests, within))

version_spells : Spells (λ x. word_bytes (version_number (version_of x))) (word_at field.Version 1 2)
version_spells rest x fits e = subst (λ n. Takes rest (word_bytes n) x.1) (sym (version_is rest x fits e)) (word_spells field.Version 1 2 rest x fits e)

header_ends : (rest : Rest) → Ends header_bytes rest [] rest (header_at rest)
unfolding header_at
header_ends rest =
    ends_then header_bytes rest [] rest (λ x. 66 ∷ 76 ∷ 80 ∷ 75 ∷ []) magic_at step.from_magic magic_spells (λ m r.
    let f0 : List ℕ = 66 ∷ 76 ∷ 80 ∷ 75 ∷ [] in
    ends_then header_bytes rest f0 r (λ x. word_bytes (version_number (version_of x))) (word_at field.Version 1 2) step.from_version version_spells (λ v r.
    let version = version_of v in
    let f1 : List ℕ = f0 ++ word_bytes (version_number version) in
    ends_then header_bytes rest f1 r word_bytes (word_at field.Turns 1 most_turns) (step.from_turns version) (word_spells field.Turns 1 most_turns) (λ turns r.
    let f2 : List ℕ = f1 ++ word_bytes turns in
    ends_then header_bytes rest f2 r (λ x. x ∷ []) (byte_at field.Counts 1 most_levels) (step.from_levels version turns) (byte_spells field.Counts 1 most_levels) (λ levels r.
    ends_then header_bytes rest (f2 ++ (levels ∷ [])) r (λ x. x ∷ []) (byte_at field.Counts 1 (subjects_of version)) (step.from_subjects version turns levels) (byte_spells field.Counts 1 (subjects_of version)) (λ subjects r.
    let f4 : List ℕ = f2 ++ (levels ∷ []) ++ (subjects ∷ []) in
    ends_then header_bytes rest f4 r (λ x. x ∷ []) (byte_at field.Counts 0 most_lines) (step.from_lines version turns levels subjects) (byte_spells field.Counts 0 most_lines) (λ lines r.
    ends_then header_bytes rest (f4 ++ (lines ∷ [])) r (λ x. x ∷ []) (byte_at field.Counts 1 most_places) (step.from_schedule version turns levels subjects lines) (byte_spells field.Counts 1 most_places) (λ schedule r.
    let f6 : List ℕ = f4 ++ (lines ∷ []) ++ (schedule ∷ []) in
    ends_then header_bytes rest f6 r word_bytes (word_at field.Counts 1 most_objects) (step.from_objects version turns levels subjects lines schedule) (word_spells field.Counts 1 most_objects) (λ objects r.
    ends_then header_bytes rest (f6 ++ word_bytes objects) r word_bytes (word_at field.Counts 0 most_holds) (step.from_holds version turns levels subjects lines schedule objects) (word_spells field.Counts 0 most_holds) (λ holds r.
    ends_done header_bytes rest r (step.counted version turns levels subjects lines schedule objects holds))))))))))

header_spells : Spells header_bytes header_at
header_spells rest x fits e = (header_ends rest).spells (Takes-nothing rest fits) x e

-- ---- the image

-- numbers of one byte are their own spelling
pub flat_map-single : (xs : List ℕ) → flat_map (λ x. x ∷ []) xs ≡ xs
flat_map-single [] = refl
flat_map-single (x ∷ xs) = flat_map-cons (λ x. x ∷ []) x xs ∙ ap (λ (t : List ℕ). x ∷ t) (flat_map-single xs)

-- each of the levels that were read in version 1 has only categories below 16
levels_said : (n : ℕ) (before : List Level) (rest : Rest) (x : List Level × Rest) → IsBytes rest.bytes → list_all (has_only_below 16) before ≡ true → each_of (level_at One) n before rest ≡ Ok x → list_all (has_only_below 16) x.0 ≡ true
unfolding each_of
levels_said zero before rest x fits said e = subst (λ (y : List Level × Rest). list_all (has_only_below 16) y.0 ≡ true) (ok_is (before, rest) x e) said
levels_said (suc n) before rest x fits said e =
    let a = bind_ok (level_at One before rest) (λ y. each_of (level_at One) n (before ++ y.0 ∷ []) y.1) x e in
    let t = level_spells One before rest a.0 fits a.1 in
    levels_said n (before ++ a.0.0 ∷ []) a.0.1 x t.fits (all_push (has_only_below 16) before a.0.0 said (level_said before rest a.0 fits a.1)) a.2

-- the version that was read is the one for the image
version_for_is : (version : Version) (subjects : ℕ) (levels : List Level) (u : Unit {0}) → subjects ≤ subjects_of version → (version ≡ One → list_all (has_only_below 16) levels ≡ true) → after_levels version subjects levels ≡ Ok u → (if can_say One subjects levels then One else Two) ≡ version
unfolding after_levels
version_for_is One subjects levels u few said e = by (can_say One subjects levels) (and_from (nat_le subjects 32) (list_all (has_only_below 16) levels) (grind (arith, nat_tests, few)) (said refl))
  where
    by : (b : Bool) → b ≡ true → (if b then One else Two) ≡ One
    by true is = refl
    by false is = cc
version_for_is Two subjects levels u few said e = by (can_say One subjects levels) (all_pass (fault_at 4) ((field.Version, is_needless Two subjects levels) ∷ []) u e).0
  where
    by : (b : Bool) → b ≡ false → (if b then One else Two) ≡ Two
    by true is = cc
    by false is = refl

image_ends : (rest : Rest) → Ends spelling rest [] rest (image_at rest)
unfolding image_at spelling
image_ends rest =
    ends_told spelling rest [] rest header_bytes header_at step.image_from_header header_spells (λ h r header_read.
    let counted = header_counted rest (h, r) header_read in
    ends_each spelling rest (header_bytes h) r (level_bytes h.version) (level_at h.version) h.levels (step.image_from_levels h) (level_spells h.version) (λ levels r levels_read.
    let f1 : List ℕ = header_bytes h ++ flat_map (level_bytes h.version) levels in
    ends_passed spelling rest f1 r (after_levels h.version h.subjects levels) (step.image_from_said h levels r) (λ u said.
    let version : (if can_say One h.subjects levels then One else Two) ≡ h.version = version_for_is h.version h.subjects levels u counted.subjects.1 (levels_of_one h.version h.levels _ (levels, r) levels_read.fits levels_read.is) said in
    ends_each spelling rest f1 r (λ x. x ∷ []) (schedule_at h.subjects) h.schedule (step.image_from_schedule h levels) (schedule_spells h.subjects) (λ schedule r schedule_read.
    let f2 : List ℕ = f1 ++ flat_map (λ x. x ∷ []) schedule in
    ends_each spelling rest f2 r subject_bytes (subject_at levels) h.subjects (step.image_from_subjects h levels schedule) (subject_spells levels) (λ subjects r subjects_read.
    let f3 : List ℕ = f2 ++ flat_map subject_bytes subjects in
    let start = r.at in
    ends_each spelling rest f3 r (object_bytes h.version) (object_at h.version levels h.subjects h.lines) h.objects (step.image_from_objects h levels schedule subjects start) (object_spells h.version levels h.subjects h.lines) (λ objects r objects_read.
    let f4 : List ℕ = f3 ++ flat_map (object_bytes h.version) objects in
    ends_passed spelling rest f4 r (after_objects h.version h.lines objects start) (step.image_from_checks h levels schedule subjects objects r) (λ u passed.
    ends_each spelling rest f4 r hold_bytes (hold_at levels subjects (objects_in objects)) h.holds (step.image_from_holds h levels schedule subjects objects) (hold_spells levels subjects (objects_in objects)) (λ holds r holds_read.
    let image = step.made h.turns h.lines levels schedule subjects objects holds in
    let same : h.version ≡ version_for image = sym (ap (λ (n : ℕ). if can_say One n levels then One else Two) subjects_read.count ∙ version) in
    let counts : h ≡ header_of image = λ i. step.counted (same i) h.turns (sym levels_read.count i) (sym subjects_read.count i) h.lines (sym schedule_read.count i) (sym objects_read.count i) (sym holds_read.count i) in
    let text : spelling image ≡ f4 ++ flat_map hold_bytes holds = λ i. header_bytes (sym counts i) ++ flat_map (level_bytes (sym same i)) levels ++ sym (flat_map-single schedule) i ++ flat_map subject_bytes subjects ++ flat_map (object_bytes (sym same i)) objects ++ flat_map hold_bytes holds in
    subst (λ t. Ends spelling rest t r (Ok (image, r))) text (ends_done spelling rest r image)))))))))
  where
    levels_of_one : (version : Version) (n : ℕ) (rest : Rest) (x : List Level × Rest) → IsBytes rest.bytes → each_of (level_at version) n [] rest ≡ Ok x → version ≡ One → list_all (has_only_below 16) x.0 ≡ true
    levels_of_one One n rest x fits e is = levels_said n [] rest x fits refl e
    levels_of_one Two n rest x fits e is = absurd (two_is_not_one is)

front_is : (bytes text rest : List ℕ) (n : ℕ) → bytes ≡ text ++ rest → n ≡ length text → take n bytes ≡ text
front_is bytes text rest n e count = rw (e, count) (take_at text rest (length text) refl)

-- an image that was read is spelt by the first bytes, so many
pub image_spelt : (bytes : List ℕ) (image : Image) (n : ℕ) → IsBytes bytes → image_of bytes ≡ Ok (image, n) → IsSpelt bytes image n
unfolding image_of
image_spelt bytes image n fits e =
    let start : Rest = record { at = 0; bytes = bytes } in
    let a = bind_ok (image_at start) (λ i. Ok (i.0, i.1.at)) (image, n) e in
    let t = (image_ends start).spells (Takes-nothing start fits) a.0 a.1 in
    let count : a.0.1.at ≡ length (spelling a.0.0) = omega (arith, t.place) in
    let front : take a.0.1.at bytes ≡ spelling a.0.0 = front_is bytes (spelling a.0.0) a.0.1.bytes a.0.1.at t.parts count in
    subst (λ (y : Image × ℕ). IsSpelt bytes y.0 y.1) (ok_is (a.0.0, a.0.1.at) (image, n) a.2) (record { text = front; count = count })

-- the same of what a function returned
pub is_spelt : {Y : Type 0} (bytes : List ℕ) (view : Y → Image × ℕ) (r : Result Y (Stop ImageFault)) → IsBytes bytes → Gives view r (image_of bytes) → IfOk r (λ x. IsSpelt bytes (view x).0 (view x).1)
is_spelt bytes view (Ok x) fits given = image_spelt bytes (view x).0 (view x).1 fits given
is_spelt bytes view (Err e) fits given = tt
