-- A format is read from the front of the bytes: what was read is read again from that front, whatever follows it; and a fault
-- stays where bytes follow as many as the format has at most. One induction over the format shows both.
use Rattle.std.proofs.Common.{◌≡◌, ℕ, zero, suc, ◌+◌, ◌<◌, ◌≤◌, Bool, true, false, ltb, List, [], ◌∷◌, ◌++◌, length, take, drop, Result, Ok, Err, refl, sym, ap}
use Rattle.std.proofs.Common.{subst, ◌∙◌, append_assoc, arith}
use Rattle.std.proofs.lemmas.Bool.{le-ltb, ltb-true, ltb-false}
use Rattle.std.proofs.lemmas.List.{append-nil, length-append, length-take, take_at, drop_at, take-append-drop, nil_from_length}
use Rattle.bk_base.specs.Faults.{◌>>=◌, first_failing}
use Rattle.bk_base.specs.Parts.{Rest, from, Reads, Format, part, checked, each_of, first_of}
use Rattle.bk_base.proofs.FaultLemmas.{bind_ok, ok_is}

-- the place is one of the format, and the bytes from there on reach as far as any of its texts
pub record IsAmple (limit at : ℕ) (bytes : List ℕ) : Type 0 where
  pub place : at ≤ limit
  pub reach : limit ≤ at + length bytes

-- what was read took a front of the bytes, within the format, and is read again from that front, whatever follows
pub record Framed {F X : Type 0} (limit at : ℕ) (p : List ℕ → Reads F X) (bytes : List ℕ) (x : X × Rest) : Type 0 where
  pub front : List ℕ
  pub parts : bytes ≡ front ++ x.1.bytes
  pub place : x.1.at ≡ at + length front
  pub within : at ≤ limit → x.1.at ≤ limit
  pub again : (more : List ℕ) → p (front ++ more) ≡ Ok (x.0, from x.1.at more)

-- the same of any answer: a fault is found again where more bytes follow those that reach far enough
abbrev pub Answers : {F X : Type 0} (limit at : ℕ) (p : List ℕ → Reads F X) (bytes : List ℕ) → Reads F X → Type 0
Answers limit at p bytes (Ok x) = Framed limit at p bytes x
Answers limit at p bytes (Err e) = IsAmple limit at bytes → (more : List ℕ) → p (bytes ++ more) ≡ Err e

abbrev pub FromFront : {F X : Type 0} (limit at : ℕ) (p : List ℕ → Reads F X) → Type 0
FromFront limit at p = (bytes : List ℕ) → Answers limit at p bytes (p bytes)

-- a reader is of fronts from each place
abbrev pub OfFronts : {F X : Type 0} (limit : ℕ) → (Rest → Reads F X) → Type 0
OfFronts limit read = (at : ℕ) → FromFront limit at (λ bytes. read (from at bytes))

module _ {F : Type 0} (limit : ℕ) where
  -- one answer after another
  joined : {A B : Type 0} (at : ℕ) (p : List ℕ → Reads F A) (g : A × Rest → Reads F B) (bytes : List ℕ) (a : A × Rest) (r : Reads F B)
      → Framed limit at p bytes a → Answers limit a.1.at (λ b. g (a.0, from a.1.at b)) a.1.bytes r → Answers limit at (λ b. p b >>= g) bytes r
  joined {A = A} at p g bytes a (Ok x) f s = record {
    front = f.front ++ s.front;
    parts = f.parts ∙ ap (λ (t : List ℕ). f.front ++ t) s.parts ∙ sym (append_assoc f.front s.front x.1.bytes);
    place = omega (arith, f.place, s.place, length-append f.front s.front);
    within = λ h. s.within (f.within h);
    again = λ more. ap (λ (t : List ℕ). p t >>= g) (append_assoc f.front s.front more) ∙ ap (λ (r : Reads F A). r >>= g) (f.again (s.front ++ more)) ∙ s.again more;
  }
  joined {A = A} at p g bytes a (Err e) f s = λ ample more.
      let count : length bytes ≡ length (f.front ++ a.1.bytes) = ap length f.parts in
      let reach : limit ≤ a.1.at + length a.1.bytes = omega (arith, ample.reach, f.place, count, length-append f.front a.1.bytes) in
      let next : IsAmple limit a.1.at a.1.bytes = record { place = f.within ample.place; reach = reach } in
      let split : bytes ++ more ≡ f.front ++ (a.1.bytes ++ more) = ap (λ (t : List ℕ). t ++ more) f.parts ∙ append_assoc f.front a.1.bytes more in
      ap (λ (t : List ℕ). p t >>= g) split ∙ ap (λ (r : Reads F A). r >>= g) (f.again (a.1.bytes ++ more)) ∙ s next more

  then_by : {A B : Type 0} (at : ℕ) (p : List ℕ → Reads F A) (g : A × Rest → Reads F B) (bytes : List ℕ) (r : Reads F A)
      → Answers limit at p bytes r → ((a : A) (at : ℕ) → FromFront limit at (λ bytes. g (a, from at bytes))) → Answers limit at (λ b. p b >>= g) bytes (r >>= g)
  then_by at p g bytes (Ok a) first second = joined at p g bytes a (g a) first (second a.0 a.1.at a.1.bytes)
  then_by at p g bytes (Err e) first second = λ ample more. ap (λ (r : Reads F _). r >>= g) (first ample more)

  pub fronts_then : {A B : Type 0} (at : ℕ) (p : List ℕ → Reads F A) (g : A × Rest → Reads F B) → FromFront limit at p
      → ((a : A) (at : ℕ) → FromFront limit at (λ bytes. g (a, from at bytes))) → FromFront limit at (λ bytes. p bytes >>= g)
  fronts_then at p g first second bytes = then_by at p g bytes (p bytes) (first bytes) second

  -- a check that doesn't look at the bytes that follow
  pub fronts_checked : {B : Type 0} (at : ℕ) (c : Result (Unit {0}) F) (p : List ℕ → Reads F B) → FromFront limit at p → FromFront limit at (λ bytes. c >>= λ passed. p bytes)
  fronts_checked at (Ok u) p h bytes = h bytes
  fronts_checked at (Err d) p h bytes = λ ample more. refl

  pub fronts_done : {B : Type 0} (at : ℕ) (y : B) → FromFront {F = F} limit at (λ bytes. Ok (y, from at bytes))
  fronts_done at y bytes = record { front = []; parts = refl; place = omega arith; within = λ h. h; again = λ more. refl }

  pub fronts_each : {X : Type 0} (next : List X → Rest → Reads F X) → ((before : List X) → OfFronts limit (next before)) → (n : ℕ) (before : List X) → OfFronts limit (each_of next n before)
  unfolding each_of
  fronts_each next fronts zero before at = fronts_done at before
  fronts_each next fronts (suc n) before at =
      fronts_then at (λ bytes. next before (from at bytes)) (λ x. each_of next n (before ++ x.0 ∷ []) x.1) (fronts before at)
      (λ x place. fronts_each next fronts n (before ++ x ∷ []) place)

module _ {K F : Type 0} (format : Format K F) where
  -- the next bytes, by whether they go too far and whether they are whole
  part_by : (n at : ℕ) (bytes : List ℕ) (long short : Bool) → ltb format.limit (at + n) ≡ long → ltb (length bytes) n ≡ short
      → Answers format.limit at (λ b. part format n (from at b)) bytes (part format n (from at bytes))
  unfolding part
  part_by n at bytes true short is_long is_short = rw is_long (λ ample more. refl)
  part_by n at bytes false true is_long is_short =
      let fits : at + n ≤ format.limit = ltb-false _ _ is_long in
      let short : length bytes < n = ltb-true _ _ is_short in
      rw (is_long, is_short) (λ ample more. absurd (omega (arith, ample.reach, fits, short)))
  part_by n at bytes false false is_long is_short =
      let fits : at + n ≤ format.limit = ltb-false _ _ is_long in
      let few : n ≤ length bytes = ltb-false _ _ is_short in
      let count : length (take n bytes) ≡ n = omega (arith, length-take n bytes) in
      rw (is_long, is_short) (record {
        front = take n bytes;
        parts = sym (take-append-drop n bytes);
        place = omega (arith, count);
        within = λ h. fits;
        again = λ more.
            let l : ltb (length (take n bytes ++ more)) n ≡ false = le-ltb _ _ (omega (arith, count, length-append (take n bytes) more)) in
            let t : take n (take n bytes ++ more) ≡ take n bytes = take_at (take n bytes) more n count in
            let d : drop n (take n bytes ++ more) ≡ more = drop_at (take n bytes) more n count in
            rw (l, t, d) refl;
      })

  pub fronts_part : (n : ℕ) → OfFronts format.limit (part format n)
  fronts_part n at bytes = part_by n at bytes (ltb format.limit (at + n)) (ltb (length bytes) n) refl refl

  pub fronts_of_checked : {X : Type 0} (n : ℕ) (checks : List ℕ → List (K × Bool)) (value : List ℕ → X) → OfFronts format.limit (checked format n checks value)
  fronts_of_checked n checks value at =
      fronts_then format.limit at (λ bytes. part format n (from at bytes)) (λ p. first_failing (format.fault at) (checks p.0) >>= λ passed. Ok (value p.0, p.1)) (fronts_part n at)
      (λ b next. fronts_checked format.limit next (first_failing (format.fault at) (checks b)) (λ bytes. Ok (value b, from next bytes)) (fronts_done format.limit next (value b)))

-- ---- the whole

module _ {F X : Type 0} (limit : ℕ) (read : Rest → Reads F X) (fronts : OfFronts limit read) where
  abbrev ending : X × Rest → Result (X × ℕ) F
  ending x = Ok (x.0, x.1.at)

  again_from : (bytes more : List ℕ) (y : X) (n : ℕ) (x : X × Rest) → Framed limit 0 (λ b. read (from 0 b)) bytes x → (x.0 ≡ y) × (x.1.at ≡ n)
      → first_of read (take n bytes ++ more) ≡ Ok (y, n)
  again_from bytes more y n x f is =
      let count : length f.front ≡ n = omega (arith, f.place, is.1) in
      let front : take n bytes ≡ f.front = ap (take n) f.parts ∙ take_at f.front x.1.bytes n count in
      let again : read (from 0 (take n bytes ++ more)) ≡ Ok (x.0, from x.1.at more) = ap (λ (t : List ℕ). read (from 0 (t ++ more))) front ∙ f.again more in
      ap (λ (r : Reads F X). r >>= ending) again ∙ (λ i. Ok (is.0 i, is.1 i))

  -- what was read is read again from the bytes that it took, whatever follows them
  pub first_again : (bytes : List ℕ) (y : X) (n : ℕ) → first_of read bytes ≡ Ok (y, n) → (more : List ℕ) → first_of read (take n bytes ++ more) ≡ Ok (y, n)
  first_again bytes y n e more =
      let a = bind_ok (read (from 0 bytes)) ending (y, n) e in
      let is = ok_is {F = F} (a.0.0, a.0.1.at) (y, n) a.2 in
      again_from bytes more y n a.0 (subst (λ r. Answers limit 0 (λ b. read (from 0 b)) bytes r) a.1 (fronts 0 bytes)) (λ i. (is i).0, λ i. (is i).1)

  -- no text is a proper front of another
  pub first_apart : (a b more : List ℕ) (v w : X) → first_of read a ≡ Ok (v, length a) → first_of read b ≡ Ok (w, length b) → b ≡ a ++ more → (b ≡ a) × (v ≡ w)
  first_apart a b more v w first second e =
      let whole : take (length a) a ≡ a = ap (take (length a)) (sym (append-nil a)) ∙ take_at a [] (length a) refl in
      let again : first_of read b ≡ Ok (v, length a) = ap (first_of read) (e ∙ ap (λ (t : List ℕ). t ++ more) (sym whole)) ∙ first_again a v (length a) first more in
      let same = ok_is {F = F} (v, length a) (w, length b) (sym again ∙ second) in
      let count : length a ≡ length b = λ i. (same i).1 in
      let none : length more ≡ 0 = omega (arith, count, ap length e, length-append a more) in
      (e ∙ ap (λ (t : List ℕ). a ++ t) (nil_from_length more none) ∙ append-nil a, λ i. (same i).0)

  ample : (bytes : List ℕ) → limit ≤ length bytes → IsAmple limit 0 bytes
  ample bytes h = record { place = omega arith; reach = omega (arith, h) }

  cut_by : (bytes more : List ℕ) (r : Reads F X) → limit ≤ length bytes → Answers limit 0 (λ b. read (from 0 b)) bytes r
      → (read (from 0 (bytes ++ more)) >>= ending) ≡ (r >>= ending)
  cut_by bytes more (Ok x) h f =
      let split : bytes ++ more ≡ f.front ++ (x.1.bytes ++ more) = ap (λ (t : List ℕ). t ++ more) f.parts ∙ append_assoc f.front x.1.bytes more in
      ap (λ (t : List ℕ). read (from 0 t) >>= ending) split ∙ ap (λ (r : Reads F X). r >>= ending) (f.again (x.1.bytes ++ more))
  cut_by bytes more (Err e) h f = ap (λ (r : Reads F X). r >>= ending) (f (ample bytes h) more)

  -- what follows as many bytes as the format has at most decides nothing
  pub first_cut : (bytes more : List ℕ) → limit ≤ length bytes → first_of read (bytes ++ more) ≡ first_of read bytes
  first_cut bytes more h = cut_by bytes more (read (from 0 bytes)) h (fronts 0 bytes)

  short_by : (bytes : List ℕ) (y : X) (n : ℕ) (x : X × Rest) → Framed limit 0 (λ b. read (from 0 b)) bytes x → (x.1.at ≡ n) → n ≤ limit
  short_by bytes y n x f is = let within : x.1.at ≤ limit = f.within (omega arith) in omega (arith, within, is)

  -- what is read has at most so many bytes
  pub first_short : (bytes : List ℕ) (y : X) (n : ℕ) → first_of read bytes ≡ Ok (y, n) → n ≤ limit
  first_short bytes y n e =
      let a = bind_ok (read (from 0 bytes)) ending (y, n) e in
      let is = ok_is {F = F} (a.0.0, a.0.1.at) (y, n) a.2 in
      short_by bytes y n a.0 (subst (λ r. Answers limit 0 (λ b. read (from 0 b)) bytes r) a.1 (fronts 0 bytes)) (λ i. (is i).1)
