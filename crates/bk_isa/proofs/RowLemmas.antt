use Rattle.std.proofs.Common.{◌≡◌, ◌≢◌, ℕ, zero, suc, ◌+◌, ◌-◌, ◌*◌, ◌/◌, ◌%◌, ◌<◌, ◌≤◌, ◌^◌, refl, sym, ◌∙◌, ap, subst}
use Rattle.std.proofs.Common.{arith, Bool, true, false, List, [], ◌∷◌, Some, None, IfSome, cond, option_map}
use Rattle.std.specs.Prelude.{Option, ◌&&◌, ◌||◌, ◌==◌, nat_lt, nat_le, if◌then◌else◌, find}
use Rattle.std.specs.Option.{option_or}
use Rattle.std.specs.List.{list_all}
use Rattle.std.specs.Str.{bytes_eq}
use Rattle.std.proofs.lemmas.Bool.Decides.{nat_tests}
use Rattle.std.proofs.lemmas.Slice.Eq.{bytes_eq-Decides}
use Rattle.bk_space.specs.declared.reference.Width.{Width}
use Rattle.bk_space.specs.declared.field.Field.{Field}
use Rattle.bk_isa.specs.declared.operation.Bin.{Bin}
use Rattle.bk_isa.specs.declared.operation.Un.{Un}
use Rattle.bk_isa.specs.declared.operation.EisOp.{EisOp}
use Rattle.bk_isa.specs.declared.operation.Cond.{Cond}
use Rattle.bk_isa.specs.declared.table.Row.{Row}
use Rattle.bk_isa.specs.declared.table.TheConstants.{TABLE}
use Rattle.bk_isa.specs.declared.instr.Instr.{Instr}
use Rattle.bk_isa.specs.declared.instr.Instr.TheVariants.{Double, Single, Eis, Branch}
use Rattle.bk_isa.specs.Decode.{look_up, doubles, eis, registers, branches, numbers, singles, others, field_at}
use Rattle.bk_isa.specs.Decode.{double_at, register_at, number_at, single_at, rest_at, parts_of, decode_of}
use Rattle.bk_isa.specs.Names.{name_of}
use Rattle.bk_isa.specs.Rows.{row_name, covers}

-- ---- numbers of a block

abbrev size : ℕ → ℕ
size zero = 1
size (suc k) = size k + size k

-- p is true of the 2 ^ k numbers from a * 2 ^ k on
abbrev each : (ℕ → Bool) → ℕ → ℕ → Bool
each p zero a = p a
each p (suc k) a = each p k (2 * a) && each p k (2 * a + 1)

both_of : (a b : Bool) → (a && b) ≡ true → (a ≡ true) × (b ≡ true)
both_of true true h = (refl, refl)
both_of true false h = cc
both_of false b h = cc

each-at : (p : ℕ → Bool) (k a n : ℕ) → n < size k → each p k a ≡ true → p (a * size k + n) ≡ true
each-at p zero a n h e =
    let same : a ≡ a * 1 + n = omega (arith, h) in
    subst (λ t. p t ≡ true) same e
each-at p (suc k) a n h e = by (each-at p k (2 * a)) (each-at p k (2 * a + 1)) (both_of (each p k (2 * a)) (each p k (2 * a + 1)) e) (nat_lt n (size k)) refl
  where
    by : ((n : ℕ) → n < size k → each p k (2 * a) ≡ true → p (2 * a * size k + n) ≡ true) → ((n : ℕ) → n < size k → each p k (2 * a + 1) ≡ true → p ((2 * a + 1) * size k + n) ≡ true) → ((each p k (2 * a) ≡ true) × (each p k (2 * a + 1) ≡ true)) → (b : Bool) → nat_lt n (size k) ≡ b → p (a * (size k + size k) + n) ≡ true
    by left right halves true t =
        let lower : n < size k = grind (arith, nat_tests, t) in
        let same : 2 * a * size k + n ≡ a * (size k + size k) + n = omega arith in
        subst (λ m. p m ≡ true) same (left n lower halves.0)
    by left right halves false t =
        let upper : size k ≤ n = grind (arith, nat_tests, t) in
        let lower : n - size k < size k = omega (arith, upper, h) in
        let same : (2 * a + 1) * size k + (n - size k) ≡ a * (size k + size k) + n = omega (arith, upper) in
        subst (λ m. p m ≡ true) same (right (n - size k) lower halves.1)

each-below : (p : ℕ → Bool) (k n : ℕ) → n < size k → each p k 0 ≡ true → p n ≡ true
each-below p k n h e =
    let same : 0 * size k + n ≡ n = omega arith in
    subst (λ t. p t ≡ true) same (each-at p k 0 n h e)

-- ---- the name of a word's instruction, by the word's block of 64

option_map-or : {A B : Type 0} (f : A → B) (a b : Option A) → option_map f (option_or a b) ≡ option_or (option_map f a) (option_map f b)
option_map-or f None b = refl
option_map-or f (Some x) b = refl

abbrev AllOf : {X : Type 0} → (X → Type 0) → List (ℕ × X) → Type 0
AllOf P [] = Unit {0}
AllOf P (row ∷ rows) = P row.1 × AllOf P rows

look_up_all : {X : Type 0} (P : X → Type 0) (rows : List (ℕ × X)) (code : ℕ) → AllOf P rows → IfSome (look_up rows code) P
look_up_all P [] code all = tt
look_up_all P (row ∷ rows) code all = by (code == row.0) (look_up_all P rows code all.1)
  where
    by : (b : Bool) → IfSome (look_up rows code) P → IfSome (if b then Some row.1 else look_up rows code) P
    by true rest = all.0
    by false rest = rest

-- makers of instructions whose name does not depend on the bits
abbrev SameName : (ℕ → Instr) → Type 0
SameName make = (n m : ℕ) → name_of (make n) ≡ name_of (make m)

abbrev SameRegisterName : (ℕ → ℕ → Instr) → Type 0
SameRegisterName make = (reg n m : ℕ) → name_of (make reg n) ≡ name_of (make reg m)

name-made : (o : Option (ℕ → Instr)) (n m : ℕ) → IfSome o SameName → option_map name_of (option_map (λ make. make n) o) ≡ option_map name_of (option_map (λ make. make m) o)
name-made None n m h = refl
name-made (Some make) n m h = ap Some (h n m)

name-register : (o : Option (ℕ → ℕ → Instr)) (reg n m : ℕ) → IfSome o SameRegisterName → option_map name_of (option_map (λ make. make reg n) o) ≡ option_map name_of (option_map (λ make. make reg m) o)
name-register None reg n m h = refl
name-register (Some make) reg n m h = ap Some (h reg n m)

name-double : (o : Option (Bin × Width)) (src dst other : Field) → option_map name_of (option_map (λ p. Double p.0 p.1 src dst) o) ≡ option_map name_of (option_map (λ p. Double p.0 p.1 src other) o)
name-double None src dst other = refl
name-double (Some p) src dst other = refl

name-single : (o : Option (Un × Width)) (dst other : Field) → option_map name_of (option_map (λ p. Single p.0 p.1 dst) o) ≡ option_map name_of (option_map (λ p. Single p.0 p.1 other) o)
name-single None dst other = refl
name-single (Some p) dst other = refl

name-eis : (o : Option EisOp) (reg : ℕ) (src other : Field) → option_map name_of (option_map (λ op. Eis op reg src) o) ≡ option_map name_of (option_map (λ op. Eis op reg other) o)
name-eis None reg src other = refl
name-eis (Some op) reg src other = refl

name-branch : (o : Option Cond) (n m : ℕ) → option_map name_of (option_map (λ cond. Branch cond n) o) ≡ option_map name_of (option_map (λ cond. Branch cond m) o)
name-branch None n m = refl
name-branch (Some cond) n m = refl

numbers_named : (code : ℕ) → IfSome (look_up numbers code) SameName
numbers_named code = look_up_all SameName numbers code ((λ n m. refl), ((λ n m. refl), tt))

registers_named : (code : ℕ) → IfSome (look_up registers code) SameRegisterName
registers_named code = look_up_all SameRegisterName registers code ((λ r n m. refl), ((λ r n m. refl), ((λ r n m. refl), tt)))

others_named : (code : ℕ) → IfSome (look_up others code) SameName
others_named code = look_up_all SameName others code ((λ n m. refl), ((λ n m. refl), ((λ n m. refl), ((λ n m. refl), ((λ n m. refl), ((λ n m. refl), tt))))))

rest-none : (high low : ℕ) → high ≢ 0 → high ≢ 2 → rest_at high low ≡ None
rest-none high low h g = grind (arith, nat_tests)

-- two choices are alike where their parts are
or-alike : {A : Type 0} (f : Instr → A) (a b c d : Option Instr) → option_map f a ≡ option_map f c → option_map f b ≡ option_map f d → option_map f (option_or a b) ≡ option_map f (option_or c d)
or-alike f a b c d e g = option_map-or f a b ∙ ap (λ t. option_or t (option_map f b)) e ∙ ap (option_or (option_map f c)) g ∙ sym (option_map-or f c d)

name-parts : (high low : ℕ) → high ≢ 0 → high ≢ 2 → option_map name_of (parts_of high low) ≡ option_map name_of (parts_of high 0)
name-parts high low h g =
    let double : option_map name_of (double_at high low) ≡ option_map name_of (double_at high 0) =
    name-double (look_up doubles (high / 64)) (field_at (high % 64)) (field_at low) (field_at 0) in
    let register : option_map name_of (register_at high low) ≡ option_map name_of (register_at high 0) =
    or-alike name_of (option_map (λ op. Eis op (high % 8) (field_at low)) (look_up eis (high / 8))) (option_map (λ make. make (high % 8) low) (look_up registers (high / 8)))
    (option_map (λ op. Eis op (high % 8) (field_at 0)) (look_up eis (high / 8))) (option_map (λ make. make (high % 8) 0) (look_up registers (high / 8)))
    (name-eis (look_up eis (high / 8)) (high % 8) (field_at low) (field_at 0))
    (name-register (look_up registers (high / 8)) (high % 8) low 0 (registers_named (high / 8))) in
    let number : option_map name_of (number_at high low) ≡ option_map name_of (number_at high 0) =
    or-alike name_of (option_map (λ cond. Branch cond (high % 4 * 64 + low)) (look_up branches (high / 4 * 4))) (option_map (λ make. make (high % 4 * 64 + low)) (look_up numbers (high / 4 * 4)))
    (option_map (λ cond. Branch cond (high % 4 * 64 + 0)) (look_up branches (high / 4 * 4))) (option_map (λ make. make (high % 4 * 64 + 0)) (look_up numbers (high / 4 * 4)))
    (name-branch (look_up branches (high / 4 * 4)) (high % 4 * 64 + low) (high % 4 * 64 + 0))
    (name-made (look_up numbers (high / 4 * 4)) (high % 4 * 64 + low) (high % 4 * 64 + 0) (numbers_named (high / 4 * 4))) in
    let rest : option_map name_of (rest_at high low) ≡ option_map name_of (rest_at high 0) =
    ap (option_map name_of) (rest-none high low h g ∙ sym (rest-none high 0 h g)) in
    let single : option_map name_of (single_at high low) ≡ option_map name_of (single_at high 0) =
    or-alike name_of (option_map (λ p. Single p.0 p.1 (field_at low)) (look_up singles high)) (option_or (option_map (λ make. make low) (look_up others high)) (rest_at high low))
    (option_map (λ p. Single p.0 p.1 (field_at 0)) (look_up singles high)) (option_or (option_map (λ make. make 0) (look_up others high)) (rest_at high 0))
    (name-single (look_up singles high) (field_at low) (field_at 0))
    (or-alike name_of (option_map (λ make. make low) (look_up others high)) (rest_at high low) (option_map (λ make. make 0) (look_up others high)) (rest_at high 0)
    (name-made (look_up others high) low 0 (others_named high)) rest) in
    or-alike name_of (double_at high low) (option_or (register_at high low) (option_or (number_at high low) (single_at high low)))
    (double_at high 0) (option_or (register_at high 0) (option_or (number_at high 0) (single_at high 0))) double
    (or-alike name_of (register_at high low) (option_or (number_at high low) (single_at high low)) (register_at high 0) (option_or (number_at high 0) (single_at high 0)) register
    (or-alike name_of (number_at high low) (single_at high low) (number_at high 0) (single_at high 0) number single))

-- ---- the row of a word, by the word's block

-- a row covers whole blocks, or lies in the first or the third one, where the words without fields are
abbrev is_tame : Row → Bool
is_tame row = (row.base % 64 == 0 && row.words % 64 == 0) || (nat_le (row.base + row.words) 64 || (nat_le 128 row.base && nat_le (row.base + row.words) 192))

covers-block : (row : Row) (high low : ℕ) → is_tame row ≡ true → low < 64 → high ≢ 0 → high ≢ 2 → covers (high * 64 + low) row ≡ covers (high * 64) row
covers-block row high low tame l h g = plain row.base row.words tame
  where
    plain : (base words : ℕ) → ((base % 64 == 0 && words % 64 == 0) || (nat_le (base + words) 64 || (nat_le 128 base && nat_le (base + words) 192))) ≡ true → (nat_le base (high * 64 + low) && nat_lt (high * 64 + low) (base + words)) ≡ (nat_le base (high * 64) && nat_lt (high * 64) (base + words))
    plain base words t = grind (arith, nat_tests, t, l, h, g)

find-block : (rows : List Row) (high low : ℕ) → list_all is_tame rows ≡ true → low < 64 → high ≢ 0 → high ≢ 2 → find (covers (high * 64 + low)) rows ≡ find (covers (high * 64)) rows
find-block [] high low tame l h g = refl
find-block (row ∷ rows) high low tame l h g =
    let parts : (is_tame row ≡ true) × (list_all is_tame rows ≡ true) = both_of (is_tame row) (list_all is_tame rows) tame in
    ap (λ t. cond t (Some row) (find (covers (high * 64 + low)) rows)) (covers-block row high low parts.0 l h g)
    ∙ ap (cond (covers (high * 64) row) (Some row)) (find-block rows high low parts.1 l h g)

tame_table : list_all is_tame TABLE ≡ true
tame_table = refl

-- ---- one computation for each block, and one for each word of the two blocks without fields

abbrev same_name : Option (List ℕ) → Option (List ℕ) → Bool
same_name None None = true
same_name (Some a) (Some b) = bytes_eq a b
same_name None (Some b) = false
same_name (Some a) None = false

same_name_is : (a b : Option (List ℕ)) → same_name a b ≡ true → a ≡ b
same_name_is None None h = refl
same_name_is (Some a) (Some b) h = ap Some ((bytes_eq-Decides a b).0 h)
same_name_is None (Some b) h = cc
same_name_is (Some a) None h = cc

-- the word's name is the name of its row
abbrev is_one : ℕ → Bool
is_one word = same_name (option_map name_of (decode_of word)) (option_map row_name (find (covers word) TABLE))

blocks : each (λ high. is_one (high * 64)) 10 0 ≡ true
blocks = refl

first_block : each is_one 6 0 ≡ true
first_block = refl

third_block : each is_one 6 2 ≡ true
third_block = refl

-- the name of each word's instruction is the name of the row that covers it
pub name_of-decode_of : (word : ℕ) → word < 2 ^ 16 → option_map name_of (decode_of word) ≡ option_map row_name (find (covers word) TABLE)
name_of-decode_of word h = by (word / 64 == 0) refl (word / 64 == 2) refl
  where
    word_is : word / 64 * 64 + word % 64 ≡ word
    word_is = omega arith

    inside : word % 64 < 64
    inside = omega arith

    other : word / 64 ≢ 0 → word / 64 ≢ 2 → option_map name_of (decode_of word) ≡ option_map row_name (find (covers word) TABLE)
    other g k =
        let high : word / 64 < size 10 = omega (arith, h) in
        let block : option_map name_of (decode_of (word / 64 * 64)) ≡ option_map row_name (find (covers (word / 64 * 64)) TABLE) =
        same_name_is (option_map name_of (decode_of (word / 64 * 64))) (option_map row_name (find (covers (word / 64 * 64)) TABLE))
        (each-below (λ n. is_one (n * 64)) 10 (word / 64) high blocks) in
        let start : option_map name_of (decode_of (word / 64 * 64)) ≡ option_map name_of (parts_of (word / 64) 0) =
        let a : word / 64 * 64 / 64 ≡ word / 64 = omega arith in
        let b : word / 64 * 64 % 64 ≡ 0 = omega arith in
        ap (λ t. option_map name_of (parts_of t (word / 64 * 64 % 64))) a ∙ ap (λ t. option_map name_of (parts_of (word / 64) t)) b in
        let row : find (covers word) TABLE ≡ find (covers (word / 64 * 64)) TABLE =
        ap (λ t. find (covers t) TABLE) (sym word_is) ∙ find-block TABLE (word / 64) (word % 64) tame_table inside g k in
        name-parts (word / 64) (word % 64) g k ∙ sym start ∙ block ∙ ap (option_map row_name) (sym row)

    by : (a : Bool) → (word / 64 == 0) ≡ a → (b : Bool) → (word / 64 == 2) ≡ b → option_map name_of (decode_of word) ≡ option_map row_name (find (covers word) TABLE)
    by true e b f =
        let low : word < size 6 = grind (arith, nat_tests, e) in
        same_name_is (option_map name_of (decode_of word)) (option_map row_name (find (covers word) TABLE)) (each-below is_one 6 word low first_block)
    by false e true f =
        let low : word % 64 < size 6 = omega arith in
        let same : 2 * size 6 + word % 64 ≡ word = grind (arith, nat_tests, f) in
        same_name_is (option_map name_of (decode_of word)) (option_map row_name (find (covers word) TABLE))
        (subst (λ t. is_one t ≡ true) same (each-at is_one 6 2 (word % 64) low third_block))
    by false e false f = other (grind (arith, nat_tests, e)) (grind (arith, nat_tests, f))
