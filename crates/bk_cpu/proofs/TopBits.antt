use Rattle.std.proofs.Common.{◌≡◌, ℕ, zero, suc, ◌+◌, ◌*◌, ◌/◌, ◌%◌, ◌<◌, refl, sym, ◌∙◌, ap, subst, arith, Bool, true, false, List, [], ◌∷◌, Some, None}
use Rattle.std.specs.Prelude.{◌==◌, if◌then◌else◌, option_map}
use Rattle.std.specs.Option.{option_or}
use Rattle.std.proofs.lemmas.Bool.Decides.{nat_tests}
use Rattle.std.proofs.lemmas.Grind.{common_steps}
use Rattle.bk_space.specs.declared.reference.Width.{Width}
use Rattle.bk_space.specs.declared.field.Field.{Field}
use Rattle.bk_space.specs.declared.registers.Regs.{Regs}
use Rattle.bk_space.specs.AddrSpace.{AddrSpace}
use Rattle.bk_isa.specs.declared.operation.Bin.{Bin}
use Rattle.bk_isa.specs.declared.operation.Un.{Un}
use Rattle.bk_isa.specs.declared.operation.Cond.{Cond}
use Rattle.bk_isa.specs.declared.instr.Instr.TheVariants.{Double, Single, Branch, Emt}
use Rattle.bk_isa.specs.Decode.{look_up, doubles, singles, branches, field_at, register_at, number_at, single_at, parts_of, decode_of}
use Rattle.bk_operand.specs.Part.{given}
use Rattle.bk_exec.specs.Given.{done}
use Rattle.bk_exec.specs.declared.ending.Ending.TheVariants.{Called}
use Rattle.bk_exec.specs.Operands.{double_of, single_of}
use Rattle.bk_exec.specs.Control.{branched}
use Rattle.bk_exec.specs.Exec.{executed}

-- the fact holds of each code and its value
abbrev AllAt : {X : Type 0} → (ℕ → X → Type 0) → List (ℕ × X) → Type 0
AllAt P [] = Unit {0}
AllAt P (row ∷ rows) = P row.0 row.1 × AllAt P rows

-- .. so of a code that is looked up
found_at : {X : Type 0} (P : ℕ → X → Type 0) (rows : List (ℕ × X)) (code : ℕ) (x : X) → AllAt P rows → look_up rows code ≡ Some x → P code x
found_at P [] code x all h = cc
found_at P (row ∷ rows) code x all h = by (code == row.0) refl (found_at P rows code x all.1) h
  where
    by : (b : Bool) → (code == row.0) ≡ b → (look_up rows code ≡ Some x → P code x) → (if b then Some row.1 else look_up rows code) ≡ Some x → P code x
    by true e rest h =
        let same : row.0 ≡ code = grind (arith, nat_tests, e) in
        let value : row.1 ≡ x = cc in
        subst (λ n. P n x) same (subst (λ y. P row.0 y) value all.0)
    by false e rest h = rest h

-- an operation with two fields, by the top four bits
decode-double : (word : ℕ) (op : Bin) (width : Width) → look_up doubles (word / 0o10000) ≡ Some (op, width) → decode_of word ≡ Some (Double op width (field_at (word / 64 % 64)) (field_at (word % 64)))
decode-double word op width code =
    let top : word / 64 / 64 ≡ word / 0o10000 = grind (arith, common_steps) in
    let rest = option_or (register_at (word / 64) (word % 64)) (option_or (number_at (word / 64) (word % 64)) (single_at (word / 64) (word % 64))) in
    ap (λ o. option_or (option_map (λ p. Double p.0 p.1 (field_at (word / 64 % 64)) (field_at (word % 64))) o) rest) (ap (look_up doubles) top ∙ code)

-- an operation with one field, by the top ten bits
abbrev IsSingle : ℕ → Un × Width → Type 0
IsSingle high p = (low : ℕ) → parts_of high low ≡ Some (Single p.0 p.1 (field_at low))

decode-single : (word : ℕ) (op : Un) (width : Width) → look_up singles (word / 0o100) ≡ Some (op, width) → decode_of word ≡ Some (Single op width (field_at (word % 64)))
decode-single word op width code = found_at IsSingle singles (word / 64) (op, width) all code (word % 64)
  where
    all : AllAt IsSingle singles
    all = (
      (λ low. refl),
      (
        (λ low. refl),
        (
          (λ low. refl),
          (
            (λ low. refl),
            (
              (λ low. refl),
              (
                (λ low. refl),
                (
                  (λ low. refl),
                  (
                    (λ low. refl),
                    (
                      (λ low. refl),
                      (
                        (λ low. refl),
                        (
                          (λ low. refl),
                          (
                            (λ low. refl),
                            (
                              (λ low. refl),
                              (
                                (λ low. refl),
                                (
                                  (λ low. refl),
                                  (
                                    (λ low. refl),
                                    (
                                      (λ low. refl),
                                      (
                                        (λ low. refl),
                                        (
                                          (λ low. refl),
                                          (
                                            (λ low. refl),
                                            (
                                              (λ low. refl),
                                              (
                                                (λ low. refl),
                                                (
                                                  (λ low. refl),
                                                  (
                                                    (λ low. refl),
                                                    (
                                                      (λ low. refl),
                                                      (
                                                        (λ low. refl),
                                                        tt,
                                                      ),
                                                    ),
                                                  ),
                                                ),
                                              ),
                                            ),
                                          ),
                                        ),
                                      ),
                                    ),
                                  ),
                                ),
                              ),
                            ),
                          ),
                        ),
                      ),
                    ),
                  ),
                ),
              ),
            ),
          ),
        ),
      ),
    )

-- a branch, by the top eight bits
abbrev IsBranch : ℕ → Cond → Type 0
IsBranch high branch = (low : ℕ) → parts_of high low ≡ Some (Branch branch (high % 4 * 64 + low))

-- the fact holds of four codes, which the two bits after the top eight tell apart
abbrev AllFour : (ℕ → Type 0) → ℕ → Type 0
AllFour P code = P code × P (code + 1) × P (code + 2) × P (code + 3)

-- .. so of each of them
one_of : (P : ℕ → Type 0) (code high rest : ℕ) → AllFour P code → rest < 4 → high ≡ code + rest → P high
one_of P code high zero all less e =
    let same : code ≡ high = omega (arith, e) in
    subst P same all.0
one_of P code high (suc zero) all less e = subst P (sym e) all.1
one_of P code high (suc (suc zero)) all less e = subst P (sym e) all.2
one_of P code high (suc (suc (suc zero))) all less e = subst P (sym e) all.3
one_of P code high (suc (suc (suc (suc rest)))) all less e = absurd (omega (arith, less))

abbrev AreBranches : ℕ → Cond → Type 0
AreBranches code branch = AllFour (λ high. IsBranch high branch) code

decode-branch : (word : ℕ) (branch : Cond) → look_up branches (word / 0o400 * 4) ≡ Some branch → decode_of word ≡ Some (Branch branch (word % 0o400))
decode-branch word branch code =
    let less : word / 64 % 4 < 4 = grind (arith, common_steps) in
    let high : word / 64 ≡ word / 0o400 * 4 + word / 64 % 4 = grind (arith, common_steps) in
    let offset : word / 64 % 4 * 64 + word % 64 ≡ word % 0o400 = grind (arith, common_steps) in
    one_of (λ n. IsBranch n branch) (word / 0o400 * 4) (word / 64) (word / 64 % 4) (found_at AreBranches branches (word / 0o400 * 4) branch all code) less high (word % 64)
    ∙ ap (λ n. Some (Branch branch n)) offset
  where
    all : AllAt AreBranches branches
    all = (
      ((λ low. refl), (λ low. refl), (λ low. refl), (λ low. refl)),
      (
        ((λ low. refl), (λ low. refl), (λ low. refl), (λ low. refl)),
        (
          ((λ low. refl), (λ low. refl), (λ low. refl), (λ low. refl)),
          (
            ((λ low. refl), (λ low. refl), (λ low. refl), (λ low. refl)),
            (
              ((λ low. refl), (λ low. refl), (λ low. refl), (λ low. refl)),
              (
                ((λ low. refl), (λ low. refl), (λ low. refl), (λ low. refl)),
                (
                  ((λ low. refl), (λ low. refl), (λ low. refl), (λ low. refl)),
                  (
                    ((λ low. refl), (λ low. refl), (λ low. refl), (λ low. refl)),
                    (
                      ((λ low. refl), (λ low. refl), (λ low. refl), (λ low. refl)),
                      (
                        ((λ low. refl), (λ low. refl), (λ low. refl), (λ low. refl)),
                        (
                          ((λ low. refl), (λ low. refl), (λ low. refl), (λ low. refl)),
                          (
                            ((λ low. refl), (λ low. refl), (λ low. refl), (λ low. refl)),
                            (
                              ((λ low. refl), (λ low. refl), (λ low. refl), (λ low. refl)),
                              (
                                ((λ low. refl), (λ low. refl), (λ low. refl), (λ low. refl)),
                                (
                                  ((λ low. refl), (λ low. refl), (λ low. refl), (λ low. refl)),
                                  tt,
                                ),
                              ),
                            ),
                          ),
                        ),
                      ),
                    ),
                  ),
                ),
              ),
            ),
          ),
        ),
      ),
    )

-- EMT, by the top eight bits
abbrev IsCall : ℕ → Type 0
IsCall high = (low : ℕ) → parts_of high low ≡ Some (Emt (high % 4 * 64 + low))

decode-call : (word : ℕ) → word / 0o400 ≡ 0o210 → decode_of word ≡ Some (Emt (word % 0o400))
decode-call word code =
    let less : word / 64 % 4 < 4 = grind (arith, common_steps) in
    let high : word / 64 ≡ 0o1040 + word / 64 % 4 = grind (arith, common_steps, code) in
    let number : word / 64 % 4 * 64 + word % 64 ≡ word % 0o400 = grind (arith, common_steps) in
    one_of IsCall 0o1040 (word / 64) (word / 64 % 4) ((λ low. refl), (λ low. refl), (λ low. refl), (λ low. refl)) less high (word % 64)
    ∙ ap (λ n. Some (Emt n)) number

-- what the words do that are looked up by their top bits
pub executed-double : (pages : AddrSpace) (word : ℕ) (op : Bin) (width : Width) (src dst : Field) (regs : Regs) → look_up doubles (word / 0o10000) ≡ Some (op, width) → src ≡ field_at (word / 64 % 64) → dst ≡ field_at (word % 64) → double_of pages op width src dst regs ≡ executed pages (decode_of word) regs
unfolding executed
executed-double pages word op width src dst regs code from to =
    (λ i. double_of pages op width (from i) (to i) regs) ∙ ap (λ o. executed pages o regs) (sym (decode-double word op width code))

pub executed-single : (pages : AddrSpace) (word : ℕ) (op : Un) (width : Width) (dst : Field) (regs : Regs) → look_up singles (word / 0o100) ≡ Some (op, width) → dst ≡ field_at (word % 64) → single_of pages op width dst regs ≡ executed pages (decode_of word) regs
unfolding executed
executed-single pages word op width dst regs code to =
    (λ i. single_of pages op width (to i) regs) ∙ ap (λ o. executed pages o regs) (sym (decode-single word op width code))

pub executed-branch : (pages : AddrSpace) (word : ℕ) (branch : Cond) (regs : Regs) → look_up branches (word / 0o400 * 4) ≡ Some branch → done None (branched branch (word % 0o400) regs) ≡ executed pages (decode_of word) regs
unfolding executed
executed-branch pages word branch regs code = ap (λ o. executed pages o regs) (sym (decode-branch word branch code))

pub executed-call : (pages : AddrSpace) (word : ℕ) (regs : Regs) → word / 0o400 ≡ 0o210 → given (None, Called (word % 0o400)) regs ≡ executed pages (decode_of word) regs
unfolding executed
executed-call pages word regs code = ap (λ o. executed pages o regs) (sym (decode-call word code))
