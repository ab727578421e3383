-- The rows of addressing without @, each by what stands in it; and the rows with @, by those without.
use Rattle.std.proofs.Common.{◌≡◌, ℕ, Bool, true, false, List, [], ◌∷◌, Some, None, refl, ap, ◌∙◌, cond}
use Rattle.std.specs.Prelude.{Option, codes, option_map, if◌then◌else◌}
use Rattle.bk_expr.specs.Expression.{expression_at}
use Rattle.bk_expr.specs.Tree.{Expression, Here}
use Rattle.bk_expr.specs.Names.{register_at}
use Rattle.bk_expr.specs.Text.{Front, ◌>>=◌, sign_at}
use Rattle.bk_asm_text.specs.Parts.{is_operand_end}
use Rattle.bk_asm_text.specs.Plain.{PlainOperand, Reg, Deferred, Inc, Dec, Index, Immediate, Relative}
use Rattle.bk_asm_text.specs.Operands.{Fields, row, letters_at, row_at}
use Rattle.bk_asm_text.specs.Addressing.{enclosed_at, closed}

-- the fields before any was read
abbrev pub start : Fields
start = record { reg = 0; value = Here }

-- R
abbrev pub register_row : List ℕ → Front PlainOperand
register_row text = register_at text >>= (λ reg. Some (Reg reg.0, reg.1))

-- (R)
abbrev pub bracket_row : List ℕ → Front PlainOperand
bracket_row text = enclosed_at text >>= (λ reg. Some (Deferred reg.0, reg.1))

-- (R)+
abbrev pub inc_row : List ℕ → Front PlainOperand
inc_row text = enclosed_at text >>= (λ reg. sign_at 43 reg.1 >>= (λ rest. Some (Inc reg.0, rest)))

-- -(R)
abbrev pub dec_row : List ℕ → Front PlainOperand
dec_row text = sign_at 45 text >>= (λ rest. enclosed_at rest >>= (λ reg. Some (Dec reg.0, reg.1)))

-- E(R)
abbrev pub index_row : List ℕ → Front PlainOperand
index_row text = expression_at text >>= (λ value. enclosed_at value.1 >>= (λ reg. Some (Index reg.0 value.0, reg.1)))

-- #E
abbrev pub immediate_row : List ℕ → Front PlainOperand
immediate_row text = sign_at 35 text >>= (λ rest. expression_at rest >>= (λ value. Some (Immediate value.0, value.1)))

-- E
abbrev pub relative_row : List ℕ → Front PlainOperand
relative_row text = expression_at text >>= (λ value. Some (Relative value.0, value.1))

-- fields, a register and an operand, before the text after them
abbrev pub some_fields : Fields → List ℕ → Front Fields
some_fields f text = Some (f, text)

abbrev pub some_register : ℕ → List ℕ → Front ℕ
some_register reg text = Some (reg, text)

abbrev pub some_operand : PlainOperand → List ℕ → Front PlainOperand
some_operand operand text = Some (operand, text)

-- ---- (R) in a row

closing : (more : List ℕ) (f : Fields) (reg : ℕ) (o : Option (List ℕ)) →
    ((o >>= (λ rest. some_fields (record f { reg = reg }) rest)) >>= (λ read. letters_at more read.0 read.1))
    ≡ ((o >>= (λ rest. some_register reg rest)) >>= (λ reg. letters_at more (record f { reg = reg.0 }) reg.1))
closing more f reg None = refl
closing more f reg (Some rest) = refl

naming : (more : List ℕ) (f : Fields) (o : Front ℕ) →
    ((o >>= (λ reg. some_fields (record f { reg = reg.0 }) reg.1)) >>= (λ read. letters_at (41 ∷ more) read.0 read.1))
    ≡ ((o >>= (λ reg. sign_at 41 reg.1 >>= (λ rest. some_register reg.0 rest))) >>= (λ reg. letters_at more (record f { reg = reg.0 }) reg.1))
naming more f None = refl
naming more f (Some reg) = closing more f reg.0 (sign_at 41 reg.1)

opening : (more : List ℕ) (f : Fields) (o : Option (List ℕ)) →
    ((o >>= (λ rest. some_fields f rest)) >>= (λ read. letters_at (82 ∷ 41 ∷ more) read.0 read.1))
    ≡ ((o >>= (λ rest. register_at rest >>= (λ reg. sign_at 41 reg.1 >>= (λ rest. some_register reg.0 rest)))) >>= (λ reg. letters_at more (record f { reg = reg.0 }) reg.1))
opening more f None = refl
opening more f (Some rest) = naming more f (register_at rest)

enclosed_letters : (more : List ℕ) (f : Fields) (text : List ℕ) →
    letters_at (40 ∷ 82 ∷ 41 ∷ more) f text ≡ (enclosed_at text >>= (λ reg. letters_at more (record f { reg = reg.0 }) reg.1))
unfolding enclosed_at
enclosed_letters more f text = opening more f (sign_at 40 text)

-- ---- the rows, by what their letters are

-- a row is its letters, where the operand ends after them
row_closed : (operand : Fields → PlainOperand) (o : Front Fields) →
    (o >>= (λ read. if is_operand_end read.1 then some_operand (operand read.0) read.1 else None)) ≡ closed (o >>= (λ read. some_operand (operand read.0) read.1))
unfolding closed
row_closed operand None = refl
row_closed operand (Some read) = refl

register_letters : (o : Front ℕ) →
    (((o >>= (λ reg. some_fields (record start { reg = reg.0 }) reg.1)) >>= (λ read. some_fields read.0 read.1)) >>= (λ read. some_operand (Reg read.0.reg) read.1))
    ≡ (o >>= (λ reg. some_operand (Reg reg.0) reg.1))
register_letters None = refl
register_letters (Some reg) = refl

pub is_register_row : (text : List ℕ) → row_at (row (codes "R") (λ f. Reg f.reg)) text ≡ closed (register_row text)
is_register_row text =
    row_closed (λ f. Reg f.reg) (letters_at (codes "R") start text) ∙ ap closed (register_letters (register_at text))

bracket_letters : (operand : ℕ → PlainOperand) (text : List ℕ) →
    (letters_at (codes "(R)") start text >>= (λ read. some_operand (operand read.0.reg) read.1)) ≡ (enclosed_at text >>= (λ reg. some_operand (operand reg.0) reg.1))
bracket_letters operand text =
    ap (λ (o : Front Fields). o >>= (λ read. some_operand (operand read.0.reg) read.1)) (enclosed_letters [] start text) ∙ by (enclosed_at text) where
      by : (o : Front ℕ) → ((o >>= (λ reg. some_fields (record start { reg = reg.0 }) reg.1)) >>= (λ read. some_operand (operand read.0.reg) read.1))
          ≡ (o >>= (λ reg. some_operand (operand reg.0) reg.1))
      by None = refl
      by (Some reg) = refl

pub is_bracket_row : (text : List ℕ) → row_at (row (codes "(R)") (λ f. Deferred f.reg)) text ≡ closed (bracket_row text)
is_bracket_row text =
    row_closed (λ f. Deferred f.reg) (letters_at (codes "(R)") start text) ∙ ap closed (bracket_letters Deferred text)

plus_letters : (reg : ℕ) (o : Option (List ℕ)) →
    (((o >>= (λ rest. some_fields (record start { reg = reg }) rest)) >>= (λ read. some_fields read.0 read.1)) >>= (λ read. some_operand (Inc read.0.reg) read.1))
    ≡ (o >>= (λ rest. some_operand (Inc reg) rest))
plus_letters reg None = refl
plus_letters reg (Some rest) = refl

inc_letters : (text : List ℕ) → (letters_at (codes "(R)+") start text >>= (λ read. some_operand (Inc read.0.reg) read.1)) ≡ inc_row text
inc_letters text =
    ap (λ (o : Front Fields). o >>= (λ read. some_operand (Inc read.0.reg) read.1)) (enclosed_letters (43 ∷ []) start text) ∙ by (enclosed_at text) where
      by : (o : Front ℕ) → ((o >>= (λ reg. letters_at (43 ∷ []) (record start { reg = reg.0 }) reg.1)) >>= (λ read. some_operand (Inc read.0.reg) read.1))
          ≡ (o >>= (λ reg. sign_at 43 reg.1 >>= (λ rest. some_operand (Inc reg.0) rest)))
      by None = refl
      by (Some reg) = plus_letters reg.0 (sign_at 43 reg.1)

pub is_inc_row : (text : List ℕ) → row_at (row (codes "(R)+") (λ f. Inc f.reg)) text ≡ closed (inc_row text)
is_inc_row text = row_closed (λ f. Inc f.reg) (letters_at (codes "(R)+") start text) ∙ ap closed (inc_letters text)

dec_letters : (o : Option (List ℕ)) →
    (((o >>= (λ rest. some_fields start rest)) >>= (λ read. letters_at (codes "(R)") read.0 read.1)) >>= (λ read. some_operand (Dec read.0.reg) read.1))
    ≡ (o >>= (λ rest. enclosed_at rest >>= (λ reg. some_operand (Dec reg.0) reg.1)))
dec_letters None = refl
dec_letters (Some rest) = bracket_letters Dec rest

pub is_dec_row : (text : List ℕ) → row_at (row (codes "-(R)") (λ f. Dec f.reg)) text ≡ closed (dec_row text)
is_dec_row text = row_closed (λ f. Dec f.reg) (letters_at (codes "-(R)") start text) ∙ ap closed (dec_letters (sign_at 45 text))

indexed_letters : (value : Expression) (o : Front ℕ) →
    ((o >>= (λ reg. some_fields (record { reg = reg.0; value = value }) reg.1)) >>= (λ read. some_operand (Index read.0.reg read.0.value) read.1))
    ≡ (o >>= (λ reg. some_operand (Index reg.0 value) reg.1))
indexed_letters value None = refl
indexed_letters value (Some reg) = refl

index_letters : (o : Front Expression) →
    (((o >>= (λ value. some_fields (record start { value = value.0 }) value.1)) >>= (λ read. letters_at (codes "(R)") read.0 read.1))
    >>= (λ read. some_operand (Index read.0.reg read.0.value) read.1))
    ≡ (o >>= (λ value. enclosed_at value.1 >>= (λ reg. some_operand (Index reg.0 value.0) reg.1)))
index_letters None = refl
index_letters (Some value) =
    ap (λ (o : Front Fields). o >>= (λ read. some_operand (Index read.0.reg read.0.value) read.1)) (enclosed_letters [] (record start { value = value.0 }) value.1)
    ∙ indexed_letters value.0 (enclosed_at value.1)

pub is_index_row : (text : List ℕ) → row_at (row (codes "E(R)") (λ f. Index f.reg f.value)) text ≡ closed (index_row text)
is_index_row text =
    row_closed (λ f. Index f.reg f.value) (letters_at (codes "E(R)") start text) ∙ ap closed (index_letters (expression_at text))

value_letters : (operand : Expression → PlainOperand) (o : Front Expression) →
    (((o >>= (λ value. some_fields (record start { value = value.0 }) value.1)) >>= (λ read. some_fields read.0 read.1)) >>= (λ read. some_operand (operand read.0.value) read.1))
    ≡ (o >>= (λ value. some_operand (operand value.0) value.1))
value_letters operand None = refl
value_letters operand (Some value) = refl

immediate_letters : (o : Option (List ℕ)) →
    (((o >>= (λ rest. some_fields start rest)) >>= (λ read. letters_at (codes "E") read.0 read.1)) >>= (λ read. some_operand (Immediate read.0.value) read.1))
    ≡ (o >>= (λ rest. expression_at rest >>= (λ value. some_operand (Immediate value.0) value.1)))
immediate_letters None = refl
immediate_letters (Some rest) = value_letters Immediate (expression_at rest)

pub is_immediate_row : (text : List ℕ) → row_at (row (codes "#E") (λ f. Immediate f.value)) text ≡ closed (immediate_row text)
is_immediate_row text =
    row_closed (λ f. Immediate f.value) (letters_at (codes "#E") start text) ∙ ap closed (immediate_letters (sign_at 35 text))

pub is_relative_row : (text : List ℕ) → row_at (row (codes "E") (λ f. Relative f.value)) text ≡ closed (relative_row text)
is_relative_row text =
    row_closed (λ f. Relative f.value) (letters_at (codes "E") start text) ∙ ap closed (value_letters Relative (expression_at text))

-- ---- the rows with @

-- an operand that was read, changed
abbrev pub changed : (PlainOperand → PlainOperand) → Front PlainOperand → Front PlainOperand
changed change front = option_map (λ read. (change read.0, read.1)) front

row_changed : (change : PlainOperand → PlainOperand) (operand : Fields → PlainOperand) (o : Front Fields) →
    (o >>= (λ read. if is_operand_end read.1 then some_operand (change (operand read.0)) read.1 else None))
    ≡ changed change (o >>= (λ read. if is_operand_end read.1 then some_operand (operand read.0) read.1 else None))
row_changed change operand None = refl
row_changed change operand (Some read) = by (is_operand_end read.1) where
  by : (b : Bool) → cond {A = Front PlainOperand} b (some_operand (change (operand read.0)) read.1) None
      ≡ changed change (cond {A = Front PlainOperand} b (some_operand (operand read.0) read.1) None)
  by true = refl
  by false = refl

-- a row whose first letter is @, where it stands there and where it doesn't
pub at_row : (change : PlainOperand → PlainOperand) (letters : List ℕ) (operand : Fields → PlainOperand) (text rest : List ℕ) → sign_at 64 text ≡ Some rest
    → row_at (row (64 ∷ letters) (λ f. change (operand f))) text ≡ changed change (row_at (row letters operand) rest)
at_row change letters operand text rest e =
    ap (λ (o : Option (List ℕ)). ((o >>= (λ rest. some_fields start rest)) >>= (λ read. letters_at letters read.0 read.1))
    >>= (λ read. if is_operand_end read.1 then some_operand (change (operand read.0)) read.1 else None)) e
    ∙ row_changed change operand (letters_at letters start rest)

pub no_at_row : (letters : List ℕ) (operand : Fields → PlainOperand) (text : List ℕ) → sign_at 64 text ≡ None → row_at (row (64 ∷ letters) operand) text ≡ None
no_at_row letters operand text e =
    ap (λ (o : Option (List ℕ)). ((o >>= (λ rest. some_fields start rest)) >>= (λ read. letters_at letters read.0 read.1))
    >>= (λ read. if is_operand_end read.1 then some_operand (operand read.0) read.1 else None)) e
