-- The rows of addressing without @: the first that is there and ends, by what stands in front.
use Rattle.std.proofs.Common.{◌≡◌, ℕ, false, List, Some, None, refl, ap, ◌∙◌, cond}
use Rattle.std.specs.Prelude.{Option}
use Rattle.std.specs.Option.{option_or}
use Rattle.bk_expr.specs.Expression.{expression_at}
use Rattle.bk_expr.specs.Tree.{Expression}
use Rattle.bk_expr.specs.Names.{register_at}
use Rattle.bk_expr.specs.Text.{Front, ◌>>=◌, sign_at}
use Rattle.bk_asm_text.specs.Parts.{is_operand_end}
use Rattle.bk_asm_text.specs.Plain.{PlainOperand, Reg, Deferred, Inc, Dec, Index}
use Rattle.bk_asm_text.specs.Plain.{Immediate, Relative}
use Rattle.bk_asm_text.specs.Addressing.{enclosed_at, stepped, register_or, register_operand_at, indexed, value_after, value_operand_at, closed}
use Rattle.bk_asm_text.proofs.Fronts.{opened, negative, no_expression_at_number, no_end_at_plus, no_end_at_bracket}
use Rattle.bk_asm_text.proofs.Rows.{some_register, some_operand, register_row, bracket_row, inc_row, dec_row, index_row, immediate_row, relative_row}

-- ---- brackets

pub enclosed_none : (text : List ℕ) → sign_at 40 text ≡ None → enclosed_at text ≡ None
unfolding enclosed_at
enclosed_none text e = ap (λ (o : Option (List ℕ)). o >>= (λ rest. register_at rest >>= (λ reg. sign_at 41 reg.1 >>= (λ rest. some_register reg.0 rest)))) e

-- where a register in brackets stands, a bracket does
pub enclosed_bracket : (text : List ℕ) (reg : ℕ × List ℕ) → enclosed_at text ≡ Some reg → (rest : List ℕ) × (sign_at 40 text ≡ Some rest)
enclosed_bracket text reg e = by (sign_at 40 text) refl where
  by : (o : Option (List ℕ)) → sign_at 40 text ≡ o → (rest : List ℕ) × (sign_at 40 text ≡ Some rest)
  by None none = let no = enclosed_none text none in absurd (cc)
  by (Some rest) some = (rest, some)

-- ---- operands that end

pub closed_none : (front : Front PlainOperand) → front ≡ None → closed front ≡ None
unfolding closed
closed_none front e = ap (λ (o : Front PlainOperand). o >>= (λ read. cond (is_operand_end read.1) (Some read) None)) e

pub closed_open : (operand : PlainOperand) (text : List ℕ) → is_operand_end text ≡ false → closed (Some (operand, text)) ≡ None
unfolding closed
closed_open operand text e = ap (λ b. cond {A = Front PlainOperand} b (Some (operand, text)) None) e

pub or_none : {A : Type 0} (o : Option A) → option_or o None ≡ o
or_none None = refl
or_none (Some x) = refl

-- ---- R, (R), (R)+ and -(R)

-- what the four rows are, the first that ends
abbrev register_rows : List ℕ → Front PlainOperand
register_rows text = option_or (closed (register_row text)) (option_or (closed (bracket_row text)) (option_or (closed (inc_row text)) (closed (dec_row text))))

-- a row by what stands in it
register_some : (text : List ℕ) (reg : ℕ × List ℕ) → register_at text ≡ Some reg → register_row text ≡ some_operand (Reg reg.0) reg.1
register_some text reg e = ap (λ (o : Front ℕ). o >>= (λ reg. some_operand (Reg reg.0) reg.1)) e

pub register_none : (text : List ℕ) → register_at text ≡ None → register_row text ≡ None
register_none text e = ap (λ (o : Front ℕ). o >>= (λ reg. some_operand (Reg reg.0) reg.1)) e

pub bracket_some : (text : List ℕ) (reg : ℕ × List ℕ) → enclosed_at text ≡ Some reg → bracket_row text ≡ some_operand (Deferred reg.0) reg.1
bracket_some text reg e = ap (λ (o : Front ℕ). o >>= (λ reg. some_operand (Deferred reg.0) reg.1)) e

pub bracket_none : (text : List ℕ) → enclosed_at text ≡ None → bracket_row text ≡ None
bracket_none text e = ap (λ (o : Front ℕ). o >>= (λ reg. some_operand (Deferred reg.0) reg.1)) e

pub inc_some : (text : List ℕ) (reg : ℕ × List ℕ) → enclosed_at text ≡ Some reg → inc_row text ≡ (sign_at 43 reg.1 >>= (λ rest. some_operand (Inc reg.0) rest))
inc_some text reg e = ap (λ (o : Front ℕ). o >>= (λ reg. sign_at 43 reg.1 >>= (λ rest. some_operand (Inc reg.0) rest))) e

pub inc_none : (text : List ℕ) → enclosed_at text ≡ None → inc_row text ≡ None
inc_none text e = ap (λ (o : Front ℕ). o >>= (λ reg. sign_at 43 reg.1 >>= (λ rest. some_operand (Inc reg.0) rest))) e

pub dec_none : (text : List ℕ) → sign_at 45 text ≡ None → dec_row text ≡ None
dec_none text e = ap (λ (o : Option (List ℕ)). o >>= (λ rest. enclosed_at rest >>= (λ reg. some_operand (Dec reg.0) reg.1))) e

-- at a register there is neither ( nor -
no_bracket_at_register : (text : List ℕ) (reg : ℕ × List ℕ) → register_at text ≡ Some reg → enclosed_at text ≡ None
no_bracket_at_register text reg e = by (sign_at 40 text) refl where
  by : (o : Option (List ℕ)) → sign_at 40 text ≡ o → enclosed_at text ≡ None
  by None none = enclosed_none text none
  by (Some rest) some = let no = (opened text rest some).register in absurd (cc)

no_minus_at_register : (text : List ℕ) (reg : ℕ × List ℕ) → register_at text ≡ Some reg → sign_at 45 text ≡ None
no_minus_at_register text reg e = by (sign_at 45 text) refl where
  by : (o : Option (List ℕ)) → sign_at 45 text ≡ o → sign_at 45 text ≡ None
  by None none = none
  by (Some rest) some = let no = (negative text rest some).register in absurd (cc)

-- the four rows by their values
four : {a b c d w x y z : Front PlainOperand} → a ≡ w → b ≡ x → c ≡ y → d ≡ z
    → option_or (closed a) (option_or (closed b) (option_or (closed c) (closed d))) ≡ option_or (closed w) (option_or (closed x) (option_or (closed y) (closed z)))
four p q r s = λ i. option_or (closed (p i)) (option_or (closed (q i)) (option_or (closed (r i)) (closed (s i))))

first_of_four : (w : Front PlainOperand) → option_or (closed w) (option_or (closed None) (option_or (closed None) (closed None))) ≡ closed w
unfolding closed
first_of_four w = or_none (closed w)

second_of_four : (x : Front PlainOperand) → option_or (closed None) (option_or (closed x) (option_or (closed None) (closed None))) ≡ closed x
unfolding closed
second_of_four x = or_none (closed x)

third_of_four : (x y : Front PlainOperand) → closed x ≡ None → option_or (closed None) (option_or (closed x) (option_or (closed y) (closed None))) ≡ closed y
unfolding closed
third_of_four x y e = ap (λ (o : Front PlainOperand). option_or o (option_or (closed y) None)) e ∙ or_none (closed y)

fourth_of_four : (z : Front PlainOperand) → option_or (closed None) (option_or (closed None) (option_or (closed None) (closed z))) ≡ closed z
unfolding closed
fourth_of_four z = refl

pub register_rows_is : (text : List ℕ) → register_rows text ≡ closed (register_operand_at text)
unfolding register_operand_at
register_rows_is text = by_register (register_at text) refl where
  by_plus : (reg : ℕ × List ℕ) → register_at text ≡ None → enclosed_at text ≡ Some reg → sign_at 45 text ≡ None → (o : Option (List ℕ)) → sign_at 43 reg.1 ≡ o
      → register_rows text ≡ closed (Some (stepped reg.0 reg.1 o))
  by_plus reg none some minus None plus =
      four (register_none text none) (bracket_some text reg some) (inc_some text reg some ∙ ap (λ (o : Option (List ℕ)). o >>= (λ rest. some_operand (Inc reg.0) rest)) plus) (dec_none text minus)
      ∙ second_of_four (some_operand (Deferred reg.0) reg.1)
  by_plus reg none some minus (Some rest) plus =
      four (register_none text none) (bracket_some text reg some) (inc_some text reg some ∙ ap (λ (o : Option (List ℕ)). o >>= (λ rest. some_operand (Inc reg.0) rest)) plus) (dec_none text minus)
      ∙ third_of_four (some_operand (Deferred reg.0) reg.1) (some_operand (Inc reg.0) rest) (closed_open (Deferred reg.0) reg.1 (no_end_at_plus reg.1 rest plus))

  by_bracket : register_at text ≡ None → (o : Front ℕ) → enclosed_at text ≡ o → register_rows text ≡ closed (register_or None o (dec_row text))
  by_bracket none None e =
      four (register_none text none) (bracket_none text e) (inc_none text e) refl ∙ fourth_of_four (dec_row text)
  by_bracket none (Some reg) e =
      let bracket = enclosed_bracket text reg e in
      by_plus reg none e (opened text bracket.0 bracket.1).minus (sign_at 43 reg.1) refl

  by_register : (o : Front ℕ) → register_at text ≡ o → register_rows text ≡ closed (register_or o (enclosed_at text) (dec_row text))
  by_register None e = by_bracket e (enclosed_at text) refl
  by_register (Some reg) e =
      let none = no_bracket_at_register text reg e in
      four (register_some text reg e) (bracket_none text none) (inc_none text none) (dec_none text (no_minus_at_register text reg e))
      ∙ first_of_four (some_operand (Reg reg.0) reg.1)

-- ---- E(R), #E and E

-- what the three rows are, the first that ends
abbrev pub value_rows : List ℕ → Front PlainOperand
value_rows text = option_or (closed (index_row text)) (option_or (closed (immediate_row text)) (closed (relative_row text)))

three : {a b c x y z : Front PlainOperand} → a ≡ x → b ≡ y → c ≡ z
    → option_or (closed a) (option_or (closed b) (closed c)) ≡ option_or (closed x) (option_or (closed y) (closed z))
three p q r = λ i. option_or (closed (p i)) (option_or (closed (q i)) (closed (r i)))

first_of_three : (x z : Front PlainOperand) → closed z ≡ None → option_or (closed x) (option_or (closed None) (closed z)) ≡ closed x
unfolding closed
first_of_three x z e = ap (λ (o : Front PlainOperand). option_or (closed x) o) e ∙ or_none (closed x)

second_of_three : (y : Front PlainOperand) → option_or (closed None) (option_or (closed y) (closed None)) ≡ closed y
unfolding closed
second_of_three y = or_none (closed y)

third_of_three : (z : Front PlainOperand) → option_or (closed None) (option_or (closed None) (closed z)) ≡ closed z
unfolding closed
third_of_three z = refl

-- the rows by their expression
pub index_by : (text : List ℕ) (o : Front Expression) → expression_at text ≡ o → index_row text ≡ (o >>= (λ value. enclosed_at value.1 >>= (λ reg. some_operand (Index reg.0 value.0) reg.1)))
index_by text o e = ap (λ (o : Front Expression). o >>= (λ value. enclosed_at value.1 >>= (λ reg. some_operand (Index reg.0 value.0) reg.1))) e

pub relative_by : (text : List ℕ) (o : Front Expression) → expression_at text ≡ o → relative_row text ≡ (o >>= (λ value. some_operand (Relative value.0) value.1))
relative_by text o e = ap (λ (o : Front Expression). o >>= (λ value. some_operand (Relative value.0) value.1)) e

pub immediate_by : (text : List ℕ) (o : Option (List ℕ)) → sign_at 35 text ≡ o → immediate_row text ≡ (o >>= (λ rest. expression_at rest >>= (λ value. some_operand (Immediate value.0) value.1)))
immediate_by text o e = ap (λ (o : Option (List ℕ)). o >>= (λ rest. expression_at rest >>= (λ value. some_operand (Immediate value.0) value.1))) e

pub value_rows_is : (text : List ℕ) → value_rows text ≡ closed (value_operand_at text)
unfolding value_operand_at
value_rows_is text = by_number (sign_at 35 text) refl where
  by_bracket : (value : Expression × List ℕ) → expression_at text ≡ Some value → sign_at 35 text ≡ None → (o : Front ℕ) → enclosed_at value.1 ≡ o
      → value_rows text ≡ closed (Some (indexed value.0 value.1 o))
  by_bracket value some none None e =
      three (index_by text (Some value) some ∙ ap (λ (o : Front ℕ). o >>= (λ reg. some_operand (Index reg.0 value.0) reg.1)) e) (immediate_by text None none) (relative_by text (Some value) some)
      ∙ third_of_three (some_operand (Relative value.0) value.1)
  by_bracket value some none (Some reg) e =
      let bracket = enclosed_bracket value.1 reg e in
      three (index_by text (Some value) some ∙ ap (λ (o : Front ℕ). o >>= (λ reg. some_operand (Index reg.0 value.0) reg.1)) e) (immediate_by text None none) (relative_by text (Some value) some)
      ∙ first_of_three (some_operand (Index reg.0 value.0) reg.1) (some_operand (Relative value.0) value.1) (closed_open (Relative value.0) value.1 (no_end_at_bracket value.1 bracket.0 bracket.1))

  by_value : sign_at 35 text ≡ None → (o : Front Expression) → expression_at text ≡ o
      → value_rows text ≡ closed (o >>= (λ value. Some (indexed value.0 value.1 (enclosed_at value.1))))
  by_value none None e =
      three (index_by text None e) (immediate_by text None none) (relative_by text None e) ∙ third_of_three None
  by_value none (Some value) e = by_bracket value e none (enclosed_at value.1) refl

  by_number : (o : Option (List ℕ)) → sign_at 35 text ≡ o → value_rows text ≡ closed (value_after o text)
  by_number None e = by_value e (expression_at text) refl
  by_number (Some rest) e =
      let none = no_expression_at_number text rest e in
      three (index_by text None none) (immediate_by text (Some rest) e) (relative_by text None none)
      ∙ second_of_three (expression_at rest >>= (λ value. some_operand (Immediate value.0) value.1))
