-- The table of addressing, by the part that an operand begins with.
use Rattle.std.proofs.Common.{◌≡◌, ℕ, List, Some, None, refl, ap, ◌∙◌}
use Rattle.std.specs.Prelude.{Option, codes}
use Rattle.std.specs.Option.{option_or}
use Rattle.bk_expr.specs.Text.{Front, ◌>>=◌, sign_at}
use Rattle.bk_asm_text.specs.Plain.{PlainOperand, Reg, Deferred, Inc, IncDeferred, Dec, DecDeferred, Index, IndexDeferred, IndexZero}
use Rattle.bk_asm_text.specs.Plain.{Immediate, Absolute, Relative, RelativeDeferred}
use Rattle.bk_asm_text.specs.Operands.{row, row_at, operand_at}
use Rattle.bk_asm_text.specs.Addressing.{enclosed_at, closed, direct_at, deferred, by_at}
use Rattle.bk_asm_text.proofs.Fronts.{opened, deferring, no_end_at_plus}
use Rattle.bk_asm_text.proofs.Rows.{some_operand, register_row, bracket_row, inc_row, dec_row, index_row, immediate_row, relative_row, changed, at_row}
use Rattle.bk_asm_text.proofs.Rows.{no_at_row}
use Rattle.bk_asm_text.proofs.Rows.{is_register_row, is_bracket_row, is_inc_row, is_dec_row, is_index_row, is_immediate_row, is_relative_row}
use Rattle.bk_asm_text.proofs.Choices.{enclosed_none, enclosed_bracket, closed_none, closed_open, or_none, register_none, bracket_some, bracket_none}
use Rattle.bk_asm_text.proofs.Choices.{inc_some, inc_none, dec_none, register_rows_is, value_rows, index_by, relative_by, immediate_by, value_rows_is}

-- ---- the rows in both orders

or_four : (a b c d e : Front PlainOperand) → option_or a (option_or b (option_or c (option_or d e))) ≡ option_or (option_or a (option_or b (option_or c d))) e
or_four None None None d e = refl
or_four None None (Some c) d e = refl
or_four None (Some b) c d e = refl
or_four (Some a) b c d e = refl

-- the rows without @, in the order of the table
direct_rows_is : (text : List ℕ) →
    option_or (closed (register_row text)) (option_or (closed (bracket_row text)) (option_or (closed (inc_row text)) (option_or (closed (dec_row text)) (value_rows text))))
    ≡ direct_at text
unfolding direct_at
direct_rows_is text =
    or_four (closed (register_row text)) (closed (bracket_row text)) (closed (inc_row text)) (closed (dec_row text)) (value_rows text)
    ∙ (λ i. option_or (register_rows_is text i) (value_rows_is text i))

-- where (R) stands and ends, neither (R)+ nor -(R) nor E(R) does
or_moved : (a b c d e f : Front PlainOperand) → ((x : PlainOperand × List ℕ) → b ≡ Some x → (c ≡ None) × (d ≡ None) × (e ≡ None))
    → option_or a (option_or c (option_or d (option_or e (option_or b f)))) ≡ option_or a (option_or b (option_or c (option_or d (option_or e f))))
or_moved a None c d e f apart = refl
or_moved a (Some x) c d e f apart =
    let none = apart x refl in
    λ i. option_or a (option_or (none.0 i) (option_or (none.1 i) (option_or (none.2 i) (Some x))))

bracket_apart : (text : List ℕ) (x : PlainOperand × List ℕ) → closed (bracket_row text) ≡ Some x
    → (closed (inc_row text) ≡ None) × (closed (dec_row text) ≡ None) × (closed (index_row text) ≡ None)
bracket_apart text x e = by (enclosed_at text) refl where
  by_plus : (reg : ℕ × List ℕ) → enclosed_at text ≡ Some reg → (o : Option (List ℕ)) → sign_at 43 reg.1 ≡ o → closed (inc_row text) ≡ None
  by_plus reg some None plus = closed_none (inc_row text) (inc_some text reg some ∙ ap (λ (o : Option (List ℕ)). o >>= (λ rest. some_operand (Inc reg.0) rest)) plus)
  by_plus reg some (Some rest) plus =
      let none : closed (bracket_row text) ≡ None = ap closed (bracket_some text reg some) ∙ closed_open (Deferred reg.0) reg.1 (no_end_at_plus reg.1 rest plus) in
      absurd (cc)

  by : (o : Front ℕ) → enclosed_at text ≡ o → (closed (inc_row text) ≡ None) × (closed (dec_row text) ≡ None) × (closed (index_row text) ≡ None)
  by None none = let no : closed (bracket_row text) ≡ None = closed_none (bracket_row text) (bracket_none text none) in absurd (cc)
  by (Some reg) some =
      let bracket = enclosed_bracket text reg some in
      let front = opened text bracket.0 bracket.1 in
      (by_plus reg some (sign_at 43 reg.1) refl, closed_none (dec_row text) (dec_none text front.minus), closed_none (index_row text) (index_by text None front.expression))

-- the rows with @, in the order of the table
deferred_rows_is : (text : List ℕ) →
    option_or (closed (register_row text)) (option_or (closed (inc_row text)) (option_or (closed (dec_row text)) (option_or (closed (index_row text)) (
    option_or (closed (bracket_row text)) (option_or (closed (immediate_row text)) (closed (relative_row text)))))))
    ≡ direct_at text
deferred_rows_is text =
    or_moved (closed (register_row text)) (closed (bracket_row text)) (closed (inc_row text)) (closed (dec_row text)) (closed (index_row text))
    (option_or (closed (immediate_row text)) (closed (relative_row text))) (bracket_apart text)
    ∙ direct_rows_is text

-- ---- the table

changed_or : (change : PlainOperand → PlainOperand) (a b : Front PlainOperand) → option_or (changed change a) (changed change b) ≡ changed change (option_or a b)
changed_or change None b = refl
changed_or change (Some x) b = refl

or_changed : (change : PlainOperand → PlainOperand) (a b c : Front PlainOperand) → c ≡ changed change b → option_or (changed change a) c ≡ changed change (option_or a b)
or_changed change a b c e = ap (option_or (changed change a)) e ∙ changed_or change a b

-- without @ in front the rows with @ don't stand there
without_at : (text : List ℕ) → sign_at 64 text ≡ None → operand_at text ≡ direct_at text
unfolding operand_at
without_at text e =
    let last : option_or (row_at (row (codes "E") (λ f. Relative f.value)) text) (option_or (row_at (row (codes "@E") (λ f. RelativeDeferred f.value)) text) None) ≡ closed (relative_row text) =
    (λ i. option_or (is_relative_row text i) (option_or (no_at_row (codes "E") (λ f. RelativeDeferred f.value) text e i) None)) ∙ or_none (closed (relative_row text)) in
    (λ i.
    option_or (is_register_row text i) (option_or (is_bracket_row text i) (option_or (no_at_row (codes "R") (λ f. Deferred f.reg) text e i)
    (option_or (is_inc_row text i) (option_or (no_at_row (codes "(R)+") (λ f. IncDeferred f.reg) text e i)
    (option_or (is_dec_row text i) (option_or (no_at_row (codes "-(R)") (λ f. DecDeferred f.reg) text e i)
    (option_or (is_index_row text i) (option_or (no_at_row (codes "E(R)") (λ f. IndexDeferred f.reg f.value) text e i)
    (option_or (no_at_row (codes "(R)") (λ f. IndexZero f.reg) text e i)
    (option_or (is_immediate_row text i) (option_or (no_at_row (codes "#E") (λ f. Absolute f.value) text e i) (last i)))))))))))))
    ∙ direct_rows_is text

-- behind @ the rows without it don't stand there
behind_at : (text rest : List ℕ) → sign_at 64 text ≡ Some rest → operand_at text ≡ changed deferred (direct_at rest)
unfolding operand_at
behind_at text rest e =
    let d = deferring text rest e in
    let no_register : row_at (row (codes "R") (λ f. Reg f.reg)) text ≡ None = is_register_row text ∙ closed_none (register_row text) (register_none text d.register) in
    let no_enclosed = enclosed_none text d.bracket in
    let no_bracket : row_at (row (codes "(R)") (λ f. Deferred f.reg)) text ≡ None = is_bracket_row text ∙ closed_none (bracket_row text) (bracket_none text no_enclosed) in
    let no_inc : row_at (row (codes "(R)+") (λ f. Inc f.reg)) text ≡ None = is_inc_row text ∙ closed_none (inc_row text) (inc_none text no_enclosed) in
    let no_dec : row_at (row (codes "-(R)") (λ f. Dec f.reg)) text ≡ None = is_dec_row text ∙ closed_none (dec_row text) (dec_none text d.minus) in
    let no_index : row_at (row (codes "E(R)") (λ f. Index f.reg f.value)) text ≡ None = is_index_row text ∙ closed_none (index_row text) (index_by text None d.expression) in
    let no_immediate : row_at (row (codes "#E") (λ f. Immediate f.value)) text ≡ None = is_immediate_row text ∙ closed_none (immediate_row text) (immediate_by text None d.number) in
    let no_relative : row_at (row (codes "E") (λ f. Relative f.value)) text ≡ None = is_relative_row text ∙ closed_none (relative_row text) (relative_by text None d.expression) in
    let a = at_row deferred (codes "R") (λ f. Reg f.reg) text rest e ∙ ap (changed deferred) (is_register_row rest) in
    let b = at_row deferred (codes "(R)") (λ f. Deferred f.reg) text rest e ∙ ap (changed deferred) (is_bracket_row rest) in
    let c = at_row deferred (codes "(R)+") (λ f. Inc f.reg) text rest e ∙ ap (changed deferred) (is_inc_row rest) in
    let m = at_row deferred (codes "-(R)") (λ f. Dec f.reg) text rest e ∙ ap (changed deferred) (is_dec_row rest) in
    let x = at_row deferred (codes "E(R)") (λ f. Index f.reg f.value) text rest e ∙ ap (changed deferred) (is_index_row rest) in
    let n = at_row deferred (codes "#E") (λ f. Immediate f.value) text rest e ∙ ap (changed deferred) (is_immediate_row rest) in
    let v = at_row deferred (codes "E") (λ f. Relative f.value) text rest e ∙ ap (changed deferred) (is_relative_row rest) in
    (λ i.
    option_or (no_register i) (option_or (no_bracket i) (option_or (a i) (option_or (no_inc i) (option_or (c i) (option_or (no_dec i) (option_or (m i)
    (option_or (no_index i) (option_or (x i) (option_or (b i) (option_or (no_immediate i) (option_or (n i) (option_or (no_relative i) (option_or (v i) None))))))))))))))
    ∙ or_changed deferred (closed (register_row rest)) _ _ (
    or_changed deferred (closed (inc_row rest)) _ _ (
    or_changed deferred (closed (dec_row rest)) _ _ (
    or_changed deferred (closed (index_row rest)) _ _ (
    or_changed deferred (closed (bracket_row rest)) _ _ (
    or_changed deferred (closed (immediate_row rest)) _ _ (or_none (changed deferred (closed (relative_row rest)))))))))
    ∙ ap (changed deferred) (deferred_rows_is rest)

-- an operand is by whether @ stands first
pub operand_at_is : (text : List ℕ) → operand_at text ≡ by_at (sign_at 64 text) text
operand_at_is text = by (sign_at 64 text) refl where
  by : (o : Option (List ℕ)) → sign_at 64 text ≡ o → operand_at text ≡ by_at o text
  by None e = without_at text e
  by (Some rest) e = behind_at text rest e
