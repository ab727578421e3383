-- What reading a part of a statement adds, from what was read in it.
use Rattle.std.proofs.Common.{◌≡◌, ℕ, Bool, true, false, List, [], ◌∷◌, ◌++◌, Some, None, refl, ap, sym, ◌∙◌}
use Rattle.std.proofs.lemmas.List.{append-nil}
use Rattle.std.specs.Prelude.{Option, if◌then◌else◌, option_map}
use Rattle.std.specs.Option.{option_or}
use Rattle.bk_expr.specs.Expression.{expression_at}
use Rattle.bk_expr.specs.Text.{Front, ◌>>=◌, sign_at}
use Rattle.bk_expr.specs.Tree.{Expression, Here}
use Rattle.bk_asm_text.specs.declared.operand.Operand.{Operand}
use Rattle.bk_asm_text.specs.declared.operand.Operand.TheVariants as operand
use Rattle.bk_asm_text.specs.Addressing.{enclosed_at, register_operand_at, indexed, value_after, value_operand_at, closed, direct_at, by_at}
use Rattle.bk_asm_text.specs.Flat.{has_value, operand_with}
use Rattle.bk_asm_text.specs.Operands.{operand_at}
use Rattle.bk_asm_text.specs.Parts.{is_operand_end}
use Rattle.bk_asm_text.specs.Plain.{PlainOperand}
use Rattle.bk_asm_text.specs.Plain as plain
use Rattle.bk_asm_text.proofs.Rows.{some_operand}
use Rattle.bk_asm_text.specs.Read.{ReadsValue, ReadsOperand, at_by, deferred_if, indexed_by, values_of}
use Rattle.bk_asm_text.proofs.Addressing.{operand_at_is}

abbrev some_read : PlainOperand × List ℕ → Front PlainOperand
some_read read = Some read

pub value_read : (before after : List Expression) (value : Expression) (rest : List ℕ) (found : Front Expression) → after ≡ before ++ value ∷ [] → found ≡ Some (value, rest)
    → ReadsValue before after rest found
value_read before after value rest found added read = record { value = value; added = added; read = read }

-- ---- #E, E(R) and E

pub immediate_none : (text : List ℕ) → expression_at text ≡ None → value_after (Some text) text ≡ None
immediate_none text e = ap (λ (o : Front Expression). o >>= (λ value. some_operand (plain.Immediate value.0) value.1)) e

pub immediate_some : (before after : List Expression) (rest text : List ℕ) → ReadsValue before after rest (expression_at text)
    → ReadsOperand before after operand.Immediate rest (value_after (Some text) text)
immediate_some before after rest text reads = record {
  value = reads.value;
  added = reads.added;
  read = ap (λ (o : Front Expression). o >>= (λ value. some_operand (plain.Immediate value.0) value.1)) reads.read;
}

pub number_first : (text rest : List ℕ) → sign_at 35 text ≡ Some rest → value_operand_at text ≡ value_after (Some rest) rest
unfolding value_operand_at
number_first text rest e = ap (λ (o : Option (List ℕ)). value_after o text) e

pub no_value : (text : List ℕ) → sign_at 35 text ≡ None → expression_at text ≡ None → value_operand_at text ≡ None
unfolding value_operand_at
no_value text none e = ap (λ (o : Option (List ℕ)). value_after o text) none ∙ ap (λ (o : Front Expression). o >>= (λ value. Some (indexed value.0 value.1 (enclosed_at value.1)))) e

-- E(R) and E in memory, by what follows E
indexed_added : (value : Expression) (rest : List ℕ) (o : Front ℕ) → value ∷ [] ≡ values_of (indexed_by rest o).0 value
indexed_added value rest None = refl
indexed_added value rest (Some reg) = refl

indexed_read : (value : Expression) (rest : List ℕ) (o : Front ℕ)
    → indexed value rest o ≡ (operand_with (indexed_by rest o).0 (values_of (indexed_by rest o).0 value), (indexed_by rest o).1)
indexed_read value rest None = refl
indexed_read value rest (Some reg) = refl

pub value_first : (before after : List Expression) (rest text : List ℕ) (read : Operand × List ℕ) → sign_at 35 text ≡ None → ReadsValue before after rest (expression_at text)
    → read ≡ indexed_by rest (enclosed_at rest) → ReadsOperand before after read.0 read.1 (value_operand_at text)
unfolding value_operand_at
value_first before after rest text read none reads is = record {
  value = reads.value;
  added = reads.added ∙ ap (λ (values : List Expression). before ++ values) (indexed_added reads.value rest (enclosed_at rest))
      ∙ ap (λ (x : Operand × List ℕ). before ++ values_of x.0 reads.value) (sym is);
  read = ap (λ (o : Option (List ℕ)). value_after o text) none
      ∙ ap (λ (o : Front Expression). o >>= (λ value. some_read (indexed value.0 value.1 (enclosed_at value.1)))) reads.read
      ∙ ap some_read (indexed_read reads.value rest (enclosed_at rest))
      ∙ ap (λ (x : Operand × List ℕ). some_operand (operand_with x.0 (values_of x.0 reads.value)) x.1) (sym is);
}

-- ---- an operand that ends

closed_some : (operand : PlainOperand) (rest : List ℕ) → is_operand_end rest ≡ true → closed (Some (operand, rest)) ≡ Some (operand, rest)
unfolding closed
closed_some operand rest e = ap (λ (b : Bool). if b then some_operand operand rest else None) e

closed_no : (operand : PlainOperand) (rest : List ℕ) → is_operand_end rest ≡ false → closed (Some (operand, rest)) ≡ None
unfolding closed
closed_no operand rest e = ap (λ (b : Bool). if b then some_operand operand rest else None) e

-- a register's operand stands first, and ends
pub register_first : (values : List Expression) (operand : Operand) (rest text : List ℕ) → closed (register_operand_at text) ≡ Some (operand_with operand [], rest)
    → has_value operand ≡ false → ReadsOperand values values operand rest (direct_at text)
unfolding direct_at
register_first values operand rest text e alone =
    let none : values_of operand Here ≡ [] = ap (λ (b : Bool). if b then Here ∷ [] else []) alone in
    record {
      value = Here;
      added = sym (ap (λ (added : List Expression). values ++ added) none ∙ append-nil values);
      read = ap (λ (o : Front PlainOperand). option_or o (closed (value_operand_at text))) e
          ∙ ap (λ (added : List Expression). some_operand (operand_with operand added) rest) (sym none);
    }

-- .. or none does
pub after_register : (text : List ℕ) → closed (register_operand_at text) ≡ None → direct_at text ≡ closed (value_operand_at text)
unfolding direct_at
after_register text none = ap (λ (o : Front PlainOperand). option_or o (closed (value_operand_at text))) none

pub closed_nothing : (found : Front PlainOperand) → found ≡ None → closed found ≡ None
unfolding closed
closed_nothing found e = ap (λ (o : Front PlainOperand). o >>= (λ read. if is_operand_end read.1 then Some read else None)) e

pub closed_on : (before after : List Expression) (operand : Operand) (rest : List ℕ) (found : Front PlainOperand) → ReadsOperand before after operand rest found
    → is_operand_end rest ≡ false → closed found ≡ None
closed_on before after operand rest found reads on = ap closed reads.read ∙ closed_no (operand_with operand (values_of operand reads.value)) rest on

closed_reads : (before after : List Expression) (operand : Operand) (rest : List ℕ) (found : Front PlainOperand) → ReadsOperand before after operand rest found
    → is_operand_end rest ≡ true → ReadsOperand before after operand rest (closed found)
closed_reads before after operand rest found reads ends = record {
  value = reads.value;
  added = reads.added;
  read = ap closed reads.read ∙ closed_some (operand_with operand (values_of operand reads.value)) rest ends;
}

pub direct_reads : (before after : List Expression) (operand : Operand) (rest text : List ℕ) → closed (register_operand_at text) ≡ None
    → ReadsOperand before after operand rest (value_operand_at text) → is_operand_end rest ≡ true → ReadsOperand before after operand rest (direct_at text)
direct_reads before after operand rest text none reads ends =
    let whole = closed_reads before after operand rest (value_operand_at text) reads ends in
    record { value = whole.value; added = whole.added; read = after_register text none ∙ whole.read }

-- ---- behind @

deferred_reads : (at : Bool) (before after : List Expression) (operand over : Operand) (rest : List ℕ) (found : Front PlainOperand) → ReadsOperand before after operand rest found
    → ((values : List Expression) → operand_with over values ≡ deferred_if at (operand_with operand values)) → has_value over ≡ has_value operand
    → ReadsOperand before after over rest (option_map (λ read. (deferred_if at read.0, read.1)) found)
deferred_reads at before after operand over rest found reads each same =
    let added : values_of over reads.value ≡ values_of operand reads.value = ap (λ (b : Bool). if b then reads.value ∷ [] else []) same in
    record {
      value = reads.value;
      added = reads.added ∙ ap (λ (values : List Expression). before ++ values) (sym added);
      read = ap (λ (o : Front PlainOperand). option_map (λ read. (deferred_if at read.0, read.1)) o) reads.read
          ∙ ap (λ (operand : PlainOperand). some_operand operand rest) (sym (each (values_of operand reads.value)))
          ∙ ap (λ (values : List Expression). some_operand (operand_with over values) rest) (sym added);
    }

-- by whether @ stands first, in one way
by_at_is : (o : Option (List ℕ)) (text : List ℕ) → by_at o text ≡ option_map (λ read. (deferred_if (at_by o text).0 read.0, read.1)) (direct_at (at_by o text).1)
by_at_is None text = by (direct_at text) where
  by : (found : Front PlainOperand) → found ≡ option_map (λ read. (read.0, read.1)) found
  by None = refl
  by (Some read) = refl
by_at_is (Some rest) text = refl

operand_is : (text rest : List ℕ) (at : Bool) → (at, rest) ≡ at_by (sign_at 64 text) text → operand_at text ≡ option_map (λ read. (deferred_if at read.0, read.1)) (direct_at rest)
operand_is text rest at is =
    operand_at_is text ∙ by_at_is (sign_at 64 text) text
    ∙ ap (λ (x : Bool × List ℕ). option_map (λ read. (deferred_if x.0 read.0, read.1)) (direct_at x.1)) (sym is)

pub operand_none : (text rest : List ℕ) (at : Bool) → (at, rest) ≡ at_by (sign_at 64 text) text → direct_at rest ≡ None → operand_at text ≡ None
operand_none text rest at is none =
    operand_is text rest at is ∙ ap (λ (o : Front PlainOperand). option_map (λ read. (deferred_if at read.0, read.1)) o) none

pub operand_some : (before after : List Expression) (text rest left : List ℕ) (at : Bool) (operand over : Operand) → (at, rest) ≡ at_by (sign_at 64 text) text
    → ReadsOperand before after operand left (direct_at rest) → ((values : List Expression) → operand_with over values ≡ deferred_if at (operand_with operand values))
    → has_value over ≡ has_value operand → ReadsOperand before after over left (operand_at text)
operand_some before after text rest left at operand over is reads each same =
    let whole = deferred_reads at before after operand over left (direct_at rest) reads each same in
    record { value = whole.value; added = whole.added; read = operand_is text rest at is ∙ whole.read }

-- the only operand
pub lone : (after : List Expression) (operand : Operand) (rest : List ℕ) (found : Front PlainOperand) → ReadsOperand [] after operand rest found
    → found ≡ Some (operand_with operand after, rest)
lone after operand rest found reads = reads.read ∙ ap (λ (values : List Expression). some_operand (operand_with operand values) rest) (sym reads.added)
