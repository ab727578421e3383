-- What stands for a value: names everywhere, local labels in their range.
use Rattle.std.specs.Prelude.{ℕ, Bool, true, false, ◌||◌, List, [], ◌∷◌, fold, is_some}
use Rattle.std.specs.declared.cmp.Ordering.{Ordering}
use Rattle.std.specs.Ordering.{nat_cmp, ordering_then}
use Rattle.std.specs.Cmp.Lexicographic.{slice_cmp}
use Rattle.std.specs.FinMap.Entries.{find, put}
use Rattle.bk_expr.specs.Value.{Values}
use Rattle.bk_asm_text.specs.Plain.{PlainLabel, Name, Local}

-- byte order
abbrev pub name_cmp : List ℕ → List ℕ → Ordering
name_cmp = slice_cmp nat_cmp

-- by the range, and in it by the number
abbrev pub local_cmp : ℕ × ℕ → ℕ × ℕ → Ordering
local_cmp a b = ordering_then (nat_cmp a.0 b.0) (nat_cmp a.1 b.1)

-- what some statements define: each name once, in byte order, and each local label once in its range
pub record Defined : Type 0 where
  pub names : List (List ℕ × ℕ)
  pub locals : List ((ℕ × ℕ) × ℕ)

-- nothing yet
abbrev pub nothing_defined : Defined
nothing_defined = record { names = []; locals = [] }

-- the values that expressions in a range are worked with
abbrev pub values_in : Defined → (range : ℕ) → Values
values_in defined range = record {
  name = λ name. find name_cmp name defined.names;
  local = λ n. find local_cmp (range, n) defined.locals;
}

-- the label is a name
abbrev pub is_ordinary : PlainLabel → Bool
is_ordinary (Name name) = true
is_ordinary (Local n) = false

-- the label is defined, a local one in the range
abbrev pub has_label : (range : ℕ) → Defined → PlainLabel → Bool
has_label range defined (Name name) = is_some (find name_cmp name defined.names)
has_label range defined (Local n) = is_some (find local_cmp (range, n) defined.locals)

-- a name gets a value
abbrev pub with_name : List ℕ → (value : ℕ) → Defined → Defined
with_name name value defined = record defined { names = put name_cmp name value defined.names }

-- a label gets a value, a local one in the range
abbrev pub with_label : (range value : ℕ) → Defined → PlainLabel → Defined
with_label range value defined (Name name) = with_name name value defined
with_label range value defined (Local n) = record defined { locals = put local_cmp (range, n) value defined.locals }

-- labels of one statement get its address
abbrev pub with_labels : (range value : ℕ) → Defined → List PlainLabel → Defined
with_labels range value defined labels = fold (with_label range value) defined labels

-- one of them is defined already, or stands twice among them
abbrev pub repeats : (range value : ℕ) → Defined → List PlainLabel → Bool
repeats range value defined [] = false
repeats range value defined (label ∷ labels) = has_label range defined label || repeats range value (with_label range value defined label) labels
