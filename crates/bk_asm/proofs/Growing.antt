-- What has a value keeps it: in lists with one more entry, in what statements define, and in expressions.
use Rattle.std.proofs.Common.{◌≡◌, ℕ, ◌-◌, ◌%◌, ◌^◌, Bool, true, false, cond, List, [], ◌∷◌, Some, None, refl, ap, ◌∙◌}
use Rattle.std.specs.Prelude.{Option, is_some, ◌||◌, ◌&&◌}
use Rattle.std.specs.declared.cmp.Ordering.{Ordering}
use Rattle.std.specs.Cmp.{IsTotalOrder, nat_cmp_total, on_total, then_total, tied_itself, Equal-is}
use Rattle.std.specs.Cmp.Lexicographic.{nat_list_cmp_total}
use Rattle.std.specs.Ordering.{eq_by_cmp, is_eq}
use Rattle.std.specs.FinMap.Entries.{find, put, find-put, find_tied}
use Rattle.std.specs.List.{AllByRecursion}
use Rattle.bk_expr.specs.declared.worked.Worked.TheVariants as work
use Rattle.bk_expr.specs.Text.{◌>>=◌}
use Rattle.bk_expr.specs.Tree.{Expression, Number, Name, Local, Here, Negate, Binary}
use Rattle.bk_expr.specs.Value.{is_defined, join, value_at, worked, or_divide}
use Rattle.bk_asm_text.specs.Plain.{PlainLabel}
use Rattle.bk_asm_text.specs.Plain as label
use Rattle.bk_asm.specs.Law.{value_of_label}
use Rattle.bk_asm.specs.Names.{Defined, name_cmp, local_cmp, values_in, has_label, with_name, with_label, with_labels, repeats}

pub names_total : IsTotalOrder name_cmp
names_total = nat_list_cmp_total

pub locals_total : IsTotalOrder local_cmp
locals_total = then_total (on_total (λ p. p.0) nat_cmp_total) (on_total (λ p. p.1) nat_cmp_total)

module _ {K : Type 0} (R : K → K → Ordering) (total : IsTotalOrder R) where
  -- a new entry is found
  pub put_here : (k : K) (v : ℕ) (es : List (K × ℕ)) → find R k (put R k v es) ≡ Some v
  put_here k v es = find-put R total k k v es ∙ ap (λ o. cond (is_eq o) (Some v) (find R k es)) (tied_itself total k)

  -- .. and the others stay where its key is new
  pub put_keeps : (k : K) (v : ℕ) (es : List (K × ℕ)) → find R k es ≡ None → (q : K) (w : ℕ) → find R q es ≡ Some w → find R q (put R k v es) ≡ Some w
  put_keeps k v es free q w is = by (eq_by_cmp R q k) refl where
    by : (b : Bool) → eq_by_cmp R q k ≡ b → find R q (put R k v es) ≡ Some w
    by true tied =
        let same : find R k es ≡ find R q es = find_tied R total q k ((Equal-is (R q k)).0 tied) es in
        absurd (cc)
    by false apart = find-put R total q k v es ∙ ap (λ b. cond b (Some v) (find R q es)) apart ∙ is

-- no value where none is told
pub none_of : (o : Option ℕ) → is_some o ≡ false → o ≡ None
none_of None e = refl
none_of (Some n) e = absurd cc

-- the second has each value that the first has
pub record Grows (first second : Defined) : Type 0 where
  pub names : (name : List ℕ) (n : ℕ) → find name_cmp name first.names ≡ Some n → find name_cmp name second.names ≡ Some n
  pub locals : (key : ℕ × ℕ) (n : ℕ) → find local_cmp key first.locals ≡ Some n → find local_cmp key second.locals ≡ Some n

pub grows_itself : (defined : Defined) → Grows defined defined
grows_itself defined = record { names = λ name n h. h; locals = λ key n h. h }

pub grows_on : (a b c : Defined) → Grows a b → Grows b c → Grows a c
grows_on a b c first second = record {
  names = λ name n h. second.names name n (first.names name n h);
  locals = λ key n h. second.locals key n (first.locals key n h);
}

pub with_name_grows : (name : List ℕ) (value : ℕ) (defined : Defined) → is_some (find name_cmp name defined.names) ≡ false → Grows defined (with_name name value defined)
with_name_grows name value defined free = record {
  names = put_keeps name_cmp names_total name value defined.names (none_of (find name_cmp name defined.names) free);
  locals = λ key n h. h;
}

with_label_grows : (range value : ℕ) (defined : Defined) (one : PlainLabel) → has_label range defined one ≡ false → Grows defined (with_label range value defined one)
with_label_grows range value defined (label.Name name) free = with_name_grows name value defined free
with_label_grows range value defined (label.Local n) free = record {
  names = λ name n h. h;
  locals = put_keeps local_cmp locals_total (range, n) value defined.locals (none_of (find local_cmp (range, n) defined.locals) free);
}

label_here : (range value : ℕ) (defined : Defined) (one : PlainLabel) → value_of_label (with_label range value defined one) range one ≡ Some value
label_here range value defined (label.Name name) = put_here name_cmp names_total name value defined.names
label_here range value defined (label.Local n) = put_here local_cmp locals_total (range, n) value defined.locals

pub label_grows : (range value : ℕ) (first second : Defined) (one : PlainLabel) → Grows first second → value_of_label first range one ≡ Some value → value_of_label second range one ≡ Some value
label_grows range value first second (label.Name name) grows h = grows.names name value h
label_grows range value first second (label.Local n) grows h = grows.locals (range, n) value h

-- neither of two tests holds
pub neither : (a b : Bool) → (a || b) ≡ false → (a ≡ false) × (b ≡ false)
neither true b e = absurd cc
neither false b e = (refl, e)

-- labels that don't repeat keep all values
pub with_labels_grows : (range value : ℕ) (defined : Defined) (labels : List PlainLabel) → repeats range value defined labels ≡ false → Grows defined (with_labels range value defined labels)
with_labels_grows range value defined [] once = grows_itself defined
with_labels_grows range value defined (one ∷ labels) once =
    let h = neither (has_label range defined one) (repeats range value (with_label range value defined one) labels) once in
    grows_on defined (with_label range value defined one) (with_labels range value (with_label range value defined one) labels)
    (with_label_grows range value defined one h.0) (with_labels_grows range value (with_label range value defined one) labels h.1)

-- .. and each has the value
pub with_labels_here : (range value : ℕ) (defined final : Defined) (labels : List PlainLabel) → repeats range value defined labels ≡ false → Grows (with_labels range value defined labels) final
    → AllByRecursion (λ one. value_of_label final range one ≡ Some value) labels
with_labels_here range value defined final [] once grows = tt
with_labels_here range value defined final (one ∷ labels) once grows =
    let h = neither (has_label range defined one) (repeats range value (with_label range value defined one) labels) once in
    let next = with_label range value defined one in (
      label_grows range value next final one (grows_on next (with_labels range value next labels) final (with_labels_grows range value next labels h.1) grows) (label_here range value defined one),
      with_labels_here range value next final labels h.1 grows,
    )

-- an expression that has a value keeps it where its names do
value_kept : (first second : Defined) (range here : ℕ) → Grows first second → (e : Expression) (n : ℕ) → value_at (values_in first range) here e ≡ Some n → value_at (values_in second range) here e ≡ Some n
value_kept first second range here grows (Number m) n h = h
value_kept first second range here grows (Name name) n h = grows.names name n h
value_kept first second range here grows (Local m) n h = grows.locals (range, m) n h
value_kept first second range here grows Here n h = h
value_kept first second range here grows (Negate inner) n h =
    by (value_at (values_in first range) here inner) (λ m is. value_kept first second range here grows inner m is) refl h where
      by : (o : Option ℕ) → ((m : ℕ) → value_at (values_in first range) here inner ≡ Some m → value_at (values_in second range) here inner ≡ Some m)
          → value_at (values_in first range) here inner ≡ o → (o >>= λ m. Some ((2 ^ 16 - m) % 2 ^ 16)) ≡ Some n → value_at (values_in second range) here (Negate inner) ≡ Some n
      by None kept is h = absurd cc
      by (Some m) kept is h = ap (λ (o : Option ℕ). o >>= λ m. Some ((2 ^ 16 - m) % 2 ^ 16)) (kept m is) ∙ h
value_kept first second range here grows (Binary op left right) n h =
    by (value_at (values_in first range) here left) (value_at (values_in first range) here right)
    (λ m is. value_kept first second range here grows left m is) (λ m is. value_kept first second range here grows right m is) refl refl h where
      by : (a b : Option ℕ) → ((m : ℕ) → value_at (values_in first range) here left ≡ Some m → value_at (values_in second range) here left ≡ Some m)
          → ((m : ℕ) → value_at (values_in first range) here right ≡ Some m → value_at (values_in second range) here right ≡ Some m)
          → value_at (values_in first range) here left ≡ a → value_at (values_in first range) here right ≡ b → (a >>= λ x. b >>= λ y. join op x y) ≡ Some n
          → value_at (values_in second range) here (Binary op left right) ≡ Some n
      by None b on_left on_right isa isb h = absurd cc
      by (Some x) None on_left on_right isa isb h = absurd cc
      by (Some x) (Some y) on_left on_right isa isb h =
          ap (λ (o : Option ℕ). o >>= λ x. value_at (values_in second range) here right >>= λ y. join op x y) (on_left x isa)
          ∙ ap (λ (o : Option ℕ). o >>= λ y. join op x y) (on_right y isb) ∙ h

defined_kept : (first second : Defined) (range : ℕ) → Grows first second → (e : Expression) → is_defined (values_in first range) e ≡ true → is_defined (values_in second range) e ≡ true
defined_kept first second range grows (Number m) h = refl
defined_kept first second range grows (Name name) h = by (find name_cmp name first.names) refl h where
  by : (o : Option ℕ) → find name_cmp name first.names ≡ o → is_some o ≡ true → is_some (find name_cmp name second.names) ≡ true
  by None is h = absurd cc
  by (Some n) is h = ap is_some (grows.names name n is)
defined_kept first second range grows (Local m) h = by (find local_cmp (range, m) first.locals) refl h where
  by : (o : Option ℕ) → find local_cmp (range, m) first.locals ≡ o → is_some o ≡ true → is_some (find local_cmp (range, m) second.locals) ≡ true
  by None is h = absurd cc
  by (Some n) is h = ap is_some (grows.locals (range, m) n is)
defined_kept first second range grows Here h = refl
defined_kept first second range grows (Negate inner) h = defined_kept first second range grows inner h
defined_kept first second range grows (Binary op left right) h =
    by (is_defined (values_in first range) left) (is_defined (values_in first range) right)
    (λ is. defined_kept first second range grows left is) (λ is. defined_kept first second range grows right is) refl refl h where
      by : (a b : Bool) → (is_defined (values_in first range) left ≡ true → is_defined (values_in second range) left ≡ true)
          → (is_defined (values_in first range) right ≡ true → is_defined (values_in second range) right ≡ true)
          → is_defined (values_in first range) left ≡ a → is_defined (values_in first range) right ≡ b → (a && b) ≡ true
          → (is_defined (values_in second range) left && is_defined (values_in second range) right) ≡ true
      by false b on_left on_right isa isb h = absurd cc
      by true false on_left on_right isa isb h = absurd cc
      by true true on_left on_right isa isb h = λ i. on_left isa i && on_right isb i

pub worked_kept : (first second : Defined) (range here : ℕ) (e : Expression) (n : ℕ) → Grows first second → worked (values_in first range) here e ≡ work.Value n → worked (values_in second range) here e ≡ work.Value n
worked_kept first second range here e n grows h =
    by (is_defined (values_in first range) e) (value_at (values_in first range) here e) refl refl h where
      by : (b : Bool) (o : Option ℕ) → is_defined (values_in first range) e ≡ b → value_at (values_in first range) here e ≡ o → cond b (or_divide o) work.Undefined ≡ work.Value n
          → worked (values_in second range) here e ≡ work.Value n
      by false o isb iso h = absurd cc
      by true None isb iso h = absurd cc
      by true (Some m) isb iso h =
          let value = value_kept first second range here grows e m iso in
          (λ i. cond (defined_kept first second range grows e isb i) (or_divide (value i)) work.Undefined) ∙ h
