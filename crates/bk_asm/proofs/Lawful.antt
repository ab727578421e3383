-- Statements that were settled stand as the law says.
use Rattle.std.proofs.Common.{◌≡◌, ℕ, ◌+◌, ◌*◌, Bool, true, false, cond, List, [], ◌∷◌, ◌++◌, Some, Ok, refl, sym, ap, subst, ◌∙◌, append_assoc, arith}
use Rattle.std.specs.Prelude.{map, sum_by, T, length}
use Rattle.std.specs.FinMap.Entries.{find, is_sorted, is_sorted-put}
use Rattle.std.specs.List.{AllByRecursion, list_any}
use Rattle.std.proofs.lemmas.List.Sums.{sum_by-cons}
use Rattle.bk_base.proofs.FaultLemmas.{bind_ok, all_pass}
use Rattle.bk_expr.specs.declared.worked.Worked.{Worked}
use Rattle.bk_expr.specs.declared.worked.Worked.TheVariants as work
use Rattle.bk_expr.specs.Value.{worked}
use Rattle.bk_asm_text.specs.Plain.{PlainLabel}
use Rattle.bk_asm_text.specs.Plain as label
use Rattle.bk_asm_text.specs.Fault.{fault_at}
use Rattle.bk_asm_text.specs.Plain.{PlainStatement}
use Rattle.bk_asm.specs.Faults.{checked, checks, settle, is_undefined, divides_by_zero, is_assigned_again}
use Rattle.bk_asm.specs.Law.{bytes_of, IsAssigned, IsSized, StandsFor, begins}
use Rattle.bk_asm.specs.Names.{Defined, name_cmp, is_ordinary, repeats, values_in, with_label, with_labels, with_name}
use Rattle.bk_asm.specs.Pieces.{Role, Assignment, Zeros, Alignment, InWords, InBytes, form_size, role_of}
use Rattle.bk_asm.specs.Places.{Known, Placed, after, as_value, assigned, labelled, number_in, placed, range_at, settled, settled_by, size_at, size_by}
use Rattle.bk_asm.proofs.Growing.{Grows, grows_itself, grows_on, neither, with_labels_grows, with_labels_here, with_name_grows, worked_kept, put_here, names_total}
use Rattle.bk_asm.proofs.Lengths.{has_size}

-- statements stand one behind another, and no check of them fails
abbrev pub Chain : (origin : ℕ) → Defined → Known → List Placed → Type 0
Chain origin final known [] = known.defined ≡ final
Chain origin final known (one ∷ rest) =
    (one ≡ placed known one.statement) × (checked origin known one.statement ≡ Ok tt) × Chain origin final (after known one.statement) rest

-- what was settled stands so
pub chained : (origin : ℕ) (before : List Placed) (known : Known) (statements : List PlainStatement) (r : List Placed × Defined) → settle origin before known statements ≡ Ok r
    → (rest : List Placed) × (r.0 ≡ before ++ rest) × (map (λ one. one.statement) rest ≡ statements) × Chain origin r.1 known rest
unfolding settle
chained origin before known [] r e =
    let same : (before, known.defined) ≡ r = cc in
    ([], ap (λ x. x.0) (sym same) ∙ sym (append_nil before), refl, ap (λ x. x.1) same)
  where
    append_nil : (xs : List Placed) → xs ++ [] ≡ xs
    append_nil [] = refl
    append_nil (x ∷ xs) = ap (λ ys. x ∷ ys) (append_nil xs)
chained origin before known (statement ∷ statements) r e =
    let passed = bind_ok (checked origin known statement) (λ p. settle origin (before ++ placed known statement ∷ []) (after known statement) statements) r e in
    let others = chained origin (before ++ placed known statement ∷ []) (after known statement) statements r passed.2 in (
      placed known statement ∷ others.0,
      others.1 ∙ append_assoc before (placed known statement ∷ []) others.0,
      ap (λ xs. statement ∷ xs) others.2,
      (refl, passed.1, others.3),
    )

-- an assignment keeps all values where its name is new
assigned_grows : (defined : Defined) (value : Worked) (role : Role) → is_assigned_again defined role ≡ false → Grows defined (assigned defined value role)
assigned_grows defined value (Assignment name expression) free = with_name_grows name (number_in value) defined free
assigned_grows defined value (Zeros count) free = grows_itself defined
assigned_grows defined value Alignment free = grows_itself defined
assigned_grows defined value InWords free = grows_itself defined
assigned_grows defined value InBytes free = grows_itself defined

-- a statement of which no check fails, by its checks
pub record Passing (known : Known) (statement : PlainStatement) : Type 0 where
  pub once : repeats (range_at known statement) (as_value known.address) known.defined statement.labels ≡ false
  pub free : is_assigned_again (labelled known statement) (role_of statement.body) ≡ false
  pub has_names : is_undefined (settled known statement) ≡ false
  pub divides : divides_by_zero (settled known statement) ≡ false

passing : (origin : ℕ) (known : Known) (statement : PlainStatement) → checked origin known statement ≡ Ok tt → Passing known statement
passing origin known statement passes =
    let none = all_pass (fault_at statement.line) (checks origin known statement) tt passes in
    let first = neither (repeats (range_at known statement) (as_value known.address) known.defined statement.labels) (is_assigned_again (labelled known statement) (role_of statement.body)) none.0 in
    record { once = first.0; free = first.1; has_names = none.1.1.0; divides = none.1.1.1.1.0 }

-- a statement keeps all values
statement_grows : (known : Known) (statement : PlainStatement) → Passing known statement → Grows (labelled known statement) (after known statement).defined
statement_grows known statement pass = assigned_grows (labelled known statement) (settled known statement) (role_of statement.body) pass.free

pub chain_grows : (origin : ℕ) (final : Defined) (known : Known) (places : List Placed) → Chain origin final known places → Grows known.defined final
chain_grows origin final known [] chain = subst (Grows known.defined) chain (grows_itself known.defined)
chain_grows origin final known (one ∷ rest) chain =
    let statement = one.statement in
    let pass = passing origin known statement chain.1 in
    grows_on known.defined (labelled known statement) final
    (with_labels_grows (range_at known statement) (as_value known.address) known.defined statement.labels pass.once)
    (grows_on (labelled known statement) (after known statement).defined final (statement_grows known statement pass) (chain_grows origin final (after known statement) rest chain.2))

-- its size by its role
sized : (first final : Defined) (range address : ℕ) (statement : PlainStatement) (role : Role) → Grows first final
    → is_undefined (settled_by (values_in first range) (as_value address) role) ≡ false → divides_by_zero (settled_by (values_in first range) (as_value address) role) ≡ false
    → IsSized final (record { statement = statement; address = address; range = range; size = size_by address (form_size statement.body) (settled_by (values_in first range) (as_value address) role) role }) role
sized first final range address statement (Assignment name value) grows named whole = refl
sized first final range address statement (Zeros count) grows named whole = by (worked (values_in first range) (as_value address) count) refl named whole where
  by : (w : Worked) → worked (values_in first range) (as_value address) count ≡ w → is_undefined w ≡ false → divides_by_zero w ≡ false
      → (n : ℕ) × (worked (values_in final range) (as_value address) count ≡ work.Value n) × (2 * number_in (worked (values_in first range) (as_value address) count) ≡ 2 * n)
  by (work.Value n) is named whole = (n, worked_kept first final range (as_value address) count n grows is, ap (λ w. 2 * number_in w) is)
  by work.Undefined is named whole = absurd cc
  by work.Divide is named whole = absurd cc
sized first final range address statement Alignment grows named whole = refl
sized first final range address statement InWords grows named whole = refl
sized first final range address statement InBytes grows named whole = refl

-- its name by its expression
named_by : (first final : Defined) (range address size : ℕ) (statement : PlainStatement) (role : Role) → Grows first final
    → Grows (assigned first (settled_by (values_in first range) (as_value address) role) role) final
    → is_undefined (settled_by (values_in first range) (as_value address) role) ≡ false → divides_by_zero (settled_by (values_in first range) (as_value address) role) ≡ false
    → IsAssigned final (record { statement = statement; address = address; range = range; size = size }) role
named_by first final range address size statement (Assignment name value) grows then named whole = by (worked (values_in first range) (as_value address) value) refl then named whole where
  by : (w : Worked) → worked (values_in first range) (as_value address) value ≡ w → Grows (with_name name (number_in (worked (values_in first range) (as_value address) value)) first) final
      → is_undefined w ≡ false → divides_by_zero w ≡ false
      → (n : ℕ) × (find name_cmp name final.names ≡ Some n) × (worked (values_in final range) (as_value address) value ≡ work.Value n)
  by (work.Value n) is then named whole = (
    n,
    then.names name n (put_here name_cmp names_total name (number_in (worked (values_in first range) (as_value address) value)) first.names ∙ ap (λ w. Some (number_in w)) is),
    worked_kept first final range (as_value address) value n grows is,
  )
  by work.Undefined is then named whole = absurd cc
  by work.Divide is then named whole = absurd cc
named_by first final range address size statement (Zeros count) grows then named whole = tt
named_by first final range address size statement Alignment grows then named whole = tt
named_by first final range address size statement InWords grows then named whole = tt
named_by first final range address size statement InBytes grows then named whole = tt

-- what holds of a statement whatever stands in front of it
pub record Stands (final : Defined) (one : Placed) : Type 0 where
  pub bytes : length (bytes_of final one) ≡ one.size
  pub size : IsSized final one (role_of one.statement.body)
  pub labels : AllByRecursion (StandsFor final one) one.statement.labels
  pub assignment : IsAssigned final one (role_of one.statement.body)

stands : (final : Defined) (known : Known) (statement : PlainStatement) → Passing known statement → Grows (after known statement).defined final → Stands final (placed known statement)
stands final known statement pass grows =
    let first = labelled known statement in
    let range = range_at known statement in
    let all = grows_on first (after known statement).defined final (statement_grows known statement pass) grows in
    record {
      bytes = has_size (values_in final range) (as_value known.address) known.address (settled known statement) statement.body;
      size = sized first final range known.address statement (role_of statement.body) all pass.has_names pass.divides;
      labels = with_labels_here range (as_value known.address) known.defined final statement.labels pass.once all;
      assignment = named_by first final range known.address (size_at known statement) statement (role_of statement.body) all grows pass.has_names pass.divides;
    }

-- a statement behind others, from what is known in front of those
pub record Behind (final : Defined) (known : Known) (front : List Placed) (one : Placed) : Type 0 where
  pub address : one.address ≡ known.address + sum_by (λ other. other.size) front
  pub range : one.range ≡ known.range + (sum_by begins front + begins one)
  pub stands : Stands final one

begun : (known : Known) (statement : PlainStatement) → range_at known statement ≡ known.range + begins (placed known statement)
begun known statement = by (list_any is_ordinary statement.labels) where
  by : (b : Bool) → cond b (known.range + 1) known.range ≡ known.range + cond b 1 0
  by true = refl
  by false = omega arith

pub behind : (origin : ℕ) (final : Defined) (front : List Placed) (one : Placed) (others : List Placed) (known : Known) (places : List Placed) → places ≡ front ++ one ∷ others
    → Chain origin final known places → Behind final known front one
behind origin final [] one others known places is chain = by one (subst (Chain origin final known) is chain) where
  by : (one : Placed) → Chain origin final known (one ∷ others) → Behind final known [] one
  by one chain =
      let statement = one.statement in
      let pass = passing origin known statement chain.1 in
      let all = chain_grows origin final (after known statement) others chain.2 in
      let first : Behind final known [] (placed known statement) = record {
        address = omega arith;
        range = omega (arith, begun known statement);
        stands = stands final known statement pass all;
      } in
      subst (Behind final known []) (sym chain.0) first
behind origin final (other ∷ front) one others known places is chain =
    let whole = subst (Chain origin final known) is chain in
    let next = behind origin final front one others (after known other.statement) (front ++ one ∷ others) refl whole.2 in
    let size : other.size ≡ size_at known other.statement = ap (λ p. p.size) whole.0 in
    let range : other.range ≡ range_at known other.statement = ap (λ p. p.range) whole.0 in
    record {
      address = omega (arith, next.address, size, sum_by-cons (λ (p : Placed). p.size) other front);
      range = omega (arith, next.range, begun known other.statement, sum_by-cons begins other front);
      stands = next.stands;
    }

-- the names stay in order
sorted_labels : (range value : ℕ) (defined : Defined) (labels : List PlainLabel) → T (is_sorted name_cmp defined.names) → T (is_sorted name_cmp (with_labels range value defined labels).names)
sorted_labels range value defined [] sorted = sorted
sorted_labels range value defined (label.Name name ∷ labels) sorted =
    sorted_labels range value (with_name name value defined) labels (is_sorted-put name_cmp names_total name value defined.names sorted)
sorted_labels range value defined (label.Local n ∷ labels) sorted = sorted_labels range value (with_label range value defined (label.Local n)) labels sorted

sorted_assigned : (defined : Defined) (value : Worked) (role : Role) → T (is_sorted name_cmp defined.names) → T (is_sorted name_cmp (assigned defined value role).names)
sorted_assigned defined value (Assignment name expression) sorted = is_sorted-put name_cmp names_total name (number_in value) defined.names sorted
sorted_assigned defined value (Zeros count) sorted = sorted
sorted_assigned defined value Alignment sorted = sorted
sorted_assigned defined value InWords sorted = sorted
sorted_assigned defined value InBytes sorted = sorted

pub sorted_all : (origin : ℕ) (final : Defined) (known : Known) (places : List Placed) → Chain origin final known places → T (is_sorted name_cmp known.defined.names) → T (is_sorted name_cmp final.names)
sorted_all origin final known [] chain sorted = subst (λ (d : Defined). T (is_sorted name_cmp d.names)) chain sorted
sorted_all origin final known (one ∷ rest) chain sorted =
    let statement = one.statement in
    sorted_all origin final (after known statement) rest chain.2
    (sorted_assigned (labelled known statement) (settled known statement) (role_of statement.body)
    (sorted_labels (range_at known statement) (as_value known.address) known.defined statement.labels sorted))
