-- The first fault of a text is its first line outside the grammar.
use Rattle.std.proofs.Common.{◌≡◌, ℕ, ◌+◌, Bool, true, false, List, [], ◌∷◌, ◌++◌, length, Some, None, Ok, Err, refl, ap, sym, ◌∙◌, arith, cond}
use Rattle.std.specs.Prelude.{Option, Result, option_map}
use Rattle.std.specs.List.{AllByRecursion, list_all}
use Rattle.bk_expr.specs.Text.{is_of_text}
use Rattle.bk_asm_text.specs.declared.fault.AsmFault.{AsmFault}
use Rattle.bk_asm_text.specs.declared.fault.AsmKind.TheVariants as kind
use Rattle.bk_asm_text.specs.Fault.{fault, fault_at}
use Rattle.bk_asm_text.specs.First.{IsInside, number_behind, IsFirstOutside}
use Rattle.bk_asm_text.specs.Parts.{all_of}
use Rattle.bk_asm_text.specs.Plain.{PlainBody, PlainLabel, PlainStatement}
use Rattle.bk_asm_text.specs.Statements.{body_of, label_at, statement_of, says, lines_of, next_line, then_others, statements_at, statements_of}

-- ---- a line says the same under each number

-- a statement apart from its number
abbrev said : PlainStatement → List PlainLabel × PlainBody
said statement = (statement.labels, statement.body)

by_body : (at : ℕ) (b : Bool) (labels : List PlainLabel) (o : Option PlainBody) →
    cond {A = Option PlainStatement} b (option_map (λ body. record { line = at; labels = labels; body = body }) o) None ≡ None →
    option_map said (cond {A = Option PlainStatement} b (option_map (λ body. record { line = 1; labels = labels; body = body }) o) None) ≡ None
by_body at false labels o e = refl
by_body at true labels None e = refl
by_body at true labels (Some body) e = absurd (cc)

said_none : (at : ℕ) (line : List ℕ) → statement_of at line ≡ None → says line ≡ None
unfolding statement_of
said_none at line e = by_body at (list_all is_of_text line) (all_of label_at line).0 (body_of (all_of label_at line).1) e

by_said : (at : ℕ) (b : Bool) (labels : List PlainLabel) (o : Option PlainBody) →
    option_map said (cond {A = Option PlainStatement} b (option_map (λ body. record { line = 1; labels = labels; body = body }) o) None) ≡ None →
    cond {A = Option PlainStatement} b (option_map (λ body. record { line = at; labels = labels; body = body }) o) None ≡ None
by_said at false labels o e = refl
by_said at true labels None e = refl
by_said at true labels (Some body) e = absurd (cc)

statement_none : (at : ℕ) (line : List ℕ) → says line ≡ None → statement_of at line ≡ None
unfolding statement_of
statement_none at line e = by_said at (list_all is_of_text line) (all_of label_at line).0 (body_of (all_of label_at line).1) e

-- a line that says a statement does so under each number
inside_some : (at : ℕ) (line : List ℕ) → IsInside line → (statement : PlainStatement) × (statement_of at line ≡ Some statement)
inside_some at line inside = by (statement_of at line) refl where
  by : (o : Option PlainStatement) → statement_of at line ≡ o → (statement : PlainStatement) × (statement_of at line ≡ Some statement)
  by None e = absurd (inside (said_none at line e))
  by (Some statement) e = (statement, e)

some_inside : (at : ℕ) (line : List ℕ) (statement : PlainStatement) → statement_of at line ≡ Some statement → IsInside line
some_inside at line statement e none = let no = statement_none at line none in absurd (cc)

-- ---- the first fault of lines behind k others

pub record Outside (k : ℕ) (lines : List (List ℕ)) (f : AsmFault) : Type 0 where
  pub before : List (List ℕ)
  pub line : List ℕ
  pub behind : List (List ℕ)
  pub whole : lines ≡ before ++ line ∷ behind
  pub inside : AllByRecursion IsInside before
  pub outside : says line ≡ None
  pub told : f ≡ fault_at (number_behind (k + length before)) kind.Form

number_next : (k : ℕ) → next_line (number_behind k) ≡ number_behind (k + 1)
number_next k = omega arith

later : (k : ℕ) (line : List ℕ) (lines : List (List ℕ)) (f : AsmFault) → IsInside line → Outside (k + 1) lines f → Outside k (line ∷ lines) f
later k line lines f inside rest = record {
  before = line ∷ rest.before;
  line = rest.line;
  behind = rest.behind;
  whole = ap (λ lines. line ∷ lines) rest.whole;
  inside = (inside, rest.inside);
  outside = rest.outside;
  told =
      let count : number_behind (k + 1 + length rest.before) ≡ number_behind (k + length (line ∷ rest.before)) = omega arith in
      rest.told ∙ ap (λ n. fault_at n kind.Form) count;
}

outside_here : (k : ℕ) (line : List ℕ) (lines : List (List ℕ)) (f : AsmFault) → says line ≡ None → f ≡ fault_at (number_behind k) kind.Form → Outside k (line ∷ lines) f
outside_here k line lines f none told = record {
  before = [];
  line = line;
  behind = lines;
  whole = refl;
  inside = tt;
  outside = none;
  told = let count : number_behind k ≡ number_behind (k + length {A = List ℕ} []) = omega arith in told ∙ ap (λ n. fault_at n kind.Form) count;
}

pub refused_outside : (k : ℕ) (done : List PlainStatement) (lines : List (List ℕ)) (f : AsmFault) → statements_at (number_behind k) done lines ≡ Err f → Outside k lines f
unfolding statements_at
refused_outside k done [] f e = let bad : ◌≡◌ {A = Result (List PlainStatement) AsmFault} (Ok done) (Err f) = e in absurd (cc)
refused_outside k done (line ∷ lines) f e =
    by (statement_of (number_behind k) line) refl e (λ more h. refused_outside (k + 1) more lines f (ap (λ at. statements_at at more lines) (sym (number_next k)) ∙ h)) where
      by : (o : Option PlainStatement) → statement_of (number_behind k) line ≡ o
          → then_others (number_behind k) done o (λ more. statements_at (next_line (number_behind k)) more lines) ≡ Err f
          → ((more : List PlainStatement) → statements_at (next_line (number_behind k)) more lines ≡ Err f → Outside (k + 1) lines f)
          → Outside k (line ∷ lines) f
      by None none e rest =
          let same : ◌≡◌ {A = Result (List PlainStatement) AsmFault} (Err (fault_at (number_behind k) kind.Form)) (Err f) = e in
          let told : f ≡ fault_at (number_behind k) kind.Form = cc in
          outside_here k line lines f (said_none (number_behind k) line none) told
      by (Some statement) some e rest =
          later k line lines f (some_inside (number_behind k) line statement some) (rest (done ++ statement ∷ []) e)

pub outside_refused : (k : ℕ) (done : List PlainStatement) (before : List (List ℕ)) (line : List ℕ) (behind : List (List ℕ)) → AllByRecursion IsInside before → says line ≡ None
    → statements_at (number_behind k) done (before ++ line ∷ behind) ≡ Err (fault_at (number_behind (k + length before)) kind.Form)
unfolding statements_at
outside_refused k done [] line behind inside none =
    let count : number_behind k ≡ number_behind (k + length {A = List ℕ} []) = omega arith in
    ap (λ (o : Option PlainStatement). then_others (number_behind k) done o (λ more. statements_at (next_line (number_behind k)) more behind)) (statement_none (number_behind k) line none)
    ∙ ap (λ n. fault n kind.Form) count
outside_refused k done (first ∷ before) line behind inside none =
    let some = inside_some (number_behind k) first inside.0 in
    let count : number_behind (k + 1 + length before) ≡ number_behind (k + length (first ∷ before)) = omega arith in
    ap (λ (o : Option PlainStatement). then_others (number_behind k) done o (λ more. statements_at (next_line (number_behind k)) more (before ++ line ∷ behind))) some.1
    ∙ ap (λ at. statements_at at (done ++ some.0 ∷ []) (before ++ line ∷ behind)) (number_next k)
    ∙ outside_refused (k + 1) (done ++ some.0 ∷ []) before line behind inside.1 none
    ∙ ap (λ n. fault n kind.Form) count

-- ---- texts

pub refused_first : (text : List ℕ) (f : AsmFault) → statements_of text ≡ Err f → IsFirstOutside text f
unfolding statements_of
refused_first text f e =
    let o = refused_outside 0 [] (lines_of text) f e in
    record {
      before = o.before;
      line = o.line;
      behind = o.behind;
      lines = o.whole;
      inside = o.inside;
      outside = o.outside;
      told = let count : number_behind (0 + length o.before) ≡ number_behind (length o.before) = omega arith in o.told ∙ ap (λ n. fault_at n kind.Form) count;
    }

pub first_refused : (text : List ℕ) (f : AsmFault) → IsFirstOutside text f → statements_of text ≡ Err f
unfolding statements_of
first_refused text f o =
    let count : number_behind (0 + length o.before) ≡ number_behind (length o.before) = omega arith in
    ap (statements_at 1 []) o.lines
    ∙ outside_refused 0 [] o.before o.line o.behind o.inside o.outside
    ∙ ap (λ n. fault n kind.Form) count
    ∙ ap Err (sym o.told)
