-- The parts of assembly text: blanks, signs, and runs of letters, digits, `.` and `$`.
use Rattle.std.specs.Prelude.{ℕ, Bool, ◌||◌, ◌==◌, nat_le, ◌&&◌, if◌then◌else◌, List, [], ◌∷◌, drop, Option, Some, None, option_map}
use Rattle.std.specs.Char.{is_ascii_alphanumeric}
use Rattle.std.specs.List.{prefix_len, take_while}

-- a byte that may stand in a line of the text: octal 40 to 176, or a tab
abbrev pub is_of_text : ℕ → Bool
is_of_text c = nat_le 0o40 c && nat_le c 0o176 || c == 0o11

-- a space or a tab
abbrev pub is_blank : ℕ → Bool
is_blank c = c == 0o40 || c == 0o11

-- the text after the blanks at its front
abbrev pub past_blanks : List ℕ → List ℕ
past_blanks text = drop (prefix_len is_blank text) text

-- a letter, a digit, `.` or `$`
abbrev pub is_of_run : ℕ → Bool
is_of_run c = is_ascii_alphanumeric c || c == 46 || c == 36

-- what stands at the front of a text, blanks before it, and the text after it; none where nothing of its kind stands there
abbrev pub Front : Type 0 → Type 0
Front X = Option (X × List ℕ)

-- what follows where something was there before
infixl 10 ◌>>=◌
abbrev pub ◌>>=◌ : {A B : Type 0} → Option A → (A → Option B) → Option B
None >>= go = None
(Some x) >>= go = go x

-- the run at the very front of a text, which may be empty, and the text after it
abbrev pub run_in : List ℕ → List ℕ × List ℕ
run_in text = (take_while is_of_run text, drop (prefix_len is_of_run text) text)

-- .. blanks before it
abbrev pub run_at : List ℕ → List ℕ × List ℕ
run_at text = run_in (past_blanks text)

-- what the run at the front is, by what a run is
abbrev pub in_run : {X : Type 0} → (List ℕ → Option X) → List ℕ → Front X
in_run of_run text = option_map (λ x. (x, (run_at text).1)) (of_run (run_at text).0)

-- the text after a sign that stands at its very front
abbrev pub sign_in : ℕ → List ℕ → Option (List ℕ)
sign_in sign [] = None
sign_in sign (c ∷ text) = if c == sign then Some text else None

-- .. blanks before it
abbrev pub sign_at : ℕ → List ℕ → Option (List ℕ)
sign_at sign text = sign_in sign (past_blanks text)
