-- What each status of the command says, from what the command came to and what was written on the error output.
use Rattle.std.proofs.Common.{◌≡◌, ◌⊎◌, inl, inr, ℕ, List, [], refl, sym, ◌∙◌, ap, subst, arith, length, drop, length-drop, Some, None, IfSome, Ok, Err}
use Rattle.std.specs.Prelude.{Option, Result}
use Rattle.bk_base.specs.Outside.{SourceState, Rose, given_since}
use Rattle.bk_replay.specs.Input.{OnInput}
use Rattle.bk_replay.proofs.Input.{input_map, some_all}
use Rattle.blpk.specs.Lines.{usage_line, read_line, memory_line, line_of}
use Rattle.blpk.specs.Made.{made_of, most_read, most_for, most_for_words, status_of, status_made, by_command, expected}
use Rattle.blpk.specs.Words.{command_of}
use Rattle.blpk.specs.Causes.{IsNamed, IsRead, Asked, Made, Refuses, IsRefused, Row, IsRefusal, ByOut, ByErr}
use Rattle.blpk.specs.Outcomes.{CameTo, Performed, Said, Finished}
use Rattle.blpk.specs.declared.words.Command.{Command}
use Rattle.blpk.specs.declared.outcome.Outcome.{Outcome}
use Rattle.blpk.specs.declared.outcome.Outcome.TheVariants as outcome
use Rattle.blpk.specs.declared.outcome.Refusal.{Refusal}
use Rattle.blpk.specs.declared.outcome.Refusal.TheVariants as refusal
use Rattle.blpk.specs.declared.status.Status.{Status}
use Rattle.blpk.specs.declared.status.Status.TheVariants as status

-- a refusal of what was read is neither Ok nor WriteFault
refusal_not_ok : (r : Refusal) → status_of r ≡ status.Ok → ⊥
refusal_not_ok (refusal.Image fault) bad = cc
refusal_not_ok (refusal.Script fault) bad = cc
refusal_not_ok (refusal.Build fault) bad = cc

refusal_not_write : (r : Refusal) → status_of r ≡ status.WriteFault → ⊥
refusal_not_write (refusal.Image fault) bad = cc
refusal_not_write (refusal.Script fault) bad = cc
refusal_not_write (refusal.Build fault) bad = cc

module _ (words : List (List ℕ)) (before after : SourceState) (unread kept : Type 0) (took broke : List ℕ → Type 0) (quiet : Type 0) (said begun : List ℕ → Type 0) where
  abbrev Did : Outcome → Type 0
  Did o = Performed words before after unread kept took broke o

  abbrev Came : Command → Outcome → Type 0
  Came command o = CameTo command before after kept took broke o

  abbrev Told : Status → Outcome → Type 0
  Told s o = Finished quiet said begun s o

  abbrev Says : List ℕ → Status → Status → Type 0
  Says line own s = Said said begun line own s

  -- where a line is said, the status is its own or WriteFault
  not_ok : (line : List ℕ) (own s : Status) → (own ≡ status.Ok → ⊥) → Says line own s → s ≡ status.Ok → ⊥
  not_ok line own s never (inl f) e = never (sym f.0 ∙ e)
  not_ok line own s never (inr f) e = let bad : status.WriteFault ≡ status.Ok = sym f.0 ∙ e in cc

  -- ---- status Ok

  abbrev Fine : Type 0
  Fine = (IsRead words before after × Asked words before after (Made took)) × quiet

  ok_came : (command : Command) (s : Status) (o : Outcome) → command_of words ≡ Some command → Came command o → Told s o → s ≡ status.Ok → Fine
  ok_came command s outcome.Written w p f e = ((record { command = command; named = w; read = p.0 }, record { command = command; named = w; bytes = p.1 }), f.1)
  ok_came command s outcome.Write w p f e = let bad : status.WriteFault ≡ status.Ok = sym f.0 ∙ e in cc
  ok_came command s outcome.Usage w p f e = absurd p
  ok_came command s outcome.Read w p f e = absurd (not_ok read_line status.ReadFault s (λ bad. cc) f e)
  ok_came command s (outcome.Refused r) w p f e = absurd (not_ok (line_of r) (status_of r) s (refusal_not_ok r) f e)
  ok_came command s outcome.NoMemory w p f e = absurd (not_ok memory_line status.NoMemory s (λ bad. cc) f e)

  usage_of : (s : Status) (o : Outcome) → o ≡ outcome.Usage → Told s o → Says usage_line status.Usage s
  usage_of s o is f = subst (Told s) is f

  pub ok_of : (s : Status) (o : Outcome) → Did o → Told s o → s ≡ status.Ok → Fine
  ok_of s o (inl p) f e = absurd (not_ok usage_line status.Usage s (λ bad. cc) (usage_of s o p.1 f) e)
  ok_of s o (inr p) f e = ok_came p.0 s o p.1 p.2 f e

  -- ---- a status with a line

  -- the row of a refusal of what was read
  row_of : (command : Command) (r : Refusal) → command_of words ≡ Some command → OnInput (most_read command) before after (Refuses r command) → Row words before after (status_of r) (line_of r)
  row_of command (refusal.Image fault) w p = record { refusal = refusal.Image fault; status_is = refl; line_is = refl; asked = record { command = command; named = w; bytes = p } }
  row_of command (refusal.Script fault) w p = record { refusal = refusal.Script fault; status_is = refl; line_is = refl; asked = record { command = command; named = w; bytes = p } }
  row_of command (refusal.Build fault) w p = record { refusal = refusal.Build fault; status_is = refl; line_is = refl; asked = record { command = command; named = w; bytes = p } }

  abbrev Refused : Status → Type 0
  Refused s = (line : List ℕ) × Row words before after s line × said line × kept

  refuse : (line : List ℕ) (own s : Status) → Row words before after own line → kept → Says line own s → IsRefusal s → Refused s
  refuse line own s row k (inl f) r = (line, subst (λ x. Row words before after x line) (sym f.0) row, f.1, k)
  refuse line own s row k (inr f) r = absurd (subst IsRefusal f.0 r)

  refused_came : (command : Command) (s : Status) (o : Outcome) → command_of words ≡ Some command → Came command o → Told s o → IsRefusal s → Refused s
  refused_came command s outcome.Written w p f r = absurd (subst IsRefusal f.0 r)
  refused_came command s outcome.Write w p f r = absurd (subst IsRefusal f.0 r)
  refused_came command s outcome.Usage w p f r = absurd p
  refused_came command s outcome.Read w p f r = refuse read_line status.ReadFault s (record { command = command; named = w }, p.1, refl) p.0 f r
  refused_came command s (outcome.Refused x) w p f r = refuse (line_of x) (status_of x) s (row_of command x w p.1) p.0 f r
  refused_came command s outcome.NoMemory w p f r = refuse memory_line status.NoMemory s (record { command = command; named = w }, refl) p f r

  pub refused_of : (s : Status) (o : Outcome) → Did o → Told s o → IsRefusal s → Refused s
  refused_of s o (inl p) f r = refuse usage_line status.Usage s (p.0, refl) p.2 (usage_of s o p.1 f) r
  refused_of s o (inr p) f r = refused_came p.0 s o p.1 p.2 f r

  -- ---- a failed write

  abbrev Failed : Type 0
  Failed = ByOut words before after quiet broke ⊎ ByErr words before after kept begun

  fail : (line : List ℕ) (own s : Status) → (own ≡ status.WriteFault → ⊥) → Row words before after own line → kept → Says line own s → s ≡ status.WriteFault → Failed
  fail line own s never row k (inl f) e = absurd (never (sym f.0 ∙ e))
  fail line own s never row k (inr f) e = inr (k, (own, line, row, f.1))

  write_came : (command : Command) (s : Status) (o : Outcome) → command_of words ≡ Some command → Came command o → Told s o → s ≡ status.WriteFault → Failed
  write_came command s outcome.Written w p f e = let bad : status.Ok ≡ status.WriteFault = sym f.0 ∙ e in cc
  write_came command s outcome.Write w p f e = inl (f.1, record { command = command; named = w; bytes = p })
  write_came command s outcome.Usage w p f e = absurd p
  write_came command s outcome.Read w p f e = fail read_line status.ReadFault s (λ bad. cc) (record { command = command; named = w }, p.1, refl) p.0 f e
  write_came command s (outcome.Refused x) w p f e = fail (line_of x) (status_of x) s (refusal_not_write x) (row_of command x w p.1) p.0 f e
  write_came command s outcome.NoMemory w p f e = fail memory_line status.NoMemory s (λ bad. cc) (record { command = command; named = w }, refl) p f e

  pub write_of : (s : Status) (o : Outcome) → Did o → Told s o → s ≡ status.WriteFault → Failed
  write_of s o (inl p) f e = fail usage_line status.Usage s (λ bad. cc) (p.0, refl) p.2 (usage_of s o p.1 f) e
  write_of s o (inr p) f e = write_came p.0 s o p.1 p.2 f e

  -- ---- wrong words

  usage_or_fault : (s : Status) → Says usage_line status.Usage s → (s ≡ status.Usage) ⊎ (s ≡ status.WriteFault)
  usage_or_fault s (inl f) = inl f.0
  usage_or_fault s (inr f) = inr f.0

  pub wrong_of : (s : Status) (o : Outcome) → Did o → Told s o → command_of words ≡ None → ((s ≡ status.Usage) ⊎ (s ≡ status.WriteFault)) × unread × kept
  wrong_of s o (inl p) f e = (usage_or_fault s (usage_of s o p.1 f), p.3, p.2)
  wrong_of s o (inr p) f e = cc (p.1, e)

  -- ---- no fault is passed over

  its_own_or : (line : List ℕ) (own s : Status) → Says line own s → (s ≡ own → ⊥) → (s ≡ status.WriteFault → ⊥) → ⊥
  its_own_or line own s (inl f) a b = a f.0
  its_own_or line own s (inr f) a b = b f.0

  pub not_read : (s : Status) (o : Outcome) → Told s o → (s ≡ status.ReadFault → ⊥) → (s ≡ status.WriteFault → ⊥) → o ≡ outcome.Read → ⊥
  not_read s o f a b is = its_own_or read_line status.ReadFault s (subst (Told s) is f) a b

  pub not_write : (s : Status) (o : Outcome) → Told s o → (s ≡ status.WriteFault → ⊥) → o ≡ outcome.Write → ⊥
  not_write s o f b is = let told : Told s outcome.Write = subst (Told s) is f in b told.0

  said_told : (told : Type 0) → ((line : List ℕ) → said line → told) → (line : List ℕ) (own s : Status) → Says line own s → (s ≡ status.WriteFault → ⊥) → told
  said_told told t line own s (inl f) b = t line f.1
  said_told told t line own s (inr f) b = absurd (b f.0)

  -- what holds of the error output where it is untouched and where it took a line
  pub err_told : (told : Type 0) → (quiet → told) → ((line : List ℕ) → said line → told) → (s : Status) (o : Outcome) → Told s o → (s ≡ status.WriteFault → ⊥) → told
  err_told told q t s outcome.Written f b = q f.1
  err_told told q t s outcome.Usage f b = said_told told t usage_line status.Usage s f b
  err_told told q t s outcome.Read f b = said_told told t read_line status.ReadFault s f b
  err_told told q t s (outcome.Refused r) f b = said_told told t (line_of r) (status_of r) s f b
  err_told told q t s outcome.Write f b = absurd (b f.0)
  err_told told q t s outcome.NoMemory f b = said_told told t memory_line status.NoMemory s f b

  -- ---- no fault

  module _ (fell lost : Type 0) (fails : (text : List ℕ) → broke text → fell) (loses : (line : List ℕ) → begun line → lost) (same : unread → after ≡ before) where
    abbrev Wanted : Status → Type 0
    Wanted s = (s ≡ status.NoMemory) ⊎ OnInput (most_for_words words) before after (λ bytes. s ≡ expected words bytes)

    its_own : (line : List ℕ) (own s : Status) → (lost → ⊥) → Says line own s → s ≡ own
    its_own line own s never (inl f) = f.0
    its_own line own s never (inr f) = absurd (never (loses line f.1))

    expected_is : (command : Command) (bytes : List ℕ) → command_of words ≡ Some command → expected words bytes ≡ status_made (made_of command bytes)
    expected_is command bytes w = ap (λ c. by_command c bytes) w

    -- what holds of the command that the words name
    for_words : (command : Command) (P : List ℕ → Type 0) → command_of words ≡ Some command → OnInput (most_read command) before after P → OnInput (most_for_words words) before after P
    for_words command P w p = subst (λ (c : Option Command). OnInput (most_for c) before after P) (sym w) p

    wanted_came : (command : Command) (s : Status) (o : Outcome) → command_of words ≡ Some command → Came command o → Told s o → (Rose before.faults after.faults → ⊥) → (fell → ⊥) → (lost → ⊥) → Wanted s
    wanted_came command s outcome.Written w p f a b c =
        inr (for_words command (λ bytes. s ≡ expected words bytes) w
        (input_map (most_read command) before after (Made took command) (λ bytes. s ≡ expected words bytes)
        (λ bytes x. f.0 ∙ ap status_made (sym x.made) ∙ sym (expected_is command bytes w)) p.1))
    wanted_came command s outcome.Write w p f a b c = let made : Made broke command (given_since before after) = p.given in absurd (b (fails made.text made.holds))
    wanted_came command s outcome.Usage w p f a b c = absurd p
    wanted_came command s outcome.Read w p f a b c = absurd (a p.1)
    wanted_came command s (outcome.Refused x) w p f a b c =
        inr (for_words command (λ bytes. s ≡ expected words bytes) w
        (input_map (most_read command) before after (Refuses x command) (λ bytes. s ≡ expected words bytes)
        (λ bytes y. its_own (line_of x) (status_of x) s c f ∙ ap status_made (sym y) ∙ sym (expected_is command bytes w)) p.1))
    wanted_came command s outcome.NoMemory w p f a b c = inl (its_own memory_line status.NoMemory s c f)

    -- nothing is read for wrong words
    none_read : (P : List ℕ → Type 0) → command_of words ≡ None → after ≡ before → ((bytes : List ℕ) → P bytes) → OnInput (most_for_words words) before after P
    none_read P w e f =
        let none : length (given_since before after) ≡ 0 = ap (λ (x : SourceState). length (given_since before x)) e ∙ length-drop (length before.given) before.given ∙ omega arith in
        let most : most_for_words words ≡ 0 = ap most_for w in
        record {
          given = f (given_since before after);
          within = omega (arith, none);
          whole = λ h. absurd (omega (arith, h, most));
          left = some_all before.left P f;
        }

    pub wanted_of : (s : Status) (o : Outcome) → Did o → Told s o → (Rose before.faults after.faults → ⊥) → (fell → ⊥) → (lost → ⊥) → Wanted s
    wanted_of s o (inl p) f a b c =
        inr (none_read (λ bytes. s ≡ expected words bytes) p.0 (same p.3)
        (λ bytes. its_own usage_line status.Usage s c (usage_of s o p.1 f) ∙ sym (ap (λ x. by_command x bytes) p.0)))
    wanted_of s o (inr p) f a b c = wanted_came p.0 s o p.1 p.2 f a b c
