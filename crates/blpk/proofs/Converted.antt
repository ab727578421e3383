-- What `build` and `list` make of a configuration is decided by what is read of it.
use Rattle.std.proofs.Common.{◌≡◌, ℕ, ◌+◌, ◌≤◌, ◌<◌, Bool, true, false, List, [], ◌++◌, length, drop, refl}
use Rattle.std.proofs.Common.{sym, ◌∙◌, ap, arith, append-nil, length-append, subst, Some, None, IfSome, Ok, Err}
use Rattle.std.proofs.Math.Seq.{drop-append_seam}
use Rattle.std.specs.Prelude.{Option, Result, nat_lt, IsTrue}
use Rattle.std.specs.Io.KnownBytes.{Consumes, IsAtEnd}
use Rattle.std.proofs.lemmas.Bool.Decides.{nat_tests}
use Rattle.bk_base.specs.Outside.{SourceState, given_since}
use Rattle.bk_conf.specs.Built.{built, listing_of}
use Rattle.bk_conf.specs.Fault.{fault_at}
use Rattle.bk_conf.specs.Limits.{most_bytes}
use Rattle.bk_conf.specs.Steps.{all_said, configuration_of}
use Rattle.bk_conf.specs.declared.fault.BuildFault.{BuildFault}
use Rattle.bk_conf.specs.declared.fault.BuildKind.TheVariants as kind
use Rattle.bk_replay.specs.Input.{OnInput, IsAllRead}
use Rattle.bk_replay.proofs.Input.{some_map}
use Rattle.blpk.specs.Causes.{Made, Refuses}
use Rattle.blpk.specs.Made.{made_of, most_read, most_text, is_conversion, HasRead}
use Rattle.blpk.specs.Outcomes.{CameTo, Wrote}
use Rattle.blpk.specs.declared.outcome.Outcome.{Outcome}
use Rattle.blpk.specs.declared.outcome.Outcome.TheVariants as outcome
use Rattle.blpk.specs.declared.outcome.Refusal.{Refusal}
use Rattle.blpk.specs.declared.outcome.Refusal.TheVariants as refusal
use Rattle.blpk.specs.declared.words.Command.{Command}
use Rattle.blpk.specs.declared.words.Command.TheVariants as command

-- ---- a text that is too long

is_less : (m n : ℕ) → m < n → nat_lt m n ≡ true
is_less m n h = grind (arith, nat_tests, h)

less : (m n : ℕ) → nat_lt m n ≡ true → m < n
less m n h = grind (arith, nat_tests, h)

not_less : (m n : ℕ) → nat_lt m n ≡ false → n ≤ m
not_less m n h = grind (arith, nat_tests, h)

-- a configuration that is too long says nothing
configuration_long : (text : List ℕ) → most_bytes < length text → configuration_of text ≡ Err (fault_at 0 kind.Long)
unfolding configuration_of all_said
configuration_long text long = let test = is_less most_bytes (length text) long in rw test refl

built_long : (text : List ℕ) → most_bytes < length text → built text ≡ Err (fault_at 0 kind.Long)
unfolding built
built_long text long = rw (configuration_long text long) refl

listing_long : (text : List ℕ) → most_bytes < length text → listing_of text ≡ Err (fault_at 0 kind.Long)
unfolding listing_of
listing_long text long = rw (configuration_long text long) refl

-- a conversion refuses it
made_long : (c : Command) (text : List ℕ) → is_conversion c ≡ true → most_bytes < length text → made_of c text ≡ Err (refusal.Build (fault_at 0 kind.Long))
made_long command.Run text is long = absurd cc
made_long command.Build text is long = rw (built_long text long) refl
made_long command.List text is long = rw (listing_long text long) refl
made_long (command.Gen n) text is long = absurd cc

-- ---- what was read decides what is made

-- the bytes are made into the same as what was read of them
abbrev Same : Command → (bytes read : List ℕ) → Type 0
Same c bytes read = made_of c bytes ≡ made_of c read

by_length : (c : Command) (bytes read rest : List ℕ) (b : Bool) → is_conversion c ≡ true → nat_lt (length read) most_text ≡ b → bytes ≡ read ++ rest
    → (length read < most_text → rest ≡ []) → Same c bytes read
by_length c bytes read rest true is t e end =
    let short : length read < most_text = less (length read) most_text t in
    ap (made_of c) (e ∙ ap (λ l. read ++ l) (end short) ∙ append-nil read)
by_length c bytes read rest false is t e end =
    let long : most_bytes < length read = omega (arith, not_less (length read) most_text t) in
    let all : most_bytes < length (read ++ rest) = omega (arith, length-append read rest, long) in
    ap (made_of c) e ∙ made_long c (read ++ rest) is all ∙ sym (made_long c read is long)

whole : (c : Command) (left now : Option (List ℕ)) (read : List ℕ) → is_conversion c ≡ true → Consumes left now read
    → (length read < most_text → IsAtEnd now) → IfSome left (λ bytes. Same c bytes read)
whole c None now read is p end = tt
whole c (Some bytes) None read is p end = absurd p
whole c (Some bytes) (Some rest) read is p end = by_length c bytes read rest (nat_lt (length read) most_text) is refl p end

ended : (left now : Option (List ℕ)) (read : List ℕ) → Consumes left now read → IsAtEnd now → IfSome left (λ bytes. now ≡ Some [])
ended None now read p e = tt
ended (Some bytes) None read p e = absurd p
ended (Some bytes) (Some rest) read p e = ap (λ l. Some l) e

-- the input was asked for the bytes of a configuration, and these were read
pub record TextRead (before after : SourceState) (read : List ℕ) : Type 0 where
  pub given : after.given ≡ before.given ++ read
  pub bytes : Consumes before.left after.left read
  pub most : length read ≤ most_text
  pub end : length read < most_text → IsAtEnd after.left
  pub ended : length read < most_text → IsTrue after.ended

-- a conversion reads the bytes of a configuration
most_is : (c : Command) → is_conversion c ≡ true → most_read c ≡ most_text
most_is command.Run is = absurd cc
most_is command.Build is = refl
most_is command.List is = refl
most_is (command.Gen n) is = absurd cc

on_text : (c : Command) (before after : SourceState) (read : List ℕ) (P : List ℕ → Type 0) → is_conversion c ≡ true → TextRead before after read
    → ((bytes : List ℕ) → Same c bytes read → P bytes) → OnInput (most_read c) before after P
on_text c before after read P is r f =
    let since : given_since before after ≡ read = ap (drop (length before.given)) r.given ∙ drop-append_seam before.given read in
    let most = most_is c is in
    record {
      given = subst P (sym since) (f read refl);
      within = omega (arith, ap length since, r.most, most);
      whole = λ h. r.ended (omega (arith, ap length since, h, most));
      left = some_map before.left (λ bytes. Same c bytes read) P f (whole c before.left after.left read is r.bytes r.end);
    }

-- what is made of what was read is made of the input
pub made_on : (c : Command) (before after : SourceState) (read : List ℕ) (took : List ℕ → Type 0) (text : List ℕ) → is_conversion c ≡ true
    → TextRead before after read → made_of c read ≡ Ok text → took text → OnInput (most_read c) before after (Made took c)
made_on c before after read took text is r made holds = on_text c before after read (Made took c) is r (λ bytes same. record { text = text; made = same ∙ made; holds = holds })

-- a refusal of what was read is one of the input
pub refused_on : (c : Command) (before after : SourceState) (read : List ℕ) (why : Refusal) → is_conversion c ≡ true
    → TextRead before after read → made_of c read ≡ Err why → OnInput (most_read c) before after (Refuses why c)
refused_on c before after read why is r made = on_text c before after read (Refuses why c) is r (λ bytes same. same ∙ made)

-- where something is made of it, all was read
short_read : (c : Command) (read text : List ℕ) (b : Bool) → is_conversion c ≡ true → nat_lt (length read) most_text ≡ b → made_of c read ≡ Ok text → length read < most_text
short_read c read text true is t made = less (length read) most_text t
short_read c read text false is t made =
    let long : most_bytes < length read = omega (arith, not_less (length read) most_text t) in
    let bad : ◌≡◌ {A = Result (List ℕ) Refusal} (Err (refusal.Build (fault_at 0 kind.Long))) (Ok text) = sym (made_long c read is long) ∙ made in
    cc

has_read : (c : Command) (before after : SourceState) → is_conversion c ≡ true → IsAllRead before after → HasRead c before after
has_read command.Run before after is all = all
has_read command.Build before after is all = all
has_read command.List before after is all = all
has_read (command.Gen n) before after is all = absurd cc

pub all_read : (c : Command) (before after : SourceState) (read text : List ℕ) → is_conversion c ≡ true → TextRead before after read
    → made_of c read ≡ Ok text → HasRead c before after
all_read c before after read text is r made =
    let short : length read < most_text = short_read c read text (nat_lt (length read) most_text) is refl made in
    has_read c before after is (record { ended = r.ended short; left = ended before.left after.left read r.bytes (r.end short) })

-- what was written of it is what the command came to
pub wrote_came : (c : Command) (before after : SourceState) (read text : List ℕ) (kept : Type 0) (took broke : List ℕ → Type 0) (o : Outcome)
    → is_conversion c ≡ true → TextRead before after read → made_of c read ≡ Ok text → Wrote (took text) (broke text) o → CameTo c before after kept took broke o
wrote_came c before after read text kept took broke outcome.Written is r made wrote = (all_read c before after read text is r made, made_on c before after read took text is r made wrote)
wrote_came c before after read text kept took broke outcome.Usage is r made wrote = absurd wrote
wrote_came c before after read text kept took broke outcome.Read is r made wrote = absurd wrote
wrote_came c before after read text kept took broke (outcome.Refused why) is r made wrote = absurd wrote
wrote_came c before after read text kept took broke outcome.Write is r made wrote = made_on c before after read broke text is r made wrote
wrote_came c before after read text kept took broke outcome.NoMemory is r made wrote = absurd wrote
