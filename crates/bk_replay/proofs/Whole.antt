-- What was read decides the image and the script of all that the input had left.
use Rattle.std.proofs.Common.{◌≡◌, ℕ, ◌+◌, ◌≤◌, ◌<◌, Bool, true, false, List, [], ◌++◌, length, drop, refl}
use Rattle.std.proofs.Common.{sym, ◌∙◌, ap, arith, append-nil, length-drop, length-append, subst, Some, None, IfSome, Ok, Err}
use Rattle.std.proofs.Math.Seq.{drop-append_seam}
use Rattle.std.specs.Prelude.{Option, Result, nat_lt, IsTrue}
use Rattle.std.specs.Io.KnownBytes.{Consumes, IsAtEnd}
use Rattle.std.proofs.lemmas.Bool.Decides.{nat_tests}
use Rattle.bk_base.specs.Outside.{SourceState, given_since}
use Rattle.bk_image.specs.Limits as image_limits
use Rattle.bk_image.specs.Image.{image_of}
use Rattle.bk_image.proofs.Fronts.{image_cut, image_short}
use Rattle.bk_state.specs.declared.image.Image.{Image}
use Rattle.bk_system.specs.declared.script.TypedAt.{TypedAt}
use Rattle.bk_script.specs.declared.fault.ScriptFault.{ScriptFault}
use Rattle.bk_script.specs.declared.fault.ScriptKind.TheVariants.{Long}
use Rattle.bk_script.specs.Limits as script_limits
use Rattle.bk_script.specs.Lines.{script_of}
use Rattle.bk_replay.specs.Input.{OnInput, IsAllRead}
use Rattle.bk_replay.specs.Replayed.{script_after, most_read}
use Rattle.bk_replay.proofs.Input.{some_map}

-- the bytes and what was read of them are an image and a script alike
pub record Decides (bytes read : List ℕ) : Type 0 where
  pub image : image_of bytes ≡ image_of read
  pub script : (image : Image) (count : ℕ) → image_of read ≡ Ok (image, count) → script_after image count bytes ≡ script_after image count read

is_less : (m n : ℕ) → m < n → nat_lt m n ≡ true
is_less m n h = grind (arith, nat_tests, h)

less : (m n : ℕ) → nat_lt m n ≡ true → m < n
less m n h = grind (arith, nat_tests, h)

not_less : (m n : ℕ) → nat_lt m n ≡ false → n ≤ m
not_less m n h = grind (arith, nat_tests, h)

script_long : (image : Image) (count : ℕ) (bytes : List ℕ) → count ≤ image_limits.most_bytes → image_limits.most_bytes + script_limits.most_bytes < length bytes → script_after image count bytes ≡ Err (record { line = 0; kind = Long })
unfolding script_of
script_long image count bytes short h =
    let long : nat_lt script_limits.most_bytes (length (drop count bytes)) ≡ true = is_less script_limits.most_bytes (length (drop count bytes)) (omega (arith, length-drop count bytes, short, h)) in
    rw long refl

decides_same : (bytes read : List ℕ) → bytes ≡ read → Decides bytes read
decides_same bytes read e = record { image = ap image_of e; script = λ image count there. ap (script_after image count) e }

decides_long : (read more : List ℕ) → image_limits.most_bytes + script_limits.most_bytes < length read → Decides (read ++ more) read
decides_long read more h =
    let ample : image_limits.most_bytes ≤ length read = omega (arith, h) in
    let all : image_limits.most_bytes + script_limits.most_bytes < length (read ++ more) = omega (arith, length-append read more, h) in
    record {
      image = image_cut read more ample;
      script = λ image count there.
          let short : count ≤ image_limits.most_bytes = image_short read image count there in
          script_long image count (read ++ more) short all ∙ sym (script_long image count read short h);
    }

by_length : (bytes read rest : List ℕ) (b : Bool) → nat_lt (length read) most_read ≡ b → bytes ≡ read ++ rest → (length read < most_read → rest ≡ []) → Decides bytes read
by_length bytes read rest true t e end =
    let short : length read < most_read = less (length read) most_read t in
    decides_same bytes read (e ∙ ap (λ l. read ++ l) (end short) ∙ append-nil read)
by_length bytes read rest false t e end =
    let long : image_limits.most_bytes + script_limits.most_bytes < length read = omega (arith, not_less (length read) most_read t) in
    subst (λ l. Decides l read) (sym e) (decides_long read rest long)

-- the input's bytes are decided by what was read of them
pub whole : (left now : Option (List ℕ)) (read : List ℕ) → Consumes left now read → (length read < most_read → IsAtEnd now) → IfSome left (λ bytes. Decides bytes read)
whole None now read p end = tt
whole (Some bytes) None read p end = absurd p
whole (Some bytes) (Some rest) read p end = by_length bytes read rest (nat_lt (length read) most_read) refl p end

ended : (left now : Option (List ℕ)) (read : List ℕ) → Consumes left now read → IsAtEnd now → IfSome left (λ bytes. now ≡ Some [])
ended None now read p e = tt
ended (Some bytes) None read p e = absurd p
ended (Some bytes) (Some rest) read p e = ap (λ l. Some l) e

script_short : (image : Image) (count : ℕ) (read : List ℕ) (x : List TypedAt × ℕ) (b : Bool) → nat_lt (length read) most_read ≡ b → image_of read ≡ Ok (image, count) → script_after image count read ≡ Ok x → length read < most_read
script_short image count read x true t there e = less (length read) most_read t
script_short image count read x false t there e =
    let long : image_limits.most_bytes + script_limits.most_bytes < length read = omega (arith, not_less (length read) most_read t) in
    let short : count ≤ image_limits.most_bytes = image_short read image count there in
    let bad : ◌≡◌ {A = Result (List TypedAt × ℕ) ScriptFault} (Err (record { line = 0; kind = Long })) (Ok x) = sym (script_long image count read short long) ∙ e in
    cc

-- the input was asked for its bytes, and these were read
pub record Read (before after : SourceState) (read : List ℕ) : Type 0 where
  pub given : after.given ≡ before.given ++ read
  pub bytes : Consumes before.left after.left read
  pub most : length read ≤ most_read
  pub end : length read < most_read → IsAtEnd after.left
  pub ended : length read < most_read → IsTrue after.ended

-- what the bytes that were read decide holds of the input
pub on_input : (before after : SourceState) (read : List ℕ) (P : List ℕ → Type 0) → Read before after read → ((bytes : List ℕ) → Decides bytes read → P bytes) → OnInput most_read before after P
on_input before after read P r f =
    let since : given_since before after ≡ read = ap (drop (length before.given)) r.given ∙ drop-append_seam before.given read in
    record {
      given = subst P (sym since) (f read (decides_same read read refl));
      within = omega (arith, ap length since, r.most);
      whole = λ h. r.ended (omega (arith, ap length since, h));
      left = some_map before.left (λ bytes. Decides bytes read) P f (whole before.left after.left read r.bytes r.end);
    }

pub all_read : (before after : SourceState) (read : List ℕ) (image : Image) (count : ℕ) (x : List TypedAt × ℕ) → Read before after read → image_of read ≡ Ok (image, count) → script_after image count read ≡ Ok x → IsAllRead before after
all_read before after read image count x r there e =
    let short : length read < most_read = script_short image count read x (nat_lt (length read) most_read) refl there e in
    record { ended = r.ended short; left = ended before.left after.left read r.bytes (r.end short) }
