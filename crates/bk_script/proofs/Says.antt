-- What a line says, and how it is spelt.
use Rattle.std.proofs.Common.{◌≡◌, ℕ, ◌^◌, ◌<◌, ◌≤◌, Bool, true, false, List, [], ◌∷◌, ◌++◌, length, Some, None, refl, arith, codes, decimal, subst, cond}
use Rattle.std.specs.Prelude.{◌&&◌, ◌==◌, bytes_eq}
use Rattle.std.specs.List.{All, slice_split, join_with_byte}
use Rattle.std.proofs.lemmas.Bool.{and_parts}
use Rattle.std.proofs.lemmas.List.Splits.{join_with_byte-slice_split}
use Rattle.std.proofs.lemmas.Slice.Eq.{bytes_eq-Decides}
use Rattle.bk_script.specs.declared.line.Line.{Line}
use Rattle.bk_script.specs.declared.line.Line.TheVariants.{Record, Ends}
use Rattle.bk_script.specs.Fields.{is_number, number, is_bytes, bytes_of}
use Rattle.bk_script.specs.Lines.{end_of, record_of, fields_of, line_of}
use Rattle.bk_script.specs.Script.{hex_of}
use Rattle.bk_script.proofs.Numbers.{decimal-number, number-small}
use Rattle.bk_script.proofs.Hex.{is_bytes-parts, hex_of-bytes_of, length-bytes_of, bytes_of-small}

-- a record's line without its LF, with its numbers and bytes within their bounds
pub record IsRecord (text : List ℕ) (slot line : ℕ) (bytes : List ℕ) : Type 0 where
  pub text_is : text ≡ decimal slot ++ (32 ∷ (decimal line ++ (32 ∷ hex_of bytes)))
  pub slot_small : slot < 10 ^ 9
  pub line_small : line < 10 ^ 9
  pub some : 1 ≤ length bytes
  pub short : length bytes ≤ 128
  pub small : All (λ b. b < 2 ^ 8) bytes

-- the END line without its LF
pub record IsEnd (text : List ℕ) (slots : ℕ) : Type 0 where
  pub text_is : text ≡ codes "END" ++ (32 ∷ decimal slots)
  pub slots_small : slots < 10 ^ 9

abbrev pub Says : List ℕ → Line → Type 0
Says text (Record slot line bytes) = IsRecord text slot line bytes
Says text (Ends slots) = IsEnd text slots

end_says : (word slots : List ℕ) (said : Line) → end_of word slots ≡ Some said → Says (word ++ (32 ∷ slots)) said
end_says word slots said h = by (bytes_eq word (codes "END") && is_number slots) refl h where
  by : (b : Bool) → (bytes_eq word (codes "END") && is_number slots) ≡ b
      → cond b (Some (Ends (number slots))) None ≡ Some said → Says (word ++ (32 ∷ slots)) said
  by true e h =
      let p = and_parts (bytes_eq word (codes "END")) (is_number slots) e in
      let word_is : word ≡ codes "END" = (bytes_eq-Decides word (codes "END")).0 p.0 in
      let said_is : Ends (number slots) ≡ said = cc in
      subst (Says (word ++ (32 ∷ slots))) said_is (record {
        text_is = rw (word_is, decimal-number slots p.1) refl;
        slots_small = number-small slots p.1;
      })
  by false e h = cc

record_says : (slot line hex : List ℕ) (said : Line) → record_of slot line hex ≡ Some said → Says (slot ++ (32 ∷ (line ++ (32 ∷ hex)))) said
record_says slot line hex said h = by (is_number slot && is_number line && is_bytes hex) refl h where
  by : (b : Bool) → (is_number slot && is_number line && is_bytes hex) ≡ b
      → cond b (Some (Record (number slot) (number line) (bytes_of hex))) None ≡ Some said → Says (slot ++ (32 ∷ (line ++ (32 ∷ hex)))) said
  by true e h =
      let one = and_parts (is_number slot && is_number line) (is_bytes hex) e in
      let two = and_parts (is_number slot) (is_number line) one.0 in
      let b = is_bytes-parts hex one.1 in
      let len = length-bytes_of hex b.2 in
      let said_is : Record (number slot) (number line) (bytes_of hex) ≡ said = cc in
      subst (Says (slot ++ (32 ∷ (line ++ (32 ∷ hex))))) said_is (record {
        text_is = rw (decimal-number slot two.0, decimal-number line two.1, hex_of-bytes_of hex b.2 b.3) refl;
        slot_small = number-small slot two.0;
        line_small = number-small line two.1;
        some = omega (arith, len, b.0);
        short = omega (arith, len, b.1);
        small = bytes_of-small hex b.3;
      })
  by false e h = cc

fields_say : (fields : List (List ℕ)) (said : Line) → fields_of fields ≡ Some said → Says (join_with_byte 32 fields) said
fields_say [] said h = cc
fields_say (one ∷ []) said h = cc
fields_say (word ∷ slots ∷ []) said h = end_says word slots said h
fields_say (slot ∷ line ∷ hex ∷ []) said h = record_says slot line hex said h
fields_say (one ∷ two ∷ three ∷ four ∷ more) said h = cc

-- a line is spelt as what it says
pub line_says : (text : List ℕ) (said : Line) → line_of text ≡ Some said → Says text said
unfolding line_of
line_says text said h =
    subst (λ t. Says t said) (join_with_byte-slice_split 32 text) (fields_say (slice_split (λ b. b == 32) text) said h)
