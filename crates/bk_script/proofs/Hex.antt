-- The bytes of digits, as the reader of hexadecimal gives them.
use Rattle.std.proofs.Common.{◌≡◌, ℕ, ◌+◌, ◌*◌, ◌/◌, ◌%◌, ◌^◌, ◌<◌, ◌≤◌, true, List, [], ◌∷◌, length, Some, Ok, refl, arith, nat_le}
use Rattle.std.specs.Prelude.{◌&&◌, ◌==◌}
use Rattle.std.specs.List.{list_all, All}
use Rattle.std.proofs.lemmas.List.Elements.{All-nil, All-cons, All-head, All-tail}
use Rattle.std.proofs.lemmas.Bool.{and_parts}
use Rattle.std.proofs.lemmas.Bool.Decides.{nat_tests}
use Rattle.hex.specs.Hex.{decode_of, decode_pairs, hex_digit_value}
use Rattle.bk_script.specs.Fields.{is_hex, hex_value, is_bytes, bytes_of}
use Rattle.bk_script.specs.Script.{hex_digit, hex_of}

-- a digit in lower case has its value
hex_digit_value-is_hex : (b : ℕ) → is_hex b ≡ true → hex_digit_value b ≡ Some (hex_value b)
hex_digit_value-is_hex b h = grind (arith, nat_tests, h)

pub decode_pairs-is_hex : (i : ℕ) (text : List ℕ) → length text % 2 ≡ 0 → list_all is_hex text ≡ true → decode_pairs i text ≡ Ok (bytes_of text)
unfolding decode_pairs
decode_pairs-is_hex i [] even h = refl
decode_pairs-is_hex i (high ∷ []) even h = absurd (omega (arith, even))
decode_pairs-is_hex i (high ∷ low ∷ text) even h =
    let one = and_parts (is_hex high) (is_hex low && list_all is_hex text) h in
    let two = and_parts (is_hex low) (list_all is_hex text) one.1 in
    let rest : decode_pairs (i + 2) text ≡ Ok (bytes_of text) = decode_pairs-is_hex (i + 2) text (omega (arith, even)) two.1 in
    let value : hex_value high * 16 + hex_value low ≡ 16 * hex_value high + hex_value low = omega arith in
    rw (hex_digit_value-is_hex high one.0, hex_digit_value-is_hex low two.0, rest, value) refl

pub decode_of-is_bytes : (text : List ℕ) → is_bytes text ≡ true → decode_of text ≡ Ok (bytes_of text)
decode_of-is_bytes text h =
    let one = and_parts (nat_le 2 (length text) && nat_le (length text) 256 && length text % 2 == 0) (list_all is_hex text) h in
    let two = and_parts (nat_le 2 (length text) && nat_le (length text) 256) (length text % 2 == 0) one.0 in
    let even : length text % 2 ≡ 0 = grind (arith, nat_tests, two.1) in
    rw even (decode_pairs-is_hex 0 text even one.1)

-- ---- the text of bytes

digit_of-value : (b : ℕ) → is_hex b ≡ true → hex_digit (hex_value b) ≡ b
digit_of-value b h = grind (arith, nat_tests, h)

value-small : (b : ℕ) → is_hex b ≡ true → hex_value b < 16
value-small b h = grind (arith, nat_tests, h)

value_of-digit : (n : ℕ) → n < 16 → hex_value (hex_digit n) ≡ n
value_of-digit n h = grind (arith, nat_tests, h)

is_hex-digit : (n : ℕ) → n < 16 → is_hex (hex_digit n) ≡ true
is_hex-digit n h = grind (arith, nat_tests, h)

-- the bytes of digits are written as these digits
pub hex_of-bytes_of : (text : List ℕ) → length text % 2 ≡ 0 → list_all is_hex text ≡ true → hex_of (bytes_of text) ≡ text
hex_of-bytes_of [] even h = refl
hex_of-bytes_of (high ∷ []) even h = absurd (omega (arith, even))
hex_of-bytes_of (high ∷ low ∷ text) even h =
    let one = and_parts (is_hex high) (is_hex low && list_all is_hex text) h in
    let two = and_parts (is_hex low) (list_all is_hex text) one.1 in
    let rest : hex_of (bytes_of text) ≡ text = hex_of-bytes_of text (omega (arith, even)) two.1 in
    let h_small : hex_value high < 16 = value-small high one.0 in
    let l_small : hex_value low < 16 = value-small low two.0 in
    let quotient : (16 * hex_value high + hex_value low) / 16 ≡ hex_value high = omega (arith, l_small) in
    let remainder : (16 * hex_value high + hex_value low) % 16 ≡ hex_value low = omega (arith, l_small) in
    rw (quotient, remainder, rest, digit_of-value high one.0, digit_of-value low two.0) refl

pub length-bytes_of : (text : List ℕ) → length text % 2 ≡ 0 → 2 * length (bytes_of text) ≡ length text
length-bytes_of [] even = refl
length-bytes_of (high ∷ []) even = absurd (omega (arith, even))
length-bytes_of (high ∷ low ∷ text) even = let rest = length-bytes_of text (omega (arith, even)) in omega (arith, rest)

pub bytes_of-small : (text : List ℕ) → list_all is_hex text ≡ true → All (λ b. b < 2 ^ 8) (bytes_of text)
bytes_of-small [] h = All-nil (λ b. b < 2 ^ 8)
bytes_of-small (high ∷ []) h = All-nil (λ b. b < 2 ^ 8)
bytes_of-small (high ∷ low ∷ text) h =
    let one = and_parts (is_hex high) (is_hex low && list_all is_hex text) h in
    let two = and_parts (is_hex low) (list_all is_hex text) one.1 in
    let h_small : hex_value high < 16 = value-small high one.0 in
    let l_small : hex_value low < 16 = value-small low two.0 in
    All-cons (λ b. b < 2 ^ 8) (16 * hex_value high + hex_value low) (bytes_of text) (omega (arith, h_small, l_small)) (bytes_of-small text two.1)

-- the parts of the test
pub is_bytes-parts : (text : List ℕ) → is_bytes text ≡ true → (2 ≤ length text) × (length text ≤ 256) × (length text % 2 ≡ 0) × (list_all is_hex text ≡ true)
is_bytes-parts text h =
    let one = and_parts (nat_le 2 (length text) && nat_le (length text) 256 && length text % 2 == 0) (list_all is_hex text) h in
    let two = and_parts (nat_le 2 (length text) && nat_le (length text) 256) (length text % 2 == 0) one.0 in
    let three = and_parts (nat_le 2 (length text)) (nat_le (length text) 256) two.0 in
    (grind (arith, nat_tests, three.0), grind (arith, nat_tests, three.1), grind (arith, nat_tests, two.1), one.1)

-- bytes are read again from their text
pub bytes_of-hex_of : (bytes : List ℕ) → All (λ b. b < 2 ^ 8) bytes → bytes_of (hex_of bytes) ≡ bytes
bytes_of-hex_of [] h = refl
bytes_of-hex_of (b ∷ bytes) h =
    let small : b < 2 ^ 8 = All-head (λ b. b < 2 ^ 8) b bytes h in
    let rest : bytes_of (hex_of bytes) ≡ bytes = bytes_of-hex_of bytes (All-tail (λ b. b < 2 ^ 8) b bytes h) in
    let whole : 16 * (b / 16) + b % 16 ≡ b = omega arith in
    rw (value_of-digit (b / 16) (omega arith), value_of-digit (b % 16) (omega arith), whole, rest) refl

pub length-hex_of : (bytes : List ℕ) → length (hex_of bytes) ≡ 2 * length bytes
length-hex_of [] = refl
length-hex_of (b ∷ bytes) = let rest = length-hex_of bytes in omega (arith, rest)

are_hex-hex_of : (bytes : List ℕ) → All (λ b. b < 2 ^ 8) bytes → list_all is_hex (hex_of bytes) ≡ true
are_hex-hex_of [] h = refl
are_hex-hex_of (b ∷ bytes) h =
    let small : b < 2 ^ 8 = All-head (λ b. b < 2 ^ 8) b bytes h in
    let rest : list_all is_hex (hex_of bytes) ≡ true = are_hex-hex_of bytes (All-tail (λ b. b < 2 ^ 8) b bytes h) in
    rw (is_hex-digit (b / 16) (omega arith), is_hex-digit (b % 16) (omega arith), rest) refl

pub is_bytes-hex_of : (bytes : List ℕ) → 1 ≤ length bytes → length bytes ≤ 128 → All (λ b. b < 2 ^ 8) bytes → is_bytes (hex_of bytes) ≡ true
is_bytes-hex_of bytes some short h =
    let len = length-hex_of bytes in
    let a : nat_le 2 (length (hex_of bytes)) ≡ true = grind (arith, nat_tests, len, some) in
    let b : nat_le (length (hex_of bytes)) 256 ≡ true = grind (arith, nat_tests, len, short) in
    let c : length (hex_of bytes) % 2 ≡ 0 = omega (arith, len) in
    rw (a, b, c, are_hex-hex_of bytes h) refl
