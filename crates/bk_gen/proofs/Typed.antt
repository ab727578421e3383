-- A generated script: what one more number types, and that it is a script for an image of four lines and 64 turns a slot.
use Rattle.std.proofs.Common.{◌≡◌, ℕ, zero, suc, ◌+◌, ◌*◌, ◌/◌, ◌%◌, ◌<◌, ◌≤◌, List, [], sym, ◌∷◌, map, refl, ap, ◌∙◌, arith, inl, lit≤, ◌++◌, add-one}
use Rattle.std.specs.Prelude.{All, ◌^◌}
use Rattle.std.specs.List.{range_with_len}
use Rattle.std.proofs.lemmas.List.Elements.{All-nil, All-cons, All-map}
use Rattle.std.proofs.lemmas.List.FromFn.{map-range_with_len_more}
use Rattle.bk_script.specs.Script.{IsTyped, IsInOrder, IsScript}
use Rattle.bk_system.specs.declared.TypedAt.{TypedAt}
use Rattle.bk_gen.specs.Subjects.{numbers_below}
use Rattle.bk_gen.specs.Numbers.{number_after, number_at}
use Rattle.bk_gen.specs.Script.{high_half, typed_by, typed_in, typed_below, generated_script}
use Rattle.bk_gen.specs.Image.{generated_image}

-- what holds of each number of a range holds of all
all_in_range : (P : ℕ → Type 0) (a n : ℕ) → ((k : ℕ) → a ≤ k → k < a + n → P k) → All P (range_with_len a n)
all_in_range P a zero each = All-nil P
all_in_range P a (suc n) each =
    All-cons P a (range_with_len (a + 1) n) (each a (omega arith) (omega arith))
    (all_in_range P (a + 1) n (λ k from to. each k (omega (arith, from)) (omega (arith, to))))

is_typed : (slots slot x : ℕ) → slot < slots → IsTyped 4 slots (typed_by slot x)
is_typed slots slot x below = record {
  slot = below;
  line = omega arith;
  some = omega arith;
  short = omega arith;
  bytes = All-cons (λ b. b < 2 ^ 8) (32 + high_half x / 4 % 95) [] (omega arith) (All-nil (λ b. b < 2 ^ 8));
}

is_in_order : (n a slots : ℕ) → IsInOrder (map (typed_in n) (range_with_len a slots))
is_in_order n a zero = tt
is_in_order n a (suc zero) = tt
is_in_order n a (suc (suc slots)) = (inl (omega arith), is_in_order n (a + 1) (suc slots))

typed_script : (n slots : ℕ) → slots ≤ 65535 → slots * 64 ≤ 4194304 → IsScript 4 64 (typed_below n slots) slots
unfolding typed_below
typed_script n slots few within = record {
  few = few;
  within = within;
  typed = All-map (IsTyped 4 slots) (typed_in n) (range_with_len 0 slots) (all_in_range (λ k. IsTyped 4 slots (typed_in n k)) 0 slots (λ k from to. is_typed slots k (number_at n (k + 1)) (omega (arith, to))));
  order = is_in_order n 0 slots;
}

-- it has 4,096 slots
pub is_script : (n : ℕ) → IsScript generated_image.lines generated_image.turns (generated_script n).typed (generated_script n).slots
unfolding generated_script generated_image
is_script n = typed_script n 4096 (lit≤ tt) (lit≤ tt)

-- ---- one more

pub number_at-first : (n : ℕ) → number_at n 0 ≡ n
unfolding number_at
number_at-first n = refl

number_at-next : (n k : ℕ) → number_at n (k + 1) ≡ number_after (number_at n k)
unfolding number_at
number_at-next n k = rw add-one refl

pub typed_below-none : (n : ℕ) → typed_below n 0 ≡ []
unfolding typed_below
typed_below-none n = refl

typed_below-more : (n slots : ℕ) → typed_below n (slots + 1) ≡ typed_below n slots ++ typed_by slots (number_after (number_at n slots)) ∷ []
unfolding typed_below
typed_below-more n slots =
    map-range_with_len_more (typed_in n) 0 slots slots (omega arith)
    ∙ ap (λ x. map (typed_in n) (numbers_below slots) ++ typed_by slots x ∷ []) (number_at-next n slots)

-- the number that follows, and what it types in the next slot
pub number_more : (n slots x next : ℕ) → x ≡ number_at n slots → next ≡ number_after x → next ≡ number_at n (slots + 1)
number_more n slots x next number is = is ∙ ap number_after number ∙ sym (number_at-next n slots)

pub typed_more : (n slots x : ℕ) (old new : List TypedAt) (typed : TypedAt) →
    x ≡ number_at n slots → old ≡ typed_below n slots → new ≡ old ++ typed ∷ [] → typed ≡ typed_by slots (number_after x) → new ≡ typed_below n (slots + 1)
typed_more n slots x old new typed number before push is =
    let same : typed ≡ typed_by slots (number_after (number_at n slots)) = is ∙ ap (λ y. typed_by slots (number_after y)) number in
    push ∙ (λ i. before i ++ same i ∷ []) ∙ sym (typed_below-more n slots)
