use Rattle.std.proofs.Common.{◌≡◌, ◌∙◌, ◌+◌, ◌-◌, ◌≤◌, ◌++◌, ◌∷◌, [], ℕ, suc, List, length, length-append, append_assoc, refl, sym, ap, arith}
use Rattle.bk_tree.specs.Down.{down_to_1}
use Rattle.bk_tree.proofs.Vacant.{down_length}
use Rattle.bk_tree.proofs.tree.all_but_first.Goals as goal

-- the next number joins
next : (free : List ℕ) (slots n : ℕ) → n + 1 ≤ slots → free ++ down_to_1 (slots - n) ≡ down_to_1 (slots - 1) → (free ++ (slots - n) ∷ []) ++ down_to_1 (slots - (n + 1)) ≡ down_to_1 (slots - 1)
next free slots n lt was =
    let step : slots - n ≡ suc (slots - (n + 1)) = omega (arith, lt) in
    append_assoc free ((slots - n) ∷ []) (down_to_1 (slots - (n + 1))) ∙ ap (λ xs. free ++ xs) ((λ i. step i ∷ down_to_1 (slots - (n + 1))) ∙ ap down_to_1 (sym step)) ∙ was

nil : (xs : List ℕ) → xs ++ [] ≡ xs
nil [] = refl
nil (x ∷ xs) = λ i. x ∷ nil xs i

pub push_free-requires : goal.push_free-requires
push_free-requires c =
    let free = c.loop-n.free.items in
    let long = sym (length-append free (down_to_1 (c.args.slots - c.loop-n.n))) ∙ ap length c.loop-n.invariant.items ∙ down_length (c.args.slots - 1) in
    let rest = down_length (c.args.slots - c.loop-n.n) in
    let capacity = c.loop-n.invariant.capacity in
    omega (arith, long, rest, capacity)

pub loop-n-preserved : goal.loop-n-preserved
loop-n-preserved c = record {
  items = ap (λ xs. xs ++ down_to_1 (c.args.slots - (c.loop-n.n + 1))) c.push_free.ensures.items ∙ next c.loop-n.free.items c.args.slots c.loop-n.n (omega arith) c.loop-n.invariant.items;
  capacity = let was = c.loop-n.invariant.capacity in omega (arith, was, c.push_free.ensures.capacity);
}
