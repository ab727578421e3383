use Rattle.std.proofs.Common.{◌≡◌, ℕ, ◌+◌, ◌≤◌, min, List, ◌++◌, length, take, drop, Some, sym, ap, ◌∙◌, arith, length-take, drop-drop}
use Rattle.std.proofs.lemmas.Grind.{common_steps}
use Rattle.std.proofs.lemmas.List.{take-append-drop}
use Rattle.bk_base.specs.Outside.{Reads}

-- the first n bytes from a place on, of those that a read may give, are what it gives
pub reads_next : (xs given : List ℕ) (at n most max : ℕ) → given ≡ take n (drop at xs) → n ≡ min most (min 4096 (length (drop at xs)))
    → 1 ≤ most → most ≤ max → Reads max n (Some (drop at xs)) (Some (drop (at + n) xs)) given
reads_next xs given at n most max e is some within = record {
  count = ap length e ∙ length-take n (drop at xs) ∙ omega arith;
  most = omega arith;
  size = omega arith;
  bytes =
      sym (take-append-drop n (drop at xs))
      ∙ ap (λ l. l ++ drop n (drop at xs)) (sym e)
      ∙ ap (λ l. given ++ l) (drop-drop n at xs);
  end = λ none. grind (arith, common_steps);
}
