-- Parts of one kind, read one after the other as a loop does.
use Rattle.std.proofs.Common.{◌≡◌, ℕ, suc, ◌-◌, ◌+◌, ◌≤◌, ◌<◌, List, [], ◌∷◌, ◌++◌, Ok, Err, refl, sym, ◌∙◌, arith}
use Rattle.bk_base.specs.declared.stop.Stop.{Stop}
use Rattle.bk_base.specs.declared.stop.Stop.TheVariants.{Bad, NoMemory}
use Rattle.bk_base.specs.Faults.{Refuses}
use Rattle.bk_base.specs.Parts.{Rest, Reads, each_of}

module _ {F X : Type 0} (next : List X → Rest → Reads F X) where
  -- the parts from here on give what all of them give
  pub goes_on : (before : List X) (count i : ℕ) (rest : Rest) (x : X) (after : Rest) (total : Reads F (List X)) → i < count → next before rest ≡ Ok (x, after)
      → each_of next (count - i) before rest ≡ total → each_of next (count - (i + 1)) (before ++ x ∷ []) after ≡ total
  unfolding each_of
  goes_on before count i rest x after total lt h so_far =
      let k : count - i ≡ suc (count - (i + 1)) = omega arith in
      let one : each_of next (count - i) before rest ≡ each_of next (count - (i + 1)) (before ++ x ∷ []) after = rw (k, h) refl in
      sym one ∙ so_far

  pub stops : (e : Stop F) (before : List X) (count i : ℕ) (rest : Rest) (total : Reads F (List X)) → i < count → Refuses e (next before rest)
      → each_of next (count - i) before rest ≡ total → Refuses e total
  unfolding each_of
  stops NoMemory before count i rest total lt h so_far = tt
  stops (Bad f) before count i rest total lt h so_far =
      let k : count - i ≡ suc (count - (i + 1)) = omega arith in
      let one : each_of next (count - i) before rest ≡ Err f = rw (k, h) refl in
      sym so_far ∙ one

  pub is_done : (before : List X) (count i : ℕ) (rest : Rest) (total : Reads F (List X)) → count ≤ i → each_of next (count - i) before rest ≡ total → total ≡ Ok (before, rest)
  unfolding each_of
  is_done before count i rest total le so_far =
      let k : count - i ≡ 0 = omega arith in
      let one : each_of next (count - i) before rest ≡ Ok (before, rest) = rw k refl in
      sym so_far ∙ one
