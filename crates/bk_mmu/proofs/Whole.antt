-- The pages that are kept, once one of them is replaced.
use Rattle.std.proofs.Common.{◌≡◌, ℕ, zero, suc, List, [], ◌∷◌, get_or, set, map, replicate, refl, arith}
use Rattle.std.proofs.lemmas.List.{map-set, length-map, length-set}
use Rattle.bk_space.specs.declared.address.TheConstants.{PAGES}
use Rattle.bk_mmu.specs.declared.page.Page.{Page}
use Rattle.bk_mmu.specs.ActivePages.{IsPlaced, non_resident}
use Rattle.bk_mmu.specs.Kept.{kept_as, all_kept_as, no_page, IsWhole, AreWhole}

-- no page is whole, and has the registers of a page that is not there
pub no_page_whole : IsWhole no_page
no_page_whole = record {
  base = refl;
  size = refl;
  both = λ h. refl;
  placed = record { upward = refl; control = refl; most = omega arith; above = λ h. absurd (omega (arith, h)); below = omega arith };
}

placed_at : (pages : List Page) → ((k : ℕ) → IsWhole (get_or pages k no_page)) → (k : ℕ) → IsPlaced (get_or (map kept_as pages) k non_resident)
placed_at [] all k = (no_page_whole).placed
placed_at (q ∷ pages) all zero = (all zero).placed
placed_at (q ∷ pages) all (suc k) = placed_at pages (λ j. all (suc j)) k

whole_at : (pages : List Page) (n : ℕ) (p : Page) → ((k : ℕ) → IsWhole (get_or pages k no_page)) → IsWhole p → (k : ℕ) → IsWhole (get_or (set pages n p) k no_page)
whole_at [] n p all one k = all k
whole_at (q ∷ pages) zero p all one zero = one
whole_at (q ∷ pages) zero p all one (suc k) = all (suc k)
whole_at (q ∷ pages) (suc n) p all one zero = all zero
whole_at (q ∷ pages) (suc n) p all one (suc k) = whole_at pages n p (λ j. all (suc j)) one k

-- one page is replaced
pub whole-set : (pages : List Page) (n : ℕ) (p : Page) → AreWhole pages → IsWhole p → AreWhole (set pages n p)
whole-set pages n p whole one = record {
  full = rw (length-map, length-set) (rw length-map at whole.full);
  whole = whole_at pages n p whole.whole one;
  placed = placed_at (set pages n p) (whole_at pages n p whole.whole one);
}

-- and its registers are
pub kept_as-set : (pages : List Page) (n : ℕ) (p : Page) → all_kept_as (set pages n p) ≡ set (all_kept_as pages) n (kept_as p)
kept_as-set pages n p = map-set kept_as pages n p

none_at : (n k : ℕ) → IsWhole (get_or (replicate n no_page) k no_page)
none_at zero k = no_page_whole
none_at (suc n) zero = no_page_whole
none_at (suc n) (suc k) = none_at n k

-- no page is there
pub none_whole : AreWhole (replicate PAGES no_page)
none_whole = record {
  full = refl;
  whole = none_at PAGES;
  placed = placed_at (replicate PAGES no_page) (none_at PAGES);
}
