use Rattle.std.proofs.Common.{◌≡◌, ℕ, ◌<◌, List, [], ◌∷◌, length, get_or, set, map, refl, ◌∙◌, ap, arith, zero, suc}
use Rattle.std.proofs.lemmas.List.{map-set}
use Rattle.bk_cpu.specs.declared.page.PlainPage.{PlainPage}
use Rattle.bk_cpu.specs.Pages.{page_of, pages_of}
use Rattle.bk_cpu.specs.Plain.{no_page, page_in}

-- a page that is read
page_read_at : (pages : List PlainPage) (n : ℕ) (p : PlainPage) → n < length pages → page_of (get_or pages n p) ≡ get_or (map page_of pages) n no_page
page_read_at [] n p h = absurd (omega arith)
page_read_at (q ∷ pages) zero p h = refl
page_read_at (q ∷ pages) (suc n) p h = page_read_at pages n p (omega (arith, h))

pub page_read : (pages : List PlainPage) (n : ℕ) (p : PlainPage) → n < length pages → p ≡ get_or pages n p → page_of p ≡ page_in (pages_of pages) n
page_read pages n p h e = ap page_of e ∙ page_read_at pages n p h

-- a page that is replaced
pub pages_of-set : (pages : List PlainPage) (n : ℕ) (p : PlainPage) → pages_of (set pages n p) ≡ set (pages_of pages) n (page_of p)
pages_of-set pages n p = map-set page_of pages n p

-- what a bus of pages needs
pub ruleset page_lemmas = (page_read, pages_of-set)
