-- A sink before which bytes wait: what it has taken, by what it took and what waits.
use Rattle.std.proofs.Common.{◌≡◌, ◌≤◌, ℕ, List, [], ◌∷◌, ◌++◌, length, take, drop, refl, sym, ◌∙◌, ap, arith, append_assoc, append-nil, length-append, take-append-drop}
use Rattle.std.proofs.lemmas.List.{drop-append-le, take-append-le}
use Rattle.std.proofs.Math.Seq.{drop-append_seam, take-append_seam}
use Rattle.std.specs.Prelude.{Option, None, Some}
use Rattle.std.specs.Io.KnownBytes.{Appends, Keeps}
use Rattle.bk_base.specs.Written.{IsFront, Took, Broke}
use Rattle.bk_base.specs.Outside.{Rose}
use Rattle.bk_base.proofs.Written.{front_then, rose_before}
use Rattle.bk_replay.specs.Gathered.{InStep}

-- at the start nothing waits
pub step_begun : (start now : Option (List ℕ)) → start ≡ now → InStep start now [] []
step_begun None now e = tt
step_begun (Some x) None e = cc
step_begun (Some x) (Some y) e = let same : x ≡ y = cc in (omega (arith, ap length same), ap (λ l. l ++ []) (sym same))

-- the first bytes that waited went out
pub step_sent : (start a b : Option (List ℕ)) (all w : List ℕ) (n : ℕ) → Appends a b (take n w) → InStep start a all w → InStep start b all (drop n w)
step_sent None a b all w n p s = tt
step_sent (Some x) None b all w n p s = absurd s
step_sent (Some x) (Some y) None all w n p s = absurd p
step_sent (Some x) (Some y) (Some z) all w n p s = (
  omega (arith, s.0, ap length p, length-append y (take n w)),
  ap (λ l. l ++ drop n w) p ∙ append_assoc y (take n w) (drop n w) ∙ ap (λ l. y ++ l) (take-append-drop n w) ∙ s.1,
)

-- none went out
pub step_kept : (start a b : Option (List ℕ)) (all w : List ℕ) → Keeps a b → InStep start a all w → InStep start b all w
step_kept None a b all w p s = tt
step_kept (Some x) None b all w p s = absurd s
step_kept (Some x) (Some y) None all w p s = absurd p
step_kept (Some x) (Some y) (Some z) all w p s = (omega (arith, s.0, ap length p), ap (λ l. l ++ w) p ∙ s.1)

-- more was put
pub step_put : (start a : Option (List ℕ)) (all w t : List ℕ) → InStep start a all w → InStep start a (all ++ t) (w ++ t)
step_put None a all w t s = tt
step_put (Some x) None all w t s = absurd s
step_put (Some x) (Some y) all w t s = (s.0, sym (append_assoc y w t) ∙ ap (λ l. l ++ t) s.1 ∙ append_assoc x all t)

-- where nothing waits, the sink took all
pub step_all : (start a : Option (List ℕ)) (all : List ℕ) → InStep start a all [] → Appends start a all
step_all None a all s = tt
step_all (Some x) None all s = absurd s
step_all (Some x) (Some y) all s = sym (append-nil y) ∙ s.1

-- of all, the sink took a front
pub step_front : (start a : Option (List ℕ)) (all w : List ℕ) → InStep start a all w → (front : List ℕ) × IsFront front all × Appends start a front
step_front None a all w s = ([], (all, refl), tt)
step_front (Some x) None all w s = absurd s
step_front (Some x) (Some y) all w s =
    let head : take (length x) y ≡ x = sym (take-append-le (length x) y w s.0) ∙ ap (take (length x)) s.1 ∙ take-append_seam x all in (
      drop (length x) y,
      (w, sym (drop-append_seam x all) ∙ ap (drop (length x)) (sym s.1) ∙ drop-append-le (length x) y w s.0),
      sym (take-append-drop (length x) y) ∙ ap (λ l. l ++ drop (length x) y) head,
    )

-- all but the first of a list
abbrev rest_of : List ℕ → List ℕ
rest_of [] = []
rest_of (x ∷ xs) = xs

-- a front of all is a front of the text, and that is what the sink took
front_behind : (start a : Option (List ℕ)) (m n : ℕ) (all w text : List ℕ) → InStep start a all w → IsFront all text → Rose m n → m ≤ n → Broke start a m n text
front_behind start a m n all w text s within rose later =
    let sent = step_front start a all w s in
    record { part = (sent.0, front_then sent.0 all text sent.1 within, sent.2); rose = rose; later = later }

-- a write failed while the text was put
pub broke_behind : (start a : Option (List ℕ)) (m n before after : ℕ) (old all w text : List ℕ) → old ≡ [] → InStep start a all w
    → Broke (Some (before ∷ old)) (Some (after ∷ all)) m n text → Broke start a m n text
broke_behind start a m n before after old all w text none s b =
    let front : all ≡ b.part.0 = ap rest_of b.part.2 ∙ ap (λ l. l ++ b.part.0) none in
    front_behind start a m n all w text s (b.part.1.0, b.part.1.1 ∙ ap (λ l. l ++ b.part.1.0) (sym front)) b.rose b.later

-- a write failed when the text was put whole
pub broke_last : (start a : Option (List ℕ)) (m k n before after : ℕ) (old put all w text : List ℕ) → old ≡ [] → InStep start a all w
    → Took (Some (before ∷ old)) (Some (after ∷ put)) m k text → all ≡ put → Rose k n → k ≤ n → Broke start a m n text
broke_last start a m k n before after old put all w text none s took same rose later =
    let whole : all ≡ text = same ∙ ap rest_of took.bytes ∙ ap (λ l. l ++ text) none in
    front_behind start a m n all w text s ([], sym whole ∙ sym (append-nil all)) (rose_before m k n (omega (arith, took.told)) rose) (omega (arith, took.told, later))
