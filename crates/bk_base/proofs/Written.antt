-- Writes one after another: what went out, and the front that went out where one failed.
use Rattle.std.proofs.Common.{inl, inr, ℕ, ◌≤◌, List, [], ◌++◌, refl, sym, ◌∙◌, ap, arith, append_assoc}
use Rattle.std.specs.Prelude.{Option, Result, Ok, Err, OnOk, OnErr}
use Rattle.std.proofs.KnownBytes.{Appends-nil, Appends-trans}
use Rattle.bk_base.specs.Outside.{Rose}
use Rattle.bk_base.specs.Written.{IsFront, Took, Broke}

pub took_nil : (a : Option (List ℕ)) (m : ℕ) → Took a a m m []
took_nil a m = record { bytes = Appends-nil a; told = refl }

pub took_then : (a b c : Option (List ℕ)) (m n o : ℕ) (s t : List ℕ) → Took a b m n s → Took b c n o t → Took a c m o (s ++ t)
took_then a b c m n o s t p q = record { bytes = Appends-trans a b c s t p.bytes q.bytes; told = q.told ∙ p.told }

-- a count that rose after it had not fallen
pub rose_before : (m n o : ℕ) → m ≤ n → Rose n o → Rose m o
rose_before m n o later (inl more) = inl (omega arith)
rose_before m n o later (inr last) = inr last

pub broke_then : (a b c : Option (List ℕ)) (m n o : ℕ) (s t : List ℕ) → Took a b m n s → Broke b c n o t → Broke a c m o (s ++ t)
broke_then a b c m n o s t p q = record {
  part = (s ++ q.part.0, (q.part.1.0, ap (λ l. s ++ l) q.part.1.1 ∙ sym (append_assoc s q.part.0 q.part.1.0)), Appends-trans a b c s q.part.0 p.bytes q.part.2);
  rose = rose_before m n o (omega (arith, p.told)) q.rose;
  later = omega (arith, p.told, q.later);
}

pub front_then : (s t u : List ℕ) → IsFront s t → IsFront t u → IsFront s u
front_then s t u p q = (p.0 ++ q.0, q.1 ∙ ap (λ l. l ++ q.0) p.1 ∙ append_assoc s p.0 q.0)

-- a front of a front
pub broke_within : (a b : Option (List ℕ)) (m n : ℕ) (s t : List ℕ) → IsFront s t → Broke a b m n s → Broke a b m n t
broke_within a b m n s t p q = record { part = (q.part.0, front_then q.part.0 s t q.part.1 p, q.part.2); rose = q.rose; later = q.later }

pub on_err_any : {T E P : Type 0} (r : Result T E) → P → OnErr r P
on_err_any (Ok x) p = tt
on_err_any (Err e) p = p

pub on_ok_map : {T E P Q : Type 0} (r : Result T E) → (P → Q) → OnOk r P → OnOk r Q
on_ok_map (Ok x) f p = f p
on_ok_map (Err e) f p = tt

pub on_err_map : {T E P Q : Type 0} (r : Result T E) → (P → Q) → OnErr r P → OnErr r Q
on_err_map (Ok x) f p = tt
on_err_map (Err e) f p = f p
