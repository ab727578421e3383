-- The turns of a slot one after another.
use Rattle.std.proofs.Common.{◌≡◌, ℕ, zero, suc, ◌+◌, ◌-◌, ◌^◌, ◌≤◌, ◌<◌, min, max, List, [], ◌++◌, refl, sym, ◌∙◌, ap, arith, append_assoc}
use Rattle.std.proofs.Common.{append-nil, cond}
use Rattle.std.proofs.lemmas.List.Sums.{sum_by-append}
use Rattle.bk_report.specs.declared.item.ReportItem.{ReportItem}
use Rattle.bk_state.specs.State.{State}
use Rattle.bk_system.specs.Step.{Step, nothing, joined}
use Rattle.bk_system.specs.declared.at.At.{At}
use Rattle.bk_system.specs.Turn.{turn_of}
use Rattle.bk_system.specs.Loops.{turns_of}
use Rattle.bk_system.specs.Slot.{subject_of}
use Rattle.bk_system.specs.declared.script.TypedAt.{TypedAt}
use Rattle.bk_system.specs.Report.{is_call, calls_in}
use Rattle.bk_kernel.specs.Stretch.{at_next, turn_after, turns_from}
use Rattle.bk_kernel.specs.Progress.{Progress, raised, with_arrived, with_turns, next_turn, after_turn, items_within, turn_within, within_slot}

-- a turn of a slot that is the subject's
abbrev pub turn_at : (slot s turn : ℕ) → At
turn_at slot s turn = record { slot = slot; turn = turn; subject = s }

abbrev pub Extends : List ReportItem → List ReportItem → Type 0
Extends xs ys = (zs : List ReportItem) × (ys ≡ xs ++ zs)

-- the items of the first m turns are the first of those of n turns
turns_past : (slot s : ℕ) (v : State) (m n d : ℕ) → n ≡ d + m → Extends (turns_of slot s v m).items (turns_of slot s v n).items
turns_past slot s v m n zero e =
    let same : n ≡ m = omega (arith, e) in
    ([], ap (λ k. (turns_of slot s v k).items) same ∙ sym (append-nil (turns_of slot s v m).items))
turns_past slot s v m n (suc d) e =
    let next : n ≡ suc (d + m) = omega (arith, e) in
    let rest = turns_past slot s v m (d + m) d refl in
    let last = (turn_of (turn_at slot s (d + m)) (turns_of slot s v (d + m)).state).items in
    (rest.0 ++ last, ap (λ k. (turns_of slot s v k).items) next ∙ ap (λ l. l ++ last) rest.1 ∙ append_assoc (turns_of slot s v m).items rest.0 last)

joined-assoc : (a b d : Step) → joined (joined a b) d ≡ joined a (joined b d)
joined-assoc a b d = λ i. record { state = d.state; items = append_assoc a.items b.items d.items i; references = sums i }
  where
    sums : (a.references + b.references) + d.references ≡ a.references + (b.references + d.references)
    sums = omega arith

joined-nothing : (a : Step) → joined a (nothing a.state) ≡ a
joined-nothing a = λ i. record { state = a.state; items = append-nil a.items i; references = plain i }
  where
    plain : a.references + 0 ≡ a.references
    plain = omega arith

-- some turns, and then more
pub turns_on : (slot s : ℕ) (v : State) (t n : ℕ) → turns_of slot s v (t + n) ≡ joined (turns_of slot s v t) (turns_from (turn_at slot s t) (turns_of slot s v t).state n)
unfolding turns_from
turns_on slot s v t zero = let e : t + 0 ≡ t = omega arith in ap (turns_of slot s v) e ∙ sym (joined-nothing (turns_of slot s v t))
turns_on slot s v t (suc n) =
    let a = turns_of slot s v t in
    let b = turns_from (turn_at slot s t) a.state n in
    let e : t + suc n ≡ suc (t + n) = omega arith in
    let f : t + n ≡ n + t = omega arith in
    ap (turns_of slot s v) e
    ∙ ap (λ (step : Step). joined step (turn_of (turn_at slot s (t + n)) step.state)) (turns_on slot s v t n)
    ∙ joined-assoc a b (turn_of (turn_at slot s (t + n)) b.state)
    ∙ ap (λ m. joined a (joined b (turn_of (turn_at slot s m) b.state))) f

-- where only the last of them gives items, they are its items
pub last-items : (at : At) (v : State) (n : ℕ) → (turns_from at v n).items ≡ [] → (turns_from at v (suc n)).items ≡ (turn_of (turn_after at n) (turns_from at v n).state).items
unfolding turns_from
last-items at v n quiet = ap (λ xs. xs ++ (turn_of (turn_after at n) (turns_from at v n).state).items) quiet

-- the items of so many turns are a front of those of the slot
pub turns_front : (slot s : ℕ) (v : State) (m n : ℕ) → m ≤ n → Extends (turns_of slot s v m).items (turns_of slot s v n).items
turns_front slot s v m n h = let e : n ≡ (n - m) + m = omega (arith, h) in turns_past slot s v m n (n - m) e

-- ---- counts

raised_twice : (n a b m : ℕ) → max (max n (min (n + a) m)) (min (max n (min (n + a) m) + b) m) ≡ max n (min (n + (a + b)) m)
raised_twice n a b m = omega arith

raised_none : (n m : ℕ) → max n (min (n + 0) m) ≡ n
raised_none n m = omega arith

raised_small : (t m : ℕ) → t ≤ m → max 0 (min (0 + t) m) ≡ t
raised_small t m h = omega arith

calls_more : (xs ys : List ReportItem) → calls_in (xs ++ ys) ≡ calls_in xs + calls_in ys
calls_more xs ys = sum_by-append (λ (x : ReportItem). cond (is_call x) 1 0) xs ys

-- no turn yet
pub with_turns-none : (p : Progress) → with_turns p (nothing p.state) 0 ≡ p
with_turns-none p = λ i. record {
  state = p.state;
  slots = p.slots;
  since = raised_none p.since (2 ^ 16 - 1) i;
  turns = raised_none p.turns (2 ^ 32 - 1) i;
  references = raised_none p.references (2 ^ 64 - 1) i;
  calls = raised_none p.calls (2 ^ 32 - 1) i;
}

-- one turn more
pub with_turns-next : (p : Progress) (a : Step) (s t : ℕ) → p.since ≡ 0 → t < 2 ^ 16 → after_turn (with_turns p a t) s ≡ with_turns p (joined a (turn_of (turn_at p.slots s t) a.state)) (t + 1)
unfolding after_turn
with_turns-next p a s t fresh few =
    ap (λ n. with_turns (with_turns p a t) (turn_of (turn_at p.slots s n) a.state) 1) number
    ∙ (λ i. record {
      state = b.state;
      slots = p.slots;
      since = raised_twice p.since t 1 (2 ^ 16 - 1) i;
      turns = raised_twice p.turns t 1 (2 ^ 32 - 1) i;
      references = raised_twice p.references a.references b.references (2 ^ 64 - 1) i;
      calls = (raised_twice p.calls (calls_in a.items) (calls_in b.items) (2 ^ 32 - 1) ∙ ap (raised 32 p.calls) (sym (calls_more a.items b.items))) i;
    })
  where
    b : Step
    b = turn_of (turn_at p.slots s t) a.state

    number : raised 16 p.since t ≡ t
    number = ap (λ n. raised 16 n t) fresh ∙ raised_small t (2 ^ 16 - 1) (omega arith)

-- more turns
pub with_turns-more : (p : Progress) (a b : Step) (t n : ℕ) → with_turns (with_turns p a t) b n ≡ with_turns p (joined a b) (t + n)
with_turns-more p a b t n = λ i. record {
  state = b.state;
  slots = p.slots;
  since = raised_twice p.since t n (2 ^ 16 - 1) i;
  turns = raised_twice p.turns t n (2 ^ 32 - 1) i;
  references = raised_twice p.references a.references b.references (2 ^ 64 - 1) i;
  calls = (raised_twice p.calls (calls_in a.items) (calls_in b.items) (2 ^ 32 - 1) ∙ ap (raised 32 p.calls) (sym (calls_more a.items b.items))) i;
}

-- the turns that come next, after some of a slot
module _ (p now : Progress) (a : Step) (s t : ℕ) (fresh : p.since ≡ 0) (few : t < 2 ^ 16) (here : now ≡ with_turns p a t) where
  pub since_is : now.since ≡ t
  since_is = ap (λ (k : Progress). k.since) here ∙ ap (λ n. raised 16 n t) fresh ∙ raised_small t (2 ^ 16 - 1) (omega (arith, few))

  pub next_from : (n : ℕ) → turns_from (at_next now s) now.state n ≡ turns_from (turn_at p.slots s t) a.state n
  next_from n =
      ap (λ m. turns_from (record { slot = now.slots; turn = m; subject = s }) now.state n) since_is
      ∙ ap (λ (k : Progress). turns_from (record { slot = k.slots; turn = t; subject = s }) k.state n) here

  pub after_more : (n : ℕ) → with_turns now (turns_from (at_next now s) now.state n) n ≡ with_turns p (joined a (turns_from (turn_at p.slots s t) a.state n)) (t + n)
  after_more n =
      ap (λ (step : Step). with_turns now step n) (next_from n)
      ∙ ap (λ (k : Progress). with_turns k (turns_from (turn_at p.slots s t) a.state n) n) here
      ∙ with_turns-more p a (turns_from (turn_at p.slots s t) a.state n) t n

-- the number of the turn that comes next
pub turn_number : (p : Progress) (a : Step) (s t : ℕ) → p.since ≡ 0 → t < 2 ^ 16 → (next_turn (with_turns p a t) s).items ≡ (turn_of (turn_at p.slots s t) a.state).items
turn_number p a s t fresh few =
    ap (λ n. (turn_of (turn_at p.slots s n) a.state).items) (ap (λ n. raised 16 n t) fresh ∙ raised_small t (2 ^ 16 - 1) (omega arith))

module _ (p : Progress) (records : List TypedAt) (fresh : p.since ≡ 0) where
  abbrev q : Progress
  q = with_arrived p records

  abbrev s : ℕ
  s = subject_of p.state.fixed p.slots

  -- so many turns one after another are the first ones of the slot
  pub turns_made : (n : ℕ) → n ≤ 2 ^ 16 → within_slot p records n ≡ with_turns q (turns_of p.slots s q.state n) n
  turns_made zero few = sym (with_turns-none q)
  turns_made (suc n) few =
      let e : n + 1 ≡ suc n = omega arith in
      ap (λ x. after_turn x s) (turns_made n (omega (arith, few)))
      ∙ with_turns-next q (turns_of p.slots s q.state n) s n fresh (omega (arith, few))
      ∙ ap (with_turns q (turns_of p.slots s q.state (suc n))) e

  -- the next one is the next of the slot
  pub turn_made : (n : ℕ) → n < 2 ^ 16 → (turn_within p records n).items ≡ (turn_of (turn_at p.slots s n) (turns_of p.slots s q.state n).state).items
  turn_made n few = ap (λ x. (next_turn x s).items) (turns_made n (omega (arith, few))) ∙ turn_number q (turns_of p.slots s q.state n) s n fresh few

  -- and their items are its items
  pub items_made : (n : ℕ) → n ≤ 2 ^ 16 → items_within p records n ≡ (turns_of p.slots s q.state n).items
  items_made zero few = refl
  items_made (suc n) few = λ i. items_made n (omega (arith, few)) i ++ turn_made n (omega (arith, few)) i
