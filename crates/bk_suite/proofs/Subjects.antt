-- A system keeps its subjects.
use Rattle.std.proofs.Common.{◌≡◌, ◌∙◌, ◌<◌, ℕ, List, length, refl, sym, ap, subst}
use Rattle.std.proofs.lemmas.List.{length-map}
use Rattle.bk_state.specs.declared.image.Image.{Image}
use Rattle.bk_state.specs.State.{State, Fixed}
use Rattle.bk_state.specs.Secure.{Secure}
use Rattle.bk_state.specs.Start.{state_of}
use Rattle.bk_system.specs.declared.script.TypedAt.{TypedAt}
use Rattle.bk_system.specs.Event.{Event, Turn, EndSlot, all_happen, happens}
use Rattle.bk_system.specs.Slot.{slot_of, slot_events}
use Rattle.bk_kernel.specs.Progress.{Progress, begun, after_slot, after_turn, after_end}
use Rattle.bk_laws.proofs.SecureEvents.{law_secure, law_reached}
use Rattle.bk_suite.specs.Subjects.{HasSubjects}

-- there are as many processes
pub has_process : (v : State) (n s : ℕ) → HasSubjects v n → s < n → s < length v.processes
has_process v n s has within = subst (λ m. s < m) (sym (has.secure.processes ∙ has.subjects)) within

-- at the start there are those of the image
begun_secure : (image : Image) → Secure (state_of image) → HasSubjects (state_of image) (length image.subjects)
unfolding state_of
begun_secure image secure = record { secure = secure; subjects = length-map image.subjects (λ s. s.f_s) }

pub begun_kept : (image : Image) (p : Progress) (subjects : List _) (n : ℕ) → p ≡ begun (state_of image) → Secure (state_of image) → subjects ≡ image.subjects → n ≡ length subjects → HasSubjects p.state n
begun_kept image p subjects n is secure all count =
    subst (λ (q : Progress). HasSubjects q.state n) (sym is) (subst (λ m. HasSubjects (state_of image) m) (sym (count ∙ ap length all)) (begun_secure image secure))

pub begun_fresh : (v : State) (p : Progress) → p ≡ begun v → p.since ≡ 0
begun_fresh v p is = ap (λ (q : Progress). q.since) is

-- after events the subjects are the same
kept : (v : State) (n : ℕ) (events : List Event) → HasSubjects v n → HasSubjects (all_happen v events).state n
kept v n events has =
    let reached = law_reached v events has.secure in
    record { secure = reached.0; subjects = ap (λ (f : Fixed). length f.subjects) reached.1 ∙ has.subjects }

after_slot_kept : (p : Progress) (n : ℕ) (records : List TypedAt) → HasSubjects p.state n → HasSubjects (after_slot p records).state n
unfolding after_slot slot_of
after_slot_kept p n records has = kept p.state n (slot_events p.state.fixed p.slots records) has

after_slot_fresh : (p : Progress) (records : List TypedAt) → (after_slot p records).since ≡ 0
unfolding after_slot
after_slot_fresh p records = refl

after_turn_kept : (p : Progress) (n subject : ℕ) → HasSubjects p.state n → HasSubjects (after_turn p subject).state n
unfolding after_turn happens
after_turn_kept p n subject has =
    let made = law_secure p.state (Turn (record { slot = p.slots; turn = p.since; subject = subject })) has.secure in
    record { secure = made.secure; subjects = ap (λ (f : Fixed). length f.subjects) made.fixed ∙ has.subjects }

after_end_kept : (p : Progress) (n : ℕ) → HasSubjects p.state n → HasSubjects (after_end p).state n
unfolding after_end happens
after_end_kept p n has =
    let made = law_secure p.state EndSlot has.secure in
    record { secure = made.secure; subjects = ap (λ (f : Fixed). length f.subjects) made.fixed ∙ has.subjects }

-- the same of what has come to that
pub slot_kept : (p q : Progress) (n : ℕ) (records : List TypedAt) → q ≡ after_slot p records → HasSubjects p.state n → HasSubjects q.state n
slot_kept p q n records is has = subst (λ (x : Progress). HasSubjects x.state n) (sym is) (after_slot_kept p n records has)

pub slot_fresh : (p q : Progress) (records : List TypedAt) → q ≡ after_slot p records → q.since ≡ 0
slot_fresh p q records is = ap (λ (x : Progress). x.since) is ∙ after_slot_fresh p records

pub turn_kept : (p q : Progress) (n subject : ℕ) → q ≡ after_turn p subject → HasSubjects p.state n → HasSubjects q.state n
turn_kept p q n subject is has = subst (λ (x : Progress). HasSubjects x.state n) (sym is) (after_turn_kept p n subject has)

pub end_kept : (p q : Progress) (n : ℕ) → q ≡ after_end p → HasSubjects p.state n → HasSubjects q.state n
end_kept p q n is has = subst (λ (x : Progress). HasSubjects x.state n) (sym is) (after_end_kept p n has)
