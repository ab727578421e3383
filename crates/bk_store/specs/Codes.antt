-- Codes of what a store's value is made of.
use Rattle.std.specs.Prelude.{◌≡◌, ◌⊎◌, ℕ, List, Option, refl}
use mathlib.Core.Logic.{inl, inr}
use Rattle.std.specs.Coded.{Coded, code_by, coded×, coded⊎, coded_ℕ, coded_list, coded_option}
use base.Stored.{coded_unit}
use Rattle.bk_frames.specs.Extents.{Extent, extent_code}
use Rattle.bk_object.specs.contracts.Facts as facts
use Rattle.bk_object.specs.declared.Facts.{Facts}
use Rattle.bk_store.specs.Stored.{Queue, NoQueue, OfMailbox, OfLine, Entry}

-- the parts of a queue: none, those of a mailbox, or the bytes of a line
abbrev Parts : Type 0
Parts = Unit {0} ⊎ ((List (List ℕ) × ℕ) ⊎ List ℕ)

-- a queue taken apart
abbrev parts_of : Queue → Parts
parts_of NoQueue = inl tt
parts_of (OfMailbox waiting) = inr (inl (waiting.messages, waiting.lost))
parts_of (OfLine bytes) = inr (inr bytes)

-- a queue put together
abbrev queue_of : Parts → Queue
queue_of (inl nothing) = NoQueue
queue_of (inr (inl pair)) = OfMailbox (record { messages = pair.0; lost = pair.1 })
queue_of (inr (inr bytes)) = OfLine bytes

pub queue_of-parts_of : (queue : Queue) → queue_of (parts_of queue) ≡ queue
queue_of-parts_of NoQueue = refl
queue_of-parts_of (OfMailbox waiting) = refl
queue_of-parts_of (OfLine bytes) = refl

-- that what waits in two objects is alike or not
abbrev pub queue_code : Coded Queue
queue_code = code_by Parts (coded⊎ coded_unit (coded⊎ (coded× (coded_list (coded_list coded_ℕ)) coded_ℕ) (coded_list coded_ℕ))) parts_of queue_of queue_of-parts_of

-- that two objects are alike or not
abbrev pub entry_code : Coded Entry
entry_code = code_by (Facts × (Option Extent × Queue)) (coded× facts.the_row.coded (coded× (coded_option extent_code) queue_code)) (λ e. (e.facts, (e.extent, e.queue))) (λ p. record { facts = p.0; extent = p.1.0; queue = p.1.1 }) (λ _. refl)
