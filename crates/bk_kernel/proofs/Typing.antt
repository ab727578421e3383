-- The kernel's state when bytes arrive on a line.
use Rattle.std.proofs.Common.{◌≡◌, ℕ, Bool, true, false, List, [], ◌∷◌, length, Option, Some, None, refl, sym, ap, ◌∙◌}
use Rattle.std.specs.Prelude.{option_map, if◌then◌else◌}
use Rattle.std.specs.FinMap as finite
use Rattle.bk_base.specs.Maps.{map_values}
use Rattle.bk_base.proofs.MapValues.{get-map_values}
use Rattle.bk_path.specs.Paths.{path_cmp}
use Rattle.bk_path.specs.Orders.{path_total, path_apart}
use Rattle.bk_process.specs.declared.process.Process.{Process}
use Rattle.bk_state.specs.State.{State, Object, Contents, Children, Words, Messages, Typed}
use Rattle.bk_state.specs.Start.{is_line}
use Rattle.bk_state.specs.declared.clearance.Clearance.{Clearance}
use Rattle.bk_store.specs.Stored.{Stored, Queue, NoQueue, OfMailbox, OfLine, queued, waiting_in, with_input, with_typed}
use Rattle.bk_store.proofs.Stands.{stands-typed}
use Rattle.bk_load.specs.Kept.{current_levels, greatest_levels}
use Rattle.bk_system.specs.Arrivals.{arrived, taking, typed}
use Rattle.bk_kernel.specs.Tables.{state_from}
use Rattle.bk_kernel.proofs.Kept.{kept-stands}

typing-agrees : (byte : ℕ) (q : Queue) → waiting_in (with_input (λ bytes. queued bytes byte) q) ≡ typed (byte ∷ []) (waiting_in q)
typing-agrees byte NoQueue = refl
typing-agrees byte (OfMailbox waiting) = refl
typing-agrees byte (OfLine bytes) = refl

-- a byte arrives
pub typed-kept : (clearances : List Clearance) (lines : List ℕ) (turns : ℕ) (schedule : List ℕ) (processes : List Process) (store new_store : Stored) (words : List ℕ) (v : State) (line byte : ℕ) →
    state_from clearances lines turns schedule processes store words ≡ v → store.lines ≡ length lines → new_store ≡ with_typed line byte store →
    state_from clearances lines turns schedule processes new_store words ≡ arrived v line (byte ∷ [])
unfolding arrived
typed-kept clearances lines turns schedule processes store new_store words v line byte is same becomes =
    let stands = stands-typed store words (state_from clearances lines turns schedule processes store words) (kept-stands clearances lines turns schedule processes store words same) line byte (typed (byte ∷ [])) (typing-agrees byte) (λ ws. refl) in
    ap (λ (s : Stored). state_from clearances lines turns schedule processes s words) becomes
    ∙ (λ i. record {
      fixed = record { levels = store.levels; subjects = greatest_levels clearances; lines = lines; turns = turns; schedule = schedule };
      current = current_levels clearances;
      objects = stands.objects i;
      access = store.access;
      processes = processes;
    })
    ∙ ap (λ (x : State). arrived x line (byte ∷ [])) is

typed-none : (c : Contents) → typed [] c ≡ c
typed-none Children = refl
typed-none (Words words) = refl
typed-none (Messages waiting lost) = refl
typed-none (Typed bytes) = refl

typed-cons : (byte : ℕ) (bytes : List ℕ) (c : Contents) → typed bytes (typed (byte ∷ []) c) ≡ typed (byte ∷ bytes) c
typed-cons byte bytes Children = refl
typed-cons byte bytes (Words words) = refl
typed-cons byte bytes (Messages waiting lost) = refl
typed-cons byte bytes (Typed waiting) = refl

taking-none : (line : ℕ) (o : Option Object) → option_map (taking line []) o ≡ o
taking-none line None = refl
taking-none line (Some o) = λ i. Some (record { facts = o.facts; contents = by (is_line line o.facts.kind) i })
  where
    by : (b : Bool) → (if b then typed [] o.contents else o.contents) ≡ o.contents
    by true = typed-none o.contents
    by false = refl

taking-cons : (line byte : ℕ) (bytes : List ℕ) (o : Option Object) → option_map (taking line bytes) (option_map (taking line (byte ∷ [])) o) ≡ option_map (taking line (byte ∷ bytes)) o
taking-cons line byte bytes None = refl
taking-cons line byte bytes (Some o) = λ i. Some (record { facts = o.facts; contents = by (is_line line o.facts.kind) i })
  where
    by : (b : Bool) → (if b then typed bytes (if b then typed (byte ∷ []) o.contents else o.contents) else (if b then typed (byte ∷ []) o.contents else o.contents)) ≡ (if b then typed (byte ∷ bytes) o.contents else o.contents)
    by true = typed-cons byte bytes o.contents
    by false = refl

-- no byte arrives
pub arrived-none : (v : State) (line : ℕ) → arrived v line [] ≡ v
unfolding arrived
arrived-none v line = ap (λ (m : finite.FinMap path_cmp Object). record v { objects = m })
    (finite.same_map path_total path_apart _ _ (λ q. get-map_values path_cmp (taking line []) v.objects q ∙ taking-none line (finite.get v.objects q)))

-- the first byte arrives, and then the others
pub arrived-cons : (v : State) (line byte : ℕ) (bytes : List ℕ) → arrived (arrived v line (byte ∷ [])) line bytes ≡ arrived v line (byte ∷ bytes)
unfolding arrived
arrived-cons v line byte bytes = ap (λ (m : finite.FinMap path_cmp Object). record v { objects = m })
    (finite.same_map path_total path_apart _ _ (λ q.
    get-map_values path_cmp (taking line bytes) (map_values (taking line (byte ∷ [])) v.objects) q
    ∙ ap (option_map (taking line bytes)) (get-map_values path_cmp (taking line (byte ∷ [])) v.objects q)
    ∙ taking-cons line byte bytes (finite.get v.objects q)
    ∙ sym (get-map_values path_cmp (taking line (byte ∷ bytes)) v.objects q)))
