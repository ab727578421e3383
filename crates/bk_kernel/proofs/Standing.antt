-- What the tables keep stands for the state.
use Rattle.std.proofs.Common.{◌≡◌, ℕ, List, Option, Some, None, refl, sym, ap, ◌∙◌}
use Rattle.std.specs.Prelude.{option_map}
use Rattle.std.specs.FinMap as finite
use Rattle.bk_path.specs.Paths.{Path}
use Rattle.bk_frames.specs.Extents.{Extent, words_at}
use Rattle.bk_machine.specs.Machine.{MachineState}
use Rattle.bk_state.specs.State.{Object, State, Words}
use Rattle.bk_store.specs.Stored.{Entry, Stored, contents_in, extent_at, object_of, waiting_in}
use Rattle.bk_store.specs.Joined.{AreExtentsApart}
use Rattle.bk_store.specs.Stands.{StandsFor as StoreStandsFor}
use Rattle.bk_store.proofs.Stands.{get-objects_of}
use Rattle.bk_kernel.specs.StandsFor.{StandsFor}
use Rattle.bk_kernel.specs.Tables.{HasLoaded}
use Rattle.bk_kernel.proofs.Loading.{loaded-there}

module _ (store : Stored) (words : List ℕ) (v : State) (stands : StoreStandsFor store words v) where
  -- the object of the state at a path is that of the store
  object-is : (path : Path) → finite.get v.objects path ≡ option_map (object_of words) (finite.get store.objects path)
  object-is path = ap (λ m. finite.get m path) (sym stands.objects) ∙ get-objects_of store words path

  facts-by : (o : Option Entry) → option_map (λ (e : Entry). e.facts) o ≡ option_map (λ (x : Object). x.facts) (option_map (object_of words) o)
  facts-by None = refl
  facts-by (Some e) = refl

  segment-by : (o : Option Entry) (x : Extent) → extent_at o ≡ Some x → option_map (λ (y : Object). y.contents) (option_map (object_of words) o) ≡ Some (Words (words_at words x))
  segment-by None x is = cc
  segment-by (Some e) x is = ap (λ y. Some (contents_in words e.queue y)) is

  queue-by : (o : Option Entry) (e : Entry) → o ≡ Some e → e.extent ≡ None → option_map (λ (y : Object). y.contents) (option_map (object_of words) o) ≡ Some (waiting_in e.queue)
  queue-by o e is none = ap (λ y. option_map (λ (z : Object). z.contents) (option_map (object_of words) y)) is ∙ ap (λ y. Some (contents_in words e.queue y)) none

-- all six items
pub stands-for : (store : Stored) (machine : MachineState) (loaded : ℕ) (v : State) → StoreStandsFor store machine.core.words v → AreExtentsApart store → HasLoaded v.processes store machine loaded → StandsFor store machine loaded v
stands-for store machine loaded v stands apart has =
    let words = machine.core.words in
    let (p, there, old) = loaded-there v.processes store machine loaded has in
    record {
      facts = record {
        levels = stands.levels;
        lines = stands.lines;
        facts = λ path. facts-by store words v stands (finite.get store.objects path) ∙ ap (option_map (λ (x : Object). x.facts)) (sym (object-is store words v stands path));
      };
      access = stands.access;
      segments = record {
        contents = λ path e is. ap (option_map (λ (x : Object). x.contents)) (object-is store words v stands path) ∙ segment-by store words v stands (finite.get store.objects path) e is;
        apart = apart;
      };
      queues = λ path e is none. ap (option_map (λ (x : Object). x.contents)) (object-is store words v stands path) ∙ queue-by store words v stands (finite.get store.objects path) e is none;
      process = record {
        there = has.there;
        registers = λ p at. (has.is p at).registers;
        outside = old.outside;
        vectors = old.vectors;
      };
      pages = λ p at. (has.is p at).pages;
    }
