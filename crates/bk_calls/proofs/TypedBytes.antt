-- What waits on a line, and what goes out on it, as the state that a call sees.
use Rattle.std.proofs.Common.{◌≡◌, ℕ, true, false, List, [], ◌∷◌, Option, Some, None, refl, sym, ap, subst, ◌∙◌}
use Rattle.std.specs.Prelude.{option_map}
use Rattle.std.specs.FinMap as finite
use Rattle.std.proofs.lemmas.Option.{same_Some}
use Rattle.bk_path.specs.Paths.{Path}
use Rattle.bk_frames.specs.Extents.{Extent}
use Rattle.bk_object.specs.declared.Facts.{Facts}
use Rattle.bk_object.specs.declared.kind.Kind.{Kind}
use Rattle.bk_object.specs.declared.kind.Kind.TheVariants.{Directory, Segment, Mailbox, Line}
use Rattle.bk_object.specs.Kinds.{is_any_line}
use Rattle.bk_quota.specs.Charges.{passes}
use Rattle.bk_state.specs.State.{Object, Contents, Typed, find}
use Rattle.bk_state.specs.Contents.{has_byte, without_byte}
use Rattle.bk_state.specs.QueueCalls.{byte_on, byte_values, line_of, of_contents}
use Rattle.bk_store.specs.Stored.{Entry, Queue, NoQueue, OfMailbox, OfLine, Stored, byte_at, byte_in, contents_in, first_of, facts_in, object_of}
use Rattle.bk_store.specs.Stored.{with_input, with_queue, without_byte as without_typed, without_first}
use Rattle.bk_store.specs.Joined.{FitsKind, HaveKinds}
use Rattle.bk_store.proofs.Stands.{get-objects_of}
use Rattle.bk_calls.specs.declared.caller.Caller.{Caller}
use Rattle.bk_calls.specs.Made.{line_byte, seen_by}
use Rattle.bk_calls.proofs.Served.{entry_there, unchanged}

-- a byte is taken from the contents as from the queue
pub byte-agrees : (words : List ℕ) (q : Queue) (x : Option Extent) → contents_in words (with_input without_first q) x ≡ without_byte (contents_in words q x)
byte-agrees words q (Some x) = refl
byte-agrees words NoQueue None = refl
byte-agrees words (OfMailbox waiting) None = refl
byte-agrees words (OfLine []) None = refl
byte-agrees words (OfLine (byte ∷ bytes)) None = refl

line_kind : (kind : Kind) → is_any_line kind ≡ true → (n : ℕ) × (kind ≡ Line n)
line_kind Directory h = cc
line_kind Segment h = cc
line_kind Mailbox h = cc
line_kind (Line n) h = (n, refl)

-- what waits on the line at the path
pub line_at : {P : Type 0} (store : Stored) (path : Path) (facts : Facts) → HaveKinds store → facts_in store path ≡ Some facts → is_any_line facts.kind ≡ true →
    ((bytes : List ℕ) → finite.get store.objects path ≡ Some (record { facts = facts; extent = None; queue = OfLine bytes }) → P) → P
line_at {P} store path facts kinds has h use_it = entry_there store path facts has (λ e is same.
    let line = line_kind facts.kind h in
    let fits = subst (λ k. FitsKind k e.facts.blocks e.extent e.queue) (ap (λ (f : Facts). f.kind) same ∙ line.1) (kinds path e is) in
    use_it fits.1.0 (is ∙ (λ i. Some (record { facts = same i; extent = fits.0 i; queue = fits.1.1 i }))))

none-waits : (bytes : List ℕ) → first_of bytes ≡ None → has_byte (Typed bytes) ≡ false
none-waits [] e = refl
none-waits (byte ∷ bytes) e = cc

one-waits : (bytes : List ℕ) (byte : ℕ) → first_of bytes ≡ Some byte → has_byte (Typed bytes) ≡ true
one-waits [] byte e = cc
one-waits (first ∷ bytes) byte e = refl

its-values : (bytes : List ℕ) (byte : ℕ) → first_of bytes ≡ Some byte → byte_values (Typed bytes) ≡ 0 ∷ 0 ∷ byte ∷ []
its-values [] byte e = cc
its-values (first ∷ bytes) byte e = ap (λ (n : ℕ). 0 ∷ 0 ∷ n ∷ []) (same_Some first byte e)

none-taken : (bytes : List ℕ) → first_of bytes ≡ None → without_first bytes ≡ bytes
none-taken [] e = refl
none-taken (byte ∷ bytes) e = cc

module _ (caller : Caller) (store : Stored) (words : List ℕ) (path : Path) (facts : Facts) (kinds : HaveKinds store) (has : facts_in store path ≡ Some facts) (line : is_any_line facts.kind ≡ true) where
  abbrev waits : List ℕ → Entry
  waits bytes = record { facts = facts; extent = None; queue = OfLine bytes }

  -- the contents that a call sees
  seen-line : (bytes : List ℕ) → finite.get store.objects path ≡ Some (waits bytes) → find (seen_by caller store words) path ≡ Some (record { facts = facts; contents = Typed bytes })
  seen-line bytes at = get-objects_of store words path ∙ ap (option_map (object_of words)) at

  pub no_byte : (r : Option ℕ) → r ≡ None → r ≡ byte_in store path → passes (λ (o : Object). has_byte o.contents) (find (seen_by caller store words) path) ≡ false
  no_byte r none is = line_at store path facts kinds has line (λ bytes at.
      ap (passes (λ (o : Object). has_byte o.contents)) (seen-line bytes at) ∙ none-waits bytes (sym (ap byte_at at) ∙ sym is ∙ none))

  pub some_byte : (r : Option ℕ) (byte : ℕ) → r ≡ Some byte → r ≡ byte_in store path → passes (λ (o : Object). has_byte o.contents) (find (seen_by caller store words) path) ≡ true
  some_byte r byte some is = line_at store path facts kinds has line (λ bytes at.
      ap (passes (λ (o : Object). has_byte o.contents)) (seen-line bytes at) ∙ one-waits bytes byte (sym (ap byte_at at) ∙ sym is ∙ some))

  pub byte_told : (r : Option ℕ) (byte : ℕ) → r ≡ Some byte → r ≡ byte_in store path → of_contents byte_values (find (seen_by caller store words) path) ≡ 0 ∷ 0 ∷ byte ∷ []
  byte_told r byte some is = line_at store path facts kinds has line (λ bytes at.
      ap (of_contents byte_values) (seen-line bytes at) ∙ its-values bytes byte (sym (ap byte_at at) ∙ sym is ∙ some))

  -- where no byte waits, none is taken
  pub line-stays : (r : Option ℕ) → r ≡ None → r ≡ byte_in store path → without_typed path store ≡ store
  line-stays r none is = line_at store path facts kinds has line (λ bytes at.
      unchanged store path (with_queue (with_input without_first)) (waits bytes) at (ap waits (none-taken bytes (sym (ap byte_at at) ∙ sym is ∙ none))))

-- the byte goes out on the line that the facts name
pub sent-seen : (caller : Caller) (store : Stored) (words : List ℕ) (path : Path) (facts : Facts) → facts_in store path ≡ Some facts → (byte : ℕ) →
    option_map line_byte (byte_on byte (find (seen_by caller store words) path)) ≡ option_map (λ (n : ℕ). line_byte (n, byte)) (line_of facts.kind)
sent-seen caller store words path facts has byte = entry_there store path facts has (λ e is same.
    ap (λ o. option_map line_byte (byte_on byte o)) (get-objects_of store words path ∙ ap (option_map (object_of words)) is)
    ∙ by e.facts (contents_in words e.queue e.extent) e.facts.kind
    ∙ ap (λ (f : Facts). option_map (λ (n : ℕ). line_byte (n, byte)) (line_of f.kind)) same)
  where
    by : (f : Facts) (contents : Contents) (kind : Kind) →
        option_map line_byte (byte_on byte (Some (record { facts = record f { kind = kind }; contents = contents }))) ≡ option_map (λ (n : ℕ). line_byte (n, byte)) (line_of kind)
    by f contents Directory = refl
    by f contents Segment = refl
    by f contents Mailbox = refl
    by f contents (Line n) = refl
