-- Give and rescind keep a secure state secure.
use Rattle.std.proofs.Common.{◌≡◌, ℕ, ◌<◌, Bool, true, false, ◌&&◌, not, List, length, Option, Some, None, refl, sym, ap, ◌∙◌, subst, ◌==◌, arith}
use Rattle.std.proofs.Common.{nat_le, inl, inr, length-set}
use Rattle.std.proofs.lemmas.Bool.Decides.{nat_tests}
use Rattle.std.specs.Prelude.{option_map, slice_index, if◌then◌else◌}
use Rattle.std.specs.FinMap as map
use Rattle.bk_level.proofs.LevelOrder.{and_first, and_second, and_both}
use Rattle.bk_path.specs.Paths.{Path, path_cmp, is_same}
use Rattle.bk_path.specs.Orders.{same_path, is_same-itself}
use Rattle.bk_object.specs.Modes.{AccessMode, has, is_within}
use Rattle.bk_object.specs.Kinds.{kind_modes}
use Rattle.bk_object.specs.Rows.{in_row, given, rescinded}
use Rattle.bk_object.specs.declared.Kind.{Kind}
use Rattle.bk_object.specs.declared.Kind.TheVariants.{Directory, Segment, Mailbox, Line}
use Rattle.bk_object.specs.declared.Modes.{Modes}
use Rattle.bk_object.specs.declared.Facts.{Facts}
use Rattle.bk_quota.specs.Charges.{passes}
use Rattle.bk_state.specs.State.{State, Fixed, Object, Contents, Words, Messages, Typed, find, facts_at, holds}
use Rattle.bk_state.specs.Secure.{Secure, FitsKind}
use Rattle.bk_state.specs.Request.{Request, request_in, path_in, is_outside}
use Rattle.bk_state.specs.RowCalls.{changed_by, with_row, give, rescind}
use Rattle.bk_state.specs.AccessCalls.{without_triples}
use Rattle.bk_laws.proofs.Changes.{facts_in, with_objects, find-insert, facts_at-insert, holds-retain}
use Rattle.bk_laws.proofs.Tests.{Passes, passed, not_false, or_second, some_same}
use Rattle.bk_laws.proofs.Rows.{within, in_row-given, given_keeps, in_row-rescinded, rescinded_keeps}
use Rattle.bk_laws.proofs.Shapes.{shape, shape_at}
use Rattle.bk_laws.proofs.SecureFrame.{may_hold, RowFits, rows_fit, secure_reshaped}
use Rattle.bk_laws.proofs.SecureAccess.{secure_retain}

-- the row plays no part in what fits a kind
fits_with_row : (fixed : Fixed) (kind : Kind) (facts : Facts) (row : List Modes) (c : Contents) → FitsKind fixed kind facts c → FitsKind fixed kind (record facts { row = row }) c
fits_with_row fixed Directory facts row c h = h
fits_with_row fixed Segment facts row (Words words) h = h
fits_with_row fixed Segment facts row other h = absurd h
fits_with_row fixed Mailbox facts row (Messages waiting lost) h = h
fits_with_row fixed Mailbox facts row other h = absurd h
fits_with_row fixed (Line n) facts row (Typed bytes) h = h
fits_with_row fixed (Line n) facts row other h = absurd h

module _ (v : State) (path : Path) (f : List Modes → List Modes) (o : Object) (there : find v path ≡ Some o) where
  abbrev other_objects : map.FinMap path_cmp Object
  other_objects = map.insert v.objects path (with_row f o)

  facts_there : (q : Path) → is_same q path ≡ true → facts_at v q ≡ Some o.facts
  facts_there q same = ap facts_in (ap (find v) (same_path q path same) ∙ there)

  same_shape : (q : Path) → shape_at (with_objects v other_objects) q ≡ shape_at v q
  same_shape q = ap (option_map shape) (facts_at-insert v path (with_row f o) q) ∙ by (is_same q path) refl
    where
      by : (b : Bool) → is_same q path ≡ b → option_map shape (if b then Some (with_row f o).facts else facts_at v q) ≡ shape_at v q
      by true same = sym (ap (option_map shape) (facts_there q same))
      by false same = refl

  -- the row of the object becomes one that fits and keeps what is held
  pub secure_with_row : Secure v →
      RowFits v o.facts (f o.facts.row) →
      ((s : ℕ) (mode : AccessMode) → holds v s path mode ≡ true → has (in_row o.facts.row s) mode ≡ true → has (in_row (f o.facts.row) s) mode ≡ true) →
      Secure (with_objects v other_objects)
  secure_with_row sec fits keeps = secure_reshaped v other_objects sec same_shape
      (λ q y is. kinds q y (is_same q path) refl (sym (find-insert v path (with_row f o) q) ∙ is))
      (λ q g is. rows q g (is_same q path) refl (sym (facts_at-insert v path (with_row f o) q) ∙ is))
      (λ s q mode h. subst (λ a. passes (may_hold v s mode) a ≡ true) (sym (facts_at-insert v path (with_row f o) q)) (access s q mode h (is_same q path) refl))
    where
      kinds : (q : Path) (y : Object) (b : Bool) → is_same q path ≡ b → (if b then Some (with_row f o) else find v q) ≡ Some y → FitsKind v.fixed y.facts.kind y.facts y.contents
      kinds q y true same is = subst (λ z. FitsKind v.fixed z.facts.kind z.facts z.contents) (some_same is)
          (fits_with_row v.fixed o.facts.kind o.facts (f o.facts.row) o.contents (sec.kinds path o there))
      kinds q y false same is = sec.kinds q y is

      rows : (q : Path) (g : Facts) (b : Bool) → is_same q path ≡ b → (if b then Some (with_row f o).facts else facts_at v q) ≡ Some g → RowFits v g g.row
      rows q g true same is = subst (λ y. RowFits v y y.row) (some_same is) fits
      rows q g false same is = rows_fit v sec q g is

      access : (s : ℕ) (q : Path) (mode : AccessMode) → holds v s q mode ≡ true → (b : Bool) → is_same q path ≡ b → passes (may_hold v s mode) (if b then Some (with_row f o).facts else facts_at v q) ≡ true
      access s q mode h true same =
          let old : may_hold v s mode o.facts ≡ true = subst (λ a. passes (may_hold v s mode) a ≡ true) (facts_there q same) (sec.access s q mode h) in
          and_both _ _ (keeps s mode (ap (λ q. holds v s q mode) (sym (same_path q path same)) ∙ h) (and_first _ _ old)) (and_second (has (in_row o.facts.row s) mode) _ old)
      access s q mode h false same = sec.access s q mode h

-- ---- give

secure_given : (v : State) (path : Path) (s : ℕ) (modes : Modes) (a : Option Object) → find v path ≡ a → Secure v → s < length v.fixed.subjects →
    passes (λ facts. is_within modes (kind_modes facts.kind)) (facts_at v path) ≡ true → Secure (changed_by v path (with_row (given s modes)) a)
secure_given v path s modes None is sec few fits = sec
secure_given v path s modes (Some o) is sec few fits = secure_with_row v path (given s modes) o is sec (
  length-set o.facts.row s _ ∙ old.0,
  λ j mode h. elim (in_row-given s modes o.facts.row j mode h) [
    | inl had ↦ old.1 j mode had
    | inr (at, new) ↦ (within modes (kind_modes o.facts.kind) mode all new, rw at few)
  ],
)
    (λ j mode h. given_keeps s modes o.facts.row j mode)
  where
    old : RowFits v o.facts o.facts.row
    old = rows_fit v sec path o.facts (ap facts_in is)

    all : is_within modes (kind_modes o.facts.kind) ≡ true
    all = subst (λ b. passes (λ facts. is_within modes (kind_modes facts.kind)) (facts_in b) ≡ true) is fits

below : (n m : ℕ) → nat_le n m ≡ false → m < n
below n m few = grind (arith, nat_tests, few)

pub secure_give : (v : State) (s : ℕ) (general : List ℕ) → Secure v → Passes v s give (request_in general) → Secure (give.changes v s (request_in general))
secure_give v s general sec none =
    let (path, (bad, (named, (there, (kind, (root, (write, end))))))) = passed v s give (request_in general) none in
    secure_given v (path_in general) (request_in general).subject (request_in general).modes (find v (path_in general)) refl sec
    (below _ _ (or_second (is_outside 1 15 (slice_index general 3)) (nat_le (length v.fixed.subjects) (slice_index general 4)) bad)) (not_false _ kind)

-- ---- rescind

secure_rescinded : (v : State) (path : Path) (s : ℕ) (modes : Modes) (a : Option Object) → find v path ≡ a → Secure v →
    Secure (changed_by (without_triples v s path modes) path (with_row (rescinded s modes)) a)
secure_rescinded v path s modes None is sec = secure_retain v _ sec
secure_rescinded v path s modes (Some o) is sec = secure_with_row (without_triples v s path modes) path (rescinded s modes) o is (secure_retain v _ sec)
    (length-set o.facts.row s _ ∙ old.0, λ j mode h. old.1 j mode (in_row-rescinded s modes o.facts.row j mode h))
    (λ j mode h had. rescinded_keeps s modes o.facts.row j mode had (stays j mode h))
  where
    old : RowFits v o.facts o.facts.row
    old = rows_fit v sec path o.facts (ap facts_in is)

    stays : (j : ℕ) (mode : AccessMode) → holds (without_triples v s path modes) j path mode ≡ true → not ((j == s) && has modes mode) ≡ true
    stays j mode h =
        let both = sym (holds-retain v (λ t. not ((t.0 == s) && is_same t.1 path && has modes t.2)) j path mode) ∙ h in
        let one = and_second (holds v j path mode) (not ((j == s) && is_same path path && has modes mode)) both in
        drop_middle (j == s) (is_same path path) (has modes mode) (is_same-itself path) one
      where
        drop_middle : (a b c : Bool) → b ≡ true → not (a && b && c) ≡ true → not (a && c) ≡ true
        drop_middle true true c e h = h
        drop_middle true false c e h = cc
        drop_middle false b c e h = refl

pub secure_rescind : (v : State) (s : ℕ) (request : Request) → Secure v → Secure (rescind.changes v s request)
secure_rescind v s request sec = secure_rescinded v request.path request.subject request.modes (find v request.path) refl sec
