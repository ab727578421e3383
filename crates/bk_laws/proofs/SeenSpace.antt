-- What a process sees of segments through its windows depends on what lies under its subject's level.
use Rattle.std.proofs.Common.{◌≡◌, ℕ, Bool, true, false, List, Option, Some, None, refl, sym, ap, ◌∙◌}
use Rattle.std.specs.Prelude.{slice_get}
use Rattle.bk_level.specs.Levels.{Level}
use Rattle.bk_path.specs.Paths.{Path}
use Rattle.bk_object.specs.Modes.{Read, Execute, Write}
use Rattle.bk_quota.specs.Charges.{passes}
use Rattle.bk_space.specs.declared.Rights.{Rights}
use Rattle.bk_space.specs.declared.Rights.TheVariants as rights
use Rattle.bk_state.specs.State.{State, Object, Contents, Children, Words, Messages, Typed, find, facts_at, holds}
use Rattle.bk_state.specs.Secure.{Secure}
use Rattle.bk_state.specs.Low.{is_subject_under, is_under}
use Rattle.bk_system.specs.Space.{no_page, rights_by, is_data, rights_of, page_by, page_shown, space_of}
use Rattle.bk_laws.proofs.Alike.{Alike, fixed_to, same_object}
use Rattle.bk_laws.proofs.Seen.{read_under, executed_under, written_under}

-- nothing shows where there are no rights
page_by-none : (o : Option Object) → page_by rights.None o ≡ no_page
page_by-none None = refl
page_by-none (Some object) = by object.contents
  where
    by : (contents : Contents) → page_by rights.None (Some (record { facts = object.facts; contents = contents })) ≡ no_page
    by Children = refl
    by (Words words) = refl
    by (Messages waiting lost) = refl
    by (Typed bytes) = refl

rights_by-none : (data_space : Bool) → rights_by data_space false false false ≡ rights.None
rights_by-none true = refl
rights_by-none false = refl

module _ (level : Level) (v w0 : State) (sv : Secure v) (sw : Secure (fixed_to v.fixed w0)) (alike : Alike level v (fixed_to v.fixed w0)) (s : ℕ) (seen : is_subject_under level v s ≡ true) where
  abbrev w : State
  w = fixed_to v.fixed w0

  -- a window that shows a path
  page-seen : (window : ℕ) (path : Path) → page_by (rights_of v s window path) (find v path) ≡ page_by (rights_of w s window path) (find w path)
  page-seen window path = by (holds v s path Read) refl (holds v s path Execute) refl (holds v s path Write) refl ∙ ap (λ r. page_by r (find w path)) same_rights
    where
      same_rights : rights_of v s window path ≡ rights_of w s window path
      same_rights = λ i. rights_by (is_data window) (alike.holds_same s path Read seen i) (alike.holds_same s path Execute seen i) (alike.holds_same s path Write seen i)

      same : passes (is_under level v) (facts_at v path) ≡ true → (r : Rights) → page_by r (find v path) ≡ page_by r (find w path)
      same under r = ap (page_by r) (same_object level v w alike sv path under)

      none : (r : Rights) → r ≡ rights.None → page_by r (find v path) ≡ page_by r (find w path)
      none r is = ap (λ x. page_by x (find v path)) is ∙ page_by-none (find v path) ∙ sym (page_by-none (find w path)) ∙ ap (λ x. page_by x (find w path)) (sym is)

      by : (a : Bool) → holds v s path Read ≡ a → (b : Bool) → holds v s path Execute ≡ b → (c : Bool) → holds v s path Write ≡ c →
          page_by (rights_of v s window path) (find v path) ≡ page_by (rights_of v s window path) (find w path)
      by true reads b executes c writes = same (read_under level v sv s seen path reads) _
      by false reads true executes c writes = same (executed_under level v sv s seen path executes) _
      by false reads false executes true writes = same (written_under level v sv s seen path writes) _
      by false reads false executes false writes = none (rights_of v s window path) ((λ i. rights_by (is_data window) (reads i) (executes i) (writes i)) ∙ rights_by-none (is_data window))

  -- all pages of the caller
  pub space-seen : (windows : List (Option Path)) → space_of v s windows ≡ space_of w s windows
  unfolding space_of
  space-seen windows = λ i window. page window (slice_get windows window) i
    where
      page : (window : ℕ) (shown : Option (Option Path)) → page_shown v s window shown ≡ page_shown w s window shown
      page window None = refl
      page window (Some None) = refl
      page window (Some (Some path)) = page-seen window path
