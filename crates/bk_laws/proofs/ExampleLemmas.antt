-- What the levels of the example see.
use Rattle.std.proofs.Common.{◌≡◌, [], ◌∷◌, Some, None, true, false, refl, ap}
use Rattle.std.specs.FinMap as map
use Rattle.std.specs.FinSet as set
use Rattle.bk_level.specs.Levels.{lowest}
use Rattle.bk_object.specs.Modes.{Read}
use Rattle.bk_object.specs.declared.Kind.TheVariants.{Directory, Mailbox}
use Rattle.bk_path.specs.Paths.{Path, path_cmp}
use Rattle.bk_state.specs.Low.{low, contents_under}
use Rattle.bk_state.specs.Smallest.{only_process}
use Rattle.bk_state.specs.State.{Children, find, holds}
use Rattle.bk_state.proofs.Orders.{triple_total}
use Rattle.bk_laws.specs.Example.{example, example_objects, facts_with, higher, one_waits}

found : (path : Path) → find example path ≡ map.find path_cmp path example_objects
found path = map.get-from_sorted path_cmp example_objects path tt

root_there : find example [] ≡ Some (record { facts = facts_with Directory 0 16; contents = Children })
root_there = found []

mailbox_there : find example (5 ∷ []) ≡ Some (record { facts = facts_with Mailbox 1 0; contents = one_waits })
mailbox_there = found (5 ∷ [])

directory_there : find example (6 ∷ []) ≡ Some (record { facts = facts_with Directory 1 4; contents = Children })
directory_there = found (6 ∷ [])

pub own_subject : (low lowest example).process 0 ≡ Some only_process
unfolding low
own_subject = refl

pub other_subject : (low lowest example).process 1 ≡ None
unfolding low
other_subject = refl

pub own_level : (low lowest example).current 0 ≡ Some 0
unfolding low
own_level = refl

pub other_level : (low lowest example).current 1 ≡ None
unfolding low
other_level = refl

held_now : holds example 0 [] Read ≡ true
held_now = set.contains-from_list triple_total ((0, [], Read) ∷ (1, [], Read) ∷ []) (0, [], Read)

pub own_access : (low lowest example).holds 0 [] Read ≡ true
unfolding low
own_access = held_now

pub other_access : (low lowest example).holds 1 [] Read ≡ false
unfolding low
other_access = refl

pub mailbox : (low lowest example).facts (5 ∷ []) ≡ Some (facts_with Mailbox 1 0)
unfolding low
mailbox = rw (root_there, mailbox_there) refl

pub message : (low lowest example).contents (5 ∷ []) ≡ None
unfolding low
message = ap (contents_under lowest example) mailbox_there

pub message_above : (low higher example).contents (5 ∷ []) ≡ Some one_waits
unfolding low
message_above = ap (contents_under higher example) mailbox_there

pub below : (low lowest example).facts (0 ∷ 6 ∷ []) ≡ None
unfolding low
below = rw directory_there refl
