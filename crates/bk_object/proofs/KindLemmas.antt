-- What a kind is by its tests.
use Rattle.std.proofs.Common.{◌≡◌, true, refl}
use Rattle.bk_object.specs.declared.kind.Kind.{Kind}
use Rattle.bk_object.specs.declared.kind.Kind.TheVariants.{Directory, Segment, Mailbox, Line}
use Rattle.bk_object.specs.Kinds.{is_mailbox}

pub mailbox_kind : (kind : Kind) → is_mailbox kind ≡ true → kind ≡ Mailbox
mailbox_kind Directory h = cc
mailbox_kind Segment h = cc
mailbox_kind Mailbox h = refl
mailbox_kind (Line n) h = cc
