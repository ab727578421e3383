use Rattle.std.proofs.Common.{ap, get_or, ◌∙◌, IfOk}
use Rattle.std.specs.Prelude.{Result, Ok, Err}
use Rattle.bk_load.proofs.Together.{first_root, has_root}
use Rattle.bk_load.proofs.loading.reserve_root.Goals as goal

pub reserve-requires-clause-directory : goal.reserve-requires-clause-directory
reserve-requires-clause-directory c = (first_root c.args.image.now c.requires c.index-as_slice-0.result (c.index-as_slice-0.is ∙ ap (λ objects. get_or objects 0 c.index-as_slice-0.result) c.as_slice.ensures)).directory

pub reserve-requires-clause-blocks : goal.reserve-requires-clause-blocks
reserve-requires-clause-blocks c = (first_root c.args.image.now c.requires c.index-as_slice-0.result (c.index-as_slice-0.is ∙ ap (λ objects. get_or objects 0 c.index-as_slice-0.result) c.as_slice.ensures)).blocks

pub reserve-requires-clause-quota : goal.reserve-requires-clause-quota
reserve-requires-clause-quota c = (first_root c.args.image.now c.requires c.index-as_slice-0.result (c.index-as_slice-0.is ∙ ap (λ objects. get_or objects 0 c.index-as_slice-0.result) c.as_slice.ensures)).quota

pub reserve-requires-clause-level : goal.reserve-requires-clause-level
reserve-requires-clause-level c = (first_root c.args.image.now c.requires c.index-as_slice-0.result (c.index-as_slice-0.is ∙ ap (λ objects. get_or objects 0 c.index-as_slice-0.result) c.as_slice.ensures)).level

pub returns : goal.returns
returns c = if_ok c.reserve.result (λ store begins words. has_root c.args.image.now c.requires c.index-as_slice-0.result (c.index-as_slice-0.is ∙ ap (λ objects. get_or objects 0 c.index-as_slice-0.result) c.as_slice.ensures) store begins words) c.reserve.ensures
  where
    if_ok : {A E : Type 0} {P Q : A → Type 0} (r : Result A E) → ((a : A) → P a → Q a) → IfOk r P → IfOk r Q
    if_ok (Ok a) f h = f a h
    if_ok (Err e) f h = tt
