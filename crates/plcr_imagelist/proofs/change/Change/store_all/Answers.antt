use Rattle.std.proofs.Common.{◌≡◌, List, ℕ, suc, refl, ap, ◌∙◌, subst}
use Rattle.plcr_imagelist.specs.States.{ChangeState, change_step}
use Rattle.plcr_imagelist.specs.inner.Keeping.{writer_state}
use Rattle.plcr_imagelist.specs.inner.Making.{doing_of, OnlyStores, HasCome}
use Rattle.plcr_imagelist.proofs.Finishing.{come_stored}
use Rattle.plcr_imagelist.proofs.change.Change.store_all.Goals as goal

pub returns-clause-come : goal.returns-clause-come
returns-clause-come c =
    let b = c.self.inside in
    let stored = c.store_words-made in
    let new = c.store_words-made.new.books in
    let start : ChangeState = record { writer = writer_state b.books.owner; doing = doing_of b.task b.name.items; load = b.load; made = b.made; node = b.books.spare } in
    let now : ChangeState = record { writer = writer_state new.owner; doing = doing_of b.task b.name.items; load = b.load; made = stored.result; node = new.spare } in
    let only = subst (λ (xs : List ℕ). OnlyStores (doing_of b.task xs) b.books.spare (writer_state b.books.owner) (writer_state new.owner)) c.deref.ensures.value stored.ensures.stores in
    let last : suc stored.result ≡ change_step (doing_of b.task b.name.items) = stored.ensures.last ∙ ap (λ (xs : List ℕ). change_step (doing_of b.task xs)) c.deref.ensures.value in
    subst (λ (s : ChangeState). HasCome s now) c.self.view_is (come_stored start now refl refl stored.ensures.spare last only)
