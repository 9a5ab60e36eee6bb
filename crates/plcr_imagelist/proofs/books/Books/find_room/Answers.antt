use Rattle.std.proofs.Common.{◌≡◌, ◌∙◌, ⊎_elim, ap, subst, arith}
use Rattle.std.proofs.lemmas.Bool.{cases_eq}
use Rattle.plcr_machine.specs.Lists.{changes}
use Rattle.plcr_machine.proofs.Full.{all_live}
use Rattle.plcr_nodes.specs.Tokens.{OwnerState}
use Rattle.plcr_imagelist.specs.Finding.{IsFreeIn}
use Rattle.plcr_imagelist.specs.Changes.{AfterLooks}
use Rattle.plcr_imagelist.specs.inner.Keeping.{writer_state, BooksState}
use Rattle.plcr_imagelist.proofs.Looking.{looks_out}
use Rattle.plcr_imagelist.proofs.Whole.{looks_made}
use Rattle.plcr_imagelist.proofs.books.Books.find_room.Goals as goal

pub returns-then-spare-ne0-2-clause-none : goal.returns-then-spare-ne0-2-clause-none
returns-then-spare-ne0-2-clause-none c =
    let some = c.if-spare-ne0-2.true in
    let free = c.spare-2.ensures.free some in
    record {
      some = λ z. some (c.spare-2.ensures.node ∙ z);
      finds = AfterLooks (c.spare.ensures.none c.if-spare-ne0.false) c.look-announced.result c.look-announced.ensures.looks
          (subst (λ n. IsFreeIn (writer_state c.look-announced.new.self.owner) n) c.spare-2.ensures.node (omega arith, free.0, free.1));
    }

pub returns-then-spare-ne0-2-clause-made : goal.returns-then-spare-ne0-2-clause-made
returns-then-spare-ne0-2-clause-made c =
    looks_made c.args.self.now.owner.passes (writer_state c.args.self.now.owner) c.look-announced.result (writer_state c.look-announced.new.self.owner) c.look-announced.ensures.looks

pub returns-clause-some : goal.returns-clause-some
returns-clause-some c =
    let old : OwnerState = c.args.self.now.owner in
    let new : OwnerState = c.look-announced.new.self.owner in
    let l = c.look-announced.ensures in
    let passes = ap (λ (s : OwnerState). s.passes) l.same in
    let still = c.spare-2.ensures.none c.if-spare-ne0-2.false in
    let made = looks_made old.passes (writer_state old) c.look-announced.result (writer_state new) l.looks in
    let counted : c.self.inside.changes ≡ changes new.history = c.self.invariant.0.changes_are ∙ ap (λ (s : BooksState). changes s.owner.history) c.self.view_is in
    record {
      none = c.spare.ensures.none c.if-spare-ne0.false;
      announced = c.look-announced.result;
      few = l.few;
      looks = l.looks;
      still = still;
      live = c.live-live.ensures.count;
      all = let sum = c.held-held.ensures in let is = c.live-live.ensures.count in omega arith;
      seen_is = let more = made.more in omega arith;
      held_back = λ some.
          ⊎_elim
          (λ (z : c.look-announced.result ≡ 0).
          let whole = all_live new.nodes new.passes new.history l.rest.known.legal (λ q below. looks_out old.passes (writer_state old) c.look-announced.result (writer_state new) l.looks z q (omega arith)) still in
          let sum = c.held-held.ensures in absurd (omega arith))
          (λ (n : c.look-announced.result ≡ 0 → ⊥). omega arith)
          (cases_eq c.look-announced.result 0);
    }

pub returns-clause-made : goal.returns-clause-made
returns-clause-made c =
    looks_made c.args.self.now.owner.passes (writer_state c.args.self.now.owner) c.look-announced.result (writer_state c.look-announced.new.self.owner) c.look-announced.ensures.looks
