use Rattle.std.proofs.Common.{◌≡◌, inl, inr, ⊎_elim, ℕ, ◌∙◌, Bool, true, false, List, [], ◌∷◌, ◌++◌, length-append, sym, ap, subst, arith}
use Rattle.std.proofs.lemmas.Bool.{cases_eq}
use Rattle.plcr_nodes.specs.Entries.{among}
use Rattle.plcr_nodes.specs.Tokens.{PassState, IsFollowed}
use Rattle.plcr_imagelist.specs.inner.Keeping.{last_of}
use Rattle.plcr_imagelist.specs.Holds.{HoldState, IsNext, IsWalking}
use Rattle.plcr_imagelist.specs.inner.Holding.{IsHolding, walker_state}
use Rattle.plcr_imagelist.proofs.Meeting.{among_last, length-images_on}
use Rattle.plcr_macho.specs.Index.{Extent}
use Rattle.plcr_imagelist.specs.inner.Indexing.{extents_in, hold_of}
use Rattle.plcr_imagelist.proofs.Indexed.{with, next_with, walking_with}
use Rattle.plcr_imagelist.proofs.Walking.{holding_ended, next_ended, holding_met, next_met}
use Rattle.plcr_imagelist.specs.Carrying.{OnlySees}
use Rattle.plcr_imagelist.proofs.Sees.{only_sees}
use Rattle.plcr_imagelist.proofs.hold.Hold.next.Goals as goal

pub next_link-found-requires-clause-known : goal.next_link-found-requires-clause-known
next_link-found-requires-clause-known c =
    let h = c.self.inside in
    let last : c.last_of-last.result ≡ last_of h.met.items = c.last_of-last.ensures ∙ ap last_of c.deref.ensures.value in
    ⊎_elim (λ (z : c.last_of-last.result ≡ 0). inl z)
    (λ (n : c.last_of-last.result ≡ 0 → ⊥). inr (c.self.invariant.0.given c.last_of-last.result (ap (λ k. among k h.met.items) last ∙ among_last h.met.items (λ z. n (last ∙ z)))).1)
    (cases_eq c.last_of-last.result 0)

pub invariant_of-self : goal.invariant_of-self
invariant_of-self c =
    let h = c.self.inside in
    let last : c.last_of-last.result ≡ last_of h.met.items = c.last_of-last.ensures ∙ ap last_of c.deref.ensures.value in
    let going = subst (λ e. IsHolding h.pass h.met.items e h.low) c.if-self.false c.self.invariant.0 in
    let followed = subst (λ k. IsFollowed h.pass k c.next_link-found.result c.next_link-found.new.self) last c.next_link-found.ensures.link in
    let nodes = ap (λ (s : PassState). s.nodes) followed.now in
    let room = c.self.invariant.1 in
    let spots = c.self.invariant.2 in
    (holding_ended h.pass h.met.items c.next_link-found.result c.next_link-found.new.self h.low followed going c.if-found-eq0.true, omega arith, omega arith, c.self.invariant.3)

pub returns-then-found-eq0-clause-next : goal.returns-then-found-eq0-clause-next
returns-then-found-eq0-clause-next c =
    let h = c.self.inside in
    let last : c.last_of-last.result ≡ last_of h.met.items = c.last_of-last.ensures ∙ ap last_of c.deref.ensures.value in
    let going = subst (λ e. IsHolding h.pass h.met.items e h.low) c.if-self.false c.self.invariant.0 in
    let followed = subst (λ k. IsFollowed h.pass k c.next_link-found.result c.next_link-found.new.self) last c.next_link-found.ensures.link in
    let es : List Extent = extents_in h.count h.spots.items h.filled in
    subst (λ (s : HoldState). IsNext s false (with (hold_of c.next_link-found.new.self h.met.items true) es)) (ap (λ (e : Bool). with (hold_of h.pass h.met.items e) es) (sym c.if-self.false) ∙ c.self.view_is)
    (next_with (hold_of h.pass h.met.items false) false (hold_of c.next_link-found.new.self h.met.items true) es
    (next_ended h.pass h.met.items c.next_link-found.result c.next_link-found.new.self h.low followed going c.if-found-eq0.true))

pub returns-then-found-eq0-clause-walking : goal.returns-then-found-eq0-clause-walking
returns-then-found-eq0-clause-walking c =
    let h = c.self.inside in
    let last : c.last_of-last.result ≡ last_of h.met.items = c.last_of-last.ensures ∙ ap last_of c.deref.ensures.value in
    let going = subst (λ e. IsHolding h.pass h.met.items e h.low) c.if-self.false c.self.invariant.0 in
    let followed = subst (λ k. IsFollowed h.pass k c.next_link-found.result c.next_link-found.new.self) last c.next_link-found.ensures.link in
    walking_with (hold_of c.next_link-found.new.self h.met.items true) (extents_in h.count h.spots.items h.filled)
    (holding_ended h.pass h.met.items c.next_link-found.result c.next_link-found.new.self h.low followed going c.if-found-eq0.true).walking

pub push_reserved-requires : goal.push_reserved-requires
push_reserved-requires c =
    let h = c.self.inside in
    let last : c.last_of-last.result ≡ last_of h.met.items = c.last_of-last.ensures ∙ ap last_of c.deref.ensures.value in
    let going = subst (λ e. IsHolding h.pass h.met.items e h.low) c.if-self.false c.self.invariant.0 in
    let followed = subst (λ k. IsFollowed h.pass k c.next_link-found.result c.next_link-found.new.self) last c.next_link-found.ensures.link in
    let nodes = ap (λ (s : PassState). s.nodes) followed.now in
    let room = c.self.invariant.1 in
    let found : ℕ = c.next_link-found.result in
    let few = (holding_met h.pass h.met.items found c.next_link-found.new.self h.low followed going c.if-found-eq0.false).walking.few in
    let size = length-images_on (h.met.items ++ found ∷ []) c.next_link-found.new.self.history in
    let longer = length-append h.met.items (found ∷ []) in
    let whole = h.met.ok.0 in omega arith

pub invariant_of-self-2 : goal.invariant_of-self-2
invariant_of-self-2 c =
    let h = c.self.inside in
    let last : c.last_of-last.result ≡ last_of h.met.items = c.last_of-last.ensures ∙ ap last_of c.deref.ensures.value in
    let going = subst (λ e. IsHolding h.pass h.met.items e h.low) c.if-self.false c.self.invariant.0 in
    let followed = subst (λ k. IsFollowed h.pass k c.next_link-found.result c.next_link-found.new.self) last c.next_link-found.ensures.link in
    let nodes = ap (λ (s : PassState). s.nodes) followed.now in
    let room = c.self.invariant.1 in let spots = c.self.invariant.2 in let pushed = c.push_reserved.ensures.capacity in (
      subst (λ e. IsHolding c.next_link-found.new.self c.push_reserved.new.self.items e h.low) (sym c.if-self.false)
          (subst (λ (xs : List ℕ). IsHolding c.next_link-found.new.self xs false h.low) (sym c.push_reserved.ensures.items)
          (holding_met h.pass h.met.items c.next_link-found.result c.next_link-found.new.self h.low followed going c.if-found-eq0.false)),
      omega arith,
      omega arith,
      c.self.invariant.3,
    )

pub returns-clause-next : goal.returns-clause-next
returns-clause-next c =
    let h = c.self.inside in
    let last : c.last_of-last.result ≡ last_of h.met.items = c.last_of-last.ensures ∙ ap last_of c.deref.ensures.value in
    let going = subst (λ e. IsHolding h.pass h.met.items e h.low) c.if-self.false c.self.invariant.0 in
    let followed = subst (λ k. IsFollowed h.pass k c.next_link-found.result c.next_link-found.new.self) last c.next_link-found.ensures.link in
    let es : List Extent = extents_in h.count h.spots.items h.filled in
    subst (λ (e : Bool). IsNext c.args.self.now true (with (hold_of c.next_link-found.new.self c.push_reserved.new.self.items e) es)) (sym c.if-self.false)
    (subst (λ (xs : List ℕ). IsNext c.args.self.now true (with (hold_of c.next_link-found.new.self xs false) es)) (sym c.push_reserved.ensures.items)
    (subst (λ (s : HoldState). IsNext s true (with (hold_of c.next_link-found.new.self (h.met.items ++ c.next_link-found.result ∷ []) false) es)) (ap (λ (e : Bool). with (hold_of h.pass h.met.items e) es) (sym c.if-self.false) ∙ c.self.view_is)
    (next_with (hold_of h.pass h.met.items false) true (hold_of c.next_link-found.new.self (h.met.items ++ c.next_link-found.result ∷ []) false) es
    (next_met h.pass h.met.items c.next_link-found.result c.next_link-found.new.self h.low followed going c.if-found-eq0.false))))

pub returns-clause-walking : goal.returns-clause-walking
returns-clause-walking c =
    let h = c.self.inside in
    let last : c.last_of-last.result ≡ last_of h.met.items = c.last_of-last.ensures ∙ ap last_of c.deref.ensures.value in
    let going = subst (λ e. IsHolding h.pass h.met.items e h.low) c.if-self.false c.self.invariant.0 in
    let followed = subst (λ k. IsFollowed h.pass k c.next_link-found.result c.next_link-found.new.self) last c.next_link-found.ensures.link in
    walking_with (hold_of c.next_link-found.new.self c.push_reserved.new.self.items h.ended) (extents_in h.count h.spots.items h.filled)
    (subst (λ (e : Bool). IsWalking (hold_of c.next_link-found.new.self c.push_reserved.new.self.items e)) (sym c.if-self.false)
    (subst (λ (xs : List ℕ). IsWalking (hold_of c.next_link-found.new.self xs false)) (sym c.push_reserved.ensures.items)
    (holding_met h.pass h.met.items c.next_link-found.result c.next_link-found.new.self h.low followed going c.if-found-eq0.false).walking))

pub returns-then-found-eq0-clause-sees : goal.returns-then-found-eq0-clause-sees
returns-then-found-eq0-clause-sees c =
    let new = walker_state c.next_link-found.new.self in
    let f = c.next_link-found.ensures.link in
    subst (λ (s : HoldState). OnlySees s.walker new) c.self.view_is (only_sees (walker_state c.self.inside.pass) new f.past f.names f.sees (ap walker_state f.now) c.self.invariant.0.walking.known.named)

pub returns-clause-sees : goal.returns-clause-sees
returns-clause-sees c =
    let new = walker_state c.next_link-found.new.self in
    let f = c.next_link-found.ensures.link in
    subst (λ (s : HoldState). OnlySees s.walker new) c.self.view_is (only_sees (walker_state c.self.inside.pass) new f.past f.names f.sees (ap walker_state f.now) c.self.invariant.0.walking.known.named)
