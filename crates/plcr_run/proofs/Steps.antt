-- Each step of a pass, where a later history is known to have no more of what others did.
use Rattle.std.proofs.Common.{◌≡◌, ◌≢◌, ℕ, ◌≤◌, false, List, [], ◌∷◌, length, eqb, refl, sym, ap, ◌∙◌, subst, arith, ne_eqb}
use Rattle.plcr_machine.specs.declared.entry.Entry.{Entry}
use Rattle.plcr_machine.specs.declared.entry.Entry.TheVariants.{Announce, Enter, Leave, Retire}
use Rattle.plcr_machine.specs.Lists.{Grows, loads}
use Rattle.plcr_machine.specs.Passes.{counts}
use Rattle.plcr_machine.specs.Histories.{IsHistory}
use Rattle.plcr_machine.specs.Parts.{own_entries, owner_entries}
use Rattle.plcr_nodes.specs.Seeing.{GoesOn}
use Rattle.plcr_nodes.proofs.Seeing.{grows_again, own_of}
use Rattle.plcr_imagelist.specs.Holds.{WalkerState, HoldState, IsPassed, IsHeld, IsReleased}
use Rattle.plcr_imagelist.specs.Carrying.{OnlySees}
use Rattle.plcr_run.proofs.SameLength.{went_same}
use Rattle.plcr_run.proofs.Still.{OneActs, pass_still}

-- an entry that only a pass of this number makes
pub record IsOwn (r : ℕ) (entry : Entry) : Type 0 where
  pub owner : (h : List Entry) → owner_entries (entry ∷ h) ≡ owner_entries h
  pub others : (k : ℕ) (h : List Entry) → k ≢ r → own_entries k (entry ∷ h) ≡ own_entries k h

other_than : (r k : ℕ) → k ≢ r → eqb r k ≡ false
other_than r k n = ne_eqb r k (λ e. n (sym e))

pub own_announce : (r seen : ℕ) → IsOwn r (Announce r seen)
own_announce r seen = record { owner = λ h. refl; others = λ k h n. rw (other_than r k n) refl }

pub own_enter : (r : ℕ) → IsOwn r (Enter r)
own_enter r = record { owner = λ h. refl; others = λ k h n. rw (other_than r k n) refl }

pub own_leave : (r : ℕ) → IsOwn r (Leave r)
own_leave r = record { owner = λ h. refl; others = λ k h n. rw (other_than r k n) refl }

pub own_retire : (r : ℕ) → IsOwn r (Retire r)
own_retire r = record { owner = λ h. refl; others = λ k h n. rw (other_than r k n) refl }

-- with an entry of the pass, it acts alone still
pub one_more : (passes r : ℕ) (entry : Entry) (now top : List Entry) → OneActs passes r now top → IsOwn r entry → Grows (entry ∷ now) top → OneActs passes r (entry ∷ now) top
one_more passes r entry now top o own g = record {
  grows = g;
  owner = o.owner ∙ sym (own.owner now);
  others = λ k below n. o.others k below n ∙ sym (own.others k now n);
}

-- a pass that saw more, and saw nothing new
pub record SawNothing (old : WalkerState) (past : List Entry) (named : List (List ℕ)) : Type 0 where
  pub history : past ≡ old.history
  pub names : named ≡ old.names

pub saw_nothing : (r : ℕ) (old : WalkerState) (past : List Entry) (names : List (List ℕ)) (top : List Entry) → old.number ≡ r → length old.names ≡ loads old.history
    → GoesOn old.nodes old.passes false (old.number ∷ []) old.history old.names past names → OneActs old.passes r old.history top → Grows past top → SawNothing old past names
saw_nothing r old past names top number named g o on =
    let own : own_entries r past ≡ own_entries r old.history = subst (λ n. own_entries n past ≡ own_entries n old.history) number (own_of old.number old.history past g.added) in
    let same : past ≡ old.history = pass_still old.nodes old.passes r old.history past top o g.added.grows on g.legal.legal own in
    let long : length names ≡ length old.names = g.legal.named ∙ ap loads same ∙ sym named in
    record { history = same; names = went_same old.names names g.named.0 g.named.1 long }

-- a pass that made an entry, and nothing else came
pub record MadeEntry (passes r : ℕ) (old : WalkerState) (entry : Entry) (new : WalkerState) (top : List Entry) : Type 0 where
  pub now : new ≡ record old { history = entry ∷ old.history }
  pub acts : OneActs passes r (entry ∷ old.history) top

pub made_entry : (r : ℕ) (old : WalkerState) (entry : Entry) (new : WalkerState) (top : List Entry) → old.number ≡ r → length old.names ≡ loads old.history
    → (p : IsPassed old entry new) → IsOwn r entry → OneActs old.passes r old.history top → Grows new.history top → (p.past ≡ old.history) × MadeEntry old.passes r old entry new top
made_entry r old entry new top number named p own o on =
    let all : Grows (entry ∷ p.past) top = subst (λ (s : WalkerState). Grows s.history top) p.now on in
    let saw = saw_nothing r old p.past p.names top number named p.sees o (grows_again p.past (entry ∷ p.past) top (entry ∷ [], refl) all) in
    let now : new ≡ record old { history = entry ∷ old.history } = p.now ∙ (λ i. record old { history = entry ∷ saw.history i; names = saw.names i }) in
    (saw.history, record { now = now; acts = one_more old.passes r entry old.history top o own (subst (λ (h : List Entry). Grows (entry ∷ h) top) saw.history all) })

-- a pass announces no more counts than there are
announced_seen : (old : WalkerState) (new : HoldState) (h : IsHeld old new) → h.seen ≤ counts h.announce.past
announced_seen old new h =
    let legal = subst (λ (s : WalkerState). IsHistory s.nodes s.passes s.history s.names) h.announce.now h.announce.legal in
    legal.legal.0.2

-- a pass went in, and nothing else came
pub record WentIn (r : ℕ) (old : WalkerState) (new : HoldState) (top : List Entry) : Type 0 where
  pub now : new.walker ≡ record old { history = Enter r ∷ Announce r (counts old.history) ∷ old.history }
  pub acts : OneActs old.passes r new.walker.history top

pub went_in : (r : ℕ) (old : WalkerState) (new : HoldState) (top : List Entry) → old.number ≡ r → length old.names ≡ loads old.history
    → IsHeld old new → OneActs old.passes r old.history top → Grows new.walker.history top → WentIn r old new top
went_in r old new top number named held o on =
    let announced : Grows held.announced.history new.walker.history = subst (λ (s : WalkerState). Grows held.announced.history s.history) (sym held.enter.now) (grows_again held.announced.history held.enter.past (Enter old.number ∷ held.enter.past) held.enter.sees.added.grows (Enter old.number ∷ [], refl)) in
    let own1 : IsOwn r (Announce old.number held.seen) = subst (λ n. IsOwn r (Announce n held.seen)) (sym number) (own_announce r held.seen) in
    let own2 : IsOwn r (Enter old.number) = subst (λ n. IsOwn r (Enter n)) (sym number) (own_enter r) in
    let first = made_entry r old (Announce old.number held.seen) held.announced top number named held.announce own1 o (grows_again held.announced.history new.walker.history top announced on) in
    let mid : WalkerState = record old { history = Announce old.number held.seen ∷ old.history } in
    let enter : IsPassed mid (Enter old.number) new.walker = subst (λ (s : WalkerState). IsPassed s (Enter old.number) new.walker) first.1.now held.enter in
    let second = made_entry r mid (Enter old.number) new.walker top number named enter own2 first.1.acts on in
    let late : held.seen ≤ counts old.history = subst (λ (h : List Entry). held.seen ≤ counts h) first.0 (announced_seen old new held) in
    let seen : held.seen ≡ counts old.history = let early = held.fresh in omega arith in
    record {
      now = second.1.now ∙ (λ i. record old { history = Enter (number i) ∷ Announce (number i) (seen i) ∷ old.history });
      acts = subst (λ (s : WalkerState). OneActs old.passes r s.history top) (sym second.1.now) second.1.acts;
    }

-- a pass came out, and nothing else came
pub record WentOut (r : ℕ) (old new : WalkerState) (top : List Entry) : Type 0 where
  pub now : new ≡ record old { history = Retire r ∷ Leave r ∷ old.history }
  pub acts : OneActs old.passes r new.history top

pub went_out : (r : ℕ) (old : HoldState) (new : WalkerState) (low high : ℕ) (top : List Entry) → old.walker.number ≡ r → length old.walker.names ≡ loads old.walker.history
    → IsReleased old new low high → OneActs old.walker.passes r old.walker.history top → Grows new.history top → (high ≡ counts old.walker.history) × WentOut r old.walker new top
went_out r old new low high top number named released o on =
    let w : WalkerState = old.walker in
    let out : Grows released.out.history new.history = subst (λ (s : WalkerState). Grows released.out.history s.history) (sym released.retire.now) (grows_again released.out.history released.retire.past (Retire w.number ∷ released.retire.past) released.retire.sees.added.grows (Retire w.number ∷ [], refl)) in
    let own1 : IsOwn r (Leave w.number) = subst (λ n. IsOwn r (Leave n)) (sym number) (own_leave r) in
    let own2 : IsOwn r (Retire w.number) = subst (λ n. IsOwn r (Retire n)) (sym number) (own_retire r) in
    let first = made_entry r w (Leave w.number) released.out top number named released.leave own1 o (grows_again released.out.history new.history top out on) in
    let mid : WalkerState = record w { history = Leave w.number ∷ w.history } in
    let retire : IsPassed mid (Retire w.number) new = subst (λ (s : WalkerState). IsPassed s (Retire w.number) new) first.1.now released.retire in
    let second = made_entry r mid (Retire w.number) new top number named retire own2 first.1.acts on in (
      released.high_is ∙ ap counts first.0,
      record {
        now = second.1.now ∙ (λ i. record w { history = Retire (number i) ∷ Leave (number i) ∷ w.history });
        acts = subst (λ (s : WalkerState). OneActs w.passes r s.history top) (sym second.1.now) second.1.acts;
      },
    )

-- a pass only saw, and nothing came
pub only_saw : (r : ℕ) (old new : WalkerState) (top : List Entry) → old.number ≡ r → length old.names ≡ loads old.history
    → OnlySees old new → OneActs old.passes r old.history top → Grows new.history top → new ≡ old
only_saw r old new top number named sees o on =
    let saw = saw_nothing r old new.history new.names top number named sees.sees o on in
    sees.now ∙ (λ i. record old { history = saw.history i; names = saw.names i })
