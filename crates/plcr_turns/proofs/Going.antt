-- The turn is taken and given back.
use Rattle.std.proofs.Common.{◌≡◌, ◌≢◌, ℕ, zero, suc, ◌<◌, ◌⊎◌, inl, inr, ⊎_elim, true, false, List, [], ◌∷◌, ◌++◌, length, set, slice_get, Some, None, refl, sym, ap, ◌∙◌, subst, arith}
use Rattle.std.proofs.lemmas.Option.{same_Some}
use mathlib.Core.Option.{some, some-ne-none}
use mathlib.Core.List.{IsPrefix}
use lib.ListN.{get_elem?}
use Rattle.crossbeam_queue.specs.Fifo.{Pushes, Pops, Learns}
use Rattle.crossbeam_queue.proofs.Lists.{set_here, set_else}
use Rattle.plcr_machine.proofs.Cases.{at_or_else, not_both, by_cases}
use Rattle.plcr_nodes.proofs.Opening.{at_within}
use Rattle.plcr_turns.specs.declared.view.View.{View}
use Rattle.plcr_turns.specs.declared.view.Share.{Share}
use Rattle.plcr_turns.specs.declared.view.Face.{Face}
use Rattle.plcr_turns.specs.declared.turn.Part.{Part}
use Rattle.plcr_turns.specs.declared.view.Role.{Role}
use Rattle.plcr_turns.specs.declared.view.Role.TheVariants.{Fresh, Chief, Worker, Spent}
use Rattle.plcr_turns.specs.Turns.{TurnState}
use Rattle.plcr_turns.specs.Views.{face_of, has_share, Agrees, AllBegin, renewed, first_view, taken_view, given_view, IsTaken, MayGive, IsUnspent, is_unspent, HasAll, MustHold}
use Rattle.plcr_turns.specs.Rule.{Truth, Fits, IsInQueue, IsWithPass, HasOwner, IsNew, IsGoing, IsKept, IsWhose}
use Rattle.plcr_turns.proofs.Shares.{prefix_itself, prefix_again, begin_longer, belong_to, belong_if, agrees_at, agrees_still, renewed_same, renewed_apart, renewed_some, renewed_agrees, has_first, other_of}
use Rattle.plcr_turns.proofs.Views.{only_one, all_set, chief_not_fresh, worker_not_chief, has_and_not, same_face, same_view, owned_set}

-- what is not among shares whose owner is another
pub not_among : (t : Truth) (pass other : ℕ) (v u : View) → Fits t pass v → Fits t other u → other ≢ pass → (script : ℕ) → has_share script u.shares ≡ true → has_share script v.shares ≡ false
not_among t pass other v u f g apart script h = by_cases (has_share script v.shares)
    (λ a. absurd (apart (sym (belong_to t.owner other u.shares g.scripts script h) ∙ belong_to t.owner pass v.shares f.scripts script a)))
    (λ no. no)

abbrev first_or : List TurnState → TurnState → TurnState
first_or [] x = x
first_or (y ∷ ys) x = y

abbrev rest_of : List TurnState → List TurnState
rest_of [] = []
rest_of (y ∷ ys) = ys

pub some_item : (x : TurnState) (items : List TurnState) → (x ∷ items) ≡ [] → ⊥
some_item x items e = let e' : suc (length items) ≡ 0 = ap length e in omega arith

-- the turn that the queue holds is of what the rule means
from_queue : (t : Truth) (x : TurnState) (items : List TurnState) (views : List View) → IsInQueue t (x ∷ items) views → (items ≡ []) × (x.writer.table ≡ t.list) × (face_of x ≡ t.face) × (x.writer.nodes ≡ t.nodes) × (x.writer.passes ≡ t.passes)
from_queue t x items views q =
    let e : x ≡ q.turn = ap (λ (l : List TurnState). first_or l x) q.items_are in
    (ap rest_of q.items_are, ap (λ (y : TurnState). y.writer.table) e ∙ q.list, ap face_of e ∙ q.face, ap (λ (y : TurnState). y.writer.nodes) e ∙ q.sizes.0, ap (λ (y : TurnState). y.writer.passes) e ∙ q.sizes.1)

take_fits : (t : Truth) (port : ℕ) (v : View) (x : TurnState) → face_of x ≡ t.face → Fits t port v → Fits t port (taken_view v x)
take_fits t port v x face f = record {
  list = f.list;
  sizes = f.sizes;
  count = f.count;
  whose = f.whose;
  scripts = f.scripts;
  apart = f.apart;
  seen = subst (λ (y : Face). IsPrefix x.journal y.journal) face (prefix_itself x.journal);
  joined = f.joined;
  progress = f.progress;
}

is_taken : (t : Truth) (port : ℕ) (v : View) (x : TurnState) → x.writer.table ≡ t.list → (x.writer.nodes ≡ t.nodes) × (x.writer.passes ≡ t.passes) → face_of x ≡ t.face → Fits t port v → IsTaken v x
is_taken t port v x list sizes face f =
    subst (λ (y : Face). (v.count ≡ length y.parts) → IsPrefix v.journal y.journal → AllBegin v.joined y.journal → Agrees y.parts v.shares → IsTaken v x) face
    (λ count seen joined progress. record { list = f.list ∙ ap Some (sym list); sizes = (f.sizes.0 ∙ sym sizes.0, f.sizes.1 ∙ sym sizes.1); count = count; seen = seen; joined = joined; progress = progress })
    f.count f.seen f.joined f.progress

took : (port : ℕ) (v : View) (x : TurnState) (items : List TurnState) (views : List View) → IsUnspent v → (g : IsGoing (x ∷ items) views) → IsInQueue g.truth (x ∷ items) views → get_elem? views port ≡ some v
    → IsGoing items (set views port (taken_view v x)) × IsTaken v x
took port v x items views live g q at =
    let t = g.truth in
    let from = from_queue t x items views q in
    let f = g.fits port v at live in
    let w = taken_view v x in (
      record {
        truth = t;
        place = inr (record {
          empty = from.0;
          who = port;
          view = w;
          there = set_here views port w (at_within views v port at);
          unspent = live;
          has = ap Some from.2;
          only = all_set (λ j u. j ≢ port → u.turn ≡ None) views port w (λ _ no. absurd (no refl)) (λ j u _ there lives _. q.nobody j u there lives);
        });
        fits = all_set (Fits t) views port w (λ _. take_fits t port v x from.2 f) (λ j u _ there lives. g.fits j u there lives);
        owned = λ script few. owned_set t.owner views port v w script at (λ h. (live, h)) (g.owned script few);
      },
      is_taken t port v x from.1 (from.3, from.4) from.2 f,
    )

pub takes : (port : ℕ) (v : View) → IsUnspent v → Pops IsKept port v (λ x w. (w ≡ taken_view v x) × IsTaken v x)
takes port v live x items views kept at =
    ⊎_elim
    (λ (new : IsNew (x ∷ items) views). absurd (some_item x items new.empty))
    (λ (g : IsGoing (x ∷ items) views).
    ⊎_elim
    (λ (q : IsInQueue g.truth (x ∷ items) views). let k = took port v x items views live g q at in (taken_view v x, inr k.0, (refl, k.1)))
    (λ (p : IsWithPass g.truth (x ∷ items) views). absurd (some_item x items p.empty))
    g.place)
    kept

some_share : (shares : List Share) → shares ≢ [] → (script : ℕ) × (has_share script shares ≡ true)
some_share [] full = absurd (full refl)
some_share (share ∷ shares) full = (share.script, has_first share shares)

-- who is unspent is the chief, or has a share
roles : {P : Type 0} (role : Role) (chief pass : ℕ) (shares : List Share) → IsWhose chief pass role shares → is_unspent role ≡ true → (pass ≡ chief → P) → (shares ≢ [] → P) → P
roles Chief chief pass shares w live a b = a w
roles Worker chief pass shares w live a b = b w.1
roles Fresh chief pass shares w live a b = absurd w
roles Spent chief pass shares w live a b = not_both false live refl

-- so where the chief has all scripts there is nobody else

nobody_else : (t : Truth) (port who : ℕ) (v w : View) → who ≢ port → Fits t port v → Fits t who w → v.role ≡ Chief → HasAll v → IsUnspent w → ⊥
nobody_else t port who v w apart f g chief all live =
    let at_chief : port ≡ t.chief = subst (λ r. IsWhose t.chief port r v.shares) chief f.whose in
    roles w.role t.chief who w.shares g.whose live (λ e. apart (e ∙ sym at_chief))
    (λ full. let s = some_share w.shares full in
    let few : s.0 < v.count = subst (λ n. s.0 < n) (sym f.count) (agrees_at t.face.parts w.shares g.progress s.0 s.1) in
    apart (sym (belong_to t.owner who w.shares g.scripts s.0 s.1) ∙ belong_to t.owner port v.shares f.scripts s.0 (all s.0 few)))

-- where all scripts belong to the chief, no other pass has the turn
pub must_hold : (port : ℕ) (v : View) → IsUnspent v → Learns IsKept port v (MustHold v)
must_hold port v live items views kept at role turn all empty =
    ⊎_elim
    (λ (new : IsNew items views). chief_not_fresh v (only_one first_view v port (subst (λ vs. get_elem? vs port ≡ some v) new.alone at)).1 role)
    (λ (g : IsGoing items views).
    ⊎_elim
    (λ (q : IsInQueue g.truth items views). some_item q.turn [] (sym q.items_are ∙ empty))
    (λ (p : IsWithPass g.truth items views).
    at_or_else p.who port
    (λ e. has_and_not v.turn g.truth.face (ap (λ (u : View). u.turn) (same_view views port v p.view at (subst (λ k. get_elem? views k ≡ some p.view) e p.there)) ∙ p.has) turn)
    (λ f. nobody_else g.truth port p.who v p.view (other_of p.who port f) (g.fits port v at live) (g.fits p.who p.view p.there p.unspent) role all p.unspent))
    g.place)
    kept

-- what others know stays, as the turn goes on with the scripts of one pass
others_fit : (t : Truth) (face : Face) (port j : ℕ) (v u : View) → Fits t port v → Fits t j u → j ≢ port → IsPrefix t.face.journal face.journal → length face.parts ≡ length t.face.parts
    → ((script : ℕ) → has_share script v.shares ≡ false → slice_get face.parts script ≡ slice_get t.face.parts script) → Fits (record t { face = face }) j u
others_fit t face port j v u f g apart longer count same = record {
  list = g.list;
  sizes = g.sizes;
  count = g.count ∙ sym count;
  whose = g.whose;
  scripts = g.scripts;
  apart = g.apart;
  seen = prefix_again u.journal t.face.journal face.journal g.seen longer;
  joined = begin_longer u.joined t.face.journal face.journal g.joined longer;
  progress = agrees_still t.face.parts face.parts u.shares g.progress (λ script h. same script (not_among t port j v u f g apart script h));
}

-- shares that are renewed are as many
whose_renewed : (role : Role) (chief pass : ℕ) (parts : List Part) (shares : List Share) → IsWhose chief pass role shares → IsWhose chief pass role (renewed parts shares)
whose_renewed Chief chief pass parts shares w = w
whose_renewed Worker chief pass parts shares w = (w.0, renewed_some parts shares w.1)
whose_renewed Fresh chief pass parts shares w = w
whose_renewed Spent chief pass parts shares w = w

give_fits : (t : Truth) (port : ℕ) (v : View) (x : TurnState) → Fits t port v → IsPrefix t.face.journal x.journal → length x.parts ≡ length t.face.parts → Fits (record t { face = face_of x }) port (given_view v x)
give_fits t port v x f longer count = record {
  list = f.list;
  sizes = f.sizes;
  count = f.count ∙ sym count;
  whose = whose_renewed v.role t.chief port x.parts v.shares f.whose;
  scripts = belong_if t.owner port (renewed x.parts v.shares) (λ script h. belong_to t.owner port v.shares f.scripts script (sym (renewed_same x.parts script v.shares) ∙ h));
  apart = renewed_apart x.parts v.shares f.apart;
  seen = prefix_itself x.journal;
  joined = begin_longer v.joined t.face.journal x.journal f.joined longer;
  progress = renewed_agrees x.parts v.shares (λ script h. subst (λ n. script < n) (sym count) (agrees_at t.face.parts v.shares f.progress script h));
}

gave : (port : ℕ) (v : View) (x : TurnState) (items : List TurnState) (views : List View) → (m : MayGive v x) → (g : IsGoing items views) → get_elem? views port ≡ some v
    → (p : IsWithPass g.truth items views) → p.who ≡ port → g.truth.face ≡ m.face → IsGoing (items ++ x ∷ []) (set views port (given_view v x))
gave port v x items views m g at p who face =
    let t = g.truth in
    let f = g.fits port v at m.unspent in
    let longer : IsPrefix t.face.journal x.journal = subst (λ (y : Face). IsPrefix y.journal x.journal) (sym face) m.journal in
    let count : length x.parts ≡ length t.face.parts = m.count ∙ ap (λ (y : Face). length y.parts) (sym face) in
    let same : (script : ℕ) → has_share script v.shares ≡ false → slice_get x.parts script ≡ slice_get t.face.parts script = λ script no. m.others script no ∙ ap (λ (y : Face). slice_get y.parts script) (sym face) in
    let w = given_view v x in
    record {
      truth = record t { face = face_of x };
      place = inl (record {
        turn = x;
        items_are = ap (λ l. l ++ x ∷ []) p.empty;
        list = same_Some _ _ (sym m.list ∙ f.list);
        sizes = (sym m.sizes.0 ∙ f.sizes.0, sym m.sizes.1 ∙ f.sizes.1);
        face = refl;
        nobody = all_set (λ j u. u.turn ≡ None) views port w (λ _. refl) (λ j u other there lives. p.only j u there lives (λ e. other (e ∙ who)));
      });
      fits = all_set (Fits (record t { face = face_of x })) views port w (λ _. give_fits t port v x f longer count)
          (λ j u other there lives. others_fit t (face_of x) port j v u f (g.fits j u there lives) other longer count same);
      owned = λ script few. owned_set t.owner views port v w script at (λ h. (m.unspent, renewed_same x.parts script v.shares ∙ h)) (g.owned script (subst (λ n. script < n) count few));
    }

pub gives : (n port : ℕ) (v : View) (x : TurnState) → MayGive v x → Pushes IsKept n port v x (λ w. w ≡ given_view v x)
gives n port v x m items views room kept at = (
  given_view v x,
  ⊎_elim
      (λ (new : IsNew items views). has_and_not v.turn m.face m.has (ap (λ (u : View). u.turn) (sym (only_one first_view v port (subst (λ vs. get_elem? vs port ≡ some v) new.alone at)).1)))
      (λ (g : IsGoing items views).
      ⊎_elim
      (λ (q : IsInQueue g.truth items views). has_and_not v.turn m.face m.has (q.nobody port v at m.unspent))
      (λ (p : IsWithPass g.truth items views).
      at_or_else p.who port
      (λ who. inr (gave port v x items views m g at p who
      (same_face v.turn g.truth.face m.face (ap (λ (u : View). u.turn) (same_view views port v p.view at (subst (λ k. get_elem? views k ≡ some p.view) who p.there)) ∙ p.has) m.has)))
      (λ f. has_and_not v.turn m.face m.has (p.only port v at m.unspent (λ e. other_of p.who port f (sym e)))))
      g.place)
      kept,
  refl,
)

pub gives_empty : (port : ℕ) (v : View) (x : TurnState) → MayGive v x → Learns IsKept port v (λ items. items ≡ [])
gives_empty port v x m items views kept at =
    ⊎_elim (λ (new : IsNew items views). new.empty)
    (λ (g : IsGoing items views).
    ⊎_elim
    (λ (q : IsInQueue g.truth items views). has_and_not v.turn m.face m.has (q.nobody port v at m.unspent))
    (λ (p : IsWithPass g.truth items views). p.empty)
    g.place)
    kept
