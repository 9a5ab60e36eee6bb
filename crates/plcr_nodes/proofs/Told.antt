-- What a token knows after a telling or a join, from what the load told its seat.
use Rattle.std.proofs.Common.{◌≡◌, ℕ, List, [], ◌∷◌, ◌++◌, false, refl, sym, ap, ◌∙◌, subst}
use Rattle.atomic_table.specs.Table.{Step}
use Rattle.atomic_table.specs.Seated.{TableId}
use Rattle.plcr_machine.specs.declared.entry.Entry.{Entry}
use Rattle.plcr_nodes.specs.declared.view.View.{View}
use Rattle.plcr_nodes.specs.Seeing.{AddsOthers}
use Rattle.plcr_nodes.specs.inner.Rule.{number_of}
use Rattle.plcr_nodes.specs.Telling.{IsPassTold, IsOwnerTold, IsJoined}
use Rattle.plcr_nodes.specs.inner.Plays.{Mine, TakesIn, view_at}
use Rattle.plcr_nodes.specs.inner.Seats.{pass_state, owner_state, note_state, IsPassing, IsOwning}
use Rattle.plcr_nodes.specs.inner.Telling.{heard_of, hearing_view, learned, gathered, IsGathered}
use Rattle.plcr_nodes.proofs.Known.{free_same, live_same}
use Rattle.plcr_nodes.proofs.Noting.{knows_same}
use Rattle.plcr_nodes.proofs.OwnerKnows.{sees}
use Rattle.plcr_nodes.proofs.Passing.{still_reached, seen_after}
use Rattle.plcr_nodes.proofs.Passing as passing

pub gathered_of : (m : Mine) (w : View) (st : Step Unit) (found : ℕ) (m' : Mine) → gathered st (hearing_view m.0 w, m.1) found m' → IsGathered m w m'
gathered_of m w st found m' told = record {
  past = told.0;
  names = told.1;
  takes = told.2;
  over = told.3 0 (heard_of w) refl;
  now = λ i. (told.4 i, told.5 i);
}

module _ (z : TableId) (m : Mine) (notes : List ℕ) (g : IsOwning z m notes) (w : View) (m' : Mine) (t : IsGathered m w m') where
  pub owning_gathered : IsOwning z m' notes
  owning_gathered =
      let known = t.takes in
      let same = known.added.owner g.owner.owns in
      let after : IsOwning z (record (view_at m.0 t.past t.names) { numbers = w.numbers ++ m.0.numbers; given = [] }, m.1) notes = record {
        owner = record {
          seat = record {
            wide = g.owner.seat.wide;
            lives = g.owner.seat.lives;
            light = g.owner.seat.light;
            known = known.legal;
            short = known.short;
          };
          owns = g.owner.owns;
          filled = λ j i x some_j i_in is. let f = g.owner.filled j i x some_j i_in is in (f.0, free_same m.0.passes j t.past m.0.history same ∙ f.1);
        };
        links = knows_same m.0.nodes m.0.nodes t.past m.0.history notes refl (live_same t.past m.0.history same) g.links;
      } in
      subst (λ (q : Mine). IsOwning z q notes) (sym t.now) after

  -- a note gives no pass numbers
  pub owner_told : (y : TableId) → w.numbers ≡ [] → IsOwnerTold (owner_state z m.0) (note_state y w) (owner_state z m'.0)
  owner_told y none =
      subst (λ (q : Mine). IsOwnerTold (owner_state z m.0) (note_state y w) (owner_state z q.0)) (sym t.now) (record {
        past = t.past;
        names = t.names;
        sees = sees z m g.owner t.past t.names t.takes;
        now = ap (λ (ns : List ℕ). record (owner_state z m.0) { history = t.past; names = t.names; joined = ns ++ m.0.numbers }) none;
        told = t.over.added.grows;
        named = t.over.named;
      })

  -- a pass gives its number
  pub owner_joined : (y : TableId) → w.numbers ≡ number_of w ∷ [] → IsJoined (owner_state z m.0) (pass_state y w) (owner_state z m'.0)
  owner_joined y one =
      subst (λ (q : Mine). IsJoined (owner_state z m.0) (pass_state y w) (owner_state z q.0)) (sym t.now) (record {
        past = t.past;
        names = t.names;
        sees = sees z m g.owner t.past t.names t.takes;
        now = ap (λ (ns : List ℕ). record (owner_state z m.0) { history = t.past; names = t.names; joined = ns ++ m.0.numbers }) one;
        met = subst (λ (ns : List ℕ). AddsOthers false ns w.history t.past) one t.over.added;
        named = t.over.named;
      })

-- a pass that was told keeps what it was given
pub pass_told : (z y : TableId) (m : Mine) (stamp : ℕ) (g : IsPassing z m stamp) (w : View) (st : Step Unit) (found : ℕ) (m' : Mine) → learned st (hearing_view m.0 w, m.1) found m'
    → IsPassing z m' stamp × IsPassTold (pass_state z m.0) (note_state y w) (pass_state z m'.0)
pass_told z y m stamp g w st found m' told =
    let past : List Entry = told.0 in
    let names : List (List ℕ) = told.1 in
    let t : TakesIn m.0 past names = told.2 in
    let over = told.3 0 (heard_of w) refl in
    let same : m' ≡ (view_at m.0 past names, m.1) = λ i. (told.4 i, told.5 i) in
    subst (λ (q : Mine). IsPassing z q stamp × IsPassTold (pass_state z m.0) (note_state y w) (pass_state z q.0)) (sym same) (
      seen_after z m stamp g past names m.0.given t (λ n a some_node. still_reached z m stamp g past names t n (g.pass.given n a some_node)),
      record { past = past; names = names; sees = passing.sees z m stamp g past names t; now = refl; told = over.added.grows; named = over.named },
    )
