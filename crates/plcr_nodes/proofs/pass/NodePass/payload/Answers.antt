use Rattle.std.proofs.Common.{◌≡◌, ◌<◌, ◌+◌, ℕ, true, sym, ap, ◌∙◌, subst, arith}
use mathlib.Core.Option.{none}
use Rattle.atomic_table.specs.Table.{step}
use Rattle.plcr_nodes.specs.Entries.{among}
use Rattle.plcr_nodes.specs.Payload.{image_words}
use Rattle.plcr_nodes.specs.declared.words.TheConstants.{PAYLOAD_WORDS}
use Rattle.plcr_nodes.specs.Tokens.{PassState, IsRead}
use Rattle.plcr_nodes.specs.inner.Seats.{pass_state, IsPassing}
use Rattle.plcr_nodes.proofs.NamesKept.{image_most}
use Rattle.plcr_nodes.proofs.LoadSteps.{reads_at}
use Rattle.plcr_nodes.proofs.Passing.{has_number, given_reached, pass_read}
use Rattle.plcr_nodes.proofs.pass.NodePass.payload.Goals as goal

pub load-requires : goal.load-requires
load-requires c =
    let table = ap (λ (s : PassState). s.table) c.self.view_is ∙ (c.requires.table ∙ sym c.nodes.view_is) in
    let wide = c.self.invariant.pass.seat.wide in
    let words = ap (λ t. t.words) table in
    let known = subst (λ (s : PassState). (0 < c.args.node) × (among c.args.node s.given ≡ true)) (sym c.self.view_is) c.requires.known in
    let few = c.self.invariant.pass.seat.known.few_nodes in
    let reached = given_reached c.self.inside.seat.table_id c.self.inside.seat.me c.self.inside.stamp c.self.invariant c.args.node known.1 known.0 in
    let word : c.args.word < image_words c.args.node c.self.inside.seat.me.0.history c.self.inside.seat.me.0.names = subst (λ (s : PassState). c.args.word < image_words c.args.node s.history s.names) (sym c.self.view_is) c.requires.word in
    let most = image_most c.args.node c.self.inside.seat.me.0.history c.self.inside.seat.me.0.names c.self.invariant.pass.seat.short in
    let in_node : c.args.word < PAYLOAD_WORDS = omega arith in
    let place = c.place_of.ensures in
    let b = reached.0 in (
      table,
      omega arith,
      reads_at _ _ _ _ _ c.self.invariant.pass.seat.lives (has_number _ _ _ c.self.invariant) (c.place_of.result + (c.args.word + 1)) c.args.node c.args.word (ap (λ (n : ℕ). n + (c.args.word + 1)) place) reached.1 in_node word,
    )

pub invariant_of-self : goal.invariant_of-self
invariant_of-self c =
    let known = subst (λ (s : PassState). (0 < c.args.node) × (among c.args.node s.given ≡ true)) (sym c.self.view_is) c.requires.known in
    let few = c.self.invariant.pass.seat.known.few_nodes in
    let reached = given_reached c.self.inside.seat.table_id c.self.inside.seat.me c.self.inside.stamp c.self.invariant c.args.node known.1 known.0 in
    let word : c.args.word < image_words c.args.node c.self.inside.seat.me.0.history c.self.inside.seat.me.0.names = subst (λ (s : PassState). c.args.word < image_words c.args.node s.history s.names) (sym c.self.view_is) c.requires.word in
    let most = image_most c.args.node c.self.inside.seat.me.0.history c.self.inside.seat.me.0.names c.self.invariant.pass.seat.short in
    let in_node : c.args.word < PAYLOAD_WORDS = omega arith in
    let old = c.self.inside.seat in
    let new = c.load.new.seat in
    subst (λ z. IsPassing z new.me c.self.inside.stamp) (sym c.load.ensures.0)
    (pass_read old.table_id old.me c.self.inside.stamp c.self.invariant (step c.nodes.inside.table.shared.table_id.slots (c.place_of.result + (c.args.word + 1)) 0 0 none) c.args.node c.args.word c.load.result new.me (ap (λ (n : ℕ). n + (c.args.word + 1)) c.place_of.ensures) in_node reached.1 c.load.ensures.2).0

pub returns : goal.returns
returns c =
    let known = subst (λ (s : PassState). (0 < c.args.node) × (among c.args.node s.given ≡ true)) (sym c.self.view_is) c.requires.known in
    let few = c.self.invariant.pass.seat.known.few_nodes in
    let reached = given_reached c.self.inside.seat.table_id c.self.inside.seat.me c.self.inside.stamp c.self.invariant c.args.node known.1 known.0 in
    let word : c.args.word < image_words c.args.node c.self.inside.seat.me.0.history c.self.inside.seat.me.0.names = subst (λ (s : PassState). c.args.word < image_words c.args.node s.history s.names) (sym c.self.view_is) c.requires.word in
    let most = image_most c.args.node c.self.inside.seat.me.0.history c.self.inside.seat.me.0.names c.self.invariant.pass.seat.short in
    let in_node : c.args.word < PAYLOAD_WORDS = omega arith in
    let old = c.self.inside.seat in
    let new = c.load.new.seat in
    let read = pass_read old.table_id old.me c.self.inside.stamp c.self.invariant (step c.nodes.inside.table.shared.table_id.slots (c.place_of.result + (c.args.word + 1)) 0 0 none) c.args.node c.args.word c.load.result new.me (ap (λ (n : ℕ). n + (c.args.word + 1)) c.place_of.ensures) in_node reached.1 c.load.ensures.2 in
    record {
      word = subst (λ (s : PassState). IsRead s c.args.node c.args.word c.load.result (pass_state new.table_id new.me.0)) c.self.view_is
          (subst (λ z. IsRead (pass_state old.table_id old.me.0) c.args.node c.args.word c.load.result (pass_state z new.me.0)) (sym c.load.ensures.0) read.1);
    }
