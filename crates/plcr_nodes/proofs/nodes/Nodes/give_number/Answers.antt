use Rattle.std.proofs.Common.{◌≡◌, ◌<◌, ◌+◌, ◌∷◌, [], ◌∙◌, ap, sym, refl, subst, arith}
use Rattle.plcr_nodes.specs.declared.view.View.{View}
use Rattle.plcr_nodes.specs.inner.Rule.{owner_view, first_of}
use Rattle.plcr_nodes.specs.inner.Plays.{given_view}
use Rattle.plcr_nodes.specs.inner.Seats.{IsPassing}
use Rattle.plcr_nodes.proofs.Opening.{numbers, gives, opened_passing}
use Rattle.plcr_nodes.proofs.nodes.Nodes.give_number.Goals as goal

pub fetch_add-requires : goal.fetch_add-requires
fetch_add-requires c =
    let table = c.requires.table ∙ sym c.self.view_is in
    let words = ap (λ t. t.words) (sym c.self.view_is) in
    let wide = c.requires.opening.wide in
    let is = ap (λ m. m.0) c.requires.opening.me_is in (
      table,
      omega arith,
      numbers _ _ _ _ _ (ap (λ v. v.spent) is) (ap (λ v. v.owns) is) (subst (λ v. v.numbered < v.passes) (sym is) c.requires.few),
    )

pub split_seat-requires : goal.split_seat-requires
split_seat-requires c =
    let words = ap (λ t. t.words) (sym c.self.view_is) in
    let wide = c.requires.opening.wide in
    let is = ap (λ m. m.0) c.requires.opening.me_is in
    let v : View = c.fetch_add.new.seat.me.0 in
    let next : View → View = λ u. record u { numbered = u.numbered + 1; numbers = u.numbered ∷ u.numbers; given = [] } in
    let e : v ≡ next (owner_view c.args.nodes c.args.passes c.args.number) = c.fetch_add.ensures.2.1 ∙ ap next is in (
      c.fetch_add.ensures.0 ∙ (c.requires.table ∙ sym c.self.view_is),
      omega arith,
      gives c.self.inside.table.shared.key.nodes c.self.inside.table.shared.key.passes c.fetch_add.new.seat.id v (ap (λ (u : View). u.spent) e) (ap (λ (u : View). u.owns) e)
          (subst (λ (u : View). u.numbers ≡ first_of u.numbers ∷ []) (sym e) refl) (ap (λ (u : View). u.heard) e),
    )

pub invariant_of-result : goal.invariant_of-result
invariant_of-result c =
    let next : View → View = λ u. record u { numbered = u.numbered + 1; numbers = u.numbered ∷ u.numbers; given = [] } in
    let is = ap (λ m. m.0) c.requires.opening.me_is in
    let e = c.fetch_add.ensures.2.1 ∙ ap next is in
    let split = c.split_seat.ensures in
    let table = split.3 ∙ (c.fetch_add.ensures.0 ∙ c.requires.table) in
    let me : c.split_seat.result.me ≡ (given_view (next (owner_view c.args.nodes c.args.passes c.args.number)), []) = split.4 ∙ ap (λ v. (given_view v, [])) e in
    subst (λ m. IsPassing c.split_seat.result.table_id m c.stamp_word.result) (sym me)
    (opened_passing c.args.nodes c.args.passes c.args.number c.split_seat.result.table_id c.stamp_word.result c.requires.sized c.requires.few (ap (λ t. t.words) table ∙ c.requires.opening.wide) (c.stamp_word.ensures c.args.nodes refl))
