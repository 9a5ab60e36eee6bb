-- The run that stands as it is, and the byte after it.
use Rattle.std.proofs.Common.{◌≡◌, ◌∷◌, ◌++◌, rules, sym, ap, ◌∙◌, take, take-append-drop}
use Rattle.plcr_decode.specs.inner.Escapes.{escaped}
use Rattle.plcr_decode.proofs.Escaping.{escapes_byte}
use Rattle.plcr_decode.proofs.ink.put_run.Goals as goal

pub returns-clause-front : goal.returns-clause-front
returns-clause-front g c =
    let text = c.args.text.now in
    let n = c.plain_len.result in
    let run = c.split_at.result.0.now in
    let after = c.split_at.result.1.now in
    let front : run ≡ take n text = c.split_at.ensures.front in
    let parts : text ≡ run ++ after = sym (ap (λ l. l ++ after) front ∙ ap (λ l. take n text ++ l) c.split_at.ensures.back ∙ take-append-drop n text) in
    let plain : escaped run ≡ run = ap escaped front ∙ c.plain_len.ensures.plain ∙ sym front in
    let head : after ≡ c.in-Some.byte.now ∷ c.in-Some.rest.now = search rules in
    escapes_byte _ _ _ text run after c.in-Some.rest.now c.in-Some.byte.now parts plain head c.raw.ensures c.put_byte.ensures
