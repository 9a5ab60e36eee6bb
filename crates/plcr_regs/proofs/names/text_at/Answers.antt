use Rattle.std.proofs.Common.{◌≡◌, ◌<◌, length, [], get_or, map, List, ℕ, Bor, sym}
use Rattle.std.proofs.lemmas.List.{get_or-map}
use Rattle.plcr_regs.proofs.names.text_at.Goals as goal

-- a text of a list of borrowed texts is that of the list of texts
get_or-now : (texts : List (Bor (List ℕ))) (i : ℕ) (d : Bor (List ℕ)) → i < length texts → (get_or texts i d).now ≡ get_or (map (λ (t : Bor (List ℕ)). t.now) texts) i []
get_or-now texts i d h = sym (get_or-map (λ (t : Bor (List ℕ)). t.now) texts i d [] h)

pub returns : goal.returns
returns c = get_or-now c.args.texts.now c.args.i _ c.requires
