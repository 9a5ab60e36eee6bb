use Rattle.std.proofs.Common.{◌≡◌, ℕ, ◌≤◌, List, [], length, take, drop, ap, ◌∙◌, arith, length-drop, length-take-le}
use Rattle.plcr_io.proofs.room.Room.hold.Goals as goal

-- where nothing waits, the two places are one
same_place : (start end : ℕ) (bytes : List ℕ) → start ≤ end → end ≤ length bytes → drop start (take end bytes) ≡ [] → start ≡ end
same_place start end bytes before within none =
    let short : length (drop start (take end bytes)) ≡ 0 = ap length none in
    omega (arith, short, length-drop start (take end bytes), length-take-le end bytes within)

pub returns-then-piece-self-clause-empty : goal.returns-then-piece-self-clause-empty
returns-then-piece-self-clause-empty c none short =
    let room = c.self.inside in
    let same = same_place room.start room.end room.bytes c.self.invariant.0 (omega (arith, c.self.told, c.self.invariant)) (c.self.view_is ∙ none) in
    let nothing = c.self.invariant.2 same in
    absurd (omega (arith, nothing, short))
