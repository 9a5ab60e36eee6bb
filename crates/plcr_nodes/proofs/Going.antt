-- What a token can go on with after a call, from what the call ensures.
use Rattle.std.proofs.Common.{◌≡◌, ◌≢◌, ℕ, zero, suc, ◌<◌, ◌≤◌, arith, All, List, [], ◌∷◌, ◌++◌, length, true, false, refl, sym, ap, ◌∙◌, subst}
use Rattle.std.proofs.lemmas.Bool.{false_from_ne_true}
use Rattle.std.proofs.lemmas.List.Elements.{All-nil, All-push}
use Rattle.atomic_table.specs.Seated.{TableId}
use Rattle.plcr_machine.specs.declared.image.Image.{Image}
use Rattle.plcr_machine.specs.declared.entry.Entry.{Entry}
use Rattle.plcr_machine.specs.declared.entry.Entry.TheVariants.{Announce, Leave, Retire}
use Rattle.plcr_machine.specs.Histories.{IsLegal, IsHistory}
use Rattle.plcr_machine.specs.Holds.{may_reach}
use Rattle.plcr_machine.specs.Lists.{live, loads}
use Rattle.plcr_machine.specs.Nodes.{is_free}
use Rattle.plcr_machine.specs.Passes.{is_inside, is_announced, counts}
use Rattle.plcr_machine.specs.Links.{after, last_place}
use Rattle.plcr_machine.proofs.Cases.{not_both, eqb_same}
use Rattle.plcr_machine.proofs.Insiders.{inside_announced}
use Rattle.plcr_nodes.specs.Entries.{among}
use Rattle.plcr_nodes.specs.Names.{header_in}
use Rattle.plcr_nodes.specs.Payload.{name_on}
use Rattle.plcr_nodes.specs.Tokens.{PassState, OwnerState, IsEntry, IsGlanced, IsEntered, IsLeft, IsFollowed, IsRead}
use Rattle.plcr_nodes.specs.Owning.{Follows, IsLinked}
use Rattle.plcr_nodes.specs.Opening.{opened_pass, opened_passes}
use Rattle.plcr_nodes.specs.inner.Seats.{IsFresh}
use Rattle.plcr_nodes.proofs.Seeing.{own_of}
use Rattle.plcr_nodes.proofs.Known.{inside_same, announced_same, free_same, live_same, loads_same}
use Rattle.plcr_nodes.proofs.Staying.{reach_stays, name_stays}
use Rattle.plcr_nodes.proofs.LinkStep.{free_else}

-- a pass that is not announced is out
pub quiet_out : (nodes passes p : ℕ) (h : List Entry) → IsLegal nodes passes h → is_announced p h ≡ false → is_inside p h ≡ false
quiet_out nodes passes p h l quiet = false_from_ne_true (is_inside p h) (λ inn. not_both (is_announced p h) (inside_announced nodes passes p h l inn) quiet)

-- a pass that went in is in
pub entered_inside : (old : PassState) (found : ℕ) (new : PassState) → IsEntered old found new → is_inside new.number new.history ≡ true
entered_inside old found new e =
    subst (λ (s : PassState). is_inside s.number s.history ≡ true) (sym e.entry.now) (rw (eqb_same old.number) refl)

-- a pass that announced itself is announced, and out
pub announced_out : (old : PassState) (seen : ℕ) (new : PassState) → IsEntry (Announce old.number seen) old new
    → (is_announced new.number new.history ≡ true) × (is_inside new.number new.history ≡ false)
announced_out old seen new e =
    let p : ℕ = old.number in
    let legal : IsLegal old.nodes old.passes (Announce p seen ∷ e.past) = subst (λ (s : PassState). IsLegal s.nodes s.passes s.history) e.now e.legal.legal in
    let out : is_inside p e.past ≡ false = quiet_out old.nodes old.passes p e.past legal.1 legal.0.1 in
    subst (λ (s : PassState). (is_announced s.number s.history ≡ true) × (is_inside s.number s.history ≡ false)) (sym e.now) (rw (eqb_same p) refl, out)

-- a pass that came out is out, and announced still
pub left_announced : (old : PassState) (found : ℕ) (new : PassState) → IsLeft old found new
    → (is_announced new.number new.history ≡ true) × (is_inside new.number new.history ≡ false)
left_announced old found new l =
    let e = l.entry in
    let p : ℕ = old.number in
    let legal : IsLegal old.nodes old.passes (Leave p ∷ e.past) = subst (λ (s : PassState). IsLegal s.nodes s.passes s.history) e.now e.legal.legal in
    subst (λ (s : PassState). (is_announced s.number s.history ≡ true) × (is_inside s.number s.history ≡ false)) (sym e.now)
    (inside_announced old.nodes old.passes p e.past legal.1 legal.0, rw (eqb_same p) refl)

-- a pass that retired is not announced
pub retired_quiet : (old new : PassState) → IsEntry (Retire old.number) old new → is_announced new.number new.history ≡ false
retired_quiet old new e = subst (λ (s : PassState). is_announced s.number s.history ≡ false) (sym e.now) (rw (eqb_same old.number) refl)

-- what was announced after a glance had been seen at it
pub glanced_seen : (old : PassState) (found : ℕ) (new : PassState) → IsGlanced old found new → found ≤ counts new.history
glanced_seen old found new g = subst (λ (s : PassState). found ≤ counts s.history) (sym g.now) (let is = g.gate in omega arith)

-- a glance leaves the pass announced or not
pub glanced_announced : (old : PassState) (found : ℕ) (new : PassState) → IsGlanced old found new → is_announced new.number new.history ≡ is_announced old.number old.history
glanced_announced old found new g =
    subst (λ (s : PassState). is_announced s.number s.history ≡ is_announced old.number old.history) (sym g.now) (announced_same old.number g.past old.history (own_of old.number old.history g.past g.sees.added))

-- a pass that follows a link stays in
pub followed_inside : (old : PassState) (node found : ℕ) (new : PassState) → IsFollowed old node found new → is_inside old.number old.history ≡ true → is_inside new.number new.history ≡ true
followed_inside old node found new f inn =
    subst (λ (s : PassState). is_inside s.number s.history ≡ true) (sym f.now) (inside_same old.number f.past old.history (own_of old.number old.history f.past f.sees.added) ∙ inn)

-- and may go on from what it was given
pub followed_given : (old : PassState) (node found : ℕ) (new : PassState) → IsFollowed old node found new → among found new.given ≡ true
followed_given old node found new f = subst (λ (s : PassState). among found s.given ≡ true) (sym f.now) (rw (eqb_same found) refl)

last-snoc : (p : ℕ) (xs : List Image) (x : Image) → last_place p (xs ++ x ∷ []) ≡ x.node
last-snoc p [] x = refl
last-snoc p (y ∷ ys) x = last-snoc y.node ys x

-- the node that was linked is the last place
pub linked_last : (old : OwnerState) (node : ℕ) (new : OwnerState) → IsLinked old node new → node ≡ last_place 0 (live new.history)
linked_last old node new l =
    subst (λ (s : OwnerState). node ≡ last_place 0 (live s.history)) (sym l.now)
    (sym (last-snoc 0 (live l.past) (record { node = node; load = suc (loads l.past); header = header_in node old.filled })))

pub linked_free : (old : OwnerState) (node : ℕ) (new : OwnerState) → IsLinked old node new → (m : ℕ) → m ≢ node → is_free old.passes m old.history ≡ true → is_free new.passes m new.history ≡ true
linked_free old node new l m d f =
    subst (λ (s : OwnerState). is_free s.passes m s.history ≡ true) (sym l.now)
    (free_else old.passes node m (suc (loads l.past)) (header_in node old.filled) l.past (λ z. d (sym z)) ∙ (free_same old.passes m l.past old.history (l.sees.added.owner refl) ∙ f))

pub linked_loads : (old : OwnerState) (node : ℕ) (new : OwnerState) → IsLinked old node new → loads new.history ≡ suc (loads old.history)
linked_loads old node new l =
    subst (λ (s : OwnerState). loads s.history ≡ suc (loads old.history)) (sym l.now) (ap suc (loads_same l.past old.history (l.sees.added.owner refl)))

-- the node that was linked in the empty list follows the head
pub linked_follows : (old : OwnerState) (node : ℕ) (new : OwnerState) → IsLinked old node new → 0 < node → live old.history ≡ [] → Follows 0 node new.history
linked_follows old node new l positive empty =
    let x : Image = record { node = node; load = suc (loads l.past); header = header_in node old.filled } in
    let lists : live l.past ≡ [] = live_same l.past old.history (l.sees.added.owner refl) ∙ empty in
    subst (λ (s : OwnerState). Follows 0 node s.history) (sym l.now)
    (record { place = refl; next = ap (λ (xs : List Image). after 0 0 (xs ++ x ∷ [])) lists; some = λ z. omega arith })

-- a pass that reads a word stays in
pub read_inside : (old : PassState) (node word found : ℕ) (new : PassState) → IsRead old node word found new → is_inside old.number old.history ≡ true → is_inside new.number new.history ≡ true
read_inside old node word found new f inn =
    subst (λ (s : PassState). is_inside s.number s.history ≡ true) (sym f.now) (inside_same old.number f.past old.history (own_of old.number old.history f.past f.sees.added) ∙ inn)

-- a pass that knows a legal history may reach the node
abbrev pub Reaches : PassState → ℕ → Type 0
Reaches s n = IsHistory s.nodes s.passes s.history s.names × (may_reach s.number n s.history ≡ true)

-- a pass may reach the node that a link led to
pub followed_reaches : (old : PassState) (node found : ℕ) (new : PassState) → IsFollowed old node found new → 0 < found → Reaches new found
followed_reaches old node found new f some_node = subst (λ (s : PassState). Reaches s found) (sym f.now) (f.sees.legal, f.reach some_node)

-- a pass that reads a word of the node may still reach it, and the name there stays
pub read_reaches : (old : PassState) (node word found : ℕ) (new : PassState) → IsRead old node word found new → Reaches old node
    → Reaches new node × (name_on node new.history new.names ≡ name_on node old.history old.names)
read_reaches old node word found new f r =
    let p : ℕ = old.number in
    let reach = reach_stays old.nodes old.passes p node old.history f.past old.names f.names f.sees r.1 in
    let name = name_stays old.nodes old.passes p node old.history f.past old.names f.names f.sees r.1 r.0.named in
    subst (λ (q : PassState). Reaches q node × (name_on node q.history q.names ≡ name_on node old.history old.names)) (sym f.now) ((f.sees.legal, reach), name)

-- word 1 is the length of the name on the node
pub read_length : (old : PassState) (node found : ℕ) (new : PassState) → IsRead old node 1 found new → found ≡ length (name_on node new.history new.names)
read_length old node found new f = subst (λ (s : PassState). found ≡ length (name_on node s.history s.names)) (sym f.now) f.image

-- a pass of a table that was just opened
opened_each : (P : PassState → Type 0) (z : TableId) (nodes passes : ℕ) → ((k : ℕ) → P (opened_pass z nodes passes k)) → (count : ℕ) → All P (opened_passes z nodes passes count)
opened_each P z nodes passes each zero = All-nil P
opened_each P z nodes passes each (suc count) = All-push P (opened_passes z nodes passes count) (opened_pass z nodes passes count) (opened_each P z nodes passes each count) (each count)

pub opened_fresh : (z : TableId) (nodes passes count : ℕ) → All (IsFresh z) (opened_passes z nodes passes count)
opened_fresh z nodes passes count = opened_each (IsFresh z) z nodes passes (λ k. (refl, refl)) count
