-- A pass that only sees: what it knew stays so, and what its walk met has the names that it had.
use Rattle.std.proofs.Common.{◌≡◌, ℕ, ◌≤◌, List, [], ◌∷◌, Bool, length, Contains, leb, refl, sym, ap, ◌∙◌, subst, arith}
use Rattle.plcr_machine.proofs.Rising.{contains_here, contains_later}
use Rattle.plcr_machine.specs.declared.image.Image.{Image}
use Rattle.plcr_machine.specs.declared.entry.Entry.{Entry}
use Rattle.plcr_machine.specs.declared.entry.Entry.TheVariants.{Announce, Enter, Leave, Retire}
use Rattle.plcr_machine.specs.Lists.{Grows, changes, loads, list_after, name_of}
use Rattle.plcr_machine.specs.Passes.{counts}
use Rattle.plcr_machine.specs.Histories.{IsLegal, IsHistory}
use Rattle.plcr_machine.specs.Parts.{own_entries}
use Rattle.plcr_machine.specs.Holds.{before_enter}
use Rattle.plcr_machine.specs.Changes.{all_named}
use Rattle.plcr_machine.proofs.Cases.{by_cases}
use Rattle.plcr_machine.proofs.Growing.{changes-grows, counts-grows, loads-grows}
use Rattle.plcr_machine.proofs.Loaded.{listed_below}
use Rattle.plcr_machine.proofs.Staying.{whole_stays, lawful_stays, met_were_listed}
use Rattle.plcr_nodes.specs.Names.{AreNames}
use Rattle.plcr_nodes.proofs.NamesKept.{name-older}
use Rattle.plcr_nodes.proofs.Seeing.{own_of, grows_again}
use Rattle.plcr_imagelist.specs.Holds.{WalkerState, HoldState, WalkerSeesMore, start_of, IsWalking, IsHeld, IsReleased, IsNext}
use Rattle.plcr_imagelist.specs.Walk.{IsSameWalk}
use Rattle.plcr_imagelist.specs.Carrying.{OnlySees, IsVisit}
use Rattle.plcr_imagelist.proofs.Looking.{went_again}
use Rattle.plcr_imagelist.proofs.Meeting.{before_enter-same}
use Rattle.plcr_imagelist.proofs.Passing.{goes_again}

sees_on : (old : WalkerState) (past : List Entry) (names : List (List ℕ)) → WalkerSeesMore old past names → length old.names ≡ loads old.history → OnlySees old (record old { history = past; names = names })
sees_on old past names g all =
    let grows = g.added.grows in
    let later = changes-grows old.history past grows in
    record {
      sees = g;
      now = refl;
      before = before_enter-same old.number old.history past g.added;
      own = own_of old.number old.history past g.added;
      counted = counts-grows old.history past grows;
      changed = later;
      loaded = loads-grows old.history past grows;
      named = λ load few. ap (name_of load) g.named.1 ∙ name-older load g.named.0 old.names (omega arith);
      ends = λ a b met k. let within = k.within in
          record { within = omega arith; whole = whole_stays old.history past a b met grows within k.whole; lawful = lawful_stays old.history past a b met grows within k.lawful };
    }

-- a pass that saw more of the history only sees
pub only_sees : (old new : WalkerState) (past : List Entry) (names : List (List ℕ)) → WalkerSeesMore old past names → new ≡ record old { history = past; names = names } → length old.names ≡ loads old.history → OnlySees old new
only_sees old new past names g now all = subst (λ (s : WalkerState). OnlySees old s) (sym now) (sees_on old past names g all)

pub sees_itself : (s : WalkerState) → IsHistory s.nodes s.passes s.history s.names → AreNames s.names → OnlySees s s
sees_itself s k short = sees_on s s.history s.names (record { added = record { grows = ([], refl); owner = λ _. refl; own = λ _ _. refl }; named = ([], refl); legal = k; short = short }) k.named

twice : (a : WalkerState) (past : List Entry) (names : List (List ℕ)) (c : WalkerState) → OnlySees a (record a { history = past; names = names }) → OnlySees (record a { history = past; names = names }) c → OnlySees a c
twice a past names c g h =
    let less = g.loaded in
    record {
      sees = goes_again a.nodes a.passes a.number a.history past c.history a.names names c.names g.sees h.sees;
      now = h.now;
      before = h.before ∙ g.before;
      own = h.own ∙ g.own;
      counted = omega (arith, g.counted, h.counted);
      changed = omega (arith, g.changed, h.changed);
      loaded = omega (arith, g.loaded, h.loaded);
      named = λ load few. h.named load (omega arith) ∙ g.named load few;
      ends = λ x y met k. h.ends x y met (g.ends x y met k);
    }

pub sees_again : (a b c : WalkerState) → OnlySees a b → OnlySees b c → OnlySees a c
sees_again a b c g h =
    twice a b.history b.names c (subst (λ (s : WalkerState). OnlySees a s) g.now g) (subst (λ (s : WalkerState). OnlySees s c) g.now h)

-- a call of `next`
pub next_sees : (old : HoldState) (more : Bool) (new : HoldState) → IsWalking old → IsNext old more new → OnlySees old.walker new.walker
next_sees old more new w n =
    by_cases old.ended
    (λ e. subst (λ (s : HoldState). OnlySees old.walker s.walker) (sym (n.ended e).1) (sees_itself old.walker w.known w.short))
    (λ e. let g = n.goes e in only_sees old.walker new.walker g.past g.names g.sees g.walker w.known.named)

-- reading images
pub reading_sees : (old new : HoldState) → IsWalking old → IsSameWalk old new → OnlySees old.walker new.walker
reading_sees old new w k =
    let on = k.walking w in
    let sized : IsHistory old.walker.nodes old.walker.passes new.walker.history new.walker.names =
    subst (λ n. IsHistory n old.walker.passes new.walker.history new.walker.names) k.sizes.0 (subst (λ n. IsHistory new.walker.nodes n new.walker.history new.walker.names) k.sizes.1 on.known) in
    only_sees old.walker new.walker new.walker.history new.walker.names (record { added = k.added; named = k.went; legal = sized; short = on.short })
    (λ i. record { table = k.list i; nodes = k.sizes.0 i; passes = k.sizes.1 i; number = k.pass i; history = new.walker.history; names = new.walker.names }) w.known.named

-- what was met was loaded
listed_few : (nodes passes : ℕ) (x : Image) (h : List Entry) (j : ℕ) → IsLegal nodes passes h → Contains (list_after h j) x → x.load ≤ loads h
listed_few nodes passes x [] j l c = listed_below nodes passes x [] l c
listed_few nodes passes x (e ∷ past) j l c =
    by_cases (leb (changes (e ∷ past)) j)
    (λ t. listed_below nodes passes x (e ∷ past) l (rw t at c))
    (λ t. let earlier : Contains (list_after past j) x = rw t at c in
    omega (arith, listed_few nodes passes x past j l.1 earlier, loads-grows past (e ∷ past) (e ∷ [], refl)))

pub met_few : (s : HoldState) → IsWalking s → (x : Image) → Contains s.met x → x.load ≤ loads s.walker.history
met_few s w x c =
    let there = (met_were_listed s.walker.nodes s.walker.passes s.walker.history (start_of s.walker) (changes s.walker.history) s.met w.known.legal w.meets).1 x c in
    listed_few s.walker.nodes s.walker.passes x s.walker.history there.0 w.known.legal there.3

named-same : (old names : List (List ℕ)) (xs : List Image) → ((x : Image) → Contains xs x → name_of x.load names ≡ name_of x.load old) → all_named names xs ≡ all_named old xs
named-same old names [] same = refl
named-same old names (x ∷ xs) same =
    let here = same x (contains_here x xs) in
    let rest = named-same old names xs (λ y c. same y (contains_later x y xs c)) in
    λ i. record { load = x.load; header = x.header; name = here i } ∷ rest i

pub met_named : (s : HoldState) (new : WalkerState) → IsWalking s → OnlySees s.walker new → all_named new.names s.met ≡ all_named s.walker.names s.met
met_named s new w o = named-same s.walker.names new.names s.met (λ x c. o.named x.load (met_few s w x c))

-- a whole hold
pub visit_made : (old new : WalkerState) (low high : ℕ) (early late : HoldState) → IsHeld old early → OnlySees early.walker late.walker → IsReleased late new low high → IsVisit old new low high
visit_made old new low high early late k o r =
    let p : ℕ = old.number in
    let first : early.walker.number ≡ p = ap (λ (s : WalkerState). s.number) k.enter.now ∙ ap (λ (s : WalkerState). s.number) k.announce.now in
    let last : late.walker.number ≡ p = ap (λ (s : WalkerState). s.number) o.now ∙ first in
    let before : before_enter p late.walker.history ≡ k.enter.past = subst (λ n. before_enter n late.walker.history ≡ before_enter n early.walker.history) first o.before ∙ k.before in
    let own : own_entries p late.walker.history ≡ Enter p ∷ Announce p k.seen ∷ own_entries p old.history =
    subst (λ n. own_entries n late.walker.history ≡ own_entries n early.walker.history) first o.own ∙ k.own in
    let announced : Grows old.history k.announced.history =
    subst (λ (s : WalkerState). Grows old.history s.history) (sym k.announce.now) (grows_again old.history k.announce.past (Announce p k.seen ∷ k.announce.past) k.announce.sees.added.grows (Announce p k.seen ∷ [], refl)) in
    let inside : Grows early.walker.history r.leave.past = grows_again early.walker.history late.walker.history r.leave.past o.sees.added.grows r.leave.sees.added.grows in
    let out : Grows (Leave late.walker.number ∷ r.leave.past) new.history =
    subst (λ (s : WalkerState). Grows (Leave late.walker.number ∷ r.leave.past) s.history) (sym r.retire.now)
    (grows_again (Leave late.walker.number ∷ r.leave.past) r.retire.past (Retire late.walker.number ∷ r.retire.past)
    (subst (λ (s : WalkerState). Grows s.history r.retire.past) r.leave.now r.retire.sees.added.grows) (Retire late.walker.number ∷ [], refl)) in
    record {
      seen = k.seen;
      fresh = k.fresh;
      before = k.enter.past;
      inside = r.leave.past;
      grows = grows_again old.history k.announced.history k.enter.past announced k.enter.sees.added.grows;
      entered = subst (λ (s : WalkerState). Grows s.history r.leave.past) k.enter.now inside;
      left = subst (λ n. Grows (Leave n ∷ r.leave.past) new.history) last out;
      went = went_again old.names late.walker.names new.names (went_again old.names early.walker.names late.walker.names k.went o.sees.named) r.went;
      own = subst (λ n. own_entries n new.history ≡ Retire n ∷ Leave n ∷ own_entries n late.walker.history) last r.own ∙ ap (λ (es : List Entry). Retire p ∷ Leave p ∷ es) own;
      start = subst (λ n. before_enter n new.history ≡ before_enter n late.walker.history) last r.before ∙ before;
      low_is = r.low_is ∙ ap counts (subst (λ n. before_enter n late.walker.history ≡ k.enter.past) (sym last) before);
      high_is = r.high_is;
    }
