-- Stays of a pass, from where it comes out on: they stay what they are as it sees more, and are stays in what the writer has seen.
use Rattle.std.proofs.Common.{◌≡◌, ℕ, ◌≤◌, List, [], ◌∷◌, length, Option, refl, sym, ap, ◌∙◌, subst, length-append, arith}
use Rattle.plcr_machine.proofs.Growing.{changes-grows, meets-grows, meets_until}
use Rattle.plcr_machine.proofs.Pace.{paced_prefix, paced_even}
use Rattle.plcr_machine.proofs.Renaming.{met_named, whole_named}
use Rattle.plcr_machine.proofs.Staying.{whole_stays, lawful_wider}
use Rattle.plcr_machine.specs.declared.entry.Entry.{Entry}
use Rattle.plcr_machine.specs.declared.entry.Entry.TheVariants.{Announce, Enter, Leave, Retire}
use Rattle.plcr_machine.specs.Lists.{Grows, load_number, changes, list_after}
use Rattle.plcr_machine.specs.Walks.{Meets, IsWholeWalk}
use Rattle.plcr_machine.specs.Changes.{load_of}
use Rattle.plcr_machine.specs.Holds.{before_enter}
use Rattle.plcr_machine.specs.Parts.{own_entries}
use Rattle.plcr_machine.specs.Passes.{counts}
use Rattle.plcr_nodes.proofs.Seeing.{grows_again}
use Rattle.plcr_imagelist.specs.Holds.{WalkerState, HoldState, IsWalking, IsHeld, IsReleased, start_of}
use Rattle.plcr_imagelist.specs.Carrying.{OnlySees}
use Rattle.plcr_imagelist.specs.States.{WriterState, IsAtRest}
use Rattle.plcr_imagelist.proofs.Sees.{met_few}
use Rattle.plcr_workers.specs.inner.Places.{PassGoes}
use Rattle.plcr_workers.specs.inner.Visits.{KnownStay, IsKnownStay, stay_by}
use Rattle.plcr_workers.specs.Stays.{IsStay, lists}
use Rattle.plcr_workers.proofs.Reported.{lawful_rises}

-- what the pass had seen where it came out has no more changes than what it knows
inside_within : (pass : ℕ) (inside history : List Entry) → Grows (Leave pass ∷ inside) history → changes inside ≤ changes history
inside_within pass inside history left = changes-grows (Leave pass ∷ inside) history left

-- a stay stays one as its pass sees more
pub stay_later : (old new : WalkerState) (k : KnownStay) → PassGoes old new → IsKnownStay old k → IsKnownStay new k
stay_later old new k goes s =
    let few = inside_within old.number k.inside old.history s.left in
    record {
      entered = subst (λ n. Grows (Enter n ∷ k.before) k.inside) (sym goes.number) s.entered;
      left = subst (λ n. Grows (Leave n ∷ k.inside) new.history) (sym goes.number) (grows_again (Leave old.number ∷ k.inside) old.history new.history s.left goes.grows);
      meets = meets-grows old.history new.history 0 (changes k.before) (changes k.inside) k.met goes.grows few s.meets;
      whole = λ e. (let w = s.whole e in (w.0, w.1, w.2, whole_stays old.history new.history (changes k.before) w.0 k.met goes.grows (let upto = w.2 in omega (arith, upto, few)) w.3));
      short = λ x c. (let some = s.short x c in let long = ap length goes.went.1 ∙ length-append goes.went.0 old.names in omega (arith, some, long));
    }

-- and is one by names in what the writer has seen
pub stay_is : (image : WalkerState) (w : WriterState) (k : KnownStay) → IsAtRest w → Grows image.history w.history → IsKnownStay image k → IsStay w image.number (stay_by w.names k)
stay_is image w k rest grows s =
    let few = inside_within image.number k.inside image.history s.left in
    let left = grows_again (Leave image.number ∷ k.inside) image.history w.history s.left grows in
    let inside = grows_again k.inside (Leave image.number ∷ k.inside) w.history (Leave image.number ∷ [], refl) left in
    let before = grows_again k.before k.inside w.history (grows_again k.before (Enter image.number ∷ k.before) k.inside (Enter image.number ∷ [], refl) s.entered) inside in
    let meets = meets-grows image.history w.history 0 (changes k.before) (changes k.inside) k.met grows few s.meets in
    let named = met_named w.nodes w.passes w.names w.history rest.known.legal rest.first (changes k.before) (changes k.inside) k.met meets in
    record {
      entered = s.entered;
      left = left;
      pace = (paced_even k.before (paced_prefix k.before w.history rest.paced before), paced_even k.inside (paced_prefix k.inside w.history rest.paced inside));
      rises = named.1;
      listed = named.2;
      lawful = λ e.
          let whole = s.whole e in
          let upto = whole.2 in
          let all = whole_named w.nodes w.passes w.names w.history rest.known.legal rest.first (changes k.before) whole.0 k.met (whole_stays image.history w.history (changes k.before) whole.0 k.met grows (omega (arith, upto, few)) whole.3) in
          lawful_wider load_of (lists w) (changes k.before) whole.0 (changes k.before) (changes k.inside) _ (omega arith) whole.1 upto all.1;
    }

-- what a pass did from where it went in to where it came out, as a stay between these lines
abbrev pub stay_of : ℕ → Option ℕ → (was new : WalkerState) (early late : HoldState) (low high : ℕ) → IsHeld was early → IsReleased late new low high → KnownStay
stay_of enter leave was new early late low high held out = record { enter = enter; leave = leave; announced = held.seen; before = held.enter.past; inside = out.leave.past; met = late.met; ended = late.ended }

pub pass_number : (was : WalkerState) (early late : HoldState) → IsHeld was early → OnlySees early.walker late.walker → late.walker.number ≡ was.number
pass_number was early late held sees = ap (λ (s : WalkerState). s.number) sees.now ∙ ap (λ (s : WalkerState). s.number) held.enter.now ∙ ap (λ (s : WalkerState). s.number) held.announce.now

went_in : (was : WalkerState) (early late : HoldState) (held : IsHeld was early) → OnlySees early.walker late.walker → before_enter was.number late.walker.history ≡ held.enter.past
went_in was early late held sees =
    let first : early.walker.number ≡ was.number = ap (λ (s : WalkerState). s.number) held.enter.now ∙ ap (λ (s : WalkerState). s.number) held.announce.now in
    subst (λ n. before_enter n late.walker.history ≡ before_enter n early.walker.history) first sees.before ∙ held.before

came_out : (late : HoldState) (new : WalkerState) (low high : ℕ) (out : IsReleased late new low high) → Grows (Leave late.walker.number ∷ out.leave.past) new.history
came_out late new low high out =
    subst (λ (s : WalkerState). Grows (Leave late.walker.number ∷ out.leave.past) s.history) (sym out.retire.now)
    (grows_again (Leave late.walker.number ∷ out.leave.past) out.retire.past (Retire late.walker.number ∷ out.retire.past)
    (subst (λ (s : WalkerState). Grows s.history out.retire.past) out.leave.now out.retire.sees.added.grows) (Retire late.walker.number ∷ [], refl))

pub stay_made : (was new : WalkerState) (early late : HoldState) (low high enter : ℕ) (leave : Option ℕ) (held : IsHeld was early) (sees : OnlySees early.walker late.walker) (out : IsReleased late new low high) → IsWalking late → new.number ≡ was.number
    → IsKnownStay new (stay_of enter leave was new early late low high held out)
stay_made was new early late low high enter leave held sees out walking same =
    let before = held.enter.past in
    let inside = out.leave.past in
    let number : late.walker.number ≡ new.number = pass_number was early late held sees ∙ sym same in
    let start : start_of late.walker ≡ changes before = ap changes (ap (λ n. before_enter n late.walker.history) (pass_number was early late held sees) ∙ went_in was early late held sees) in
    let seen = out.leave.sees.added.grows in
    let later = changes-grows late.walker.history inside seen in
    let left = subst (λ n. Grows (Leave n ∷ inside) new.history) number (came_out late new low high out) in
    let whole_history = grows_again late.walker.history inside new.history seen (grows_again inside (Leave new.number ∷ inside) new.history (Leave new.number ∷ [], refl) left) in
    let entered : Grows (Enter was.number ∷ before) inside =
    grows_again (Enter was.number ∷ before) late.walker.history inside (subst (λ (s : WalkerState). Grows s.history late.walker.history) held.enter.now sees.sees.added.grows) seen in
    record {
      entered = subst (λ n. Grows (Enter n ∷ before) inside) (sym same) entered;
      left = left;
      meets = subst (λ a. Meets load_number (list_after new.history) 0 a (changes inside) late.met) start
          (meets_until load_number (list_after new.history) 0 (start_of late.walker) (changes late.walker.history) (changes inside) late.met later
          (meets-grows late.walker.history new.history 0 (start_of late.walker) (changes late.walker.history) late.met whole_history (omega arith) walking.meets));
      whole = λ e.
          let ended = walking.whole e in
          let upto = ended.1.within in (
            ended.0,
            subst (λ a. a ≤ ended.0) start (lawful_rises (list_after late.walker.history) (start_of late.walker) ended.0 late.met ended.1.lawful),
            omega (arith, upto, later),
            subst (λ a. IsWholeWalk load_number (list_after new.history) a ended.0 late.met) start (whole_stays late.walker.history new.history (start_of late.walker) ended.0 late.met whole_history upto ended.1.whole),
          );
      short = λ x c. (let some = met_few late walking x c in let named = walking.known.named in let long = ap length out.went.1 ∙ length-append out.went.0 late.walker.names in omega (arith, some, named, long));
    }

-- and this is its window
pub window_is : (was new : WalkerState) (early late : HoldState) (low high : ℕ) (held : IsHeld was early) (sees : OnlySees early.walker late.walker) (out : IsReleased late new low high) → (low ≡ counts held.enter.past) × (high ≡ counts out.leave.past)
window_is was new early late low high held sees out =
    (out.low_is ∙ ap counts (ap (λ n. before_enter n late.walker.history) (pass_number was early late held sees) ∙ went_in was early late held sees), out.high_is)

-- of its own the pass made these four entries
pub stay_entries : (was new : WalkerState) (early late : HoldState) (low high : ℕ) (held : IsHeld was early) (sees : OnlySees early.walker late.walker) (out : IsReleased late new low high)
    → own_entries was.number new.history ≡ Retire was.number ∷ Leave was.number ∷ Enter was.number ∷ Announce was.number held.seen ∷ own_entries was.number was.history
stay_entries was new early late low high held sees out =
    let p : ℕ = was.number in
    let first : early.walker.number ≡ p = ap (λ (s : WalkerState). s.number) held.enter.now ∙ ap (λ (s : WalkerState). s.number) held.announce.now in
    let own : own_entries p late.walker.history ≡ Enter p ∷ Announce p held.seen ∷ own_entries p was.history = subst (λ n. own_entries n late.walker.history ≡ own_entries n early.walker.history) first sees.own ∙ held.own in
    subst (λ n. own_entries n new.history ≡ Retire n ∷ Leave n ∷ own_entries n late.walker.history) (pass_number was early late held sees) out.own ∙ ap (λ (es : List Entry). Retire p ∷ Leave p ∷ es) own
