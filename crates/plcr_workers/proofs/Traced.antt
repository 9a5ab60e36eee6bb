-- What the statements of a script tell, each by what it did: the lines, stays and files of the script, whatever other workers did meanwhile.
use Rattle.std.proofs.Common.{◌≡◌, ℕ, suc, ◌≤◌, Bool, true, false, List, [], ◌∷◌, ◌++◌, length, Option, Some, refl, sym, ap, ◌∙◌, subst, arith}
use Rattle.plcr_machine.proofs.Growing.{changes-grows}
use Rattle.plcr_machine.specs.declared.entry.Entry.{Entry}
use Rattle.plcr_machine.specs.declared.entry.Entry.TheVariants.{Announce, Enter, Leave, Retire}
use Rattle.plcr_machine.specs.declared.image.Image.{Image}
use Rattle.plcr_machine.specs.Lists.{Grows}
use Rattle.plcr_machine.specs.Parts.{own_entries}
use Rattle.plcr_machine.specs.Changes.{all_named}
use Rattle.plcr_nodes.proofs.Seeing.{grows_again}
use Rattle.plcr_imagelist.specs.Holds.{WalkerState, HoldState, IsHeld, IsReleased}
use Rattle.plcr_imagelist.specs.Carrying.{OnlySees}
use Rattle.plcr_imagelist.specs.Walk.{images_of}
use Rattle.plcr_imagelist.proofs.Sees.{met_few, sees_again}
use Rattle.plcr_macho.specs.Images.{Listed}
use Rattle.plcr_run.specs.Walks.{IsFurther, IsToEnd}
use Rattle.plcr_script.specs.declared.statements.Statement.{Statement}
use Rattle.plcr_script.specs.declared.statements.Statement.TheVariants as stated
use Rattle.plcr_script.specs.declared.statements.NumberedStatement.{NumberedStatement}
use Rattle.plcr_script.specs.Reading.{files_of}
use Rattle.plcr_imagelist.proofs.Looking.{went_again}
use Rattle.plcr_workers.specs.declared.acting.Took.{Took}
use Rattle.plcr_workers.specs.declared.acting.Took.TheVariants.{Silent, Said, Unwritten}
use Rattle.plcr_workers.specs.declared.lines.PassLine.{PassLine}
use Rattle.plcr_workers.specs.declared.lines.PassSaid.TheVariants.{Entered, Walked, Left, Reported}
use Rattle.plcr_workers.specs.declared.places.Place.{Place}
use Rattle.plcr_workers.specs.declared.places.Place.TheVariants.{Out, In}
use Rattle.plcr_workers.specs.inner.Moves.{ReportsFrom}
use Rattle.plcr_workers.specs.inner.Places.{PassGoes}
use Rattle.plcr_workers.specs.inner.Traces.{IsWell, lines_said}
use Rattle.plcr_workers.specs.inner.Visits.{KnownStay, IsKnownStay, stay_by}
use Rattle.plcr_workers.specs.Scripts.{IsReport, HasWindow, Tells}
use Rattle.plcr_workers.specs.Scripts.{Out as OutSpot, In as InSpot}
use Rattle.plcr_workers.specs.Stays.{FollowOn}
use Rattle.plcr_workers.proofs.Further.{to_end_rises, to_end_still, went_further}
use Rattle.plcr_workers.proofs.Passing.{released}
use Rattle.plcr_workers.proofs.Reported.{named_on, same_listed}
use Rattle.plcr_workers.proofs.Stayed.{World, Opening, IsOpen, Opened, OutTold, InTold, Told, IsEarlier, IsLater, by_names, pairs, own_before, own_inside}
use Rattle.plcr_workers.proofs.Visited.{pass_number, stay_of, stay_made, stay_later, window_is, stay_entries}

abbrev pub is_in : Place → Bool
is_in (Out p) = false
is_in (In hold) = true

-- what is known round a statement on a line: the freshness of what is entered behind it, and of what was left by it
pub record Around (W : World) (number : ℕ) (p mid : WalkerState) : Type 0 where
  pub number_is : p.number ≡ W.script
  pub goes : PassGoes p mid
  pub earlier : IsEarlier W number p.history
  pub later : IsLater W (Some number) mid.history
  pub to_final : PassGoes mid W.final

abbrev pub one : ℕ → Statement → NumberedStatement
one number statement = record { line = number; statement = statement }

-- a statement that said and wrote just this
pub as_said : (W : World) (at : ℕ) (statements : List NumberedStatement) (p : Place) (o : Opened W p) (took said : Took) (reports wrote : List (List ℕ)) (more : List PassLine) (later : List (List ℕ)) → took ≡ said → reports ≡ wrote
    → Told W at statements p o (lines_said at said ++ more) (wrote ++ later) → Told W at statements p o (lines_said at took ++ more) (reports ++ later)
as_said W at statements p o took said reports wrote more later e f told =
    subst (λ (t : Took). Told W at statements p o (lines_said at t ++ more) (reports ++ later)) (sym e)
    (subst (λ (r : List (List ℕ)). Told W at statements p o (lines_said at said ++ more) (r ++ later)) (sym f) told)

-- ---- a statement that only hears

-- a line of the script that may stand in another's place, where what comes behind is told
abbrev pub SameTells : World → ℕ → NumberedStatement → List NumberedStatement → Type 0
SameTells W at s statements = (spot : _) (lines : List PassLine) (stays : _) (wrote : List (List ℕ)) → Tells W.process (suc at) statements spot lines stays (pairs (files_of statements) wrote) → Tells W.process at (s ∷ statements) spot lines stays (pairs (files_of (s ∷ statements)) wrote)

pub heard_out : (W : World) (at : ℕ) (s : NumberedStatement) (statements : List NumberedStatement) (old new : WalkerState) (lines : List PassLine) (wrote : List (List ℕ)) → SameTells W at s statements → old.number ≡ W.script → OnlySees old new
    → OutTold W (suc at) statements new lines wrote → OutTold W at (s ∷ statements) old lines wrote
heard_out W at s statements old new lines wrote same number sees r = record {
  stays = r.stays;
  good = r.good;
  follow = subst (λ (es : List Entry). FollowOn W.script es (by_names W.names r.stays) (own_entries W.script W.final.history)) (subst (λ n. own_entries n new.history ≡ own_entries n old.history) number sees.own) r.follow;
  tells = same OutSpot lines (by_names W.names r.stays) wrote r.tells;
}

pub heard_in : (W : World) (at : ℕ) (s : NumberedStatement) (statements : List NumberedStatement) (o : Opening) (old new : HoldState) (lines : List PassLine) (wrote : List (List ℕ)) → SameTells W at s statements → new.met ≡ old.met → new.ended ≡ old.ended
    → InTold W (suc at) statements o new lines wrote → InTold W at (s ∷ statements) o old lines wrote
heard_in W at s statements o old new lines wrote same met ended r =
    let many : length new.met ≡ length old.met = ap length met in
    record {
      stay = r.stay;
      enter_is = r.enter_is;
      before_is = r.before_is;
      known = r.known;
      later = r.later;
      few = (let f = r.few in omega (arith, f, many));
      whole = λ e. (let w = r.whole (ended ∙ e) in (w.0, w.1 ∙ many));
      own_before = r.own_before;
      own_inside = r.own_inside;
      stays = r.stays;
      good = r.good;
      follow = r.follow;
      tells = same (InSpot (stay_by W.names r.stay) (length old.met) old.ended) lines (by_names W.names r.stays) wrote
          (subst (λ n. Tells W.process (suc at) statements (InSpot (stay_by W.names r.stay) n old.ended) lines (by_names W.names r.stays) (pairs (files_of statements) wrote)) many
          (subst (λ b. Tells W.process (suc at) statements (InSpot (stay_by W.names r.stay) (length new.met) b) lines (by_names W.names r.stays) (pairs (files_of statements) wrote)) ended r.tells));
    }

-- ---- freshness and entries

pub earlier_on : (W : World) (number : ℕ) (h k : List Entry) → Grows h k → IsEarlier W number h → IsEarlier W number k
earlier_on W number h k grows e before line after is own less =
    let few = e before line after is own less in
    let more = changes-grows h k grows in
    omega (arith, few, more)

before_grows : (was : WalkerState) (early : HoldState) (held : IsHeld was early) → Grows was.history held.enter.past
before_grows was early held =
    let announced : held.announced.history ≡ Announce was.number held.seen ∷ held.announce.past = ap (λ (s : WalkerState). s.history) held.announce.now in
    grows_again was.history held.announced.history held.enter.past
    (grows_again was.history held.announce.past held.announced.history held.announce.sees.added.grows (Announce was.number held.seen ∷ [], announced)) held.enter.sees.added.grows

pub named_count : (names : List (List ℕ)) (met : List Image) → length (all_named names met) ≡ length met
named_count names [] = refl
named_count names (x ∷ met) = ap suc (named_count names met)

-- a stay that was closed
abbrev pub closed : (o : Opening) (late : HoldState) (new : WalkerState) (low high : ℕ) → Option ℕ → IsReleased late new low high → KnownStay
closed o late new low high leave out = stay_of o.enter leave o.was new o.early late low high o.held out

pub closed_known : (W : World) (o : Opening) (late : HoldState) (new : WalkerState) (low high : ℕ) (leave : Option ℕ) (is : IsOpen W o late) (out : IsReleased late new low high) → IsKnownStay new (closed o late new low high leave out)
closed_known W o late new low high leave is out =
    stay_made o.was new o.early late low high o.enter leave o.held is.sees out is.walking ((released late new low high out).number ∙ pass_number o.was o.early late o.held is.sees)

pub closed_later : (W : World) (o : Opening) (late : HoldState) (new : WalkerState) (low high : ℕ) (leave : Option ℕ) (is : IsOpen W o late) (out : IsReleased late new low high) → IsLater W leave new.history → IsLater W leave out.leave.past
closed_later W o late new low high leave is out later before line after e own behind =
    let few = later before line after e own behind in
    let more = changes-grows (Leave new.number ∷ out.leave.past) new.history (closed_known W o late new low high leave is out).left in
    omega (arith, few, more)

pub closed_before : (W : World) (o : Opening) → o.was.number ≡ W.script → own_entries W.script o.held.enter.past ≡ Announce W.script o.held.seen ∷ own_entries W.script o.was.history
closed_before W o number = subst (λ n. own_entries n o.held.enter.past ≡ Announce n o.held.seen ∷ own_entries n o.was.history) number (own_before o.was o.early o.held)

pub closed_inside : (W : World) (o : Opening) (late : HoldState) (new : WalkerState) (low high : ℕ) (is : IsOpen W o late) (out : IsReleased late new low high)
    → own_entries W.script out.leave.past ≡ Enter W.script ∷ Announce W.script o.held.seen ∷ own_entries W.script o.was.history
closed_inside W o late new low high is out =
    subst (λ n. own_entries n out.leave.past ≡ Enter n ∷ Announce n o.held.seen ∷ own_entries n o.was.history) is.number (own_inside o.was new o.early late low high o.held is.sees out)

-- and what is told behind it follows it
pub closed_entries : (W : World) (o : Opening) (late : HoldState) (new : WalkerState) (low high : ℕ) (is : IsOpen W o late) (out : IsReleased late new low high)
    → own_entries W.script new.history ≡ Retire W.script ∷ Leave W.script ∷ Enter W.script ∷ Announce W.script o.held.seen ∷ own_entries W.script o.was.history
closed_entries W o late new low high is out =
    subst (λ n. own_entries n new.history ≡ Retire n ∷ Leave n ∷ Enter n ∷ Announce n o.held.seen ∷ own_entries n o.was.history) is.number (stay_entries o.was new o.early late low high o.held is.sees out)

pub closed_window : (W : World) (o : Opening) (late : HoldState) (new : WalkerState) (low high : ℕ) (leave : Option ℕ) (is : IsOpen W o late) (out : IsReleased late new low high) → HasWindow (stay_by W.names (closed o late new low high leave out)) low high
closed_window W o late new low high leave is out =
    let w = window_is o.was new o.early late low high o.held is.sees out in
    record { low_is = w.0; high_is = w.1 }

-- ---- it goes in

pub went_in : (W : World) (at number pass : ℕ) (statements : List NumberedStatement) (old : WalkerState) (new : HoldState) (held : IsHeld old new) (more : List PassLine) (later : List (List ℕ)) → Around W number old new.walker
    → InTold W (suc at) statements (record { was = old; early = new; held = held; enter = number }) new more later
    → OutTold W at (one number (stated.Enter pass) ∷ statements) old (record { at = at; said = Entered } ∷ more) later
went_in W at number pass statements old new held more later a r =
    let none : length new.met ≡ 0 = ap length held.start.0 in
    record {
      stays = r.stay ∷ r.stays;
      good = (
        record {
          known = r.known;
          earlier = subst (λ n. IsEarlier W n r.stay.before) (sym r.enter_is) (subst (λ (h : List Entry). IsEarlier W number h) (sym r.before_is) (earlier_on W number old.history held.enter.past (before_grows old new held) a.earlier));
          later = r.later;
        },
        r.good,
      );
      follow = (r.own_before, r.own_inside, r.follow);
      tells = (
        stay_by W.names r.stay,
        by_names W.names r.stays,
        more,
        refl,
        r.enter_is,
        refl,
        subst (λ n. Tells W.process (suc at) statements (InSpot (stay_by W.names r.stay) n false) more (by_names W.names r.stays) (pairs (files_of statements) later)) none
            (subst (λ b. Tells W.process (suc at) statements (InSpot (stay_by W.names r.stay) (length new.met) b) more (by_names W.names r.stays) (pairs (files_of statements) later)) held.start.1 r.tells),
      );
    }

-- ---- it walks on

pub walked_on : (W : World) (at number pass most : ℕ) (statements : List NumberedStatement) (o : Opening) (old new : HoldState) (more : List PassLine) (later : List (List ℕ)) → IsFurther old most new → InTold W (suc at) statements o new more later
    → InTold W at (one number (stated.Walk pass most) ∷ statements) o old (record { at = at; said = Walked (length new.met) new.ended } ∷ more) later
walked_on W at number pass most statements o old new more later further r =
    let went = went_further old new most further in
    let rises = went.rises in
    let few = r.few in
    let count = named_count W.names r.stay.met in
    record {
      stay = r.stay;
      enter_is = r.enter_is;
      before_is = r.before_is;
      known = r.known;
      later = r.later;
      few = omega (arith, rises, few);
      whole = λ e. (let s = went.still e in let w = r.whole s.0 in (w.0, w.1 ∙ s.1));
      own_before = r.own_before;
      own_inside = r.own_inside;
      stays = r.stays;
      good = r.good;
      follow = r.follow;
      tells = (
        length new.met,
        new.ended,
        more,
        refl,
        record {
          still = went.still;
          more = went.more;
          end = went.end;
          rises = rises;
          few = omega (arith, few, count);
          whole = λ e. (let w = r.whole e in (w.0, count ∙ w.1));
        },
        r.tells,
      );
    }

-- ---- it comes out

pub left_there : (W : World) (at number pass : ℕ) (statements : List NumberedStatement) (o : Opening) (old : HoldState) (new : WalkerState) (low high : ℕ) (more : List PassLine) (later : List (List ℕ)) → IsOpen W o old → IsReleased old new low high → Around W number old.walker new
    → OutTold W (suc at) statements new more later → InTold W at (one number (stated.Leave pass) ∷ statements) o old (record { at = at; said = Left (length old.met) low high } ∷ more) later
left_there W at number pass statements o old new low high more later is out a r =
    let stay = closed o old new low high (Some number) out in
    record {
      stay = stay;
      enter_is = refl;
      before_is = refl;
      known = stay_later new W.final stay a.to_final (closed_known W o old new low high (Some number) is out);
      later = closed_later W o old new low high (Some number) is out a.later;
      few = omega arith;
      whole = λ e. (e, refl);
      own_before = closed_before W o is.number;
      own_inside = closed_inside W o old new low high is out;
      stays = r.stays;
      good = r.good;
      follow = subst (λ (es : List Entry). FollowOn W.script es (by_names W.names r.stays) (own_entries W.script W.final.history)) (closed_entries W o old new low high is out) r.follow;
      tells = (
        low,
        high,
        more,
        refl,
        record { leave_is = refl; met_is = named_count W.names old.met; ended_is = refl },
        closed_window W o old new low high (Some number) is out,
        r.tells,
      );
    }

-- ---- it reports

-- what a report says that was written whole
record SaysWhole (report : List Listed → List ℕ) (late : HoldState) (low high bytes images from to : ℕ) (wrote : List (List ℕ)) : Type 0 where
  met_is : images ≡ length late.met
  from_is : from ≡ low
  to_is : to ≡ high
  bytes_is : bytes ≡ length (report (images_of late))
  wrote_is : wrote ≡ report (images_of late) ∷ []

-- the report of a stay that was closed
reported_is : (W : World) (number : ℕ) (o : Opening) (inside walked late : HoldState) (new : WalkerState) (low high bytes images : ℕ) (is : IsOpen W o late) (out : IsReleased late new low high) → PassGoes new W.final
    → IsToEnd inside walked → late.met ≡ walked.met → late.ended ≡ true → images ≡ length late.met → bytes ≡ length (W.process.report (images_of late))
    → IsReport W.process (stay_by W.names (closed o late new low high (Some number) out)) (length inside.met) inside.ended number bytes images (W.process.report (images_of late))
reported_is W number o inside walked late new low high bytes images is out goes to_end met ended many long =
    let rises = to_end_rises inside walked to_end in
    let same : length late.met ≡ length walked.met = ap length met in
    let names = went_again late.walker.names new.names W.names out.went (went_again new.names W.final.names W.names goes.went W.named) in
    record {
      left = record { leave_is = refl; met_is = named_count W.names late.met ∙ sym many; ended_is = ended };
      rises = omega (arith, rises, same, many);
      still = λ e. (many ∙ same ∙ to_end_still inside walked to_end e);
      written_is = ap W.process.report (sym (named_on late.walker.names W.names late.met names (λ x c. subst (λ n. x.load ≤ n) (sym is.walking.known.named) (met_few late is.walking x c))) ∙ same_listed W.names late.met);
      bytes_is = long;
    }

-- what a report tells of the stay that it closes, and what follows it
pub record Closes (W : World) (at number : ℕ) (file : List ℕ) (statements : List NumberedStatement) (o : Opening) (inside : HoldState) (took : Took) (wrote : List (List ℕ)) (more : List PassLine) (later : List (List ℕ)) : Type 0 where
  pub late : HoldState
  pub new : WalkerState
  pub low : ℕ
  pub high : ℕ
  pub out : IsReleased late new low high
  pub is : IsOpen W o late
  pub bytes : ℕ
  pub took_is : took ≡ Said (Reported bytes (length late.met) low high)
  pub wrote_is : wrote ≡ W.process.report (images_of late) ∷ []
  pub reported : IsReport W.process (stay_by W.names (closed o late new low high (Some number) out)) (length inside.met) inside.ended number bytes (length late.met) (W.process.report (images_of late))
  pub ended : late.ended ≡ true
  pub rises : length inside.met ≤ length late.met
  pub still : inside.ended ≡ true → length late.met ≡ length inside.met
  pub known : IsKnownStay W.final (closed o late new low high (Some number) out)
  pub later_is : IsLater W (Some number) out.leave.past
  pub told : OutTold W (suc at) statements new more later

pub closes : (W : World) (at number : ℕ) (file : List ℕ) (statements : List NumberedStatement) (o : Opening) (inside : HoldState) (new : WalkerState) (took : Took) (wrote : List (List ℕ)) (more : List PassLine) (later : List (List ℕ)) → IsOpen W o inside
    → PassGoes new W.final → IsLater W (Some number) new.history → IsWell took → ReportsFrom W.process.report inside new took wrote → OutTold W (suc at) statements new more later
    → Closes W at number file statements o inside took wrote more later
closes W at number file statements o inside new Silent wrote more later is goes fresh well f r = absurd f.says
closes W at number file statements o inside new (Said Entered) wrote more later is goes fresh well f r = absurd f.says
closes W at number file statements o inside new (Said (Walked met ended)) wrote more later is goes fresh well f r = absurd f.says
closes W at number file statements o inside new (Said (Left met from to)) wrote more later is goes fresh well f r = absurd f.says
closes W at number file statements o inside new Unwritten wrote more later is goes fresh well f r = absurd well
closes W at number file statements o inside new (Said (Reported bytes met from to)) wrote more later is goes fresh well f r =
    let says = f.says in
    let open_still : IsOpen W o f.late = record { number = is.number; sees = sees_again o.early.walker inside.walker f.late.walker is.sees f.sees; walking = f.walking } in
    let rises = to_end_rises inside f.walked f.to_end in
    let same : length f.late.met ≡ length f.walked.met = ap length f.met in
    record {
      late = f.late;
      new = new;
      low = f.low;
      high = f.high;
      out = f.out;
      is = open_still;
      bytes = bytes;
      took_is = λ i. Said (Reported bytes (says.0 i) (says.1 i) (says.2 i));
      wrote_is = says.4;
      reported = reported_is W number o inside f.walked f.late new f.low f.high bytes (length f.late.met) open_still f.out goes f.to_end f.met f.ended refl says.3;
      ended = f.ended;
      rises = omega (arith, rises, same);
      still = λ e. (same ∙ to_end_still inside f.walked f.to_end e);
      known = stay_later new W.final (closed o f.late new f.low f.high (Some number) f.out) goes (closed_known W o f.late new f.low f.high (Some number) open_still f.out);
      later_is = closed_later W o f.late new f.low f.high (Some number) open_still f.out fresh;
      told = r;
    }

pub reported_in : (W : World) (at number pass : ℕ) (file : List ℕ) (statements : List NumberedStatement) (o : Opening) (inside : HoldState) (took : Took) (wrote : List (List ℕ)) (more : List PassLine) (later : List (List ℕ))
    → Closes W at number file statements o inside took wrote more later → InTold W at (one number (stated.Report pass file) ∷ statements) o inside (lines_said at took ++ more) (wrote ++ later)
reported_in W at number pass file statements o inside took wrote more later c =
    let stay = closed o c.late c.new c.low c.high (Some number) c.out in
    record {
      stay = stay;
      enter_is = refl;
      before_is = refl;
      known = c.known;
      later = c.later_is;
      few = c.rises;
      whole = λ e. (c.ended, c.still e);
      own_before = closed_before W o c.is.number;
      own_inside = closed_inside W o c.late c.new c.low c.high c.is c.out;
      stays = c.told.stays;
      good = c.told.good;
      follow = subst (λ (es : List Entry). FollowOn W.script es (by_names W.names c.told.stays) (own_entries W.script W.final.history)) (closed_entries W o c.late c.new c.low c.high c.is c.out) c.told.follow;
      tells = (
        c.bytes,
        length c.late.met,
        c.low,
        c.high,
        W.process.report (images_of c.late),
        more,
        pairs (files_of statements) later,
        ap (λ (t : Took). lines_said at t ++ more) c.took_is,
        ap (λ (r : List (List ℕ)). pairs (file ∷ files_of statements) (r ++ later)) c.wrote_is,
        c.reported,
        closed_window W o c.late c.new c.low c.high (Some number) c.is c.out,
        c.told.tells,
      );
    }

pub reported_out : (W : World) (at number pass : ℕ) (file : List ℕ) (statements : List NumberedStatement) (old : WalkerState) (inside : HoldState) (held : IsHeld old inside) (took : Took) (wrote : List (List ℕ)) (more : List PassLine) (later : List (List ℕ))
    → IsEarlier W number old.history → Closes W at number file statements (record { was = old; early = inside; held = held; enter = number }) inside took wrote more later
    → OutTold W at (one number (stated.Report pass file) ∷ statements) old (lines_said at took ++ more) (wrote ++ later)
reported_out W at number pass file statements old inside held took wrote more later earlier c =
    let o : Opening = record { was = old; early = inside; held = held; enter = number } in
    let stay = closed o c.late c.new c.low c.high (Some number) c.out in
    let report = W.process.report (images_of c.late) in
    record {
      stays = stay ∷ c.told.stays;
      good = (record { known = c.known; earlier = earlier_on W number old.history held.enter.past (before_grows old inside held) earlier; later = c.later_is }, c.told.good);
      follow = (
        closed_before W o c.is.number,
        closed_inside W o c.late c.new c.low c.high c.is c.out,
        subst (λ (es : List Entry). FollowOn W.script es (by_names W.names c.told.stays) (own_entries W.script W.final.history)) (closed_entries W o c.late c.new c.low c.high c.is c.out) c.told.follow,
      );
      tells = (
        stay_by W.names stay,
        by_names W.names c.told.stays,
        refl,
        refl,
        (
          c.bytes,
          length c.late.met,
          c.low,
          c.high,
          report,
          more,
          pairs (files_of statements) later,
          ap (λ (t : Took). lines_said at t ++ more) c.took_is,
          ap (λ (r : List (List ℕ)). pairs (file ∷ files_of statements) (r ++ later)) c.wrote_is,
          subst (λ n. IsReport W.process (stay_by W.names stay) n false number c.bytes (length c.late.met) report) (ap length held.start.0)
              (subst (λ b. IsReport W.process (stay_by W.names stay) (length inside.met) b number c.bytes (length c.late.met) report) held.start.1 c.reported),
          closed_window W o c.late c.new c.low c.high (Some number) c.is c.out,
          c.told.tells,
        ),
      );
    }
