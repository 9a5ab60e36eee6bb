-- Reports stay what they are as the pass of a worker sees more, and are lawful in what the writer has seen.
use Rattle.std.proofs.Common.{◌≡◌, ◌≢◌, ◌⊎◌, inl, inr, ⊎_elim, ℕ, zero, suc, ◌+◌, ◌<◌, ◌≤◌, List, [], ◌∷◌, length, slice_index_or, Contains, Option, Some, None, IfSome, true, leb, leb-true, leb-false, refl, sym, ap, ◌∙◌, subst, length-append, arith}
use Rattle.plcr_machine.proofs.Cases.{by_cases, at_or_else}
use Rattle.plcr_machine.proofs.Rising.{contains_here, contains_later, contains_cases, contains_none}
use Rattle.plcr_machine.proofs.Growing.{changes-grows}
use Rattle.plcr_machine.proofs.Staying.{whole_stays}
use Rattle.plcr_machine.proofs.Renaming.{whole_named}
use Rattle.plcr_machine.specs.declared.image.Image.{Image}
use Rattle.plcr_machine.specs.Lists.{Grows, load_number, list_after, name_of}
use Rattle.plcr_machine.specs.Walks.{IsLawfulWalk}
use Rattle.plcr_machine.specs.Changes.{all_named}
use Rattle.plcr_macho.specs.Images.{Listed}
use Rattle.plcr_nodes.specs.Entries.{WentOn}
use Rattle.plcr_nodes.proofs.NamesKept.{name-older}
use Rattle.plcr_imagelist.specs.Holds.{WalkerState, HoldState, IsWalking, start_of}
use Rattle.plcr_imagelist.specs.States.{WriterState, IsAtRest}
use Rattle.plcr_imagelist.specs.Walk.{with_name, images_of}
use Rattle.plcr_imagelist.specs.Walk.{all_named as all_listed}
use Rattle.plcr_imagelist.proofs.Sees.{met_few}
use Rattle.plcr_script.specs.Meanings.{Meanings}
use Rattle.plcr_script.specs.RunTurns.{listed}
use Rattle.plcr_workers.specs.declared.drafts.Draft.{Draft}
use Rattle.plcr_workers.specs.declared.drafts.Progress.TheVariants.{Written, Failed}
use Rattle.plcr_workers.specs.declared.acting.Took.{Took}
use Rattle.plcr_workers.specs.inner.Drafts.{WritesNext, TakesOutputs, next_after}
use Rattle.plcr_workers.specs.inner.Places.{PassGoes}
use Rattle.plcr_workers.specs.inner.Reports.{IsHeldReport, HasReport, AreReports}
use Rattle.plcr_workers.proofs.Outputs.{here_is, there_is, long_is, written_of, failed_of, different, below_next, no_report_next, no_report_goes}
use Rattle.plcr_workers.specs.Stays.{lists}
use Rattle.plcr_workers.specs.Stopped.{IsLawfulReport}

-- what was met has its names as more come
pub named_on : (names more : List (List ℕ)) (met : List Image) → WentOn names more → ((x : Image) → Contains met x → x.load ≤ length names) → all_listed more met ≡ all_listed names met
named_on names more [] went short = refl
named_on names more (x ∷ met) went short =
    let here : name_of x.load more ≡ name_of x.load names = ap (name_of x.load) went.1 ∙ name-older x.load went.0 names (short x (contains_here x met)) in
    let rest = named_on names more met went (λ y c. short y (contains_later x y met c)) in
    λ i. record { header = x.header; name = here i } ∷ rest i

-- a report stays one as its pass sees more
pub held_later : (report : List Listed → List ℕ) (old new : WalkerState) (bytes : List ℕ) → PassGoes old new → IsHeldReport report old bytes → IsHeldReport report new bytes
held_later report old new bytes goes held = record {
  from = held.from;
  to = held.to;
  met = held.met;
  rises = held.rises;
  within = (let more = changes-grows old.history new.history goes.grows in let few = held.within in omega (arith, more, few));
  whole = whole_stays old.history new.history held.from held.to held.met goes.grows held.within held.whole;
  short = λ x c. (let few = held.short x c in let long = ap length goes.went.1 ∙ length-append goes.went.0 old.names in omega (arith, few, long));
  written = held.written ∙ ap report (sym (named_on old.names new.names held.met goes.went held.short));
}

pub report_later : {K : Type 0} (written : K → Option (List ℕ)) (report : List Listed → List ℕ) (old new : WalkerState) (before after : Draft K) → PassGoes old new → HasReport written report old before after → HasReport written report new before after
report_later written report old new before after goes h = record { bytes = h.bytes; tells = held_later report old new h.bytes goes h.tells; gains = h.gains }

-- a lawful walk doesn't end before it began: else each image would have been met
abbrev sum_of : List Image → ℕ
sum_of [] = 0
sum_of (x ∷ met) = x.load + sum_of met

load_most : (met : List Image) (x : Image) → Contains met x → x.load ≤ sum_of met
load_most [] x c = contains_none x c
load_most (y ∷ met) x c =
    ⊎_elim (λ (e : y ≡ x). let same = ap (λ (z : Image). z.load) e in omega (arith, same))
    (λ (d : Contains met x). let later = load_most met x d in omega (arith, later))
    (contains_cases y x met c)

pub lawful_rises : (lists : ℕ → List Image) (a b : ℕ) (met : List Image) → IsLawfulWalk load_number lists a b met → a ≤ b
lawful_rises lists a b met l =
    by_cases (leb a b) (leb-true a b)
    (λ f. let less = leb-false a b f in
    let big : Image = record { load = suc (sum_of met); header = 0; node = 0 } in
    let most = load_most met big (l.complete big (λ j from upto. absurd (omega (arith, less, from, upto)))) in
    absurd (omega (arith, most)))

-- the report of a walk that has ended
pub held_now : (report : List Listed → List ℕ) (hold : HoldState) → IsWalking hold → hold.ended ≡ true → IsHeldReport report hold.walker (report (images_of hold))
held_now report hold w ended =
    let e = w.whole ended in
    record {
      from = start_of hold.walker;
      to = e.0;
      met = hold.met;
      rises = lawful_rises (list_after hold.walker.history) (start_of hold.walker) e.0 hold.met e.1.lawful;
      within = e.1.within;
      whole = e.1.whole;
      short = λ x c. subst (λ n. x.load ≤ n) (sym w.known.named) (met_few hold w x c);
      written = refl;
    }

-- the same images, by both words for a name
pub same_listed : (names : List (List ℕ)) (met : List Image) → all_listed names met ≡ listed (all_named names met)
same_listed names [] = refl
same_listed names (x ∷ met) = ap (λ (l : List Listed). with_name names x ∷ l) (same_listed names met)

-- and it is lawful in what the writer has seen in the end
pub report_lawful : (process : Meanings) (image : WalkerState) (w : WriterState) (bytes : List ℕ) → IsAtRest w → Grows image.history w.history → WentOn image.names w.names → IsHeldReport process.report image bytes → IsLawfulReport process w bytes
report_lawful process image w bytes rest grows went held =
    let more = changes-grows image.history w.history grows in
    let few = held.within in
    let whole = whole_stays image.history w.history held.from held.to held.met grows held.within held.whole in
    record {
      from = held.from;
      to = held.to;
      met = all_named w.names held.met;
      rises = held.rises;
      within = omega (arith, more, few);
      lawful = (whole_named w.nodes w.passes w.names w.history rest.known.legal rest.first held.from held.to held.met whole).1;
      written = held.written ∙ ap process.report (sym (named_on image.names w.names held.met went held.short) ∙ same_listed w.names held.met);
    }

-- what is known of reports once outputs below a number were written: each of those is a report, and the others are as they were
pub record AreReported {K : Type 0} (written : K → Option (List ℕ)) (report : List Listed → List ℕ) (image : WalkerState) (next : ℕ) (first drafts : List (Draft K)) : Type 0 where
  pub count : length drafts ≡ length first
  pub reported : (k : ℕ) (other : Draft K) → k < length drafts → k < next → HasReport written report image (slice_index_or first k other) (slice_index_or drafts k other)
  pub same : (k : ℕ) (other : Draft K) → k < length drafts → next ≤ k → slice_index_or drafts k other ≡ slice_index_or first k other

pub none_reported : {K : Type 0} (written : K → Option (List ℕ)) (report : List Listed → List ℕ) (image : WalkerState) (drafts : List (Draft K)) → AreReported written report image 0 drafts drafts
none_reported written report image drafts = record { count = refl; reported = λ k other less below. absurd (omega (arith, below)); same = λ k other less above. refl }

reported_later : {K : Type 0} (written : K → Option (List ℕ)) (report : List Listed → List ℕ) (old new : WalkerState) (next : ℕ) (first drafts : List (Draft K)) → PassGoes old new → AreReported written report old next first drafts → AreReported written report new next first drafts
reported_later written report old new next first drafts goes s = record {
  count = s.count;
  reported = λ k other less below. report_later written report old new (slice_index_or first k other) (slice_index_or drafts k other) goes (s.reported k other less below);
  same = s.same;
}

pub get_or_any : {A : Type 0} (xs : List A) (n : ℕ) (c d : A) → n < length xs → slice_index_or xs n c ≡ slice_index_or xs n d
get_or_any [] n c d less = absurd (omega (arith, less))
get_or_any (x ∷ xs) zero c d less = refl
get_or_any (x ∷ xs) (suc n) c d less = get_or_any xs n c d (omega (arith, less))

-- one output more
reported_more : {K : Type 0} (written : K → Option (List ℕ)) (report : List Listed → List ℕ) (image : WalkerState) (faults : K → ℕ) (next : ℕ) (took : Took) (first old new : List (Draft K)) (w : WritesNext faults (HasReport written report image) next took old new)
    → next < length old → HasReport written report image (slice_index_or old next w.is) w.is → AreReported written report image next first old → AreReported written report image (next + 1) first new
reported_more {K} written report image faults next took first old new w within is s =
    let tells = HasReport written report image in
    let long = long_is faults tells next took old new w in
    record {
      count = long ∙ s.count;
      reported = λ k other less below. at_or_else next k
          (λ (e : next ≡ k). subst (λ n. HasReport written report image (slice_index_or first n other) (slice_index_or new n other)) e
          (subst (HasReport written report image (slice_index_or first next other)) (sym (here_is faults tells next took old new w other within))
          (subst (λ (d : Draft K). HasReport written report image d w.is) (get_or_any old next w.is other within ∙ s.same next other within (omega arith)) is)))
          (λ f. let not_next = different next k f in
          subst (HasReport written report image (slice_index_or first k other)) (sym (there_is faults tells next took old new w k other not_next)) (s.reported k other (omega (arith, less, long)) (below_next k next not_next below)));
      same = λ k other less above.
          let not_next : k ≢ next = λ e. absurd (omega (arith, above, e)) in
          there_is faults tells next took old new w k other not_next ∙ s.same k other (omega (arith, less, long)) (omega (arith, above));
    }

-- a statement was taken, and no output failed
pub reported_on : {K : Type 0} (written : K → Option (List ℕ)) (report : List Listed → List ℕ) (was now : WalkerState) (faults : K → ℕ) (next more : ℕ) (file : Option (List ℕ)) (took : Took) (first old new : List (Draft K))
    → PassGoes was now → IfSome file (λ f. next < length old) → AreReported written report was next first old → TakesOutputs faults (HasReport written report now) next file took old new → next_after took next ≡ Some more
    → AreReported written report now more first new
reported_on {K} written report was now faults next more None took first old new goes within s t after =
    subst (λ n. AreReported written report now n first new) (sym (no_report_next took next more t.1 after))
    (subst (λ (l : List (Draft K)). AreReported written report now next first l) (sym t.0) (reported_later written report was now next first old goes s))
reported_on {K} written report was now faults next more (Some file) took first old new goes within s w after =
    let did = written_of faults (HasReport written report now) took next more (slice_index_or old next w.is) w.is (w.did w.is) after in
    subst (λ n. AreReported written report now n first new) (sym did.0)
    (reported_more written report now faults next took first old new w within did.2 (reported_later written report was now next first old goes s))

reported_all : {K : Type 0} (written : K → Option (List ℕ)) (report : List Listed → List ℕ) (image : WalkerState) (next : ℕ) (first drafts : List (Draft K)) → AreReported written report image next first drafts
    → (k : ℕ) (other : Draft K) → k < length first → (slice_index_or drafts k other ≡ slice_index_or first k other) ⊎ HasReport written report image (slice_index_or first k other) (slice_index_or drafts k other)
reported_all {K} written report image next first drafts s k other less =
    let many = s.count in
    by_cases (leb next k)
    (λ t. inl (s.same k other (omega (arith, less, many)) (leb-true next k t)))
    (λ f. inr (s.reported k other (omega (arith, less, many)) (leb-false next k f)))

failed_apart : {K : Type 0} (draft : Draft K) → draft.progress ≡ Failed → draft.progress ≡ Written → ⊥
failed_apart draft f w = apart (sym f ∙ w)
  where
    apart : Failed ≡ Written → ⊥
    apart e = absurd cc

-- where an output failed, those before it are reports, and those behind it are as they were
pub reported_cut : {K : Type 0} (written : K → Option (List ℕ)) (report : List Listed → List ℕ) (was now : WalkerState) (faults : K → ℕ) (next : ℕ) (file : Option (List ℕ)) (took : Took) (first old new : List (Draft K))
    → PassGoes was now → IfSome file (λ f. next < length old) → AreReported written report was next first old → TakesOutputs faults (HasReport written report now) next file took old new → next_after took next ≡ None
    → AreReports written report now first new
reported_cut {K} written report was now faults next None took first old new goes within s t after = absurd (no_report_goes took next t.1 after)
reported_cut {K} written report was now faults next (Some file) took first old new goes within s w after = λ k other less is.
    let tells = HasReport written report now in
    let long = long_is faults tells next took old new w in
    let many = s.count in
    let did = failed_of faults tells took next (slice_index_or old next w.is) w.is (w.did w.is) after in
    at_or_else next k
    (λ (e : next ≡ k). absurd (failed_apart w.is did.0 (ap (λ (d : Draft K). d.progress) (sym (here_is faults tells next took old new w other within)) ∙ subst (λ n. (slice_index_or new n other).progress ≡ Written) (sym e) is)))
    (λ f.
    let there = there_is faults tells next took old new w k other (different next k f) in
    let was_it = reported_all written report now next first old (reported_later written report was now next first old goes s) k other less in
    subst (λ (d : Draft K). (d ≡ slice_index_or first k other) ⊎ HasReport written report now (slice_index_or first k other) d) (sym there) was_it)

-- each output that was written whole is a report, or was so from the first
pub all_reported : {K : Type 0} (written : K → Option (List ℕ)) (report : List Listed → List ℕ) (image : WalkerState) (next : ℕ) (first drafts : List (Draft K)) → AreReported written report image next first drafts → AreReports written report image first drafts
all_reported written report image next first drafts s k other less is = reported_all written report image next first drafts s k other less

pub reports_later : {K : Type 0} (written : K → Option (List ℕ)) (report : List Listed → List ℕ) (old new : WalkerState) (first drafts : List (Draft K)) → PassGoes old new → AreReports written report old first drafts → AreReports written report new first drafts
reports_later written report old new first drafts goes r k other less is =
    ⊎_elim (λ (same : slice_index_or drafts k other ≡ slice_index_or first k other). inl same)
    (λ (h : HasReport written report old (slice_index_or first k other) (slice_index_or drafts k other)). inr (report_later written report old new (slice_index_or first k other) (slice_index_or drafts k other) goes h))
    (r k other less is)
