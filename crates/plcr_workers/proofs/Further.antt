-- How many images a walk met, and whether it has ended, by its calls.
use Rattle.std.proofs.Common.{◌≡◌, ⊎_elim, ℕ, zero, suc, ◌+◌, ◌<◌, ◌≤◌, Bool, true, false, length, refl, sym, ap, ◌∙◌, arith}
use Rattle.std.proofs.lemmas.Bool.{cases_Bool}
use Rattle.plcr_machine.proofs.Cases.{not_both}
use Rattle.plcr_imagelist.specs.Holds.{HoldState, IsNext}
use Rattle.plcr_run.specs.Walks.{Meeting, IsFurther, IsToEnd}
use Rattle.plcr_run.proofs.Walked.{met_more, met_end}

meeting_count : (count : ℕ) (s t : HoldState) → Meeting count s t → length t.met ≡ count + length s.met
meeting_count zero s t m = (let same = ap (λ (h : HoldState). length h.met) m in omega (arith, same))
meeting_count (suc count) s t m = let more = met_more m.0 t m.2 in let rest = meeting_count count s m.0 m.1 in omega (arith, more, rest)

-- a call that met one found a walk that had not ended, and didn't end it
met_goes : (s t : HoldState) → IsNext s true t → (s.ended ≡ false) × (t.ended ≡ false)
met_goes s t n =
    ⊎_elim
    (λ (e : s.ended ≡ true). not_both true refl (n.ended e).0)
    (λ (e : s.ended ≡ false). (e, ((n.goes e).met refl).0))
    (cases_Bool s.ended)

-- calls that each met one
meeting_still : (count : ℕ) (s t : HoldState) → Meeting count s t → s.ended ≡ true → (t ≡ s) × (count ≡ 0)
meeting_still zero s t m ended = (m, refl)
meeting_still (suc count) s t m ended =
    let before = meeting_still count s m.0 m.1 ended in
    not_both s.ended ended (sym (ap (λ (h : HoldState). h.ended) before.0) ∙ (met_goes m.0 t m.2).0)

meeting_goes : (count : ℕ) (s t : HoldState) → Meeting count s t → s.ended ≡ false → t.ended ≡ false
meeting_goes zero s t m going = ap (λ (h : HoldState). h.ended) m ∙ going
meeting_goes (suc count) s t m going = (met_goes m.0 t m.2).1

none_met : (s t : HoldState) → IsNext s false t → t.met ≡ s.met
none_met s t n =
    ⊎_elim
    (λ (e : s.ended ≡ true). ap (λ (h : HoldState). h.met) (n.ended e).1)
    (λ (e : s.ended ≡ false). ((n.goes e).end refl).2)
    (cases_Bool s.ended)

-- what a walk of at most so many calls comes to
pub record Went (base : ℕ) (was : Bool) (most met : ℕ) (ended : Bool) : Type 0 where
  pub still : was ≡ true → (ended ≡ true) × (met ≡ base)
  pub more : was ≡ false → ended ≡ false → met ≡ base + most
  pub end : was ≡ false → ended ≡ true → met < base + most
  pub rises : base ≤ met

pub went_further : (old new : HoldState) (most : ℕ) → IsFurther old most new → Went (length old.met) old.ended most (length new.met) new.ended
went_further old new most f =
    let count = meeting_count f.count old f.last f.meeting in
    ⊎_elim
    (λ (e : (f.count ≡ most) × (new ≡ f.last)).
    let all = e.0 in
    let same : length new.met ≡ length f.last.met = ap (λ (h : HoldState). length h.met) e.1 in
    record {
      still = λ ended.
          let s = meeting_still f.count old f.last f.meeting ended in
          (ap (λ (h : HoldState). h.ended) (e.1 ∙ s.0) ∙ ended, ap (λ (h : HoldState). length h.met) (e.1 ∙ s.0));
      more = λ going unended. omega (arith, count, all, same);
      end = λ going ended. not_both new.ended ended (ap (λ (h : HoldState). h.ended) e.1 ∙ meeting_goes f.count old f.last f.meeting going);
      rises = omega (arith, count, same);
    })
    (λ (e : (f.count < most) × IsNext f.last false new).
    let few = e.0 in
    let same : length new.met ≡ length f.last.met = ap length (none_met f.last new e.1) in
    record {
      still = λ ended.
          let s = meeting_still f.count old f.last f.meeting ended in
          (met_end f.last new e.1, same ∙ ap (λ (h : HoldState). length h.met) s.0);
      more = λ going unended. not_both new.ended (met_end f.last new e.1) unended;
      end = λ going ended. omega (arith, count, few, same);
      rises = omega (arith, count, same);
    })
    f.end

-- and one to its end
pub to_end_rises : (old new : HoldState) → IsToEnd old new → length old.met ≤ length new.met
to_end_rises old new f =
    let count = meeting_count f.count old f.last f.meeting in
    let same = ap length (none_met f.last new f.end) in
    omega (arith, count, same)

pub to_end_still : (old new : HoldState) → IsToEnd old new → old.ended ≡ true → length new.met ≡ length old.met
to_end_still old new f ended = ap length (none_met f.last new f.end) ∙ ap (λ (h : HoldState). length h.met) (meeting_still f.count old f.last f.meeting ended).0
