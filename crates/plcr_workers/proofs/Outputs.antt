-- How many outputs of a script were taken, as its statements are.
use Rattle.std.proofs.Common.{◌≡◌, ◌≢◌, inl, inr, ℕ, zero, suc, ◌+◌, ◌<◌, ◌≤◌, List, [], ◌∷◌, ◌++◌, length, take, drop, get_or, slice_get, slice_set, slice_index_or, All, Option, Some, None, unwrap_or, eqb, true, false, refl, sym, ap, ◌∙◌, subst, length-append, append-nil, arith}
use Rattle.std.specs.Prelude.{filter_map, is_some, IfSome}
use Rattle.std.proofs.lemmas.List.{take_more, get_or-set_same, get_or-set_other, length-set, take-append-drop}
use Rattle.std.proofs.lemmas.List.Elements.{filter_map-append}
use Rattle.std.proofs.lemmas.Option.{slice_get_within, get_or_from_slice_get}
use Rattle.plcr_base.specs.Causes.{Rose}
use Rattle.plcr_machine.proofs.Cases.{at_or_else, not_both, eqb_same}
use Rattle.plcr_script.specs.declared.statements.NumberedStatement.{NumberedStatement}
use Rattle.plcr_script.specs.declared.statements.Statement.{Statement}
use Rattle.plcr_script.specs.declared.statements.Statement.TheVariants as said
use Rattle.plcr_turns.specs.declared.lines.Asked.{Asked}
use Rattle.plcr_script.specs.Reading.{file_of, files_of}
use Rattle.plcr_workers.specs.declared.acting.Took.{Took}
use Rattle.plcr_workers.specs.declared.acting.Took.TheVariants.{Silent, Said, Unwritten}
use Rattle.plcr_workers.specs.declared.lines.PassSaid.TheVariants.{Entered, Walked, Left, Reported}
use Rattle.plcr_workers.specs.declared.drafts.Draft.{Draft}
use Rattle.plcr_workers.specs.declared.drafts.Progress.TheVariants.{Written, Failed}
use Rattle.plcr_workers.specs.Asking.{asked_in}
use Rattle.plcr_workers.specs.inner.Outputs.{AreDone}
use Rattle.plcr_workers.specs.inner.Drafts.{IsOutput, WritesNext, TakesOutputs, AreUpTo, AreSamePlaces, IsNoReport, next_after}

-- the file of a statement, if it has one
abbrev pub own_files : Option (List ℕ) → List (List ℕ)
own_files None = []
own_files (Some file) = file ∷ []

one_file : (s : NumberedStatement) (file : Option (List ℕ)) → file_of s.statement ≡ file → files_of (s ∷ []) ≡ own_files file
one_file s None e = ap (λ (f : Option (List ℕ)). filter_map (λ (x : Option (List ℕ)). x) (f ∷ [])) e
one_file s (Some file) e = ap (λ (f : Option (List ℕ)). filter_map (λ (x : Option (List ℕ)). x) (f ∷ [])) e

-- the files of one statement more
pub files_next : (statements : List NumberedStatement) (at line : ℕ) (statement : Statement) → slice_get statements at ≡ Some (record { line = line; statement = statement })
    → files_of (take (at + 1) statements) ≡ files_of (take at statements) ++ own_files (file_of statement)
files_next statements at line statement e =
    let s : NumberedStatement = record { line = line; statement = statement } in
    let within = slice_get_within statements at s e in
    ap files_of (take_more statements at s within ∙ ap (λ (x : NumberedStatement). take at statements ++ x ∷ []) (get_or_from_slice_get statements at s s e))
    ∙ filter_map-append (λ (x : NumberedStatement). file_of x.statement) (take at statements) (s ∷ [])
    ∙ ap (λ (l : List (List ℕ)). files_of (take at statements) ++ l) (one_file s (file_of statement) refl)

-- no more files are written by the first statements than by all
pub few_files : (n : ℕ) (statements : List NumberedStatement) → length (files_of (take n statements)) ≤ length (files_of statements)
few_files n statements =
    let parts = ap files_of (sym (take-append-drop n statements)) ∙ filter_map-append (λ (x : NumberedStatement). file_of x.statement) (take n statements) (drop n statements) in
    let long = ap length parts ∙ length-append (files_of (take n statements)) (files_of (drop n statements)) in
    omega arith

-- a report has its output left
pub output_left : {K : Type 0} (statements : List NumberedStatement) (at line next : ℕ) (statement : Statement) (drafts : List (Draft K)) → slice_get statements at ≡ Some (record { line = line; statement = statement })
    → length drafts ≡ length (files_of statements) → next ≡ length (files_of (take at statements)) → IfSome (file_of statement) (λ file. next < length drafts)
output_left {K} statements at line next statement drafts e all so_many = of (file_of statement) refl
  where
    of : (file : Option (List ℕ)) → file_of statement ≡ file → IfSome file (λ f. next < length drafts)
    of None is = tt
    of (Some file) is =
        let more = ap length (files_next statements at line statement e ∙ ap (λ f. files_of (take at statements) ++ own_files f) is) ∙ length-append (files_of (take at statements)) (file ∷ []) in
        let most = few_files (at + 1) statements in
        omega arith

-- what is known of outputs once a statement was taken, and no output failed
pub record AreNext {K : Type 0} (faults : K → ℕ) (statements : List NumberedStatement) (at next : ℕ) (first drafts : List (Draft K)) : Type 0 where
  pub counted : next ≡ length (files_of (take at statements))
  pub few : next ≤ at
  pub up_to : AreUpTo faults next drafts
  pub places : AreSamePlaces first drafts

pub different : (m n : ℕ) → eqb m n ≡ false → n ≢ m
different m n f e = not_both (eqb m n) (subst (λ k. eqb m k ≡ true) (sym e) (eqb_same m)) f

some_next : {a b : ℕ} → Some a ≡ Some b → a ≡ b
some_next {a} {b} e = ap (λ (o : Option ℕ). unwrap_or o a) e

same_places : {K : Type 0} (faults : K → ℕ) (tells : Draft K → Draft K → Type 0) (next : ℕ) (took : Took) (first old new : List (Draft K)) → next < length old → AreSamePlaces first old → WritesNext faults tells next took old new → AreSamePlaces first new
same_places {K} faults tells next took first old new within s w =
    let long : length new ≡ length old = ap length w.new_is ∙ length-set old next w.is in
    record {
      count = long ∙ s.count;
      each = λ k other less. at_or_else next k
          (λ (e : next ≡ k).
          let did = w.did other in
          let here : slice_index_or new k other ≡ w.is = ap (λ (l : List (Draft K)). get_or l k other) w.new_is ∙ subst (λ (n : ℕ). get_or (slice_set old next w.is) n other ≡ w.is) e (get_or-set_same old next w.is other within) in
          let was = subst (λ n. ((slice_index_or old n other).script ≡ (slice_index_or first n other).script) × ((slice_index_or old n other).at ≡ (slice_index_or first n other).at)) (sym e) (s.each k other less) in
          let there = subst (λ n. ((w.is).script ≡ (slice_index_or first n other).script) × ((w.is).at ≡ (slice_index_or first n other).at)) e (did.script ∙ was.0, did.at ∙ was.1) in
          (ap (λ (d : Draft K). d.script) here ∙ there.0, ap (λ (d : Draft K). d.at) here ∙ there.1))
          (λ f.
          let there : slice_index_or new k other ≡ slice_index_or old k other = ap (λ (l : List (Draft K)). get_or l k other) w.new_is ∙ get_or-set_other old next k w.is other (different next k f) in
          let was = s.each k other less in
          (ap (λ (d : Draft K). d.script) there ∙ was.0, ap (λ (d : Draft K). d.at) there ∙ was.1));
    }

-- what an output that was written is, and what the others are
pub here_is : {K : Type 0} (faults : K → ℕ) (tells : Draft K → Draft K → Type 0) (next : ℕ) (took : Took) (old new : List (Draft K)) (w : WritesNext faults tells next took old new) (other : Draft K) → next < length old → slice_index_or new next other ≡ w.is
here_is {K} faults tells next took old new w other within = ap (λ (l : List (Draft K)). get_or l next other) w.new_is ∙ get_or-set_same old next w.is other within

pub there_is : {K : Type 0} (faults : K → ℕ) (tells : Draft K → Draft K → Type 0) (next : ℕ) (took : Took) (old new : List (Draft K)) (w : WritesNext faults tells next took old new) (k : ℕ) (other : Draft K) → k ≢ next → slice_index_or new k other ≡ slice_index_or old k other
there_is {K} faults tells next took old new w k other f = ap (λ (l : List (Draft K)). get_or l k other) w.new_is ∙ get_or-set_other old next k w.is other f

pub long_is : {K : Type 0} (faults : K → ℕ) (tells : Draft K → Draft K → Type 0) (next : ℕ) (took : Took) (old new : List (Draft K)) → WritesNext faults tells next took old new → length new ≡ length old
long_is {K} faults tells next took old new w = ap length w.new_is ∙ length-set old next w.is

pub below_next : (k next : ℕ) → k ≢ next → k < next + 1 → k < next
below_next zero zero f less = absurd (f refl)
below_next zero (suc n) f less = omega arith
below_next (suc k) zero f less = absurd (omega (arith, less))
below_next (suc k) (suc n) f less = let r = below_next k n (λ e. f (ap suc e)) (omega (arith, less)) in omega (arith, r)

up_to_more : {K : Type 0} (faults : K → ℕ) (tells : Draft K → Draft K → Type 0) (next : ℕ) (took : Took) (old new : List (Draft K)) (w : WritesNext faults tells next took old new) → next < length old → w.is.progress ≡ Written → AreUpTo faults next old → AreUpTo faults (next + 1) new
up_to_more {K} faults tells next took old new w within is up =
    let long = long_is faults tells next took old new w in
    record {
      written = λ k other less below. at_or_else next k
          (λ (e : next ≡ k). subst (λ n. (slice_index_or new n other).progress ≡ Written) e (ap (λ (d : Draft K). d.progress) (here_is faults tells next took old new w other within) ∙ is))
          (λ f. let not_next = different next k f in ap (λ (d : Draft K). d.progress) (there_is faults tells next took old new w k other not_next) ∙ up.written k other (omega (arith, less, long)) (below_next k next not_next below));
      waiting = λ k other less above.
          let not_next : k ≢ next = λ e. absurd (omega (arith, above, e)) in
          ap (λ (d : Draft K). faults d.out) (there_is faults tells next took old new w k other not_next) ∙ up.waiting k other (omega (arith, less, long)) (omega (arith, above));
    }

pub written_of : {K : Type 0} (faults : K → ℕ) (tells : Draft K → Draft K → Type 0) (took : Took) (next more : ℕ) (old new : Draft K) → IsOutput faults tells took old new → next_after took next ≡ Some more → (more ≡ next + 1) × (new.progress ≡ Written) × tells old new
written_of faults tells Silent next more old new o e = absurd o.written
written_of faults tells (Said Entered) next more old new o e = absurd o.written
written_of faults tells (Said (Walked met ended)) next more old new o e = absurd o.written
written_of faults tells (Said (Left met low high)) next more old new o e = absurd o.written
written_of faults tells (Said (Reported bytes images low high)) next more old new o e = (sym (some_next e), o.written.0, o.written.1)
written_of faults tells Unwritten next more old new o e = absurd cc

pub no_report_next : (took : Took) (next more : ℕ) → IsNoReport took → next_after took next ≡ Some more → more ≡ next
no_report_next Silent next more n e = sym (some_next e)
no_report_next (Said Entered) next more n e = sym (some_next e)
no_report_next (Said (Walked met ended)) next more n e = sym (some_next e)
no_report_next (Said (Left met low high)) next more n e = sym (some_next e)
no_report_next (Said (Reported bytes images low high)) next more n e = absurd n
no_report_next Unwritten next more n e = absurd n

pub taken_on : {K : Type 0} (faults : K → ℕ) (tells : Draft K → Draft K → Type 0) (statements : List NumberedStatement) (at line next more : ℕ) (statement : Statement) (took : Took) (first old new : List (Draft K)) → slice_get statements at ≡ Some (record { line = line; statement = statement })
    → length old ≡ length (files_of statements) → AreNext faults statements at next first old → TakesOutputs faults tells next (file_of statement) took old new → next_after took next ≡ Some more
    → AreNext faults statements (at + 1) more first new
taken_on {K} faults tells statements at line next more statement took first old new e all s takes after = of (file_of statement) refl takes
  where
    of : (file : Option (List ℕ)) → file_of statement ≡ file → TakesOutputs faults tells next file took old new → AreNext faults statements (at + 1) more first new
    of None is t =
        let same = no_report_next took next more t.1 after in
        let long = ap length (files_next statements at line statement e ∙ ap (λ f. files_of (take at statements) ++ own_files f) is ∙ append-nil (files_of (take at statements))) in
        let counted = s.counted in
        let few = s.few in
        record {
          counted = omega (arith, same, long, counted);
          few = omega (arith, same, few);
          up_to = subst (λ n. AreUpTo faults n new) (sym same) (subst (λ (l : List (Draft K)). AreUpTo faults next l) (sym t.0) s.up_to);
          places = subst (λ (l : List (Draft K)). AreSamePlaces first l) (sym t.0) s.places;
        }
    of (Some file) is w =
        let long = ap length (files_next statements at line statement e ∙ ap (λ f. files_of (take at statements) ++ own_files f) is) ∙ length-append (files_of (take at statements)) (file ∷ []) in
        let most = few_files (at + 1) statements in
        let counted = s.counted in
        let few = s.few in
        let within : next < length old = omega (arith, long, most, counted, all) in
        let did = written_of faults tells took next more (slice_index_or old next w.is) w.is (w.did w.is) after in
        let one = did.0 in
        record {
          counted = omega (arith, one, long, counted);
          few = omega (arith, one, few);
          up_to = subst (λ n. AreUpTo faults n new) (sym one) (up_to_more faults tells next took old new w within did.1 s.up_to);
          places = same_places faults tells next took first old new within s.places w;
        }

-- the first output that wasn't written whole has faults
done_upto : {K : Type 0} (faults : K → ℕ) (next : ℕ) (drafts : List (Draft K)) → ((k : ℕ) (other : Draft K) → k < length drafts → k < next → (slice_index_or drafts k other).progress ≡ Written)
    → ((other : Draft K) → next < length drafts → ((slice_index_or drafts next other).progress ≢ Written) × (0 < faults (slice_index_or drafts next other).out)) → AreDone faults drafts
done_upto faults next [] written failed = tt
done_upto faults zero (d ∷ ds) written failed = inr (failed d (omega arith))
done_upto faults (suc next) (d ∷ ds) written failed =
    inl (written 0 d (omega arith) (omega arith), done_upto faults next ds (λ k other less below. written (suc k) other (omega (arith, less)) (omega (arith, below))) (λ other less. failed other (omega (arith, less))))

take_past : (n : ℕ) (xs : List NumberedStatement) → length xs ≤ n → take n xs ≡ xs
take_past zero [] less = refl
take_past (suc n) [] less = refl
take_past zero (x ∷ xs) less = absurd (omega (arith, less))
take_past (suc n) (x ∷ xs) less = ap (λ (l : List NumberedStatement). x ∷ l) (take_past n xs (omega (arith, less)))

pub all_done : {K : Type 0} (faults : K → ℕ) (statements : List NumberedStatement) (at next : ℕ) (first drafts : List (Draft K)) → length drafts ≡ length (files_of statements) → length statements ≤ at → AreNext faults statements at next first drafts → AreDone faults drafts
all_done faults statements at next first drafts all past s =
    let counted = s.counted ∙ ap (λ l. length (files_of l)) (take_past at statements past) in
    done_upto faults next drafts s.up_to.written (λ other less. absurd (omega (arith, less, counted, all)))

rose_some : (a b : ℕ) → Rose a b → a ≡ 0 → 0 < b
rose_some a b (inl less) e = omega (arith, less)
rose_some a b (inr most) e = omega (arith, most)

pub failed_of : {K : Type 0} (faults : K → ℕ) (tells : Draft K → Draft K → Type 0) (took : Took) (next : ℕ) (old new : Draft K) → IsOutput faults tells took old new → next_after took next ≡ None → (new.progress ≡ Failed) × Rose (faults old.out) (faults new.out)
failed_of faults tells Silent next old new o e = absurd cc
failed_of faults tells (Said Entered) next old new o e = absurd cc
failed_of faults tells (Said (Walked met ended)) next old new o e = absurd cc
failed_of faults tells (Said (Left met low high)) next old new o e = absurd cc
failed_of faults tells (Said (Reported bytes images low high)) next old new o e = absurd cc
failed_of faults tells Unwritten next old new o e = o.written

pub no_report_goes : (took : Took) (next : ℕ) → IsNoReport took → next_after took next ≡ None → ⊥
no_report_goes Silent next n e = absurd cc
no_report_goes (Said Entered) next n e = absurd cc
no_report_goes (Said (Walked met ended)) next n e = absurd cc
no_report_goes (Said (Left met low high)) next n e = absurd cc
no_report_goes (Said (Reported bytes images low high)) next n e = n
no_report_goes Unwritten next n e = n

-- where an output failed
pub record IsCut {K : Type 0} (faults : K → ℕ) (first drafts : List (Draft K)) : Type 0 where
  pub places : AreSamePlaces first drafts
  pub done : AreDone faults drafts
  pub failed : All (λ (d : Draft K). d.progress ≡ Written) drafts → ⊥

not_written : {K : Type 0} (draft : Draft K) → draft.progress ≡ Failed → draft.progress ≡ Written → ⊥
not_written draft f w = apart (sym f ∙ w)
  where
    apart : Failed ≡ Written → ⊥
    apart e = absurd cc

pub cut_at : {K : Type 0} (faults : K → ℕ) (tells : Draft K → Draft K → Type 0) (statements : List NumberedStatement) (at line next : ℕ) (statement : Statement) (took : Took) (first old new : List (Draft K)) → slice_get statements at ≡ Some (record { line = line; statement = statement })
    → length old ≡ length (files_of statements) → AreNext faults statements at next first old → TakesOutputs faults tells next (file_of statement) took old new → next_after took next ≡ None
    → IsCut faults first new
cut_at {K} faults tells statements at line next statement took first old new e all s takes after = of (file_of statement) refl takes
  where
    of : (file : Option (List ℕ)) → file_of statement ≡ file → TakesOutputs faults tells next file took old new → IsCut faults first new
    of None is t = absurd (no_report_goes took next t.1 after)
    of (Some file) is w =
        let long = ap length (files_next statements at line statement e ∙ ap (λ f. files_of (take at statements) ++ own_files f) is) ∙ length-append (files_of (take at statements)) (file ∷ []) in
        let most = few_files (at + 1) statements in
        let counted = s.counted in
        let within : next < length old = omega (arith, long, most, counted, all) in
        let so_many = long_is faults tells next took old new w in
        let did = failed_of faults tells took next (slice_index_or old next w.is) w.is (w.did w.is) after in
        let some = rose_some (faults (slice_index_or old next w.is).out) (faults w.is.out) did.1 (s.up_to.waiting next w.is within (omega arith)) in
        record {
          places = same_places faults tells next took first old new within s.places w;
          failed = λ written. not_written w.is did.0 (ap (λ (d : Draft K). d.progress) (sym (here_is faults tells next took old new w w.is within)) ∙ written next w.is (omega (arith, within, so_many)));
          done = done_upto faults next new
              (λ k other less below.
              ap (λ (d : Draft K). d.progress) (there_is faults tells next took old new w k other (λ same. absurd (omega (arith, below, same)))) ∙ s.up_to.written k other (omega (arith, less, so_many)) below)
              (λ other less. subst (λ (d : Draft K). (d.progress ≢ Written) × (0 < faults d.out)) (sym (here_is faults tells next took old new w other within)) (not_written w.is did.0, some));
        }

-- before the first statement no output was taken
pub none_taken : {K : Type 0} (faults : K → ℕ) (statements : List NumberedStatement) (drafts : List (Draft K)) → All (λ (d : Draft K). faults d.out ≡ 0) drafts → AreNext faults statements 0 0 drafts drafts
none_taken faults statements drafts waiting = record {
  counted = refl;
  few = omega arith;
  up_to = record { written = λ k other less below. absurd (omega (arith, below)); waiting = λ k other less above. waiting k other less };
  places = record { count = refl; each = λ k other less. (refl, refl) };
}

-- ---- what a statement does, by whether it is a report

asks_no_file : (statement : Statement) (a : Asked) → asked_in statement ≡ Some a → file_of statement ≡ None
asks_no_file (said.Load header name) a e = refl
asks_no_file (said.Unload header) a e = refl
asks_no_file (said.BeginLoad header name) a e = refl
asks_no_file (said.BeginUnload header) a e = refl
asks_no_file (said.Step most) a e = refl
asks_no_file said.End a e = refl
asks_no_file (said.Enter pass) a e = refl
asks_no_file (said.Walk pass most) a e = refl
asks_no_file (said.Leave pass) a e = refl
asks_no_file (said.Report pass file) a e = absurd cc

pub silent_outputs : {K : Type 0} (faults : K → ℕ) (tells : Draft K → Draft K → Type 0) (next : ℕ) (statement : Statement) (a : Asked) (drafts : List (Draft K)) → asked_in statement ≡ Some a → TakesOutputs faults tells next (file_of statement) Silent drafts drafts
silent_outputs {K} faults tells next statement a drafts e = subst (λ (f : Option (List ℕ)). TakesOutputs faults tells next f Silent drafts drafts) (sym (asks_no_file statement a e)) (refl, tt)

pub report_outputs : {K : Type 0} (faults : K → ℕ) (tells : Draft K → Draft K → Type 0) (next : ℕ) (file : Option (List ℕ)) (took : Took) (old new : List (Draft K)) → true ≡ is_some file → WritesNext faults tells next took old new → TakesOutputs faults tells next file took old new
report_outputs faults tells next None took old new is w = absurd cc
report_outputs faults tells next (Some file) took old new is w = w

pub moved_outputs : {K : Type 0} (faults : K → ℕ) (tells : Draft K → Draft K → Type 0) (next : ℕ) (file : Option (List ℕ)) (took : Took) (drafts : List (Draft K)) → false ≡ is_some file → IsNoReport took → TakesOutputs faults tells next file took drafts drafts
moved_outputs faults tells next None took drafts is n = (refl, n)
moved_outputs faults tells next (Some file) took drafts is n = absurd cc

pub next_within : (file : Option (List ℕ)) (next count : ℕ) → true ≡ is_some file → IfSome file (λ f. next < count) → next < count
next_within None next count is h = absurd cc
next_within (Some file) next count is h = h
