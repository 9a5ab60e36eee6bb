-- Outputs that are made, script by script and report by report.
use Rattle.std.proofs.Common.{⊎_elim, ◌≡◌, ℕ, zero, suc, ◌+◌, ◌<◌, ◌≤◌, List, [], ◌∷◌, ◌++◌, length, take, set, get_or, slice_get, Option, Some, None, Result, Ok, Err, refl, sym, ap, subst, ◌∙◌, append-nil, append_assoc, length-append, length-set, get_or-set_same, get_or-set_other, take_all, arith}
use Rattle.std.specs.Prelude.{All, OnOk, OnErr, IfErr, filter_map, option_map, option_and_then, unwrap_or}
use Rattle.std.proofs.lemmas.Bool.{cases_eq}
use Rattle.std.proofs.lemmas.List.{map-append, length-map, take_more, get_or_default}
use Rattle.std.proofs.lemmas.List.Concat.{flat_map-append}
use Rattle.std.proofs.lemmas.List.Elements.{All-nil, All-cons, All-head, All-tail, All-append, All-weaker, filter_map-append}
use Rattle.std.proofs.lemmas.Option.{slice_get_within, get_or_from_slice_get, slice_get-get_or}
use Rattle.plcr_base.specs.Causes.{Rose}
use Rattle.plcr_base.specs.Told.{Gains, IfTold, add}
use Rattle.plcr_base.proofs.Gained.{gains_none, gains_twice}
use Rattle.plcr_base.proofs.Risen.{rose_second}
use Rattle.plcr_io.specs.Desk.{Told}
use Rattle.plcr_script.specs.declared.statements.Statement.{Statement}
use Rattle.plcr_script.specs.declared.statements.Statement.TheVariants as statements
use Rattle.plcr_script.specs.declared.statements.NumberedStatement.{NumberedStatement}
use Rattle.plcr_script.specs.Scripts.{ScriptValue}
use Rattle.plcr_script.specs.Reading.{files_of, written_by}
use Rattle.plcr_script.specs.Reading as reading
use Rattle.plcr_command.specs.Saving.{TookNothing}
use Rattle.plcr_workers.specs.declared.drafts.Draft.{Draft}
use Rattle.plcr_workers.specs.declared.drafts.Progress.TheVariants.{Waiting}
use Rattle.plcr_workers.specs.declared.worker.Worker.{Worker}
use Rattle.plcr_workers.specs.Log.{file_of, file_in}
use Rattle.plcr_workers.specs.inner.Hired.{AreNew, IsNew, writes_one}
use Rattle.plcr_workers.specs.inner.Outputs.{AreEmpty, HaveEmpty, HasOpenFor, IsDraftOf, name_at, draft_names, names_in, AreMade, HasMade, IsUnmade, IsSameWorker, AreSameWorkers, AllMade, NotAllMade, outputs_of}
use Rattle.plcr_workers.proofs.Opened.{after_make, still_open}
use Rattle.plcr_workers.proofs.Settled.{nothing_none, nothing_twice}

-- ---- names of files, statement by statement

-- the file of a statement, if it has one
abbrev own_file : Option (List ℕ) → List (List ℕ)
own_file None = []
own_file (Some file) = file ∷ []

-- what is at a place
pub record Stands (statements : List NumberedStatement) (at : ℕ) (st : Statement) : Type 0 where
  pub numbered : NumberedStatement
  pub is : slice_get statements at ≡ Some numbered
  pub same : numbered.statement ≡ st

pub stands_at : (statements : List NumberedStatement) (at : ℕ) (st : Statement) → Some st ≡ option_map (λ (s : NumberedStatement). s.statement) (slice_get statements at) → Stands statements at st
stands_at [] at st e = absurd cc
stands_at (s ∷ statements) zero st e = let same : st ≡ s.statement = cc in record { numbered = s; is = refl; same = sym same }
stands_at (s ∷ statements) (suc at) st e = let rest = stands_at statements at st e in record { numbered = rest.numbered; is = rest.is; same = rest.same }

one_named : (s : NumberedStatement) (file : Option (List ℕ)) → reading.file_of s.statement ≡ file → files_of (s ∷ []) ≡ own_file file
one_named s None e = ap (λ (f : Option (List ℕ)). filter_map (λ (x : Option (List ℕ)). x) (f ∷ [])) e
one_named s (Some file) e = ap (λ (f : Option (List ℕ)). filter_map (λ (x : Option (List ℕ)). x) (f ∷ [])) e

pub files_more : (statements : List NumberedStatement) (at : ℕ) (st : Statement) → Stands statements at st → files_of (take (at + 1) statements) ≡ files_of (take at statements) ++ own_file (reading.file_of st)
files_more statements at st stands =
    let s = stands.numbered in
    let within = slice_get_within statements at s stands.is in
    ap files_of (take_more statements at s within ∙ ap (λ (x : NumberedStatement). take at statements ++ x ∷ []) (get_or_from_slice_get statements at s s stands.is))
    ∙ filter_map-append (λ (x : NumberedStatement). reading.file_of x.statement) (take at statements) (s ∷ [])
    ∙ ap (λ (l : List (List ℕ)). files_of (take at statements) ++ l) (one_named s (reading.file_of st) (ap reading.file_of stands.same))

-- the files of the others
pub files_rest : (statements : List NumberedStatement) (at : ℕ) → (rest : List (List ℕ)) × (files_of statements ≡ files_of (take at statements) ++ rest)
files_rest [] zero = ([], refl)
files_rest [] (suc at) = ([], refl)
files_rest (s ∷ statements) zero = (files_of (s ∷ statements), refl)
files_rest (s ∷ statements) (suc at) =
    let r = files_rest statements at in
    let one = s ∷ [] in (
      r.0,
      filter_map-append (λ (x : NumberedStatement). reading.file_of x.statement) one statements
          ∙ ap (λ (l : List (List ℕ)). files_of one ++ l) r.1
          ∙ sym (append_assoc (files_of one) (files_of (take at statements)) r.0)
          ∙ ap (λ (l : List (List ℕ)). l ++ r.0) (sym (filter_map-append (λ (x : NumberedStatement). reading.file_of x.statement) one (take at statements))),
    )

own_long : (file : Option (List ℕ)) → length (own_file file) ≡ writes_one file
own_long None = refl
own_long (Some file) = refl

-- the files of the first statements are counted one by one
pub files_count : (statements : List NumberedStatement) (at : ℕ) (st : Statement) → Some st ≡ option_map (λ (s : NumberedStatement). s.statement) (slice_get statements at)
    → length (files_of (take (at + 1) statements)) ≡ length (files_of (take at statements)) + writes_one (reading.file_of st)
files_count statements at st e =
    let more = ap length (files_more statements at st (stands_at statements at st e)) in
    let long = length-append (files_of (take at statements)) (own_file (reading.file_of st)) in
    let one = own_long (reading.file_of st) in
    omega (arith, more, long, one)

-- a statement that is no report has no file
pub not_report : (st : Statement) → ((pass : ℕ) (file : List ℕ) → st ≡ statements.Report pass file → ⊥) → reading.file_of st ≡ None
not_report (statements.Load header name) other = refl
not_report (statements.Unload header) other = refl
not_report (statements.BeginLoad header name) other = refl
not_report (statements.BeginUnload header) other = refl
not_report (statements.Step most) other = refl
not_report statements.End other = refl
not_report (statements.Enter pass) other = refl
not_report (statements.Walk pass most) other = refl
not_report (statements.Leave pass) other = refl
not_report (statements.Report pass file) other = absurd (other pass file refl)

-- ---- the desk

pub made_none : (old : Told) → HasMade [] old old
made_none old = record {
  made = gains_none old.made;
  kept = refl;
  dropped = refl;
  nothing = nothing_none old;
  «open» = λ count h. subst (λ (n : ℕ). HasOpenFor n old) (omega arith) h;
}

pub made_twice : (first second : List (List ℕ)) (old mid new : Told) → HasMade first old mid → HasMade second mid new → HasMade (first ++ second) old new
made_twice first second old mid new a b = record {
  made = gains_twice old.made mid.made new.made first second a.made b.made;
  kept = b.kept ∙ a.kept;
  dropped = b.dropped ∙ a.dropped;
  nothing = nothing_twice old mid new a.nothing b.nothing;
  «open» = λ count h. subst (λ (n : ℕ). HasOpenFor n new) (let long = length-append first second in omega (arith, long)) (b.«open» (count + length first) (a.«open» count h));
}

added : (name : List ℕ) (made : Option (List (List ℕ))) → Gains made (add made name) (name ∷ [])
added name None = tt
added name (Some names) = refl

pub made_one : (name : List ℕ) (old new : Told) → new.made ≡ add old.made name → new.kept ≡ old.kept → new.dropped ≡ old.dropped → TookNothing old new → HasMade (name ∷ []) old new
made_one name old new made kept dropped nothing = record {
  made = subst (λ (m : Option (List (List ℕ))). Gains old.made m (name ∷ [])) (sym made) (added name old.made);
  kept = kept;
  dropped = dropped;
  nothing = nothing;
  «open» = λ count h. after_make count name old new h made kept dropped;
}

-- a call that made none
pub made_no_more : (names : List (List ℕ)) (old mid new : Told) → HasMade names old mid → new.made ≡ mid.made → new.kept ≡ mid.kept → new.dropped ≡ mid.dropped → TookNothing mid new → HasMade names old new
made_no_more names old mid new a made kept dropped nothing = record {
  made = subst (λ (m : Option (List (List ℕ))). Gains old.made m names) (sym made) a.made;
  kept = kept ∙ a.kept;
  dropped = dropped ∙ a.dropped;
  nothing = nothing_twice old mid new a.nothing nothing;
  «open» = λ count h. same_open (count + length names) mid new made kept dropped (a.«open» count h);
}
  where
    same_open : (count : ℕ) (mid new : Told) → new.made ≡ mid.made → new.kept ≡ mid.kept → new.dropped ≡ mid.dropped → HasOpenFor count mid → HasOpenFor count new
    same_open count mid new made kept dropped h = still_open count count mid new (omega arith) h made kept dropped

-- ---- the outputs of one script

pub record MakingEach {K : Type 0} (faults : K → ℕ) (number : ℕ) (statements : List NumberedStatement) (at : ℕ) (drafts : List (Draft K)) (old now : Told) : Type 0 where
  pub outputs : AreMade faults number statements at drafts
  pub made : HasMade (files_of (take at statements)) old now
  pub few : length drafts ≤ at

module _ {K : Type 0} (faults : K → ℕ) (number : ℕ) (statements : List NumberedStatement) where
  abbrev pub IsOne : ℕ → Draft K → Type 0
  IsOne count d = (d.script ≡ number) × (d.at < count) × (faults d.out ≡ 0)

  pub making_none : (drafts : List (Draft K)) (old : Told) → length drafts ≡ 0 → MakingEach faults number statements 0 drafts old old
  making_none [] old none = record { outputs = record { names = refl; each = All-nil (IsOne 0) }; made = made_none old; few = omega arith }
  making_none (d ∷ drafts) old none = absurd (omega (arith, none))

  wider : (at : ℕ) (drafts : List (Draft K)) → All (IsOne at) drafts → All (IsOne (at + 1)) drafts
  wider at drafts all = All-weaker (IsOne at) (IsOne (at + 1)) (λ d h. (h.0, (let less = h.1 in omega (arith, less)), h.2)) drafts all

  -- a statement that is no report
  pub making_same : (at : ℕ) (st : Statement) (drafts : List (Draft K)) (old now : Told) → Stands statements at st → reading.file_of st ≡ None → MakingEach faults number statements at drafts old now → MakingEach faults number statements (at + 1) drafts old now
  making_same at st drafts old now stands none m =
      let same : files_of (take (at + 1) statements) ≡ files_of (take at statements) = files_more statements at st stands ∙ ap (λ (o : Option (List ℕ)). files_of (take at statements) ++ own_file o) none ∙ append-nil (files_of (take at statements)) in
      record {
        outputs = record { names = m.outputs.names ∙ sym same; each = wider at drafts m.outputs.each };
        made = subst (λ (l : List (List ℕ)). HasMade l old now) (sym same) m.made;
        few = let few = m.few in omega (arith, few);
      }

  -- a report whose output was made
  pub making_one : (at : ℕ) (st : Statement) (file : List ℕ) (drafts : List (Draft K)) (draft : Draft K) (old now new : Told) → Stands statements at st → reading.file_of st ≡ Some file → file_in st ≡ file → IsOne (at + 1) draft → draft.at ≡ at → HasMade (file ∷ []) now new
      → MakingEach faults number statements at drafts old now → MakingEach faults number statements (at + 1) (drafts ++ draft ∷ []) old new
  making_one at st file drafts draft old now new stands is has one place made m =
      let more : files_of (take (at + 1) statements) ≡ files_of (take at statements) ++ file ∷ [] = files_more statements at st stands ∙ ap (λ (o : Option (List ℕ)). files_of (take at statements) ++ own_file o) is in
      let name : file_of (slice_get statements draft.at) ≡ file = ap (λ (n : ℕ). file_of (slice_get statements n)) place ∙ ap file_of stands.is ∙ ap file_in stands.same ∙ has in
      record {
        outputs = record {
          names = map-append (λ (d : Draft K). file_of (slice_get statements d.at)) drafts (draft ∷ []) ∙ (λ i. m.outputs.names i ++ name i ∷ []) ∙ sym more;
          each = All-append (IsOne (at + 1)) drafts (draft ∷ []) (wider at drafts m.outputs.each) (All-cons (IsOne (at + 1)) draft [] one (All-nil (IsOne (at + 1))));
        };
        made = subst (λ (l : List (List ℕ)). HasMade l old new) (sym more) (made_twice (files_of (take at statements)) (file ∷ []) old now new m.made made);
        few = let few = m.few in let long = length-append drafts (draft ∷ []) in omega (arith, few, long);
      }

  -- there is room for the output of a report
  pub making_room : (at : ℕ) (st : Statement) (file : List ℕ) (drafts : List (Draft K)) (old now : Told) → Stands statements at st → reading.file_of st ≡ Some file → MakingEach faults number statements at drafts old now → length drafts < length (files_of statements)
  making_room at st file drafts old now stands is m =
      let more : files_of (take (at + 1) statements) ≡ files_of (take at statements) ++ file ∷ [] = files_more statements at st stands ∙ ap (λ (o : Option (List ℕ)). files_of (take at statements) ++ own_file o) is in
      let r = files_rest statements (at + 1) in
      let names = ap length m.outputs.names in
      let many = length-map drafts (λ (d : Draft K). file_of (slice_get statements d.at)) in
      let whole = ap length (r.1 ∙ ap (λ (l : List (List ℕ)). l ++ r.0) more) in
      let first = length-append (files_of (take at statements) ++ file ∷ []) r.0 in
      let second = length-append (files_of (take at statements)) (file ∷ []) in
      omega (arith, names, many, whole, first, second)

  -- one whose output was not
  pub making_cut : (at : ℕ) (st : Statement) (file : List ℕ) (drafts : List (Draft K)) (old now new : Told) → Stands statements at st → reading.file_of st ≡ Some file → file_in st ≡ file → new.made ≡ now.made → new.kept ≡ now.kept → new.dropped ≡ now.dropped → TookNothing now new
      → Rose now.out_faults new.out_faults → MakingEach faults number statements at drafts old now → IsUnmade faults number statements at drafts old new
  making_cut at st file drafts old now new stands is has made kept dropped nothing rose m =
      let more : files_of (take (at + 1) statements) ≡ files_of (take at statements) ++ file ∷ [] = files_more statements at st stands ∙ ap (λ (o : Option (List ℕ)). files_of (take at statements) ++ own_file o) is in
      let name : file_of (slice_get statements at) ≡ file = ap file_of stands.is ∙ ap file_in stands.same ∙ has in
      let r = files_rest statements (at + 1) in
      record {
        outputs = m.outputs;
        made = made_no_more (files_of (take at statements)) old now new m.made made kept dropped nothing;
        rest = r.0;
        parts = r.1 ∙ ap (λ (l : List (List ℕ)). l ++ r.0) more ∙ append_assoc (files_of (take at statements)) (file ∷ []) r.0 ∙ ap (λ (f : List ℕ). files_of (take at statements) ++ f ∷ r.0) (sym name);
        within = slice_get_within statements at stands.numbered stands.is;
        cause = rose_second _ _ _ m.made.nothing.out_faults rose;
      }

  pub making_all : (at : ℕ) (drafts : List (Draft K)) (old now : Told) → at ≡ length statements → MakingEach faults number statements at drafts old now
      → AreMade faults number statements (length statements) drafts × HasMade (files_of statements) old now
  making_all at drafts old now all m = (
    subst (λ (n : ℕ). AreMade faults number statements n drafts) all m.outputs,
    subst (λ (l : List (List ℕ)). HasMade l old now) (ap (λ (n : ℕ). files_of (take n statements)) all ∙ ap files_of (take_all (length statements) statements (omega arith))) m.made,
  )

-- ---- the outputs of all workers

-- nothing before
no_outputs : {K : Type 0} (ws : List (Worker K)) → ((k : ℕ) (other : Worker K) → k < length ws → (get_or ws k other).drafts.items ≡ []) → outputs_of ws ≡ []
no_outputs [] none = refl
no_outputs (x ∷ ws) none = (λ i. none 0 x (omega arith) i ++ outputs_of ws) ∙ no_outputs ws (λ k other less. none (suc k) other (omega (arith, less)))

-- a worker gets its outputs, behind whom none has any
outputs_set : {K : Type 0} (ws : List (Worker K)) (i : ℕ) (w : Worker K) → i < length ws → ((k : ℕ) (other : Worker K) → i ≤ k → k < length ws → (get_or ws k other).drafts.items ≡ []) → outputs_of (set ws i w) ≡ outputs_of ws ++ w.drafts.items
outputs_set [] i w less none = absurd (omega (arith, less))
outputs_set (x ∷ ws) zero w less none =
    let here : x.drafts.items ≡ [] = none 0 x (omega arith) (omega arith) in
    let rest : outputs_of ws ≡ [] = no_outputs ws (λ k other less. none (suc k) other (omega arith) (omega (arith, less))) in
    (λ i. w.drafts.items ++ rest i) ∙ append-nil w.drafts.items ∙ (λ i. (sym here i ++ sym rest i) ++ w.drafts.items)
outputs_set (x ∷ ws) (suc i) w less none =
    ap (λ l. x.drafts.items ++ l) (outputs_set ws i w (omega (arith, less)) (λ k other from within. none (suc k) other (omega (arith, from)) (omega (arith, within))))
    ∙ sym (append_assoc x.drafts.items (outputs_of ws) w.drafts.items)

-- the scripts of one more
written_more : (scripts : List ScriptValue) (k : ℕ) (script : ScriptValue) → slice_get scripts k ≡ Some script → written_by (take (k + 1) scripts) ≡ written_by (take k scripts) ++ files_of script.statements
written_more scripts k script stands =
    let within = slice_get_within scripts k script stands in
    ap written_by (take_more scripts k script within ∙ ap (λ (x : ScriptValue). take k scripts ++ x ∷ []) (get_or_from_slice_get scripts k script script stands))
    ∙ flat_map-append (λ (s : ScriptValue). files_of s.statements) (take k scripts) (script ∷ [])
    ∙ ap (λ (l : List (List ℕ)). written_by (take k scripts) ++ l) (append-nil (files_of script.statements))

written_rest : (scripts : List ScriptValue) (k : ℕ) → (rest : List (List ℕ)) × (written_by scripts ≡ written_by (take k scripts) ++ rest)
written_rest [] zero = ([], refl)
written_rest [] (suc k) = ([], refl)
written_rest (s ∷ scripts) zero = (written_by (s ∷ scripts), refl)
written_rest (s ∷ scripts) (suc k) =
    let r = written_rest scripts k in
    (r.0, ap (λ (l : List (List ℕ)). files_of s.statements ++ l) r.1 ∙ sym (append_assoc (files_of s.statements) (written_by (take k scripts)) r.0))

module _ {K : Type 0} (faults : K → ℕ) (scripts : List ScriptValue) where
  abbrev pub IsOf : ℕ → ℕ → Draft K → Type 0
  IsOf number count d = (d.script ≡ number) × (d.at < count) × (faults d.out ≡ 0)

  -- names by the script are names by all scripts
  names_same : (k : ℕ) (script : ScriptValue) (count : ℕ) (drafts : List (Draft K)) → slice_get scripts k ≡ Some script → All (IsOf k count) drafts → draft_names scripts drafts ≡ names_in script.statements drafts
  names_same k script count [] stands all = refl
  names_same k script count (d ∷ drafts) stands all =
      let one = All-head (IsOf k count) d drafts all in
      let found : slice_get scripts d.script ≡ Some script = ap (slice_get scripts) one.0 ∙ stands in
      let name : name_at scripts d.script d.at ≡ file_of (slice_get script.statements d.at) = ap (λ (o : Option ScriptValue). file_of (option_and_then (λ (s : ScriptValue). slice_get s.statements d.at) o)) found in
      (λ i. name i ∷ names_same k script count drafts stands (All-tail (IsOf k count) d drafts all) i)

  drafts_are : (k : ℕ) (script : ScriptValue) (count : ℕ) (drafts : List (Draft K)) → slice_get scripts k ≡ Some script → count ≤ length script.statements → All (IsOf k count) drafts → All (IsDraftOf scripts) drafts
  drafts_are k script count drafts stands few all =
      All-weaker (IsOf k count) (IsDraftOf scripts)
      (λ d one. record { value = script; stands = ap (slice_get scripts) one.0 ∙ stands; within = let less = one.1 in omega (arith, less, few) }) drafts all

some_script : {s t : ScriptValue} → Some s ≡ Some t → s ≡ t
some_script {s} {t} e = ap (λ (o : Option ScriptValue). unwrap_or o s) e

-- the workers of the first scripts have their outputs, the others are as they were
pub record MakingAll {K : Type 0} (faults : K → ℕ) (scripts : List ScriptValue) (count : ℕ) (olds news : List (Worker K)) (old now : Told) : Type 0 where
  pub made : HasMade (written_by (take count scripts)) old now
  pub names : draft_names scripts (outputs_of news) ≡ written_by (take count scripts)
  pub are : All (IsDraftOf scripts) (outputs_of news)
  pub each : (k : ℕ) (other : Worker K) (script : ScriptValue) → slice_get scripts k ≡ Some script → k < length news → k < count → AreMade faults k script.statements (length script.statements) (get_or news k other).drafts.items
  pub same : AreSameWorkers olds news
  pub later : (k : ℕ) (other : Worker K) → count ≤ k → k < length olds → get_or news k other ≡ get_or olds k other

module _ {K : Type 0} (faults : K → ℕ) (scripts : List ScriptValue) (olds : List (Worker K)) where
  pub makes_none : (old : Told) → ((k : ℕ) (other : Worker K) → k < length olds → (get_or olds k other).drafts.items ≡ []) → MakingAll faults scripts 0 olds olds old old
  makes_none old empty =
      let none : outputs_of olds ≡ [] = no_outputs olds empty in
      record {
        made = made_none old;
        names = ap (λ (l : List (Draft K)). draft_names scripts l) none;
        are = subst (All (IsDraftOf scripts)) (sym none) (All-nil (IsDraftOf scripts));
        each = λ k other script stands less no. absurd (omega (arith, no));
        same = record { count = refl; each = λ k other less. refl };
        later = λ k other from less. refl;
      }

  module _ (count : ℕ) (news : List (Worker K)) (w : Worker K) (script : ScriptValue) (old now new : Told) (stands : slice_get scripts count ≡ Some script) (within : count < length olds)
      (empty : (k : ℕ) (other : Worker K) → k < length olds → (get_or olds k other).drafts.items ≡ []) (m : MakingAll faults scripts count olds news old now) (base : Worker K) (same : IsSameWorker (get_or news count base) w) where
    inside : count < length news
    inside = let e = m.same.count in omega (arith, e, within)

    outputs : outputs_of (set news count w) ≡ outputs_of news ++ w.drafts.items
    outputs = outputs_set news count w inside (λ k other from less. ap (λ (x : Worker K). x.drafts.items) (m.later k other from (let e = m.same.count in omega (arith, e, less))) ∙ empty k other (let e = m.same.count in omega (arith, e, less)))

    set_count : length (set news count w) ≡ length news
    set_count = length-set news count w

    others : (k : ℕ) (other : Worker K) → (k ≡ count → ⊥) → get_or (set news count w) k other ≡ get_or news k other
    others k other apart = get_or-set_other news count k w other apart

    here : (other : Worker K) → get_or (set news count w) count other ≡ w
    here other = get_or-set_same news count w other inside

    still_same : AreSameWorkers olds (set news count w)
    still_same = record {
      count = set_count ∙ m.same.count;
      each = λ k other less. ⊎_elim
          (λ (e : k ≡ count). subst (λ (x : Worker K). IsSameWorker (get_or olds k other) x) (sym (ap (λ (n : ℕ). get_or (set news count w) n other) e ∙ here other))
          (subst (λ (x : Worker K). IsSameWorker x w) (get_or_default news count base other inside ∙ m.later count other (omega arith) within ∙ sym (ap (λ (n : ℕ). get_or olds n other) e)) same))
          (λ (d : k ≡ count → ⊥). subst (λ (x : Worker K). IsSameWorker (get_or olds k other) x) (sym (others k other d)) (m.same.each k other less))
          (cases_eq k count);
    }

    pub makes_one : AreMade faults count script.statements (length script.statements) w.drafts.items × HasMade (files_of script.statements) now new → MakingAll faults scripts (count + 1) olds (set news count w) old new
    makes_one made =
        let more : written_by (take (count + 1) scripts) ≡ written_by (take count scripts) ++ files_of script.statements = written_more scripts count script stands in
        let own : draft_names scripts w.drafts.items ≡ files_of script.statements = names_same faults scripts count script (length script.statements) w.drafts.items stands made.0.each ∙ made.0.names ∙ ap files_of (take_all (length script.statements) script.statements (omega arith)) in
        record {
          made = subst (λ (l : List (List ℕ)). HasMade l old new) (sym more) (made_twice (written_by (take count scripts)) (files_of script.statements) old now new m.made made.1);
          names = ap (λ (l : List (Draft K)). draft_names scripts l) outputs ∙ map-append (λ (d : Draft K). name_at scripts d.script d.at) (outputs_of news) w.drafts.items ∙ (λ i. m.names i ++ own i) ∙ sym more;
          are = subst (All (IsDraftOf scripts)) (sym outputs) (All-append (IsDraftOf scripts) (outputs_of news) w.drafts.items m.are (drafts_are faults scripts count script (length script.statements) w.drafts.items stands (omega arith) made.0.each));
          each = λ k other s at less below. ⊎_elim
              (λ (e : k ≡ count).
              let is : s ≡ script = some_script (sym at ∙ ap (slice_get scripts) e ∙ stands) in
              subst (λ (x : Worker K). AreMade faults k s.statements (length s.statements) x.drafts.items) (sym (ap (λ (n : ℕ). get_or (set news count w) n other) e ∙ here other))
              (subst (λ (t : ScriptValue). AreMade faults k t.statements (length t.statements) w.drafts.items) (sym is) (subst (λ (n : ℕ). AreMade faults n script.statements (length script.statements) w.drafts.items) (sym e) made.0)))
              (λ (d : k ≡ count → ⊥). subst (λ (x : Worker K). AreMade faults k s.statements (length s.statements) x.drafts.items) (sym (others k other d)) (m.each k other s at (let e = set_count in omega (arith, e, less)) (omega (arith, below, (λ (e : k ≡ count). d e)))))
              (cases_eq k count);
          same = still_same;
          later = λ k other from less. others k other (λ e. omega (arith, from, e)) ∙ m.later k other (omega (arith, from)) less;
        }

    pub makes_cut : (at : ℕ) → IsUnmade faults count script.statements at w.drafts.items now new → NotAllMade scripts (set news count w) count at old new
    makes_cut at u =
        let r = written_rest scripts (count + 1) in
        let more : written_by (take (count + 1) scripts) ≡ written_by (take count scripts) ++ files_of script.statements = written_more scripts count script stands in
        let before : List (List ℕ) = written_by (take count scripts) ++ files_of (take at script.statements) in
        let name : name_at scripts count at ≡ file_of (slice_get script.statements at) = ap (λ (o : Option ScriptValue). file_of (option_and_then (λ (s : ScriptValue). slice_get s.statements at) o)) stands in
        record {
          before = before;
          later = u.rest ++ r.0;
          parts = r.1 ∙ ap (λ (l : List (List ℕ)). l ++ r.0) (more ∙ ap (λ (l : List (List ℕ)). written_by (take count scripts) ++ l) u.parts ∙ sym (append_assoc (written_by (take count scripts)) (files_of (take at script.statements)) (file_of (slice_get script.statements at) ∷ u.rest)))
              ∙ append_assoc before (file_of (slice_get script.statements at) ∷ u.rest) r.0
              ∙ ap (λ (f : List ℕ). before ++ f ∷ (u.rest ++ r.0)) (sym name);
          made = made_twice (written_by (take count scripts)) (files_of (take at script.statements)) old now new m.made u.made;
          count = let a = ap length m.names in let b = length-map (outputs_of news) (λ (d : Draft K). name_at scripts d.script d.at) in
              let c = ap length u.outputs.names in let d = length-map w.drafts.items (λ (d : Draft K). file_of (slice_get script.statements d.at)) in
              let e = ap length outputs ∙ length-append (outputs_of news) w.drafts.items in let f = length-append (written_by (take count scripts)) (files_of (take at script.statements)) in omega (arith, a, b, c, d, e, f);
          stands = record { value = script; stands = stands; within = u.within };
          cause = rose_second _ _ _ m.made.nothing.out_faults u.cause;
        }

    pub makes_same : AreSameWorkers olds (set news count w)
    makes_same = still_same

  pub makes_all : (count : ℕ) (news : List (Worker K)) (old now : Told) → length scripts ≤ count → length news ≤ count → MakingAll faults scripts count olds news old now → AllMade faults scripts news old now
  makes_all count news old now all few m =
      let whole : written_by (take count scripts) ≡ written_by scripts = ap written_by (take_all count scripts all) in
      record {
        made = subst (λ (l : List (List ℕ)). HasMade l old now) whole m.made;
        names = m.names ∙ whole;
        are = m.are;
        each = λ k other script stands less. m.each k other script stands less (omega (arith, less, few));
      }

-- ---- as they were hired

no_items : {A : Type 0} (xs : List A) → length xs ≡ 0 → xs ≡ []
no_items [] none = refl
no_items (x ∷ xs) none = absurd (omega (arith, none))

pub new_empty : {K : Type 0} (scripts : List ScriptValue) (workers : List (Worker K)) → AreNew scripts workers → (k : ℕ) (other : Worker K) → k < length workers → (get_or workers k other).drafts.items ≡ []
new_empty scripts workers new k other less =
    let w = get_or workers k other in
    no_items w.drafts.items (sym w.drafts.ok.0 ∙ (new k other less).none)

pub new_have_empty : {K : Type 0} (written : K → Option (List ℕ)) (scripts : List ScriptValue) (workers : List (Worker K)) → AreNew scripts workers → HaveEmpty written workers
new_have_empty {K = K} written scripts workers new k other less = subst (AreEmpty written) (sym (new_empty scripts workers new k other less)) (All-nil (λ (d : Draft K). (d.progress ≡ Waiting) × IfTold (written d.out) (λ bytes. bytes ≡ [])))

pub still_new : {K : Type 0} (faults : K → ℕ) (scripts : List ScriptValue) (count : ℕ) (olds news : List (Worker K)) (old now : Told) → AreNew scripts olds → count < length olds → MakingAll faults scripts count olds news old now → (other : Worker K) → IsNew scripts count (get_or news count other)
still_new {K = K} faults scripts count olds news old now new within m other = subst (λ (w : Worker K). IsNew scripts count w) (sym (m.later count other (omega arith) within)) (new count other within)

-- ---- what an index gives

pub stands_in : {A : Type 0} (xs : List A) (i : ℕ) (x : A) → i < length xs → x ≡ get_or xs i x → slice_get xs i ≡ Some x
stands_in xs i x less is = slice_get-get_or xs i x less ∙ ap Some (sym is)

-- ---- what was answered

pub ok_of : {A E X : Type 0} {r : Result A E} {a : A} → r ≡ Ok a → OnOk r X → X
ok_of {A} {E} {X} is h = subst (λ (r : Result A E). OnOk r X) is h

pub err_of : {A E : Type 0} (P : E → Type 0) {r : Result A E} {e : E} → r ≡ Err e → IfErr r P → P e
err_of {A} {E} P is h = subst (λ (r : Result A E). IfErr r P) is h

pub on_err_of : {A E X : Type 0} {r : Result A E} {e : E} → r ≡ Err e → OnErr r X → X
on_err_of {A} {E} {X} is h = subst (λ (r : Result A E). OnErr r X) is h

pub on_err_map : {A E X Y : Type 0} (r : Result A E) → (X → Y) → OnErr r X → OnErr r Y
on_err_map (Ok a) f h = tt
on_err_map (Err e) f h = f h
