-- What a run says of a load and of an unload, by what the writer knows.
use Rattle.std.proofs.Common.{◌≡◌, ◌≢◌, ℕ, suc, ◌+◌, ◌/◌, ◌<◌, ◌≤◌, false, List, [], ◌∷◌, length, Option, Some, None, Ok, Err, eqb, leb, ltb, refl, sym, ap, ◌∙◌, arith, eqb-true}
use Rattle.std.proofs.lemmas.Bool.{lt-ltb, le-ltb, lt-leb}
use Rattle.std.specs.Option.{option_map}
use Rattle.std.specs.Prelude.{ok_or}
use Rattle.plcr_base.specs.Chains.{passed}
use Rattle.plcr_base.specs.declared.limits.TheConstants.{IMAGE_NAME_BYTES}
use Rattle.plcr_machine.specs.declared.limits.TheConstants.{MOST_CHANGES}
use Rattle.plcr_machine.specs.declared.image.Image.{Image}
use Rattle.plcr_machine.specs.declared.change.Named.{Named}
use Rattle.plcr_machine.specs.declared.change.Change.{Change}
use Rattle.plcr_machine.specs.declared.change.Change.TheVariants.{Loads as LoadsNamed, Unloads as UnloadsFirst}
use Rattle.plcr_machine.specs.Lists.{live, loads, changes}
use Rattle.plcr_machine.specs.Changes.{named, all_named, list_of}
use Rattle.plcr_machine.specs.Events.{events_of, changes_in}
use Rattle.plcr_machine.proofs.Cases.{by_cases}
use Rattle.plcr_machine.proofs.Pace.{paced_rest}
use Rattle.plcr_machine.proofs.Insiders.{counts_few}
use Rattle.plcr_machine.proofs.ListsMade.{changes_of-length, lists_made}
use Rattle.plcr_machine.proofs.EventsMade.{events-changes}
use Rattle.plcr_imagelist.specs.Finding.{first_with}
use Rattle.plcr_imagelist.specs.States.{WriterState, IsAtRest}
use Rattle.plcr_imagelist.specs.Listing.{HasLists}
use Rattle.plcr_script.specs.declared.outcomes.Outcome.{Outcome}
use Rattle.plcr_script.specs.declared.outcomes.Outcome.TheVariants as outcomes
use Rattle.plcr_script.specs.RunChanges as run
use Rattle.plcr_script.specs.RunChanges.{Plan, loads_in, worn, planned_load, planned_unload, load_plan, unload_plan, found_unload, unless_refusal}
use Rattle.plcr_run.proofs.Ties.{loads_in-of}

-- the changes among the events of what a writer knows
pub changes_known : (s : WriterState) → length (changes_in (events_of s.names s.history)) ≡ changes s.history
changes_known s = ap (λ (cs : List Change). length cs) (events-changes s.names s.history) ∙ changes_of-length s.names s.history

pub loads_known : (s : WriterState) → loads_in (changes_in (events_of s.names s.history)) ≡ loads s.history
loads_known s = ap loads_in (events-changes s.names s.history) ∙ loads_in-of s.names s.history

-- a writer at rest is worn or has changes left
pub worn_most : (s : WriterState) → IsAtRest s → changes s.history ≤ MOST_CHANGES
worn_most s rest =
    let few = counts_few s.nodes s.passes s.history rest.known.legal in
    let even = paced_rest s.history rest.paced rest.counted in
    omega arith

pub worn_said : (s : WriterState) → changes s.history ≡ MOST_CHANGES → worn (changes_in (events_of s.names s.history)) ≡ Some (outcomes.Worn MOST_CHANGES)
worn_said s e =
    let long : length (changes_in (events_of s.names s.history)) ≡ MOST_CHANGES = changes_known s ∙ e in
    ap (λ n. run.where_so (leb MOST_CHANGES n) (outcomes.Worn n)) long

pub fresh_said : (s : WriterState) → IsAtRest s → changes s.history ≢ MOST_CHANGES → worn (changes_in (events_of s.names s.history)) ≡ None
fresh_said s rest n =
    let most = worn_most s rest in
    let known = changes_known s in
    let fewer : changes s.history < MOST_CHANGES = omega (arith, n) in
    let test : leb MOST_CHANGES (length (changes_in (events_of s.names s.history))) ≡ false = lt-leb MOST_CHANGES (length (changes_in (events_of s.names s.history))) (omega arith) in
    ap (λ b. run.where_so b (outcomes.Worn (length (changes_in (events_of s.names s.history))))) test

-- the plan of a load
abbrev pub plan_of : WriterState → ℕ → List ℕ → Plan
plan_of s header name = record { change = LoadsNamed (record { load = suc (loads s.history); header = header; name = name }); load = suc (loads s.history); before = 3 + (length name + 7) / 8 }

pub planned_worn : (s : WriterState) (header : ℕ) (name : List ℕ) → changes s.history ≡ MOST_CHANGES → planned_load None (changes_in (events_of s.names s.history)) header name ≡ Err (outcomes.Worn MOST_CHANGES)
planned_worn s header name e =
    let cs : List Change = changes_in (events_of s.names s.history) in
    ap (λ (o : Option Outcome). passed (load_plan cs header name) (run.first_refusal (None ∷ o ∷ run.where_so (ltb IMAGE_NAME_BYTES (length name)) (outcomes.Long (length name)) ∷ []))) (worn_said s e)

pub planned_long : (s : WriterState) (header : ℕ) (name : List ℕ) → IsAtRest s → changes s.history ≢ MOST_CHANGES → IMAGE_NAME_BYTES < length name → planned_load None (changes_in (events_of s.names s.history)) header name ≡ Err (outcomes.Long (length name))
planned_long s header name rest n long =
    let cs : List Change = changes_in (events_of s.names s.history) in
    (λ i. passed (load_plan cs header name) (run.first_refusal (None ∷ fresh_said s rest n i ∷ run.where_so (lt-ltb IMAGE_NAME_BYTES (length name) long i) (outcomes.Long (length name)) ∷ [])))

pub planned_fine : (s : WriterState) (header : ℕ) (name : List ℕ) → IsAtRest s → changes s.history ≢ MOST_CHANGES → length name ≤ IMAGE_NAME_BYTES → planned_load None (changes_in (events_of s.names s.history)) header name ≡ Ok (plan_of s header name)
planned_fine s header name rest n short =
    let cs : List Change = changes_in (events_of s.names s.history) in
    (λ i. passed (load_plan cs header name) (run.first_refusal (None ∷ fresh_said s rest n i ∷ run.where_so (le-ltb IMAGE_NAME_BYTES (length name) short i) (outcomes.Long (length name)) ∷ [])))
    ∙ ap (λ k. Ok (record { change = LoadsNamed (record { load = suc k; header = header; name = name }); load = suc k; before = 3 + (length name + 7) / 8 })) (loads_known s)

-- the first image with a header, by name
first_named : (names : List (List ℕ)) (header : ℕ) (images : List Image) → run.first_with header (all_named names images) ≡ option_map (named names) (first_with header images)
first_named names header [] = refl
first_named names header (x ∷ images) = by_cases (eqb x.header header) (λ t. rw t refl) (λ t. rw t (first_named names header images))

pub first_known : (s : WriterState) (header : ℕ) → HasLists s → run.first_with header (list_of (changes_in (events_of s.names s.history))) ≡ option_map (named s.names) (first_with header (live s.history))
first_known s header k =
    ap (λ (cs : List Change). run.first_with header (list_of cs)) (events-changes s.names s.history)
    ∙ ap (run.first_with header) (lists_made s.nodes s.passes s.names s.history k.known.legal k.first)
    ∙ first_named s.names header (live s.history)

pub first_header : (header : ℕ) (images : List Image) (x : Image) → first_with header images ≡ Some x → x.header ≡ header
first_header header [] x e = cc
first_header header (y ∷ images) x e =
    by_cases (eqb y.header header)
    (λ t. let found : Some y ≡ Some x = rw t at e in let same : y ≡ x = cc in sym (ap (λ (z : Image). z.header) same) ∙ eqb-true y.header header t)
    (λ t. first_header header images x (rw t at e))

pub unplanned_worn : (s : WriterState) (header : ℕ) → changes s.history ≡ MOST_CHANGES → planned_unload (changes_in (events_of s.names s.history)) header ≡ Err (outcomes.Worn MOST_CHANGES)
unplanned_worn s header e =
    let cs : List Change = changes_in (events_of s.names s.history) in
    ap (λ (o : Option Outcome). unless_refusal o (found_unload cs header)) (worn_said s e)

unplanned_fresh : (s : WriterState) (header : ℕ) (found : Option Image) → IsAtRest s → HasLists s → changes s.history ≢ MOST_CHANGES → first_with header (live s.history) ≡ found
    → planned_unload (changes_in (events_of s.names s.history)) header ≡ ok_or (option_map (unload_plan header) (option_map (named s.names) found)) outcomes.NotLoaded
unplanned_fresh s header found rest k n e =
    let cs : List Change = changes_in (events_of s.names s.history) in
    ap (λ (o : Option Outcome). unless_refusal o (found_unload cs header)) (fresh_said s rest n)
    ∙ ap (λ (o : Option Named). ok_or (option_map (unload_plan header) o) outcomes.NotLoaded) (first_known s header k ∙ ap (option_map (named s.names)) e)

pub unplanned_none : (s : WriterState) (header : ℕ) → IsAtRest s → HasLists s → changes s.history ≢ MOST_CHANGES → first_with header (live s.history) ≡ None → planned_unload (changes_in (events_of s.names s.history)) header ≡ Err outcomes.NotLoaded
unplanned_none s header rest k n e = unplanned_fresh s header None rest k n e

pub unplanned_one : (s : WriterState) (header : ℕ) (image : Image) → IsAtRest s → HasLists s → changes s.history ≢ MOST_CHANGES → first_with header (live s.history) ≡ Some image
    → planned_unload (changes_in (events_of s.names s.history)) header ≡ Ok (record { change = UnloadsFirst header; load = image.load; before = 0 })
unplanned_one s header image rest k n e = unplanned_fresh s header (Some image) rest k n e
