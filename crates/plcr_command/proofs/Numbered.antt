-- Scripts one after the other: which files they are, and what is read of them.
use Rattle.std.proofs.Common.{◌≡◌, ℕ, zero, suc, ◌+◌, List, [], ◌∷◌, ◌++◌, ◌≤◌, Bor, Some, Ok, Err, length, map, take, drop, take-append-drop, add-one, refl, sym, ap, ◌∙◌}
use Rattle.std.specs.Prelude.{slice_get}
use Rattle.std.proofs.lemmas.List.{drop_all, map-append}
use Rattle.plcr_script.specs.declared.modes.Mode.{Mode}
use Rattle.plcr_script.specs.Reading.{script_in}
use Rattle.plcr_script.specs.Scripts.{ScriptValue}
use Rattle.plcr_io.specs.Desk.{Told}
use Rattle.plcr_command.specs.declared.refusals.Refusal.{Refusal}
use Rattle.plcr_command.specs.Files.{File, script_file}
use Rattle.plcr_command.specs.Taking.{MadeNothing, TookAll, TookSome, Untaken}
use Rattle.plcr_command.specs.declared.jobs.Modes.{Modes}
use Rattle.plcr_command.specs.declared.refusals.Refusal.TheVariants.{CannotRead, TooLong, CoreRefused, ScriptRefused, ReportRefused, OutOfMemory}
use Rattle.plcr_command.specs.Jobs.{RefusedScript, ScriptsMisread, numbered, scripts_from, scripts_in, texts}
use Rattle.plcr_command.specs.inner.Jobs.{ScriptMisread}
use Rattle.plcr_command.proofs.Takings.{took_twice, untaken_at, some_of}

-- a list at one of its elements
pub parts_at : {A : Type 0} (xs : List A) (i : ℕ) (x : A) → slice_get xs i ≡ Some x → xs ≡ take i xs ++ x ∷ drop (i + 1) xs
parts_at {A = A} [] i x is = cc
parts_at {A = A} (y ∷ ys) zero x is = cc
parts_at {A = A} (y ∷ ys) (suc i) x is =
    let e : ys ≡ take i ys ++ x ∷ drop (i + 1) ys = parts_at ys i x is in
    rw add-one (ap (λ (l : List A). y ∷ l) (rw add-one at e))

-- one more element taken from the front
pub take_next : {A : Type 0} (xs : List A) (i : ℕ) (x : A) → slice_get xs i ≡ Some x → take (i + 1) xs ≡ take i xs ++ x ∷ []
take_next {A = A} [] i x is = cc
take_next {A = A} (y ∷ ys) zero x is = cc
take_next {A = A} (y ∷ ys) (suc i) x is =
    let e : take (i + 1) ys ≡ take i ys ++ x ∷ [] = take_next ys i x is in
    rw add-one (ap (λ (l : List A). y ∷ l) (rw add-one at e))

-- the files of scripts
abbrev pub files_of : List (Bor (List ℕ)) → List File
files_of scripts = map script_file (texts scripts)

files_more : (xs ys : List (Bor (List ℕ))) → files_of (xs ++ ys) ≡ files_of xs ++ files_of ys
files_more xs ys = ap (map script_file) (map-append (λ (text : Bor (List ℕ)). text.now) xs ys) ∙ map-append script_file (texts xs) (texts ys)

pub files_at : (scripts : List (Bor (List ℕ))) (i : ℕ) (x : Bor (List ℕ)) → slice_get scripts i ≡ Some x → files_of scripts ≡ files_of (take i scripts) ++ script_file x.now ∷ files_of (drop (i + 1) scripts)
files_at scripts i x is = ap files_of (parts_at scripts i x is) ∙ files_more (take i scripts) (x ∷ drop (i + 1) scripts)

pub files_next : (scripts : List (Bor (List ℕ))) (i : ℕ) (x : Bor (List ℕ)) → slice_get scripts i ≡ Some x → files_of (take (i + 1) scripts) ≡ files_of (take i scripts) ++ script_file x.now ∷ []
files_next scripts i x is = ap files_of (take_next scripts i x is) ∙ files_more (take i scripts) (x ∷ [])

-- the next script was taken
pub took_next : (scripts : List (Bor (List ℕ))) (i : ℕ) (x : Bor (List ℕ)) (file : File) (contents : List (List ℕ)) (bytes : List ℕ) (old mid new : Told) → slice_get scripts i ≡ Some x → file ≡ script_file x.now → mid.files ≡ old.files
    → TookAll (files_of (take i scripts)) contents old mid → TookAll (file ∷ []) (bytes ∷ []) mid new → TookAll (files_of (take (i + 1) scripts)) (contents ++ bytes ∷ []) old new
took_next scripts i x file contents bytes old mid new is named same before one =
    let all = took_twice (files_of (take i scripts)) (file ∷ []) contents (bytes ∷ []) old mid new same before one in
    rw (files_next scripts i x is, ← named) all

-- the next script wasn't taken
pub untaken_next : (scripts : List (Bor (List ℕ))) (i : ℕ) (x : Bor (List ℕ)) (file : File) (contents : List (List ℕ)) (refusal : Refusal) (old mid new : Told) → slice_get scripts i ≡ Some x → file ≡ script_file x.now → MadeNothing old mid
    → TookAll (files_of (take i scripts)) contents old mid → Untaken (file ∷ []) mid new refusal → Untaken (files_of scripts) old new refusal
untaken_next scripts i x file contents refusal old mid new is named nothing before one =
    let all = untaken_at (files_of (take i scripts)) file (files_of (drop (i + 1) scripts)) contents refusal old mid new nothing.files nothing.take_faults before one in
    rw (files_at scripts i x is, ← named) all

-- the first scripts were taken
pub took_first : (scripts : List (Bor (List ℕ))) (i : ℕ) (contents : List (List ℕ)) (old new : Told) → TookAll (files_of (take i scripts)) contents old new → TookSome (files_of scripts) old new
took_first scripts i contents old new took =
    let all = some_of (files_of (take i scripts)) (files_of (drop i scripts)) contents old new took in
    rw (ap files_of (sym (take-append-drop i scripts)) ∙ files_more (take i scripts) (drop i scripts)) all

-- what is left from an element on begins with it
drop_at : {A : Type 0} (xs : List A) (i : ℕ) (x : A) → slice_get xs i ≡ Some x → drop i xs ≡ x ∷ drop (i + 1) xs
drop_at {A = A} [] i x is = cc
drop_at {A = A} (y ∷ ys) zero x is = cc
drop_at {A = A} (y ∷ ys) (suc i) x is =
    let e : drop i ys ≡ x ∷ drop (i + 1) ys = drop_at ys i x is in
    rw add-one (rw add-one at e)

-- the next script is read
pub reads_on : (mode later : Mode) (before : List ScriptValue) (contents : List (List ℕ)) (i : ℕ) (bytes : List ℕ) (script : ScriptValue) → slice_get contents i ≡ Some bytes → script_in mode before bytes ≡ Ok script
    → scripts_from mode later before (drop i contents) ≡ scripts_from later later (before ++ script ∷ []) (drop (i + 1) contents)
unfolding scripts_from
reads_on mode later before contents i bytes script is read = rw (drop_at contents i bytes is, read) refl

-- the next script is refused
pub stops_at : (mode later : Mode) (before : List ScriptValue) (contents : List (List ℕ)) (i : ℕ) (bytes : List ℕ) (refused : RefusedScript) → slice_get contents i ≡ Some bytes → numbered (length before + 1) (script_in mode before bytes) ≡ Err refused
    → scripts_from mode later before (drop i contents) ≡ Err refused
unfolding scripts_from
stops_at mode later before contents i bytes refused is read = rw (drop_at contents i bytes is, read) refl

-- no script is left
pub reads_all : (mode later : Mode) (before : List ScriptValue) (contents : List (List ℕ)) (i : ℕ) → length contents ≤ i → scripts_from mode later before (drop i contents) ≡ Ok before
unfolding scripts_from
reads_all mode later before contents i all = rw (drop_all i contents all) refl

-- what the next script is refused for, all are
pub misread_at : (modes : Modes) (mode : Mode) (before : List ScriptValue) (contents : List (List ℕ)) (i number : ℕ) (bytes : List ℕ) (refusal : Refusal) → slice_get contents i ≡ Some bytes → number ≡ length before + 1
    → scripts_from mode modes.later before (drop i contents) ≡ scripts_in modes contents → ScriptMisread number mode before bytes refusal → ScriptsMisread modes contents refusal
misread_at modes mode before contents i number bytes (CannotRead word) is counted read misread = misread
misread_at modes mode before contents i number bytes (TooLong word) is counted read misread = misread
misread_at modes mode before contents i number bytes (CoreRefused fault) is counted read misread = misread
misread_at modes mode before contents i number bytes (ScriptRefused script line kind) is counted read misread =
    let refused : RefusedScript = record { script = script; line = line; kind = kind } in
    sym read ∙ stops_at mode modes.later before contents i bytes refused is (rw counted at misread)
misread_at modes mode before contents i number bytes (ReportRefused fault) is counted read misread = misread
misread_at modes mode before contents i number bytes OutOfMemory is counted read misread = misread
