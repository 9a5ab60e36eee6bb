-- What the takes of a command's files gain, one after the other.
use Rattle.std.proofs.Common.{inl, inr, ◌⊎◌, ◌<◌, ◌≤◌, ◌≡◌, ℕ, length, List, [], ◌∷◌, ◌++◌, Option, Ok, Err, refl, sym, ap, subst, ◌∙◌, append_assoc, append-nil, arith}
use Rattle.std.specs.declared.alloc.Global.{Global}
use Rattle.std.specs.Prelude.{Vec}
use Rattle.std.proofs.lemmas.List.{map-append}
use Rattle.plcr_base.specs.Told.{Gains, IfTold}
use Rattle.plcr_base.proofs.Gained.{gains_none, gains_more, gains_twice}
use Rattle.plcr_base.proofs.Risen.{rose_second}
use Rattle.plcr_io.specs.Desk.{Told, Takes}
use Rattle.plcr_io.specs.declared.desks.TakeFault.{TakeFault}
use Rattle.plcr_io.specs.declared.desks.TakeFault.TheVariants.{Failed, TooLong, Memory}
use Rattle.plcr_command.specs.Files.{File, named, names_of}
use Rattle.plcr_command.specs.Taking.{AreTaken, MadeNothing, TookAll, TookBefore, TookSome, Untaken}
use Rattle.plcr_command.specs.inner.Taking.{refusal_of}
use Rattle.plcr_command.specs.declared.files.FileWord.{FileWord}
use Rattle.plcr_command.specs.declared.refusals.Refusal.{Refusal}
use Rattle.plcr_command.specs.declared.refusals.Refusal.TheVariants.{CannotRead, CoreRefused, ScriptRefused, ReportRefused, OutOfMemory}
use Rattle.plcr_command.specs.declared.refusals.Refusal.TheVariants as refusals
use Rattle.plcr_command.specs.Refusals.{IsRead, Refuses}
use Rattle.plcr_command.specs.Lines.{IsToldAs}

-- a list that is as it was gained nothing
gains_same : {A : Type 0} (old new : Option (List A)) → new ≡ old → Gains old new []
gains_same {A = A} old new same = let P : Option (List A) → Type 0 = λ t. Gains old t [] in subst P (sym same) (gains_none old)

-- one file was taken
pub took_one : (file : File) (bytes : Vec ℕ Global) (old new : Told) → Takes file.name file.limit old new (Ok bytes) → TookAll (file ∷ []) (bytes.items ∷ []) old new
took_one file bytes old new take = record {
  are = (record { whole = take.bytes; fits = take.within }, tt);
  taken =
      let P : Option (List (List ℕ)) → Type 0 = λ t. Gains old.taken t (file.name ∷ []) in
      subst P (sym take.listed) (gains_more old.taken old.taken [] file.name (gains_none old.taken));
}

-- no file was taken
pub took_none : (old new : Told) → new.taken ≡ old.taken → TookAll [] [] old new
took_none old new same = record { are = tt; taken = gains_same old.taken new.taken same }

-- one file wasn't taken
pub untaken_one : (word : FileWord) (fault : TakeFault) (old new : Told) → Takes word.name.now word.limit old new (Err fault) → Untaken (named word ∷ []) old new (refusal_of word fault)
untaken_one word Failed old new take = record {
  taken = record { before = []; after = []; parts = refl; contents = []; took = took_none old new take.unlisted };
  cause = take.failed refl;
}
untaken_one word (TooLong limit) old new take = record {
  taken = record { before = []; after = []; parts = refl; contents = []; took = took_none old new take.unlisted };
  cause = (take.too_long limit refl).1;
}
untaken_one word Memory old new take = record { some = []; others = named word ∷ []; parts = refl; taken = gains_same old.taken new.taken take.unlisted }

-- the same files are told
told_same : (files : List File) (contents : List (List ℕ)) (mid old : Told) → mid.files ≡ old.files → AreTaken mid files contents → AreTaken old files contents
told_same [] [] mid old same are = tt
told_same [] (bytes ∷ contents) mid old same are = are
told_same (file ∷ files) [] mid old same are = are
told_same (file ∷ files) (bytes ∷ contents) mid old same are =
    let P : (List ℕ → Option (List ℕ)) → Type 0 = λ f. IfTold (f file.name) (λ told. bytes ≡ told) in
    (record { whole = subst P same are.0.whole; fits = are.0.fits }, told_same files contents mid old same are.1)

-- the bytes of files, and then of others
taken_twice : (first second : List File) (a b : List (List ℕ)) (old mid : Told) → mid.files ≡ old.files → AreTaken old first a → AreTaken mid second b → AreTaken old (first ++ second) (a ++ b)
taken_twice [] second [] b old mid same x y = told_same second b mid old same y
taken_twice [] second (bytes ∷ a) b old mid same x y = absurd x
taken_twice (file ∷ first) second [] b old mid same x y = absurd x
taken_twice (file ∷ first) second (bytes ∷ a) b old mid same x y = (x.0, taken_twice first second a b old mid same x.1 y)

-- names gained, and then others
names_twice : (first second : List File) (old mid new : Option (List (List ℕ))) → Gains old mid (names_of first) → Gains mid new (names_of second) → Gains old new (names_of (first ++ second))
names_twice first second old mid new a b = rw map-append (gains_twice old mid new (names_of first) (names_of second) a b)

-- files were taken, and then others
pub took_twice : (first second : List File) (a b : List (List ℕ)) (old mid new : Told) → mid.files ≡ old.files → TookAll first a old mid → TookAll second b mid new → TookAll (first ++ second) (a ++ b) old new
took_twice first second a b old mid new same x y = record {
  are = taken_twice first second a b old mid same x.are y.are;
  taken = names_twice first second old.taken mid.taken new.taken x.taken y.taken;
}

before_after : (first second : List File) (a : List (List ℕ)) (file : File) (old mid new : Told) → mid.files ≡ old.files → TookAll first a old mid → TookBefore second file mid new → TookBefore (first ++ second) file old new
before_after first second a file old mid new same x y = record {
  before = first ++ y.before;
  after = y.after;
  parts = ap (λ l. first ++ l) y.parts ∙ sym (append_assoc first y.before (file ∷ y.after));
  contents = a ++ y.contents;
  took = took_twice first y.before a y.contents old mid new same x y.took;
}

-- files were taken, and then not all of others
pub untaken_after : (first second : List File) (a : List (List ℕ)) (refusal : Refusal) (old mid new : Told) → mid.files ≡ old.files → old.take_faults ≤ mid.take_faults → TookAll first a old mid → Untaken second mid new refusal → Untaken (first ++ second) old new refusal
untaken_after first second a (CannotRead word) old mid new same later x y = record {
  taken = before_after first second a (named word) old mid new same x y.taken;
  cause = rose_second _ _ _ later y.cause;
}
untaken_after first second a (refusals.TooLong word) old mid new same later x y = record {
  taken = before_after first second a (named word) old mid new same x y.taken;
  cause = let P : (List ℕ → Option (List ℕ)) → Type 0 = λ f. IfTold (f word.name.now) (λ bytes. word.limit < length bytes) in subst P same y.cause;
}
untaken_after first second a OutOfMemory old mid new same later x y = record {
  some = first ++ y.some;
  others = y.others;
  parts = ap (λ l. first ++ l) y.parts ∙ sym (append_assoc first y.some y.others);
  taken = names_twice first y.some old.taken mid.taken new.taken x.taken y.taken;
}
untaken_after first second a (CoreRefused fault) old mid new same later x y = absurd y
untaken_after first second a (ScriptRefused script line kind) old mid new same later x y = absurd y
untaken_after first second a (ReportRefused fault) old mid new same later x y = absurd y

before_more : (files more : List File) (file : File) (old new : Told) → TookBefore files file old new → TookBefore (files ++ more) file old new
before_more files more file old new x = record {
  before = x.before;
  after = x.after ++ more;
  parts = ap (λ l. l ++ more) x.parts ∙ append_assoc x.before (file ∷ x.after) more;
  contents = x.contents;
  took = x.took;
}

-- not all of files were taken, so neither were these and others
pub untaken_more : (files more : List File) (refusal : Refusal) (old new : Told) → Untaken files old new refusal → Untaken (files ++ more) old new refusal
untaken_more files more (CannotRead word) old new x = record { taken = before_more files more (named word) old new x.taken; cause = x.cause }
untaken_more files more (refusals.TooLong word) old new x = record { taken = before_more files more (named word) old new x.taken; cause = x.cause }
untaken_more files more OutOfMemory old new x = record {
  some = x.some;
  others = x.others ++ more;
  parts = ap (λ l. l ++ more) x.parts ∙ append_assoc x.some x.others more;
  taken = x.taken;
}
untaken_more files more (CoreRefused fault) old new x = absurd x
untaken_more files more (ScriptRefused script line kind) old new x = absurd x
untaken_more files more (ReportRefused fault) old new x = absurd x

-- files were taken, and then this one wasn't
pub untaken_at : (before : List File) (file : File) (after : List File) (a : List (List ℕ)) (refusal : Refusal) (old mid new : Told) → mid.files ≡ old.files → old.take_faults ≤ mid.take_faults → TookAll before a old mid → Untaken (file ∷ []) mid new refusal → Untaken (before ++ file ∷ after) old new refusal
untaken_at before file after a refusal old mid new same later x y =
    untaken_after before (file ∷ after) a refusal old mid new same later x (untaken_more (file ∷ []) after refusal mid new y)

-- files were taken, and memory was wanting before the others
pub some_of : (before after : List File) (a : List (List ℕ)) (old new : Told) → TookAll before a old new → TookSome (before ++ after) old new
some_of before after a old new x = record { some = before; others = after; parts = refl; taken = x.taken }

-- nothing was made over calls that made nothing
pub nothing_twice : (old mid new : Told) → MadeNothing old mid → MadeNothing mid new → MadeNothing old new
nothing_twice old mid new a b = record {
  files = b.files ∙ a.files;
  made = b.made ∙ a.made;
  kept = b.kept ∙ a.kept;
  dropped = b.dropped ∙ a.dropped;
  out_faults = b.out_faults ∙ a.out_faults;
  take_faults = let x = a.take_faults in let y = b.take_faults in omega arith;
}

pub nothing_none : (old : Told) → MadeNothing old old
nothing_none old = record { files = refl; made = refl; kept = refl; dropped = refl; out_faults = refl; take_faults = omega arith }

before_some : (files : List File) (file : File) (old new : Told) → TookBefore files file old new → TookSome files old new
before_some files file old new is = record { some = is.before; others = file ∷ is.after; parts = is.parts; taken = is.took.taken }

-- whatever a command is refused for, some of its files were taken
took_some : (Misread : List (List ℕ) → Refusal → Type 0) (files : List File) (refusal : Refusal) (old new : Told) → Refuses Misread files old new refusal → TookSome files old new
took_some Misread files (CannotRead word) old new (inl is) = before_some files (named word) old new is.taken
took_some Misread files (refusals.TooLong word) old new (inl is) = before_some files (named word) old new is.taken
took_some Misread files OutOfMemory old new (inl is) = is
took_some Misread files (CoreRefused fault) old new (inl is) = absurd is
took_some Misread files (ScriptRefused script line kind) old new (inl is) = absurd is
took_some Misread files (ReportRefused fault) old new (inl is) = absurd is
took_some Misread files refusal old new (inr is) = record { some = files; others = []; parts = sym (append-nil files); taken = is.took.taken }

-- a refusal is told as itself or as want of memory
told_as : (refusal said : Refusal) → IsToldAs refusal said → (said ≡ refusal) ⊎ (said ≡ OutOfMemory)
told_as (CannotRead word) said told = inl told
told_as (refusals.TooLong word) said told = inl told
told_as (CoreRefused fault) said told = told
told_as (ScriptRefused script line kind) said told = inl told
told_as (ReportRefused fault) said told = told
told_as OutOfMemory said told = inl told

-- a refusal as it is told
pub still_refused : (Misread : List (List ℕ) → Refusal → Type 0) (files : List File) (refusal said : Refusal) (old new : Told) → Refuses Misread files old new refusal → IsToldAs refusal said → Refuses Misread files old new said
still_refused Misread files refusal said old new is told = elim (told_as refusal said told) [
  | inl same ↦ subst (Refuses Misread files old new) (sym same) is
  | inr want ↦
      let some : Refuses Misread files old new OutOfMemory = inl (took_some Misread files refusal old new is) in
      subst (Refuses Misread files old new) (sym want) some
]

-- what was read of files that were taken stays so over calls that take none
pub read_after : {A : Type 0} (Reads : List (List ℕ) → A → Type 0) (files : List File) (value : A) (old mid new : Told) → IsRead Reads files old mid value → new.taken ≡ mid.taken → IsRead Reads files old new value
read_after Reads files value old mid new is same = record {
  contents = is.contents;
  took = record {
    are = is.took.are;
    taken = let P : Option (List (List ℕ)) → Type 0 = λ t. Gains old.taken t (names_of files) in subst P (sym same) is.took.taken;
  };
  read = is.read;
}

-- files that were taken were taken
pub read_some : {A : Type 0} (Reads : List (List ℕ) → A → Type 0) (files : List File) (value : A) (old new : Told) → IsRead Reads files old new value → TookSome files old new
read_some Reads files value old new is = record { some = files; others = []; parts = sym (append-nil files); taken = is.took.taken }
