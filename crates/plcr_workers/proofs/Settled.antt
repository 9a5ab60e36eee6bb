-- Outputs that are kept and given up, one after the other.
use Rattle.std.proofs.Common.{Bool, true, false, inl, inr, ◌≡◌, ℕ, ◌+◌, ◌<◌, ◌≤◌, List, [], ◌∷◌, ◌++◌, Option, Some, None, length, refl, sym, ap, subst, ◌∙◌, append-nil, append_assoc, length-append, arith}
use Rattle.std.specs.Prelude.{All, Vec, reverse}
use Rattle.std.specs.declared.alloc.Global.{Global}
use Rattle.std.proofs.lemmas.List.Elements.{All-nil, All-cons, All-head, All-tail, All-append}
use Rattle.std.proofs.lemmas.List.{reverse-append, length-reverse}
use Rattle.plcr_base.specs.Causes.{Rose}
use Rattle.plcr_base.specs.Told.{IfTold, Gains, add_told}
use Rattle.plcr_base.proofs.Gained.{gains_none, gains_twice}
use Rattle.plcr_base.proofs.Risen.{rose_second}
use Rattle.plcr_machine.proofs.Cases.{not_both}
use Rattle.plcr_io.specs.Desk.{Told, HasOpen, file}
use Rattle.plcr_workers.proofs.Opened.{has_open, after_drop, still_open}
use Rattle.plcr_turns.proofs.Fronts.{all_front}
use Rattle.plcr_script.specs.Scripts.{ScriptValue}
use Rattle.plcr_command.specs.Saving.{TookNothing}
use Rattle.plcr_workers.specs.declared.drafts.Draft.{Draft}
use Rattle.plcr_workers.specs.declared.drafts.Progress.{Progress}
use Rattle.plcr_workers.specs.declared.drafts.Progress.TheVariants.{Waiting, Written, Failed}
use Rattle.plcr_workers.specs.inner.Outputs.{name_at, IsDraftOf, AreDone, AreFiles, HasOpenFor, HasKeptAll, HasKeptUpTo, HasDropped, in_order}

pub nothing_none : (old : Told) → TookNothing old old
nothing_none old = record { files = refl; taken = refl; take_faults = refl; out_faults = omega arith }

pub nothing_twice : (old mid new : Told) → TookNothing old mid → TookNothing mid new → TookNothing old new
nothing_twice old mid new a b = record {
  files = b.files ∙ a.files;
  taken = b.taken ∙ a.taken;
  take_faults = b.take_faults ∙ a.take_faults;
  out_faults = let x = a.out_faults in let y = b.out_faults in omega arith;
}

pub dropped_none : (old : Told) → HasDropped old old
dropped_none old = record { made = refl; kept = refl; nothing = nothing_none old }

pub dropped_twice : (old mid new : Told) → HasDropped old mid → HasDropped mid new → HasDropped old new
dropped_twice old mid new a b = record { made = b.made ∙ a.made; kept = b.kept ∙ a.kept; nothing = nothing_twice old mid new a.nothing b.nothing }

pub rose_first : (before mid after : ℕ) → mid ≤ after → Rose before mid → Rose before after
rose_first before mid after later (inl more) = inl (omega (arith, later, more))
rose_first before mid after later (inr full) = inr (omega (arith, later, full))

module _ {K : Type 0} (written : K → Option (List ℕ)) (scripts : List ScriptValue) where
  -- files of outputs and of more
  no_more : (d : Draft K) (drafts : List (Draft K)) → AreFiles written scripts (d ∷ drafts) [] → ⊥
  no_more d drafts h = h

  gains_both : (first second : List (Draft K)) (old mid new : Told) (files : List (List ℕ × List ℕ)) (front : List (List ℕ × List ℕ))
      → ((fs : List (List ℕ × List ℕ)) → AreFiles written scripts first fs → Gains old.kept mid.kept (front ++ fs))
      → ((fs : List (List ℕ × List ℕ)) → AreFiles written scripts second fs → Gains mid.kept new.kept fs)
      → AreFiles written scripts (first ++ second) files → Gains old.kept new.kept (front ++ files)
  gains_both [] second old mid new files front a b are =
      subst (λ (l : List (List ℕ × List ℕ)). Gains old.kept new.kept (l ++ files)) (append-nil front)
      (gains_twice old.kept mid.kept new.kept (front ++ []) files (a [] refl) (b files are))
  gains_both (d ∷ first) second old mid new [] front a b are = absurd are
  gains_both (d ∷ first) second old mid new (f ∷ files) front a b are =
      subst (λ (l : List (List ℕ × List ℕ)). Gains old.kept new.kept l) (append_assoc front (f ∷ []) files)
      (gains_both first second old mid new files (front ++ f ∷ [])
      (λ fs these. subst (λ (l : List (List ℕ × List ℕ)). Gains old.kept mid.kept l) (sym (append_assoc front (f ∷ []) fs)) (a (f ∷ fs) (are.0, are.1, these)))
      b are.2)

  pub kept_none : (old : Told) → HasKeptAll written scripts [] old old
  kept_none old = record {
    whole = All-nil (λ (d : Draft K). d.progress ≡ Written);
    made = refl;
    kept = λ files are. subst (λ (l : List (List ℕ × List ℕ)). Gains old.kept old.kept l) (sym are) (gains_none old.kept);
    dropped = refl;
    nothing = nothing_none old;
  }

  pub kept_twice : (first second : List (Draft K)) (old mid new : Told) → HasKeptAll written scripts first old mid → HasKeptAll written scripts second mid new → HasKeptAll written scripts (first ++ second) old new
  kept_twice first second old mid new a b = record {
    whole = All-append (λ (d : Draft K). d.progress ≡ Written) first second a.whole b.whole;
    made = b.made ∙ a.made;
    kept = λ files are. gains_both first second old mid new files [] a.kept b.kept are;
    dropped = b.dropped ∙ a.dropped;
    nothing = nothing_twice old mid new a.nothing b.nothing;
  }

  -- one that was not kept, after others that were
  pub unkept_after : (first second : List (Draft K)) (script at : ℕ) (old mid new : Told) → HasKeptAll written scripts first old mid → HasKeptUpTo written scripts second script at mid new → HasKeptUpTo written scripts (first ++ second) script at old new
  unkept_after first second script at old mid new a b = record {
    before = first ++ b.before;
    draft = b.draft;
    after = b.after;
    parts = ap (λ (l : List (Draft K)). first ++ l) b.parts ∙ sym (append_assoc first b.before (b.draft ∷ b.after));
    place = b.place;
    whole = All-append (λ (d : Draft K). d.progress ≡ Written) first b.before a.whole b.whole;
    made = b.made ∙ a.made;
    kept = λ files are. gains_both first b.before old mid new files [] a.kept b.kept are;
    cause = rose_second _ _ _ a.nothing.out_faults b.cause;
    nothing = nothing_twice old mid new a.nothing b.nothing;
  }

  -- and more behind it
  pub unkept_before : (first second : List (Draft K)) (script at : ℕ) (old new : Told) → HasKeptUpTo written scripts first script at old new → HasKeptUpTo written scripts (first ++ second) script at old new
  unkept_before first second script at old new a = record {
    before = a.before;
    draft = a.draft;
    after = a.after ++ second;
    parts = ap (λ (l : List (Draft K)). l ++ second) a.parts ∙ append_assoc a.before (a.draft ∷ a.after) second;
    place = a.place;
    whole = a.whole;
    made = a.made;
    kept = a.kept;
    cause = a.cause;
    nothing = a.nothing;
  }

  -- which are given up
  pub unkept_dropped : (drafts : List (Draft K)) (script at : ℕ) (old mid new : Told) → HasKeptUpTo written scripts drafts script at old mid → HasDropped mid new → HasKeptUpTo written scripts drafts script at old new
  unkept_dropped drafts script at old mid new a b = record {
    before = a.before;
    draft = a.draft;
    after = a.after;
    parts = a.parts;
    place = a.place;
    whole = a.whole;
    made = b.made ∙ a.made;
    kept = λ files are. subst (λ (k : Option (List (List ℕ × List ℕ))). Gains old.kept k files) (sym b.kept) (a.kept files are);
    cause = rose_first old.out_faults mid.out_faults new.out_faults b.nothing.out_faults a.cause;
    nothing = nothing_twice old mid new a.nothing b.nothing;
  }

  -- the keeping of one
  pub kept_one : (draft : Draft K) (old new : Told) → draft.progress ≡ Written → new.made ≡ old.made → new.kept ≡ add_told old.kept (file (name_at scripts draft.script draft.at) (written draft.out)) → new.dropped ≡ old.dropped → TookNothing old new
      → HasKeptAll written scripts (draft ∷ []) old new
  kept_one draft old new whole made kept dropped nothing = record {
    whole = All-cons (λ (d : Draft K). d.progress ≡ Written) draft [] whole (All-nil (λ (d : Draft K). d.progress ≡ Written));
    made = made;
    kept = λ files are. one_file files are;
    dropped = dropped;
    nothing = nothing;
  }
    where
      known : (name b bytes : List ℕ) (was : Option (List (List ℕ × List ℕ))) → b ≡ bytes → Gains was (add_told was (file name (Some b))) ((name, bytes) ∷ [])
      known name b bytes None e = tt
      known name b bytes (Some k) e = λ i. k ++ (name, e i) ∷ []

      told : (name bytes : List ℕ) (was : Option (List ℕ)) → IfTold was (λ b. b ≡ bytes) → new.kept ≡ add_told old.kept (file name was) → Gains old.kept new.kept ((name, bytes) ∷ [])
      told name bytes None is k = subst (λ (x : Option (List (List ℕ × List ℕ))). Gains old.kept x ((name, bytes) ∷ [])) (sym k) (nothing_told old.kept)
        where
          nothing_told : (was : Option (List (List ℕ × List ℕ))) → Gains was None ((name, bytes) ∷ [])
          nothing_told None = tt
          nothing_told (Some k) = tt
      told name bytes (Some b) is k = subst (λ (x : Option (List (List ℕ × List ℕ))). Gains old.kept x ((name, bytes) ∷ [])) (sym k) (known name b bytes old.kept is)

      one_file : (files : List (List ℕ × List ℕ)) → AreFiles written scripts (draft ∷ []) files → Gains old.kept new.kept files
      one_file [] are = absurd are
      one_file (f ∷ files) are =
          let this : Gains old.kept new.kept ((f.0, f.1) ∷ []) = told f.0 f.1 (written draft.out) are.1 (subst (λ (n : List ℕ). new.kept ≡ add_told old.kept (file n (written draft.out))) (sym are.0) kept) in
          subst (λ (l : List (List ℕ × List ℕ)). Gains old.kept new.kept (f ∷ l)) (sym are.2) this

  -- the one that was not kept
  pub unkept_one : (draft : Draft K) (script at : ℕ) (old new : Told) → (draft.script ≡ script) → (draft.at ≡ at) → new.made ≡ old.made → new.kept ≡ old.kept → Rose old.out_faults new.out_faults → TookNothing old new
      → HasKeptUpTo written scripts (draft ∷ []) script at old new
  unkept_one draft script at old new number place made kept cause nothing = record {
    before = [];
    draft = draft;
    after = [];
    parts = refl;
    place = (number, place);
    whole = All-nil (λ (d : Draft K). d.progress ≡ Written);
    made = made;
    kept = λ files are. subst (λ (l : List (List ℕ × List ℕ)). Gains old.kept new.kept l) (sym are) (subst (λ (k : Option (List (List ℕ × List ℕ))). Gains old.kept k []) (sym kept) (gains_none old.kept));
    cause = cause;
    nothing = nothing;
  }

-- so many more than none
pub from_none : (count : ℕ) (told : Told) → HasOpenFor count told → HasOpenFor (0 + count) told
from_none count told h = subst (λ (n : ℕ). HasOpenFor n told) (omega arith) h

pub to_none : (count : ℕ) (told : Told) → HasOpenFor (0 + count) told → HasOpenFor count told
to_none count told h = subst (λ (n : ℕ). HasOpenFor n told) (omega arith) h

-- ---- outputs in lists of which the last is the first

all_back : {A : Type 0} (P : A → Type 0) (xs ys : List A) → All P (xs ++ ys) → All P ys
all_back P [] ys all = all
all_back P (x ∷ xs) ys all = all_back P xs ys (All-tail P x (xs ++ ys) all)

pub in_order_last : {K : Type 0} (all : List (Vec (Draft K) Global)) (drafts : Vec (Draft K) Global) → in_order (all ++ drafts ∷ []) ≡ reverse drafts.items ++ in_order all
in_order_last [] drafts = sym (append-nil (reverse drafts.items))
in_order_last (first ∷ all) drafts = ap (λ l. l ++ reverse first.items) (in_order_last all drafts) ∙ append_assoc (reverse drafts.items) (in_order all) (reverse first.items)

pub done_first : {K : Type 0} (faults : K → ℕ) (first second : List (Draft K)) → AreDone faults (first ++ second) → AreDone faults first
done_first faults [] second h = tt
done_first faults (d ∷ first) second (inl h) = inl (h.0, done_first faults first second h.1)
done_first faults (d ∷ first) second (inr h) = inr h

-- those behind outputs that were written whole
pub done_later : {K : Type 0} (faults : K → ℕ) (first second : List (Draft K)) → All (λ (d : Draft K). d.progress ≡ Written) first → AreDone faults (first ++ second) → AreDone faults second
done_later faults [] second whole h = h
done_later faults (d ∷ first) second whole (inl h) = done_later faults first second (All-tail (λ d. d.progress ≡ Written) d first whole) h.1
done_later faults (d ∷ first) second whole (inr h) = absurd (h.0 (All-head (λ d. d.progress ≡ Written) d first whole))

-- one that was not written whole has faults
pub waits_faulty : {K : Type 0} (faults : K → ℕ) (draft : Draft K) → AreDone faults (draft ∷ []) → draft.progress ≡ Waiting → 0 < faults draft.out
waits_faulty faults draft (inl h) is = absurd (not_both_waiting (sym h.0 ∙ is))
  where
    kind : Progress → Bool
    kind Waiting = true
    kind Written = false
    kind Failed = false

    not_both_waiting : Written ≡ Waiting → ⊥
    not_both_waiting e = not_both false (ap kind e) refl
waits_faulty faults draft (inr h) is = h.1

pub failed_faulty : {K : Type 0} (faults : K → ℕ) (draft : Draft K) → AreDone faults (draft ∷ []) → draft.progress ≡ Failed → 0 < faults draft.out
failed_faulty faults draft (inl h) is = absurd (not_both_failed (sym h.0 ∙ is))
  where
    kind : Progress → Bool
    kind Waiting = false
    kind Written = false
    kind Failed = true

    not_both_failed : Written ≡ Failed → ⊥
    not_both_failed e = not_both false (ap kind e) refl
failed_faulty faults draft (inr h) is = h.1

-- the last outputs were kept, and the others are left
pub record KeepingEach {K : Type 0} (written : K → Option (List ℕ)) (faults : K → ℕ) (scripts : List ScriptValue) (all left : List (Draft K)) (old now : Told) : Type 0 where
  pub gone : List (Draft K)
  pub parts : reverse all ≡ gone ++ reverse left
  pub kept : HasKeptAll written scripts gone old now
  pub are : All (IsDraftOf scripts) (reverse left)
  pub done : AreDone faults (reverse left)
  pub «open» : (count : ℕ) → HasOpenFor (count + length all) old → HasOpenFor (count + length left) now

module _ {K : Type 0} (written : K → Option (List ℕ)) (faults : K → ℕ) (scripts : List ScriptValue) (all : List (Draft K)) (old now : Told) where
  pub each_none : All (IsDraftOf scripts) (reverse all) → AreDone faults (reverse all) → KeepingEach written faults scripts all all old old
  each_none are done = record { gone = []; parts = refl; kept = kept_none written scripts old; are = are; done = done; «open» = λ count h. h }

  -- what the last of those that are left is known to be
  pub record LastLeft (left rest : List (Draft K)) (draft : Draft K) : Type 0 where
    pub is : IsDraftOf scripts draft
    pub done : AreDone faults (draft ∷ [])
    pub order : reverse left ≡ draft ∷ reverse rest
    pub opened : (n : ℕ) → HasOpenFor (n + length left) now → HasOpenFor ((n + length rest) + 1) now

  pub last_left : (left rest : List (Draft K)) (draft : Draft K) → left ≡ rest ++ draft ∷ [] → KeepingEach written faults scripts all left old now → LastLeft left rest draft
  last_left left rest draft items k =
      let order : reverse left ≡ draft ∷ reverse rest = ap reverse items ∙ reverse-append rest (draft ∷ []) in
      let long : length left ≡ length rest + 1 = ap length items ∙ length-append rest (draft ∷ []) in
      record {
        is = All-head (IsDraftOf scripts) draft (reverse rest) (subst (All (IsDraftOf scripts)) order k.are);
        done = done_first faults (draft ∷ []) (reverse rest) (subst (AreDone faults) order k.done);
        order = order;
        opened = λ n h. subst (λ (m : ℕ). HasOpenFor m now) (omega (arith, long)) h;
      }

  -- one more was kept
  pub each_one : (left rest : List (Draft K)) (draft : Draft K) (new : Told) → left ≡ rest ++ draft ∷ [] → KeepingEach written faults scripts all left old now → HasKeptAll written scripts (draft ∷ []) now new
      → ((count : ℕ) → HasOpenFor (count + 1) now → HasOpenFor count new) → KeepingEach written faults scripts all rest old new
  each_one left rest draft new items k kept opens =
      let l = last_left left rest draft items k in
      record {
        gone = k.gone ++ draft ∷ [];
        parts = k.parts ∙ ap (λ (x : List (Draft K)). k.gone ++ x) l.order ∙ sym (append_assoc k.gone (draft ∷ []) (reverse rest));
        kept = kept_twice written scripts k.gone (draft ∷ []) old now new k.kept kept;
        are = All-tail (IsDraftOf scripts) draft (reverse rest) (subst (All (IsDraftOf scripts)) l.order k.are);
        done = done_later faults (draft ∷ []) (reverse rest) kept.whole (subst (AreDone faults) l.order k.done);
        «open» = λ count h. opens (count + length rest) (l.opened count (k.«open» count h));
      }

  -- one was not, and those behind it are given up
  pub each_cut : (left rest : List (Draft K)) (draft : Draft K) (script at : ℕ) (mid new : Told) → left ≡ rest ++ draft ∷ [] → KeepingEach written faults scripts all left old now → HasKeptUpTo written scripts (draft ∷ []) script at now mid
      → HasDropped mid new → HasKeptUpTo written scripts (reverse all) script at old new
  each_cut left rest draft script at mid new items k cut dropped =
      let l = last_left left rest draft items k in
      let behind = unkept_before written scripts (draft ∷ []) (reverse rest) script at now new (unkept_dropped written scripts (draft ∷ []) script at now mid new cut dropped) in
      let whole = unkept_after written scripts k.gone (draft ∷ reverse rest) script at old now new k.kept behind in
      subst (λ (x : List (Draft K)). HasKeptUpTo written scripts x script at old new) (sym (k.parts ∙ ap (λ (x : List (Draft K)). k.gone ++ x) l.order)) whole

  -- all were kept
  pub each_all : (left : List (Draft K)) → left ≡ [] → KeepingEach written faults scripts all left old now → HasKeptAll written scripts (reverse all) old now
  each_all left none k =
      subst (λ (x : List (Draft K)). HasKeptAll written scripts x old now) (sym (k.parts ∙ ap (λ (x : List (Draft K)). k.gone ++ reverse x) none ∙ append-nil k.gone)) k.kept

  pub each_open : (left : List (Draft K)) → left ≡ [] → KeepingEach written faults scripts all left old now → (count : ℕ) → HasOpenFor (count + length all) old → HasOpenFor count now
  each_open left none k count h = subst (λ (m : ℕ). HasOpenFor m now) (let long = ap length none in omega (arith, long)) (k.«open» count h)

-- ---- the outputs of one script are given up

pub record DroppingEach {K : Type 0} (all left : List (Draft K)) (old now : Told) : Type 0 where
  pub dropped : HasDropped old now
  pub «open» : (count : ℕ) → HasOpenFor (count + length all) old → HasOpenFor (count + length left) now

pub drop_none : {K : Type 0} (all : List (Draft K)) (old : Told) → DroppingEach all all old old
drop_none all old = record { dropped = dropped_none old; «open» = λ count h. h }

pub drop_one : {K : Type 0} (all left rest : List (Draft K)) (draft : Draft K) (written : Option (List ℕ)) (old now new : Told) → left ≡ rest ++ draft ∷ [] → DroppingEach all left old now
    → new.made ≡ now.made → new.kept ≡ now.kept → new.dropped ≡ add_told now.dropped written → TookNothing now new → DroppingEach all rest old new
drop_one all left rest draft written old now new items d made kept listed nothing =
    let long : length left ≡ length rest + 1 = ap length items ∙ length-append rest (draft ∷ []) in
    record {
      dropped = dropped_twice old now new d.dropped (record { made = made; kept = kept; nothing = nothing });
      «open» = λ count h. after_drop (count + length rest) written now new (subst (λ (m : ℕ). HasOpenFor m now) (omega (arith, long)) (d.«open» count h)) made kept listed;
    }

-- one is still open
pub one_left : {K : Type 0} (all left rest : List (Draft K)) (draft : Draft K) (old now : Told) → left ≡ rest ++ draft ∷ [] → HasOpenFor (length all) old → DroppingEach all left old now → HasOpen now
one_left all left rest draft old now items start d =
    let long : length left ≡ length rest + 1 = ap length items ∙ length-append rest (draft ∷ []) in
    has_open (0 + length left) now (omega (arith, long)) (d.«open» 0 (from_none (length all) old start))

-- ---- the outputs of all scripts

module _ {K : Type 0} where
  pub in_order_long : (rest : List (Vec (Draft K) Global)) (drafts : Vec (Draft K) Global) → length (in_order (rest ++ drafts ∷ [])) ≡ length (in_order rest) + length drafts.items
  in_order_long rest drafts =
      let parts = ap length (in_order_last rest drafts) ∙ length-append (reverse drafts.items) (in_order rest) in
      let same = length-reverse drafts.items in
      omega (arith, parts, same)

  pub order_long : (left rest : List (Vec (Draft K) Global)) (drafts : Vec (Draft K) Global) → left ≡ rest ++ drafts ∷ [] → length (in_order left) ≡ length (in_order rest) + length drafts.items
  order_long left rest drafts items = ap (λ (l : List (Vec (Draft K) Global)). length (in_order l)) items ∙ in_order_long rest drafts

-- the first outputs were kept, and the others are left
pub record KeepingAll {K : Type 0} (written : K → Option (List ℕ)) (faults : K → ℕ) (scripts : List ScriptValue) (all left : List (Vec (Draft K) Global)) (old now : Told) : Type 0 where
  pub gone : List (Draft K)
  pub parts : in_order all ≡ gone ++ in_order left
  pub kept : HasKeptAll written scripts gone old now
  pub are : All (IsDraftOf scripts) (in_order left)
  pub done : AreDone faults (in_order left)
  pub «open» : HasOpenFor (length (in_order left)) now

module _ {K : Type 0} (written : K → Option (List ℕ)) (faults : K → ℕ) (scripts : List ScriptValue) (all : List (Vec (Draft K) Global)) (old now : Told) where
  pub all_none : All (IsDraftOf scripts) (in_order all) → AreDone faults (in_order all) → HasOpenFor (length (in_order all)) old → KeepingAll written faults scripts all all old old
  all_none are done opens = record { gone = []; parts = refl; kept = kept_none written scripts old; are = are; done = done; «open» = opens }

  module _ (left rest : List (Vec (Draft K) Global)) (drafts : Vec (Draft K) Global) (items : left ≡ rest ++ drafts ∷ []) (k : KeepingAll written faults scripts all left old now) where
    order : in_order left ≡ reverse drafts.items ++ in_order rest
    order = ap in_order items ∙ in_order_last rest drafts

    pub last_are : All (IsDraftOf scripts) (reverse drafts.items)
    last_are = all_front (IsDraftOf scripts) (reverse drafts.items) (in_order rest) (subst (All (IsDraftOf scripts)) order k.are)

    pub last_done : AreDone faults (reverse drafts.items)
    last_done = done_first faults (reverse drafts.items) (in_order rest) (subst (AreDone faults) order k.done)

    pub both_open : HasOpenFor (length (in_order rest) + length drafts.items) now
    both_open = subst (λ (m : ℕ). HasOpenFor m now) (order_long left rest drafts items) k.«open»

    pub last_open : HasOpenFor (length drafts.items) now
    last_open = still_open (length (in_order rest) + length drafts.items) (length drafts.items) now now (omega arith) both_open refl refl refl

    pub all_one : (new : Told) → HasKeptAll written scripts (reverse drafts.items) now new → ((count : ℕ) → HasOpenFor (count + length drafts.items) now → HasOpenFor count new) → KeepingAll written faults scripts all rest old new
    all_one new kept opens = record {
      gone = k.gone ++ reverse drafts.items;
      parts = k.parts ∙ ap (λ (x : List (Draft K)). k.gone ++ x) order ∙ sym (append_assoc k.gone (reverse drafts.items) (in_order rest));
      kept = kept_twice written scripts k.gone (reverse drafts.items) old now new k.kept kept;
      are = all_back (IsDraftOf scripts) (reverse drafts.items) (in_order rest) (subst (All (IsDraftOf scripts)) order k.are);
      done = done_later faults (reverse drafts.items) (in_order rest) kept.whole (subst (AreDone faults) order k.done);
      «open» = opens (length (in_order rest)) both_open;
    }

    pub all_cut : (script at : ℕ) (mid new : Told) → HasKeptUpTo written scripts (reverse drafts.items) script at now mid → HasDropped mid new → HasKeptUpTo written scripts (in_order all) script at old new
    all_cut script at mid new cut dropped =
        let behind = unkept_before written scripts (reverse drafts.items) (in_order rest) script at now new (unkept_dropped written scripts (reverse drafts.items) script at now mid new cut dropped) in
        let whole = unkept_after written scripts k.gone (reverse drafts.items ++ in_order rest) script at old now new k.kept behind in
        subst (λ (x : List (Draft K)). HasKeptUpTo written scripts x script at old new) (sym (k.parts ∙ ap (λ (x : List (Draft K)). k.gone ++ x) order)) whole

  pub all_all : (left : List (Vec (Draft K) Global)) → left ≡ [] → KeepingAll written faults scripts all left old now → HasKeptAll written scripts (in_order all) old now
  all_all left none k =
      subst (λ (x : List (Draft K)). HasKeptAll written scripts x old now) (sym (k.parts ∙ ap (λ (x : List (Vec (Draft K) Global)). k.gone ++ in_order x) none ∙ append-nil k.gone)) k.kept
