-- Files that are kept and lines that are printed, one after the other.
use Rattle.std.proofs.Common.{inl, inr, ◌≡◌, ℕ, List, [], ◌∷◌, ◌++◌, Option, refl, sym, ap, subst, ◌∙◌, append-nil, arith}
use Rattle.std.specs.Io.KnownBytes.{append_known}
use Rattle.std.proofs.lemmas.List.{map-append}
use Rattle.plcr_base.specs.Causes.{Rose}
use Rattle.plcr_base.specs.Told.{Gains, AppendsProperFront, Prints}
use Rattle.plcr_base.proofs.Appended.{append_nothing, append_twice}
use Rattle.plcr_base.proofs.Gained.{gains_none, gains_twice}
use Rattle.plcr_base.proofs.Risen.{rose_second}
use Rattle.plcr_io.specs.Desk.{Told}
use Rattle.plcr_command.specs.Seen.{Seen, seen}
use Rattle.plcr_command.specs.Taking.{MadeNothing}
use Rattle.plcr_command.specs.Saving.{DropsFront}
use Rattle.plcr_command.specs.Endings.{GoesOn, HasKept, CannotWrite, CannotPrint, kept_names}
use Rattle.plcr_command.specs.Lines.{cannot_write}

-- nothing was done
pub kept_none : (old : Seen) → HasKept [] [] old old
kept_none old = record {
  made = gains_none old.desk.made;
  kept = gains_none old.desk.kept;
  dropped = gains_none old.desk.dropped;
  lines = sym (append_nothing old.lines);
}

pub goes_none : (old : Seen) → GoesOn old old
goes_none old = record {
  desk = record { files = refl; taken = refl; take_faults = refl; out_faults = omega arith };
  line_faults = omega arith;
}

-- going on, and then going on
pub goes_twice : (old mid new : Seen) → GoesOn old mid → GoesOn mid new → GoesOn old new
goes_twice old mid new a b = record {
  desk = record {
    files = b.desk.files ∙ a.desk.files;
    taken = b.desk.taken ∙ a.desk.taken;
    take_faults = b.desk.take_faults ∙ a.desk.take_faults;
    out_faults = let x = a.desk.out_faults in let y = b.desk.out_faults in omega arith;
  };
  line_faults = let x = a.line_faults in let y = b.line_faults in omega arith;
}

-- the names of files and of more
names_twice : (first second : List (List ℕ × List ℕ)) (old mid new : Option (List (List ℕ))) → Gains old mid (kept_names first) → Gains mid new (kept_names second) → Gains old new (kept_names (first ++ second))
names_twice first second old mid new a b = rw (map-append (λ (file : List ℕ × List ℕ). file.0) first second) (gains_twice old mid new (kept_names first) (kept_names second) a b)

-- files and lines, and then more
pub kept_twice : (first second : List (List ℕ × List ℕ)) (text more : List ℕ) (old mid new : Seen) → HasKept first text old mid → HasKept second more mid new → HasKept (first ++ second) (text ++ more) old new
kept_twice first second text more old mid new a b = record {
  made = names_twice first second _ _ _ a.made b.made;
  kept = gains_twice _ _ _ first second a.kept b.kept;
  dropped = gains_twice _ _ _ [] [] a.dropped b.dropped;
  lines = b.lines ∙ ap (λ o. append_known o more) a.lines ∙ append_twice old.lines text more;
}

-- fronts given up after nothing was
fronts : (bytes : List ℕ) (old mid new : Seen) → Gains old.desk.dropped mid.desk.dropped [] → DropsFront bytes mid.desk new.desk → DropsFront bytes old.desk new.desk
fronts bytes old mid new a (inl none) = inl (gains_twice _ _ _ [] [] a none)
fronts bytes old mid new a (inr one) = inr (one.0, one.1, one.2, gains_twice _ _ _ [] (one.0 ∷ []) a one.3)

-- the same and then nothing
and_nothing : {B : Type 0} (old mid new : Option (List B)) (xs : List B) → Gains old mid xs → Gains mid new [] → Gains old new xs
and_nothing {B = B} old mid new xs a b =
    let P : List B → Type 0 = λ l. Gains old new l in
    subst P (append-nil xs) (gains_twice old mid new xs [] a b)

-- a line that was printed behind some text
printed_after : (text said : List ℕ) (files : List (List ℕ × List ℕ)) (old mid new : Seen) → HasKept files text old mid → GoesOn old mid → Prints (append_known mid.lines []) new.lines said mid.line_faults new.line_faults → Prints (append_known old.lines text) new.lines said old.line_faults new.line_faults
printed_after text said files old mid new done goes (inl all) = inl (all ∙ ap (λ o. append_known o said) (append_nothing mid.lines ∙ done.lines))
printed_after text said files old mid new done goes (inr cut) =
    let P : Option (List ℕ) → Type 0 = λ o. AppendsProperFront o new.lines said in
    inr (subst P (append_nothing mid.lines ∙ done.lines) cut.0, rose_second _ _ _ goes.line_faults cut.1)

-- a file that wasn't kept, after files that were
pub unwritten_after : (files : List (List ℕ × List ℕ)) (text name bytes : List ℕ) (old mid new : Seen) → HasKept files text old mid → GoesOn old mid → CannotWrite [] [] name bytes mid new → CannotWrite files text name bytes old new
unwritten_after files text name bytes old mid new done goes stop = record {
  outcome = elim stop.outcome [
    | inl none ↦ inl (and_nothing _ _ _ (kept_names files) done.made none.0, gains_twice _ _ _ [] [] done.dropped none.1)
    | inr one ↦ inr (gains_twice _ _ _ (kept_names files) (name ∷ []) done.made one.0, fronts bytes old mid new done.dropped one.1)
  ];
  kept = and_nothing _ _ _ files done.kept stop.kept;
  lines = printed_after text (cannot_write name) files old mid new done goes stop.lines;
  cause = rose_second _ _ _ goes.desk.out_faults stop.cause;
}

-- a line that wasn't printed whole, after files that were kept and lines that were
pub unprinted_after : (files more : List (List ℕ × List ℕ)) (text line : List ℕ) (old mid new : Seen) → HasKept files text old mid → GoesOn old mid → CannotPrint more [] line mid new → CannotPrint (files ++ more) text line old new
unprinted_after files more text line old mid new done goes stop = record {
  made = names_twice files more _ _ _ done.made stop.made;
  kept = gains_twice _ _ _ files more done.kept stop.kept;
  dropped = gains_twice _ _ _ [] [] done.dropped stop.dropped;
  lines =
      let P : Option (List ℕ) → Type 0 = λ o. AppendsProperFront o new.lines line in
      subst P (append_nothing mid.lines ∙ done.lines) stop.lines;
  cause = rose_second _ _ _ goes.line_faults stop.cause;
}

-- what was gained since a moment at which the list was the same
gained_since : {A : Type 0} (old mid new : Option (List A)) (more : List A) → mid ≡ old → Gains mid new more → Gains old new more
gained_since {A = A} old mid new more same gained = let P : Option (List A) → Type 0 = λ t. Gains t new more in subst P same gained

rose_since : (old mid new : ℕ) → mid ≡ old → Rose mid new → Rose old new
rose_since old mid new same rose = let P : ℕ → Type 0 = λ n. Rose n new in subst P same rose

fronts_since : (bytes : List ℕ) (old mid new : Told) → mid.dropped ≡ old.dropped → DropsFront bytes mid new → DropsFront bytes old new
fronts_since bytes old mid new same (inl none) = inl (gained_since _ _ _ _ same none)
fronts_since bytes old mid new same (inr one) = inr (one.0, one.1, one.2, gained_since _ _ _ _ same one.3)

-- what was kept after nothing was made, as seen from before that
pub kept_since : (files : List (List ℕ × List ℕ)) (text : List ℕ) (old mid new : Told) (lines lines' : Option (List ℕ)) (faults faults' : ℕ) → MadeNothing old mid → HasKept files text (seen mid lines faults) (seen new lines' faults') → HasKept files text (seen old lines faults) (seen new lines' faults')
kept_since files text old mid new lines lines' faults faults' nothing done = record {
  made = gained_since _ _ _ _ nothing.made done.made;
  kept = gained_since _ _ _ _ nothing.kept done.kept;
  dropped = gained_since _ _ _ _ nothing.dropped done.dropped;
  lines = done.lines;
}

pub unwritten_since : (files : List (List ℕ × List ℕ)) (text name bytes : List ℕ) (old mid new : Told) (lines lines' : Option (List ℕ)) (faults faults' : ℕ) → MadeNothing old mid → CannotWrite files text name bytes (seen mid lines faults) (seen new lines' faults') → CannotWrite files text name bytes (seen old lines faults) (seen new lines' faults')
unwritten_since files text name bytes old mid new lines lines' faults faults' nothing stop = record {
  outcome = elim stop.outcome [
    | inl none ↦ inl (gained_since _ _ _ _ nothing.made none.0, gained_since _ _ _ _ nothing.dropped none.1)
    | inr one ↦ inr (gained_since _ _ _ _ nothing.made one.0, fronts_since bytes old mid new nothing.dropped one.1)
  ];
  kept = gained_since _ _ _ _ nothing.kept stop.kept;
  lines = stop.lines;
  cause = rose_since _ _ _ nothing.out_faults stop.cause;
}

pub unprinted_since : (files : List (List ℕ × List ℕ)) (text line : List ℕ) (old mid new : Told) (lines lines' : Option (List ℕ)) (faults faults' : ℕ) → MadeNothing old mid → CannotPrint files text line (seen mid lines faults) (seen new lines' faults') → CannotPrint files text line (seen old lines faults) (seen new lines' faults')
unprinted_since files text line old mid new lines lines' faults faults' nothing stop = record {
  made = gained_since _ _ _ _ nothing.made stop.made;
  kept = gained_since _ _ _ _ nothing.kept stop.kept;
  dropped = gained_since _ _ _ _ nothing.dropped stop.dropped;
  lines = stop.lines;
  cause = stop.cause;
}
