-- Where the lines of a script stand in the journal: those of its statements so far in what its worker has seen, and each later one behind all changes that its pass had seen.
use Rattle.std.proofs.Common.{◌≡◌, ℕ, suc, ◌+◌, ◌<◌, ◌≤◌, cond, List, [], ◌∷◌, ◌++◌, length, Option, Some, None, leb, leb-true, leb-false, refl, sym, ap, ◌∙◌, length-append, append_assoc, append-nil, arith}
use Rattle.std.proofs.lemmas.List.Sums.{sum_by-append}
use Rattle.plcr_machine.proofs.Cases.{by_cases}
use Rattle.plcr_machine.proofs.Growing.{changes-grows}
use Rattle.plcr_machine.specs.declared.entry.Entry.{Entry}
use Rattle.plcr_machine.specs.Lists.{Grows, changes}
use Rattle.plcr_macho.specs.Images.{Listed}
use Rattle.plcr_script.specs.declared.statements.NumberedStatement.{NumberedStatement}
use Rattle.plcr_turns.specs.declared.lines.Asked.{Asked}
use Rattle.plcr_turns.specs.declared.lines.ChangeLine.{ChangeLine}
use Rattle.plcr_turns.specs.declared.view.View.{View}
use Rattle.plcr_turns.specs.Lines.{accepted, is_change, lines_of}
use Rattle.plcr_turns.specs.Turns.{line_of}
use Rattle.plcr_turns.proofs.Turned.{lines_more, line_here}
use Rattle.plcr_workers.specs.declared.lines.PassLine.{PassLine}
use Rattle.plcr_workers.specs.declared.places.Place.{Place}
use Rattle.plcr_workers.specs.Asking.{asked_in}
use Rattle.plcr_workers.specs.inner.Places.{walker_of}
use Rattle.plcr_workers.specs.inner.Traces.{Applied, Applies, Ran, Rise}

-- ---- cuts of a list

abbrev tail_of : {A : Type 0} → List A → List A
tail_of [] = []
tail_of (x ∷ xs) = xs

abbrev head_or : {A : Type 0} → A → List A → A
head_or d [] = d
head_or d (x ∷ xs) = x

cons_same : {A : Type 0} {x y : A} {xs ys : List A} → x ≡ y → xs ≡ ys → x ∷ xs ≡ y ∷ ys
cons_same p q = λ i. p i ∷ q i

-- a cut behind a beginning is one of the rest
pub cut_behind : {A : Type 0} (xs rest before : List A) (line : A) (after : List A) → xs ++ rest ≡ before ++ line ∷ after → length xs ≤ length before → (between : List A) × (before ≡ xs ++ between) × (rest ≡ between ++ line ∷ after)
cut_behind [] rest before line after e less = (before, refl, e)
cut_behind (x ∷ xs) rest [] line after e less = absurd (omega (arith, less))
cut_behind (x ∷ xs) rest (b ∷ before) line after e less =
    let r = cut_behind xs rest before line after (ap tail_of e) (omega (arith, less)) in
    (r.0, cons_same (sym (ap (head_or x) e)) r.1, r.2)

-- and one before its end is one of it
pub cut_before : {A : Type 0} (xs rest before : List A) (line : A) (after : List A) → xs ++ rest ≡ before ++ line ∷ after → length before < length xs → (between : List A) × (xs ≡ before ++ line ∷ between)
cut_before [] rest before line after e less = absurd (omega (arith, less))
cut_before (x ∷ xs) rest [] line after e less = (xs, ap (λ y. y ∷ xs) (ap (head_or x) e))
cut_before (x ∷ xs) rest (b ∷ before) line after e less =
    let r = cut_before xs rest before line after (ap tail_of e) (omega (arith, less)) in
    (r.0, cons_same (ap (head_or x) e) r.1)

last_one : {A : Type 0} (z : List A) (l line : A) (between : List A) → l ∷ [] ≡ z ++ line ∷ between → line ≡ l
last_one [] l line between e = sym (ap (head_or l) e)
last_one (y ∷ z) l line between e =
    let n : 1 ≡ suc (length (z ++ line ∷ between)) = ap length e in
    let long = length-append z (line ∷ between) in
    absurd (omega (arith, n, long))

-- ---- lines of a script, and accepted ones

no_line : (script : ℕ) (between : List ChangeLine) (line : ChangeLine) (after : List ChangeLine) → line.script ≡ script → lines_of script (between ++ line ∷ after) ≡ [] → ⊥
no_line script between line after e none =
    let a = lines_of script between in
    let b = lines_of script (line ∷ after) in
    let parts : 0 ≡ length (a ++ b) = ap length (sym none ∙ lines_more script between (line ∷ after)) in
    let here : length b ≡ suc (length (lines_of script after)) = ap length (lines_more script (line ∷ []) after ∙ ap (λ (l : List ChangeLine). l ++ lines_of script after) (line_here script line e)) in
    let long = length-append a b in
    omega (arith, parts, here, long)

pub accepted_front : (xs ys : List ChangeLine) → accepted xs ≤ accepted (xs ++ ys)
accepted_front xs ys =
    let s : accepted (xs ++ ys) ≡ accepted xs + accepted ys = sum_by-append (λ (l : ChangeLine). cond (is_change l.said) 1 0) xs ys in
    omega (arith, s)

-- ---- what a worker has seen of the last journal

-- a journal goes on from what a worker has seen, by lines of others
pub record GoesOnFrom (script : ℕ) (journal : List ChangeLine) (w : View) : Type 0 where
  pub rest : List ChangeLine
  pub is : journal ≡ w.journal ++ rest
  pub none : lines_of script rest ≡ []

-- the script's lines that the worker has seen are of lines below a number
abbrev pub AreBelow : ℕ → List ChangeLine → View → ℕ → Type 0
AreBelow script journal v bound = (before : List ChangeLine) (line : ChangeLine) (after : List ChangeLine) → journal ≡ before ++ line ∷ after → line.script ≡ script → length before < length v.journal → line.wanted.line < bound

applies_begins : (script n : ℕ) (asked : Option Asked) (seen : List Entry) (v : View) (known : List Entry) (u : View) → Applies script n asked seen v known u → (x : List ChangeLine) × (u.journal ≡ v.journal ++ x)
applies_begins script n None seen v known u a = ([], ap (λ (w : View). w.journal) a ∙ sym (append-nil v.journal))
applies_begins script n (Some asked) seen v known u a =
    let l = line_of script n asked a.said in
    (a.others ++ l ∷ [], a.journal ∙ append_assoc v.journal a.others (l ∷ []))

pub view_begins : (report : List Listed → List ℕ) (script at : ℕ) (statements : List NumberedStatement) (p : Place) (v : View) (lines : List PassLine) (wrote : List (List ℕ)) (q : Place) (w : View) → Ran report script at statements p v lines wrote q w → (x : List ChangeLine) × (w.journal ≡ v.journal ++ x)
view_begins report script at [] p v lines wrote q w ran = ([], ap (λ (u : View). u.journal) ran.1 ∙ sym (append-nil v.journal))
view_begins report script at (s ∷ statements) p v lines wrote q w ran =
    let a = applies_begins script s.line (asked_in s.statement) (walker_of p).history v (walker_of ran.place).history ran.sees ran.applies in
    let r = view_begins report script (suc at) statements ran.place ran.sees ran.more ran.later q w ran.rest in
    (a.0 ++ r.0, r.1 ∙ ap (λ (l : List ChangeLine). l ++ r.0) a.1 ∙ append_assoc v.journal a.0 r.0)

-- so the last journal goes on from each view
pub goes_on : (script : ℕ) (journal : List ChangeLine) (v w : View) → GoesOnFrom script journal w → (x : List ChangeLine) × (w.journal ≡ v.journal ++ x) → (r : List ChangeLine) × (journal ≡ v.journal ++ r)
goes_on script journal v w g b = (b.0 ++ g.rest, g.is ∙ ap (λ (l : List ChangeLine). l ++ g.rest) b.1 ∙ append_assoc v.journal b.0 g.rest)

-- a line of the script among those that came new is the one that was applied
the_line : (script n : ℕ) (asked : Asked) (seen : List Entry) (v : View) (known : List Entry) (u : View) (a : Applied script n asked seen v known u) (journal r : List ChangeLine) → journal ≡ u.journal ++ r
    → (before : List ChangeLine) (line : ChangeLine) (after : List ChangeLine) → journal ≡ before ++ line ∷ after → line.script ≡ script → length v.journal ≤ length before → length before < length u.journal
    → (changes seen ≤ accepted before) × (line.wanted.line ≡ n)
the_line script n asked seen v known u a journal r is before line after e own from upto =
    let l = line_of script n asked a.said in
    let first = v.journal ++ a.others in
    let here = cut_before u.journal r before line after (sym is ∙ e) upto in
    let cut : first ++ l ∷ [] ≡ before ++ line ∷ here.0 = sym a.journal ∙ here.1 in
    by_cases (leb (length first) (length before))
    (λ t.
    let last = cut_behind first (l ∷ []) before line here.0 cut (leb-true (length first) (length before) t) in
    let front = accepted_front first last.0 in
    let all = ap accepted last.1 in
    let least = a.before in
    (omega (arith, front, all, least), ap (λ (x : ChangeLine). x.wanted.line) (last_one last.0 l line here.0 last.2)))
    (λ f.
    let front = cut_before first (l ∷ []) before line here.0 cut (leb-false (length first) (length before) f) in
    let other = cut_behind v.journal a.others before line front.0 front.1 from in
    absurd (no_line script other.0 line front.0 own (ap (lines_of script) (sym other.2) ∙ a.none)))

-- each line of the script that the worker hasn't seen yet comes after all changes that its pass has seen, and is of one of the statements that are left
pub later_lines : (report : List Listed → List ℕ) (script at : ℕ) (statements : List NumberedStatement) (p : Place) (v : View) (lines : List PassLine) (wrote : List (List ℕ)) (q : Place) (w : View) (journal : List ChangeLine) (bound : ℕ)
    → Ran report script at statements p v lines wrote q w → GoesOnFrom script journal w → Rise bound statements
    → (before : List ChangeLine) (line : ChangeLine) (after : List ChangeLine) → journal ≡ before ++ line ∷ after → line.script ≡ script → length v.journal ≤ length before
    → (changes (walker_of p).history ≤ accepted before) × (bound ≤ line.wanted.line)
later_lines report script at [] p v lines wrote q w journal bound ran g rise before line after e own from =
    let same = ap (λ (u : View). length u.journal) ran.1 in
    let cut = cut_behind w.journal g.rest before line after (sym g.is ∙ e) (omega (arith, same, from)) in
    absurd (no_line script cut.0 line after own (ap (lines_of script) (sym cut.2) ∙ g.none))
later_lines report script at (s ∷ statements) p v lines wrote q w journal bound ran g rise before line after e own from =
    of (asked_in s.statement) ran.applies (λ from'. later_lines report script (suc at) statements ran.place ran.sees ran.more ran.later q w journal (suc s.line) ran.rest g rise.1 before line after e own from')
  where
    on : (length ran.sees.journal ≤ length before → (changes (walker_of ran.place).history ≤ accepted before) × (suc s.line ≤ line.wanted.line)) → length ran.sees.journal ≤ length before → (changes (walker_of p).history ≤ accepted before) × (bound ≤ line.wanted.line)
    on later from' =
        let r = later from' in
        let more = changes-grows (walker_of p).history (walker_of ran.place).history ran.goes.grows in
        let few = r.0 in
        let here = rise.0 in
        let above = r.1 in
        (omega (arith, more, few), omega (arith, here, above))

    of : (asked : Option Asked) → Applies script s.line asked (walker_of p).history v (walker_of ran.place).history ran.sees → (length ran.sees.journal ≤ length before → (changes (walker_of ran.place).history ≤ accepted before) × (suc s.line ≤ line.wanted.line)) → (changes (walker_of p).history ≤ accepted before) × (bound ≤ line.wanted.line)
    of None a later = let same = ap (λ (u : View). length u.journal) a in on later (omega (arith, same, from))
    of (Some asked) a later =
        by_cases (leb (length ran.sees.journal) (length before))
        (λ t. on later (leb-true (length ran.sees.journal) (length before) t))
        (λ f.
        let begins = goes_on script journal ran.sees w g (view_begins report script (suc at) statements ran.place ran.sees ran.more ran.later q w ran.rest) in
        let l = the_line script s.line asked (walker_of p).history v (walker_of ran.place).history ran.sees a journal begins.0 begins.1 before line after e own from (leb-false (length ran.sees.journal) (length before) f) in
        let here = rise.0 in
        let is = l.1 in
        (l.0, omega (arith, here, is)))

-- the lines that were seen before a statement and by it are of lines up to its own
pub below_next : (script n bound : ℕ) (asked : Option Asked) (seen : List Entry) (v : View) (known : List Entry) (u : View) (journal r : List ChangeLine) → Applies script n asked seen v known u → journal ≡ u.journal ++ r → bound ≤ n
    → AreBelow script journal v bound → AreBelow script journal u (suc n)
below_next script n bound None seen v known u journal r a is less below before line after e own upto =
    let same = ap (λ (w : View). length w.journal) a in
    let b = below before line after e own (omega (arith, same, upto)) in
    omega (arith, b, less)
below_next script n bound (Some asked) seen v known u journal r a is less below before line after e own upto =
    by_cases (leb (length v.journal) (length before))
    (λ t. let l = (the_line script n asked seen v known u a journal r is before line after e own (leb-true (length v.journal) (length before) t) upto).1 in omega (arith, l))
    (λ f. let b = below before line after e own (leb-false (length v.journal) (length before) f) in omega (arith, b, less))

-- the pass has seen the changes of the journal that its worker has seen
pub knows_next : (script n : ℕ) (asked : Option Asked) (seen : List Entry) (v : View) (known : List Entry) (u : View) → Applies script n asked seen v known u → Grows seen known → accepted v.journal ≤ changes seen → accepted u.journal ≤ changes known
knows_next script n None seen v known u a grows knows =
    let same = ap (λ (w : View). accepted w.journal) a in
    let more = changes-grows seen known grows in
    omega (arith, same, more, knows)
knows_next script n (Some asked) seen v known u a grows knows = a.after

-- a line that the worker has seen is one of the accepted ones there
pub early_accepted : (journal : List ChangeLine) (v : View) (r before : List ChangeLine) (line : ChangeLine) (after : List ChangeLine) → journal ≡ v.journal ++ r → journal ≡ before ++ line ∷ after → length before < length v.journal
    → accepted (before ++ line ∷ []) ≤ accepted v.journal
early_accepted journal v r before line after is e less =
    let cut = cut_before v.journal r before line after (sym is ∙ e) less in
    let front = accepted_front (before ++ line ∷ []) cut.0 in
    let all = ap accepted (cut.1 ∙ sym (append_assoc before (line ∷ []) cut.0)) in
    omega (arith, front, all)
