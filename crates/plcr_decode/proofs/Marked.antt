-- What is known of a message, once its fields are passed, tells what it lacks.
use Rattle.std.proofs.Common.{◌≡◌, ℕ, zero, suc, ◌<◌, ◌≤◌, ◌-◌, ◌==◌, List, [], ◌∷◌, ◌++◌, length, Bool, true, false, cond, Option, Some, None, Result, Ok, Err, set, get_or, replicate, refl, sym, ap, subst, ◌∙◌, lit<, arith}
use Rattle.std.specs.List.{AllByRecursion}
use Rattle.std.proofs.lemmas.List.{get_or-set_other}
use Rattle.std.proofs.lemmas.Grind.{get_or-set_at}
use Rattle.plcr_base.specs.Chains.{◌>>=◌}
use Rattle.plcr_wire.specs.Message.{Value, Field, value_bytes}
use Rattle.plcr_report.specs.Schema.{Row, rows, rule, holds_in}
use Rattle.plcr_report.specs.declared.kinds.Kind.{Kind}
use Rattle.plcr_report.specs.declared.kinds.Kind.TheVariants as kinds
use Rattle.plcr_report.specs.declared.kinds.Holds.{Holds}
use Rattle.plcr_report.specs.declared.kinds.Holds.TheVariants as holds
use Rattle.plcr_decode.specs.declared.faults.DecodeFault.{DecodeFault}
use Rattle.plcr_decode.specs.declared.faults.DecodeFault.TheVariants.{Missing}
use Rattle.plcr_decode.specs.declared.marks.Seen.{Seen}
use Rattle.plcr_decode.specs.declared.marks.Marks.{Marks}
use Rattle.plcr_decode.specs.Fields.{fields_of, has, messages_in, together, joined}
use Rattle.plcr_decode.specs.Required.{is_required, required_of, needs, has_all, each_whole, one_whole, held_whole, inner_whole, whole}
use Rattle.plcr_decode.specs.Scan.{inside, step_at, scan}
use Rattle.plcr_decode.specs.inner.Marks.{told_lack, is_joined, Small, seen, part, lack, Unmarked, MessageTakes, HeldTakes, Takes, MessageUpTo, HeldUpTo, MarkUpTo, MarksUpTo, needs_by, joined_by, held_by, inner_by, marks_by}
use Rattle.plcr_decode.proofs.Kept.{equal, other, past}
use Rattle.plcr_decode.proofs.Listed.{joined_step, has_step}
use Rattle.plcr_decode.proofs.Scans.{inside_rest, scan_none, scan_within_fault, scan_more}
use Rattle.plcr_decode.proofs.Wholes.{bind_unit, bind_same, plain_system, plain_application, plain_symbol, plain_processor, plain_signal, plain_process, plain_info}
use Rattle.plcr_decode.proofs.Levels.{whole_by_parts}

-- a number is noted
seen_either : (b : Bool) (l : List Bool) (i n : ℕ) → (i == n) ≡ b → i < length l → get_or (set l i true) n false ≡ cond b true (get_or l n false)
seen_either true l i n e h = get_or-set_at l i n true false (equal i n e) h
seen_either false l i n e h = get_or-set_other l i n true false (other i n e)

pub seen_new : (l : List Bool) (i : ℕ) → i < length l → (n : ℕ) → n < 10 → get_or (set l i true) n false ≡ cond (i == n) true (get_or l n false)
seen_new l i h n small = seen_either (i == n) l i n refl h

pub seen_same : (l : List Bool) (i : ℕ) → 10 ≤ i → (n : ℕ) → n < 10 → get_or l n false ≡ cond (i == n) true (get_or l n false)
seen_same l i h n small = rw (past i n h small) refl

pub replicate_at : {A : Type 0} (k n : ℕ) (x d : A) → n < k → get_or (replicate k x) n d ≡ x
replicate_at zero n x d h = absurd (omega arith)
replicate_at (suc k) zero x d h = refl
replicate_at (suc k) (suc n) x d h = replicate_at k n x d (omega arith)

-- one or the other
either : (b s h : Bool) → cond (cond b true s) true h ≡ cond s true (cond b true h)
either true true h = refl
either true false h = refl
either false s h = refl

or_assoc : (a b c : Bool) → cond a true (cond b true c) ≡ cond (cond a true b) true c
or_assoc true b c = refl
or_assoc false b c = refl

pub or_none : (s : Bool) → cond s true false ≡ s
or_none true = refl
or_none false = refl

-- of two lists, a field stands in the first or in the second
has_append : (m : ℕ) (xs ys : List Field) → has m (xs ++ ys) ≡ cond (has m xs) true (has m ys)
has_append m [] ys = refl
has_append m (f ∷ xs) ys =
    has_step m f (xs ++ ys) ∙ ap (λ (b : Bool). cond (f.number == m) true b) (has_append m xs ys)
    ∙ or_assoc (f.number == m) (has m xs) (has m ys) ∙ ap (λ (b : Bool). cond b true (has m ys)) (sym (has_step m f xs))

-- one more field is passed
pub sees_next : (old new : Seen) (f : Field) (m : ℕ) (fs : List Field) → seen new m ≡ cond (f.number == m) true (seen old m) → cond (seen new m) true (has m fs) ≡ cond (seen old m) true (has m (f ∷ fs))
sees_next old new f m fs e =
    ap (λ (b : Bool). cond b true (has m fs)) e ∙ either (f.number == m) (seen old m) (has m fs)
    ∙ ap (λ (b : Bool). cond (seen old m) true b) (sym (has_step m f fs))

-- each number of the table has a place
pub rows_small : (kind : Kind) → AllByRecursion Small (rows kind)
rows_small kinds.Root = (lit< tt, (lit< tt, (lit< tt, (lit< tt, (lit< tt, (lit< tt, (lit< tt, tt)))))))
rows_small kinds.System = (lit< tt, (lit< tt, (lit< tt, (lit< tt, (lit< tt, tt)))))
rows_small kinds.Application = (lit< tt, (lit< tt, tt))
rows_small kinds.Thread = (lit< tt, (lit< tt, (lit< tt, (lit< tt, tt))))
rows_small kinds.Frame = (lit< tt, (lit< tt, tt))
rows_small kinds.Symbol = (lit< tt, (lit< tt, (lit< tt, tt)))
rows_small kinds.Register = (lit< tt, (lit< tt, tt))
rows_small kinds.Image = (lit< tt, (lit< tt, (lit< tt, (lit< tt, (lit< tt, tt)))))
rows_small kinds.Processor = (lit< tt, (lit< tt, (lit< tt, tt)))
rows_small kinds.Signal = (lit< tt, (lit< tt, (lit< tt, tt)))
rows_small kinds.Process = (lit< tt, (lit< tt, (lit< tt, (lit< tt, (lit< tt, (lit< tt, tt))))))
rows_small kinds.Info = (lit< tt, (lit< tt, tt))

pub small_rows : (kind : Kind) (rs : List Row) → rs ≡ rows kind → AllByRecursion Small rs
small_rows kind rs e = subst (λ rs. AllByRecursion Small rs) (sym e) (rows_small kind)

required_cond : (b : Bool) (n : ℕ) (ns : List ℕ) → n < 10 → AllByRecursion (λ n. n < 10) ns → AllByRecursion (λ n. n < 10) (cond b (n ∷ ns) ns)
required_cond true n ns p ps = (p, ps)
required_cond false n ns p ps = ps

required_small : (rs : List Row) → AllByRecursion Small rs → AllByRecursion (λ n. n < 10) (required_of rs)
required_small [] h = tt
required_small (row ∷ rs) h = required_cond (is_required row.label) row.number (required_of rs) h.0 (required_small rs h.1)

known_cond : (b : Bool) (m n : ℕ) (h : Holds) (x y : Option Holds) → (m == n) ≡ b → m < 10 → (y ≡ Some h → n < 10) → cond b x y ≡ Some h → n < 10
known_cond true m n h x y e p f o = subst (λ j. j < 10) (sym (equal m n e)) p
known_cond false m n h x y e p f o = f o

known_in : (rs : List Row) (n : ℕ) (h : Holds) → AllByRecursion Small rs → holds_in rs n ≡ Some h → n < 10
known_in [] n h small e = absurd (cc)
known_in (row ∷ rs) n h small e = known_cond (row.number == n) row.number n h (Some row.holds) (holds_in rs n) refl small.0 (known_in rs n h small.1) e

pub known_small : (kind : Kind) (n : ℕ) (h : Holds) → rule kind n ≡ Some h → n < 10
known_small kind n h e = known_in (rows kind) n h (rows_small kind) e

-- a message that may stand in parts holds none
abbrev Leaf : Row → Type 0
Leaf row = (kind : Kind) (v : Value) (rest : List ℕ) → (inside kind (Some row.holds) v rest).text ≡ []

leaf_cond : (b : Bool) (kind : Kind) (h : Holds) (o : Option Holds) (v : Value) (rest : List ℕ) → (inside kind (Some h) v rest).text ≡ [] → (inside kind o v rest).text ≡ [] → (inside kind (cond b (Some h) o) v rest).text ≡ []
leaf_cond true kind h o v rest p q = p
leaf_cond false kind h o v rest p q = q

leaf_in : (kind : Kind) (rs : List Row) (n : ℕ) (v : Value) (rest : List ℕ) → AllByRecursion Leaf rs → (inside kind (holds_in rs n) v rest).text ≡ []
leaf_in kind [] n v rest h = refl
leaf_in kind (row ∷ rs) n v rest h = leaf_cond (row.number == n) kind row.holds (holds_in rs n) v rest (h.0 kind v rest) (leaf_in kind rs n v rest h.1)

rows_leaf : (kind : Kind) → is_joined kind ≡ true → AllByRecursion Leaf (rows kind)
rows_leaf kinds.Root j = absurd (cc)
rows_leaf kinds.System j = (λ k v r. refl, (λ k v r. refl, (λ k v r. refl, (λ k v r. refl, (λ k v r. refl, tt)))))
rows_leaf kinds.Application j = (λ k v r. refl, (λ k v r. refl, tt))
rows_leaf kinds.Thread j = absurd (cc)
rows_leaf kinds.Frame j = absurd (cc)
rows_leaf kinds.Symbol j = (λ k v r. refl, (λ k v r. refl, (λ k v r. refl, tt)))
rows_leaf kinds.Register j = absurd (cc)
rows_leaf kinds.Image j = absurd (cc)
rows_leaf kinds.Processor j = (λ k v r. refl, (λ k v r. refl, (λ k v r. refl, tt)))
rows_leaf kinds.Signal j = (λ k v r. refl, (λ k v r. refl, (λ k v r. refl, tt)))
rows_leaf kinds.Process j = (λ k v r. refl, (λ k v r. refl, (λ k v r. refl, (λ k v r. refl, (λ k v r. refl, (λ k v r. refl, tt))))))
rows_leaf kinds.Info j = (λ k v r. refl, (λ k v r. refl, tt))

-- a fault of the message in a field
pub field_fault : (kind : Kind) (end : ℕ) (bytes : List ℕ) (h : Option Holds) (v : Value) (rest : List ℕ) (e : DecodeFault) → 0 < length bytes → step_at kind end bytes ≡ Ok (inside kind h v rest)
    → scan (inside kind h v rest).kind (end - length rest) (inside kind h v rest).text ≡ Err e → scan kind end bytes ≡ Err e
field_fault kind end bytes h v rest e some reads inner =
    let s = inside kind h v rest in
    scan_within_fault kind end bytes s e some reads (ap (λ (r : List ℕ). scan s.kind (end - length r) s.text) (inside_rest kind h v rest) ∙ inner)

-- or of those after it
pub field_more : (kind : Kind) (end : ℕ) (bytes : List ℕ) (h : Option Holds) (v : Value) (rest : List ℕ) → 0 < length bytes → step_at kind end bytes ≡ Ok (inside kind h v rest)
    → scan (inside kind h v rest).kind (end - length rest) (inside kind h v rest).text ≡ Ok tt → scan kind end bytes ≡ scan kind end rest
field_more kind end bytes h v rest some reads inner =
    let s = inside kind h v rest in
    scan_more kind end bytes s some reads (ap (λ (r : List ℕ). scan s.kind (end - length r) s.text) (inside_rest kind h v rest) ∙ inner)
    ∙ ap (scan kind end) (inside_rest kind h v rest)

pub leaf_more : (kind : Kind) (end : ℕ) (bytes : List ℕ) (h : Option Holds) (n : ℕ) (v : Value) (rest : List ℕ) → is_joined kind ≡ true → 0 < length bytes → h ≡ rule kind n
    → step_at kind end bytes ≡ Ok (inside kind h v rest) → scan kind end bytes ≡ scan kind end rest
leaf_more kind end bytes h n v rest j some known reads =
    let s = inside kind h v rest in
    let none : s.text ≡ [] = ap (λ h. (inside kind h v rest).text) known ∙ leaf_in kind (rows kind) n v rest (rows_leaf kind j) in
    field_more kind end bytes h v rest some reads (ap (scan s.kind (end - length rest)) none ∙ scan_none s.kind (end - length rest))

-- no message stands in a field that holds none
pub held_is : (kind : Kind) (end : ℕ) (h g : Option Holds) (v : Value) (rest : List ℕ) → h ≡ g → scan (inside kind g v rest).kind end (inside kind g v rest).text ≡ Ok tt
    → Ok tt ≡ scan (inside kind h v rest).kind end (inside kind h v rest).text
held_is kind end h g v rest e none = sym (ap (λ h. scan (inside kind h v rest).kind end (inside kind h v rest).text) e ∙ none)

plain_whole : (kind : Kind) (fs : List Field) → is_joined kind ≡ true → whole kind fs ≡ has_all kind fs
unfolding whole
plain_whole kinds.Root fs j = absurd (cc)
plain_whole kinds.System fs j = plain_system 3 fs
plain_whole kinds.Application fs j = plain_application 3 fs
plain_whole kinds.Thread fs j = absurd (cc)
plain_whole kinds.Frame fs j = absurd (cc)
plain_whole kinds.Symbol fs j = plain_symbol 3 fs
plain_whole kinds.Register fs j = absurd (cc)
plain_whole kinds.Image fs j = absurd (cc)
plain_whole kinds.Processor fs j = plain_processor 3 fs
plain_whole kinds.Signal fs j = plain_signal 3 fs
plain_whole kinds.Process fs j = plain_process 3 fs
plain_whole kinds.Info fs j = plain_info 3 fs

-- no field is passed yet
message_start : (b : Bool) (kind : Kind) (marks : Marks) (n : ℕ) (fs : List Field) → Unmarked marks → n < 10 → MessageUpTo b kind marks n fs fs
message_start true kind marks n fs none small = λ m less. ap (λ (b : Bool). cond b true (has m (joined n fs))) (none.parts n m small less)
message_start false kind marks n fs none small = ap (λ l. told_lack l >>= λ u. each_whole (whole kind) (messages_in n fs)) (none.lacks n small)

held_start : (h : Option Holds) (marks : Marks) (n : ℕ) (fs : List Field) → Unmarked marks → n < 10 → HeldUpTo h marks n fs fs
held_start None marks n fs none small = tt
held_start (Some holds.Number) marks n fs none small = tt
held_start (Some holds.Text) marks n fs none small = tt
held_start (Some (holds.Message kind)) marks n fs none small = message_start (is_joined kind) kind marks n fs none small

pub marks_start : (kind : Kind) (marks : Marks) (fs : List Field) → Unmarked marks → MarksUpTo kind marks fs fs
marks_start kind marks fs none n small = record {
  field = ap (λ (b : Bool). cond b true (has n fs)) (none.fields n small);
  held = held_start (rule kind n) marks n fs none small;
}

-- one more field is passed, of this number
bind_assoc : (r s t : Result (Unit {0}) DecodeFault) → ((r >>= λ u. s) >>= λ u. t) ≡ (r >>= λ u. (s >>= λ u. t))
bind_assoc (Ok u) s t = refl
bind_assoc (Err e) s t = refl

message_here : (b : Bool) (kind : Kind) (n : ℕ) (f : Field) (old new : Marks) (all fs : List Field) → (f.number == n) ≡ true
    → MessageTakes b kind n (value_bytes f.value) old new → MessageUpTo b kind old n all (f ∷ fs) → MessageUpTo b kind new n all fs
message_here true kind n f old new all fs e takes h = λ m less.
    ap (λ (b : Bool). cond b true (has m (joined n fs))) (takes m less)
    ∙ sym (or_assoc (seen (part old n) m) (has m (fields_of (value_bytes f.value))) (has m (joined n fs)))
    ∙ ap (λ (b : Bool). cond (seen (part old n) m) true b)
    (sym (has_append m (fields_of (value_bytes f.value)) (joined n fs))
    ∙ ap (has m) (sym (joined_step n f fs ∙ ap (λ (b : Bool). fields_of (cond b (value_bytes f.value) []) ++ joined n fs) e)))
    ∙ h m less
message_here false kind n f old new all fs e takes h =
    ap (λ r. r >>= λ u. each_whole (whole kind) (messages_in n fs)) takes
    ∙ bind_assoc (told_lack (lack old n)) (whole kind (fields_of (value_bytes f.value))) (each_whole (whole kind) (messages_in n fs))
    ∙ ap (λ (b : Bool). told_lack (lack old n) >>= λ u. each_whole (whole kind) (cond b (fields_of (value_bytes f.value) ∷ messages_in n fs) (messages_in n fs))) (sym e)
    ∙ h

held_here : (o : Option Holds) (n : ℕ) (f : Field) (old new : Marks) (all fs : List Field) → (f.number == n) ≡ true
    → HeldTakes o n (value_bytes f.value) old new → HeldUpTo o old n all (f ∷ fs) → HeldUpTo o new n all fs
held_here None n f old new all fs e takes h = tt
held_here (Some holds.Number) n f old new all fs e takes h = tt
held_here (Some holds.Text) n f old new all fs e takes h = tt
held_here (Some (holds.Message kind)) n f old new all fs e takes h = message_here (is_joined kind) kind n f old new all fs e takes h

-- or of another
message_other : (b : Bool) (kind : Kind) (n : ℕ) (f : Field) (old new : Marks) (all fs : List Field) → (f.number == n) ≡ false
    → part new n ≡ part old n → lack new n ≡ lack old n → MessageUpTo b kind old n all (f ∷ fs) → MessageUpTo b kind new n all fs
message_other true kind n f old new all fs e parts lacks h = λ m less.
    ap (λ s. cond (seen s m) true (has m (joined n fs))) parts
    ∙ ap (λ (b : Bool). cond (seen (part old n) m) true (has m (together (cond b (fields_of (value_bytes f.value) ∷ messages_in n fs) (messages_in n fs))))) (sym e)
    ∙ h m less
message_other false kind n f old new all fs e parts lacks h =
    ap (λ l. told_lack l >>= λ u. each_whole (whole kind) (messages_in n fs)) lacks
    ∙ ap (λ (b : Bool). told_lack (lack old n) >>= λ u. each_whole (whole kind) (cond b (fields_of (value_bytes f.value) ∷ messages_in n fs) (messages_in n fs))) (sym e)
    ∙ h

held_other : (o : Option Holds) (n : ℕ) (f : Field) (old new : Marks) (all fs : List Field) → (f.number == n) ≡ false
    → part new n ≡ part old n → lack new n ≡ lack old n → HeldUpTo o old n all (f ∷ fs) → HeldUpTo o new n all fs
held_other None n f old new all fs e parts lacks h = tt
held_other (Some holds.Number) n f old new all fs e parts lacks h = tt
held_other (Some holds.Text) n f old new all fs e parts lacks h = tt
held_other (Some (holds.Message kind)) n f old new all fs e parts lacks h = message_other (is_joined kind) kind n f old new all fs e parts lacks h

held_next : (b : Bool) (kind : Kind) (n : ℕ) (f : Field) (old new : Marks) (all fs : List Field) → (f.number == n) ≡ b → n < 10
    → Takes kind f old new → HeldUpTo (rule kind n) old n all (f ∷ fs) → HeldUpTo (rule kind n) new n all fs
held_next true kind n f old new all fs e small takes h =
    held_here (rule kind n) n f old new all fs e (subst (λ j. HeldTakes (rule kind j) j (value_bytes f.value) old new) (sym (equal f.number n e)) takes.here) h
held_next false kind n f old new all fs e small takes h =
    held_other (rule kind n) n f old new all fs e (takes.parts n small (other f.number n e)) (takes.lacks n small (other f.number n e)) h

pub marks_more : (kind : Kind) (f : Field) (old new : Marks) (all fs gs : List Field) → gs ≡ f ∷ fs → Takes kind f old new → MarksUpTo kind old all gs → MarksUpTo kind new all fs
marks_more kind f old new all fs gs e takes before n small =
    let h : MarkUpTo kind old n all (f ∷ fs) = subst (λ gs. MarkUpTo kind old n all gs) e (before n small) in
    record {
      field = sees_next old.fields new.fields f n fs (takes.fields n small) ∙ h.field;
      held = held_next (f.number == n) kind n f old new all fs refl small takes h.held;
    }

-- all fields are passed
needs_same : (kind : Kind) (ns : List ℕ) (s : Seen) (fs : List Field) → AllByRecursion (λ n. n < 10) ns → ((m : ℕ) → m < 10 → seen s m ≡ has m fs) → needs_by kind ns s ≡ needs kind ns fs
needs_same kind [] s fs small h = refl
needs_same kind (n ∷ ns) s fs small h =
    ap (λ (b : Bool). cond b (needs_by kind ns s) (Err (Missing kind n))) (h n small.0)
    ∙ ap (λ (r : Result (Unit {0}) DecodeFault). cond (has n fs) r (Err (Missing kind n))) (needs_same kind ns s fs small.1 h)

all_needs : (kind : Kind) (s : Seen) (fs : List Field) → ((m : ℕ) → m < 10 → seen s m ≡ has m fs) → needs_by kind (required_of (rows kind)) s ≡ has_all kind fs
all_needs kind s fs h = needs_same kind (required_of (rows kind)) s fs (required_small (rows kind) (rows_small kind)) h

field_told : (kind : Kind) (marks : Marks) (n : ℕ) (fs : List Field) → MarkUpTo kind marks n fs [] → seen marks.fields n ≡ has n fs
field_told kind marks n fs h = sym (or_none (seen marks.fields n)) ∙ h.field

joined_told : (kind k : Kind) (marks : Marks) (n : ℕ) (fs : List Field) → is_joined k ≡ true → MarkUpTo kind marks n fs [] → MessageUpTo true k marks n fs [] → joined_by marks k n ≡ one_whole (whole k) n fs
joined_told kind k marks n fs j mark h =
    ap (λ (b : Bool). cond b (needs_by k (required_of (rows k)) (part marks n)) (Ok tt)) (field_told kind marks n fs mark)
    ∙ ap (λ (r : Result (Unit {0}) DecodeFault). cond (has n fs) r (Ok tt))
    (all_needs k (part marks n) (joined n fs) (λ m less. sym (or_none (seen (part marks n) m)) ∙ h m less) ∙ sym (plain_whole k (joined n fs) j))

each_told : (k : Kind) (marks : Marks) (n : ℕ) (fs : List Field) → MessageUpTo false k marks n fs [] → told_lack (lack marks n) ≡ each_whole (whole k) (messages_in n fs)
each_told k marks n fs h = sym (bind_unit (told_lack (lack marks n))) ∙ h

abbrev RowTold : Marks → List Field → Row → Type 0
RowTold marks fs row = held_by marks row.holds row.label row.number ≡ held_whole whole row.holds row.label row.number fs

one : (kind k : Kind) (marks : Marks) (n : ℕ) (fs : List Field) → is_joined k ≡ true → n < 10 → ((m : MarkUpTo kind marks n fs []) → MessageUpTo true k marks n fs []) → MarksUpTo kind marks fs [] → joined_by marks k n ≡ one_whole (whole k) n fs
one kind k marks n fs j small held h = joined_told kind k marks n fs j (h n small) (held (h n small))

each : (kind k : Kind) (marks : Marks) (n : ℕ) (fs : List Field) → n < 10 → ((m : MarkUpTo kind marks n fs []) → MessageUpTo false k marks n fs []) → MarksUpTo kind marks fs [] → told_lack (lack marks n) ≡ each_whole (whole k) (messages_in n fs)
each kind k marks n fs small held h = each_told k marks n fs (held (h n small))

rows_told : (kind : Kind) (marks : Marks) (fs : List Field) → MarksUpTo kind marks fs [] → AllByRecursion (RowTold marks fs) (rows kind)
rows_told kinds.Root marks fs h = (
  one kinds.Root kinds.System marks 1 fs refl (lit< tt) (λ m. m.held) h,
  (
    one kinds.Root kinds.Application marks 2 fs refl (lit< tt) (λ m. m.held) h,
    (
      each kinds.Root kinds.Thread marks 3 fs (lit< tt) (λ m. m.held) h,
      (
        each kinds.Root kinds.Image marks 4 fs (lit< tt) (λ m. m.held) h,
        (
          one kinds.Root kinds.Signal marks 6 fs refl (lit< tt) (λ m. m.held) h,
          (one kinds.Root kinds.Process marks 7 fs refl (lit< tt) (λ m. m.held) h, (one kinds.Root kinds.Info marks 9 fs refl (lit< tt) (λ m. m.held) h, tt)),
        ),
      ),
    ),
  ),
)
rows_told kinds.System marks fs h = (refl, (refl, (refl, (refl, (refl, tt)))))
rows_told kinds.Application marks fs h = (refl, (refl, tt))
rows_told kinds.Thread marks fs h = (
  refl,
  (each kinds.Thread kinds.Frame marks 2 fs (lit< tt) (λ m. m.held) h, (refl, (each kinds.Thread kinds.Register marks 4 fs (lit< tt) (λ m. m.held) h, tt))),
)
rows_told kinds.Frame marks fs h = (refl, (one kinds.Frame kinds.Symbol marks 6 fs refl (lit< tt) (λ m. m.held) h, tt))
rows_told kinds.Symbol marks fs h = (refl, (refl, (refl, tt)))
rows_told kinds.Register marks fs h = (refl, (refl, tt))
rows_told kinds.Image marks fs h = (refl, (refl, (refl, (refl, (one kinds.Image kinds.Processor marks 5 fs refl (lit< tt) (λ m. m.held) h, tt)))))
rows_told kinds.Processor marks fs h = (refl, (refl, (refl, tt)))
rows_told kinds.Signal marks fs h = (refl, (refl, (refl, tt)))
rows_told kinds.Process marks fs h = (refl, (refl, (refl, (refl, (refl, (refl, tt))))))
rows_told kinds.Info marks fs h = (refl, (refl, tt))

inner_told : (marks : Marks) (fs : List Field) (rs : List Row) → AllByRecursion (RowTold marks fs) rs → inner_by marks rs ≡ inner_whole whole rs fs
inner_told marks fs [] h = refl
inner_told marks fs (row ∷ rs) h = bind_same _ _ _ _ h.0 (inner_told marks fs rs h.1)

pub marks_tell : (kind : Kind) (marks : Marks) (fs rest : List Field) → rest ≡ [] → MarksUpTo kind marks fs rest → marks_by kind marks ≡ whole kind fs
marks_tell kind marks fs rest e before =
    let h : MarksUpTo kind marks fs [] = subst (λ rest. MarksUpTo kind marks fs rest) e before in
    bind_same _ _ _ _ (all_needs kind marks.fields fs (λ n small. field_told kind marks n fs (h n small))) (inner_told marks fs (rows kind) (rows_told kind marks fs h))
    ∙ sym (whole_by_parts kind fs)
