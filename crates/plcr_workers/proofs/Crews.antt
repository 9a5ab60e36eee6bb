-- Workers in the order of their scripts.
use Rattle.std.proofs.Common.{◌≡◌, ℕ, zero, suc, ◌+◌, ◌-◌, ◌<◌, List, [], ◌∷◌, ◌++◌, length, map, reverse, get_or, Some, refl, sym, ap, ◌∙◌, subst, append_assoc, append-nil, length-append, arith}
use Rattle.std.specs.Prelude.{All, Vec}
use Rattle.std.specs.declared.alloc.Global.{Global}
use Rattle.std.proofs.lemmas.List.{get_or_append_left, get_or-reverse, length-reverse, reverse-append, reverse-reverse, map-append}
use Rattle.atomic_table.specs.Seated.{TableId}
use Rattle.crossbeam_queue.specs.Passes.{view}
use Rattle.plcr_imagelist.specs.Holds.{WalkerState}
use Rattle.plcr_script.specs.Scripts.{ScriptValue}
use Rattle.plcr_turns.specs.declared.view.View.{View}
use Rattle.plcr_turns.specs.Gathering.{AreWorking, HasGathered}
use Rattle.plcr_turns.specs.Views.{HasAll}
use Rattle.plcr_turns.specs.Working.{IsWorking}
use Rattle.plcr_turns.proofs.Gathered.{has_all_again}
use Rattle.plcr_workers.specs.declared.drafts.Draft.{Draft}
use Rattle.plcr_workers.specs.declared.lines.PassLine.{PassLine}
use Rattle.plcr_workers.specs.declared.worker.Worker.{Worker}
use Rattle.plcr_workers.specs.inner.Outputs.{in_order, outputs_of}
use Rattle.plcr_workers.specs.inner.Hired.{AreNumbered, AreInOrder, AreFromTheLast, IsGone, views_of, lines_left, passes_left}

-- the element behind a front
pub at_end : {A : Type 0} (xs : List A) (x d : A) → get_or (xs ++ x ∷ []) (length xs) d ≡ x
at_end [] x d = refl
at_end (y ∷ xs) x d = at_end xs x d

-- what holds at each place of a front, and of the element behind it, holds at each place of both
pub each_more : {A : Type 0} (P : ℕ → A → Type 0) (xs : List A) (x : A) → ((k : ℕ) (d : A) → k < length xs → P k (get_or xs k d)) → P (length xs) x → (k : ℕ) (d : A) → k < length (xs ++ x ∷ []) → P k (get_or (xs ++ x ∷ []) k d)
each_more P [] x each here zero d less = here
each_more P [] x each here (suc k) d less = absurd (omega arith)
each_more P (y ∷ xs) x each here zero d less = each 0 d (omega arith)
each_more P (y ∷ xs) x each here (suc k) d less = each_more (λ n. P (suc n)) xs x (λ n e l. each (suc n) e (omega (arith, l))) here k d (omega (arith, less))

-- and the other way round
pub each_front : {A : Type 0} (P : ℕ → A → Type 0) (xs ys : List A) → ((k : ℕ) (d : A) → k < length (xs ++ ys) → P k (get_or (xs ++ ys) k d)) → (k : ℕ) (d : A) → k < length xs → P k (get_or xs k d)
each_front P xs ys each k d less = subst (P k) (get_or_append_left xs ys d k less) (each k d (let n = length-append xs ys in omega (arith, less)))

pub each_last : {A : Type 0} (P : ℕ → A → Type 0) (xs : List A) (x : A) → ((k : ℕ) (d : A) → k < length (xs ++ x ∷ []) → P k (get_or (xs ++ x ∷ []) k d)) → P (length xs) x
each_last P xs x each = subst (P (length xs)) (at_end xs x x) (each (length xs) x (let n = length-append xs (x ∷ []) in omega arith))

pub all_reversed : {A : Type 0} (P : A → Type 0) (xs : List A) → All P xs → All P (reverse xs)
all_reversed P xs all k d less =
    let long = length-reverse xs in
    subst P (sym (get_or-reverse xs k d (omega (arith, less, long)))) (all (length xs - 1 - k) d (omega (arith, less, long)))

-- passes the other way round
pub turned_round : (count : ℕ) (list : TableId) (images : List WalkerState) → length images ≡ count → AreInOrder list images → AreFromTheLast count list (reverse images)
turned_round count list images many each place other less =
    let long = length-reverse images in
    let same = get_or-reverse images place other (omega (arith, less, long)) in
    let at = length images - 1 - place in
    let was = each at other (omega (arith, less, long)) in
    (ap (λ (i : WalkerState). i.table) same ∙ was.0, (let n = ap (λ (i : WalkerState). i.number) same ∙ was.1 in omega (arith, less, long, many, n)))

-- one output list more
in_order_more : {K : Type 0} (all : List (Vec (Draft K) Global)) (drafts : Vec (Draft K) Global) → in_order (all ++ drafts ∷ []) ≡ reverse drafts.items ++ in_order all
in_order_more [] drafts = sym (append-nil (reverse drafts.items))
in_order_more (first ∷ all) drafts = ap (λ l. l ++ reverse first.items) (in_order_more all drafts) ∙ append_assoc (reverse drafts.items) (in_order all) (reverse first.items)

-- the workers that were taken in so far, the last ones, with what they left
pub record AreIn {K : Type 0} (count : ℕ) (list : TableId) (all left taken : List (Worker K)) (chief : View) (images : List WalkerState) (drafts : List (Vec (Draft K) Global)) (others : List (Vec PassLine Global)) : Type 0 where
  pub parts : all ≡ left ++ taken
  pub gathered : HasGathered count list (views_of taken) chief
  pub working : AreWorking (length left) list (views_of taken)
  pub numbers : AreNumbered left
  pub images_are : AreFromTheLast count list images
  pub many : length images + length left ≡ count
  pub drafts_are : in_order drafts ≡ outputs_of taken
  pub others_are : others ≡ reverse (lines_left taken)
  pub passes_are : map Some images ≡ reverse (passes_left taken)

-- some of them were
pub record AreSome {K : Type 0} (count : ℕ) (list : TableId) (all left : List (Worker K)) (chief : View) (images : List WalkerState) (drafts : List (Vec (Draft K) Global)) (others : List (Vec PassLine Global)) : Type 0 where
  pub taken : List (Worker K)
  pub are_in : AreIn count list all left taken chief images drafts others

pub one_in : {K : Type 0} (queue : TableId) (count : ℕ) (list : TableId) (scripts : List ScriptValue) (all left taken : List (Worker K)) (w : Worker K) (chief next : View) (images : List WalkerState) (image : WalkerState) (drafts : List (Vec (Draft K) Global)) (own : Vec (Draft K) Global) (others : List (Vec PassLine Global))
    → AreIn count list all (left ++ w ∷ []) taken chief images drafts others → IsGone queue list scripts w → HasGathered count list (view w.turns ∷ views_of taken) next
    → w.image ≡ Some image → image.table ≡ list → image.number ≡ w.script → own.items ≡ reverse w.drafts.items
    → AreIn count list all left (w ∷ taken) next (images ++ image ∷ []) (drafts ++ own ∷ []) (others ++ w.lines ∷ [])
one_in queue count list scripts all left taken w chief next images image drafts own others s gone gathered has at number own_is =
    let long = length-append left (w ∷ []) in
    let more = length-append images (image ∷ []) in
    let many = s.many in
    let place : w.script ≡ length left = each_last (λ k (x : Worker _). x.script ≡ k) left w s.numbers in
    record {
      parts = s.parts ∙ append_assoc left (w ∷ []) taken;
      gathered = gathered;
      working = (
        subst (λ n. IsWorking n list (view w.turns)) place gone.so_far.working,
        subst (λ n. AreWorking n list (views_of taken)) (omega (arith, long)) s.working,
      );
      numbers = each_front (λ k (x : Worker _). x.script ≡ k) left (w ∷ []) s.numbers;
      images_are = each_more (λ k (i : WalkerState). (i.table ≡ list) × (i.number + k + 1 ≡ count)) images image s.images_are (at, omega (arith, number, place, many, long));
      many = omega (arith, many, long, more);
      drafts_are = in_order_more drafts own ∙ ap (λ l. l ++ in_order drafts) (ap reverse own_is ∙ reverse-reverse w.drafts.items) ∙ ap (λ l. w.drafts.items ++ l) s.drafts_are;
      others_are = ap (λ l. l ++ w.lines ∷ []) s.others_are ∙ sym (reverse-append (w.lines ∷ []) (lines_left taken));
      passes_are = map-append Some images (image ∷ []) ∙ (λ i. s.passes_are i ++ sym has i ∷ []) ∙ sym (reverse-append (w.image ∷ []) (passes_left taken));
    }

pub nobody_in : {K : Type 0} (count : ℕ) (list : TableId) (all : List (Worker K)) (chief : View) → length all ≡ count → AreNumbered all → HasGathered count list [] chief → AreIn count list all all [] chief [] [] []
nobody_in count list all chief many numbers gathered = record {
  parts = sym (append-nil all);
  gathered = gathered;
  working = tt;
  numbers = numbers;
  images_are = λ place other less. absurd (omega (arith, less));
  many = omega (arith, many);
  drafts_are = refl;
  others_are = refl;
  passes_are = refl;
}

views_count : {K : Type 0} (workers : List (Worker K)) → length (views_of workers) ≡ length workers
views_count [] = refl
views_count (w ∷ workers) = ap suc (views_count workers)

-- all were taken in
pub all_in : {K : Type 0} (count : ℕ) (list : TableId) (all left taken : List (Worker K)) (chief : View) (images : List WalkerState) (drafts : List (Vec (Draft K) Global)) (others : List (Vec PassLine Global)) → left ≡ [] → length all ≡ count
    → AreIn count list all left taken chief images drafts others → AreIn count list all [] all chief images drafts others
all_in count list all left taken chief images drafts others none many s =
    let same : taken ≡ all = ap (λ l. l ++ taken) (sym none) ∙ sym s.parts in
    subst (λ (l : List (Worker _)). AreIn count list all [] l chief images drafts others) same (subst (λ (l : List (Worker _)). AreIn count list all l taken chief images drafts others) none s)

pub again : {K : Type 0} (count : ℕ) (list : TableId) (all : List (Worker K)) (chief : View) (images : List WalkerState) (drafts : List (Vec (Draft K) Global)) (others : List (Vec PassLine Global)) → length all ≡ count
    → AreIn count list all [] all chief images drafts others → HasAll chief
again count list all chief images drafts others many s =
    has_all_again list (views_of all) chief (subst (λ n. HasGathered n list (views_of all) chief) (sym (views_count all ∙ many)) s.gathered) s.working

pub none_left : {A : Type 0} (xs : List A) → length xs ≡ 0 → xs ≡ []
none_left [] e = refl
none_left (x ∷ xs) e = absurd (omega (arith, e))

pub last_in : {K : Type 0} (count : ℕ) (list : TableId) (all left : List (Worker K)) (chief : View) (images : List WalkerState) (drafts : List (Vec (Draft K) Global)) (others : List (Vec PassLine Global)) → length left ≡ 0 → length all ≡ count
    → AreSome count list all left chief images drafts others → AreIn count list all [] all chief images drafts others
last_in count list all left chief images drafts others none many s = all_in count list all left s.taken chief images drafts others (none_left left none) many s.are_in
