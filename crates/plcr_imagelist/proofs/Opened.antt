-- The tokens of a list that was just opened.
use Rattle.std.proofs.Common.{◌≡◌, ℕ, zero, suc, List, [], ◌∷◌, ◌++◌, ◌<◌, length, get_or, All, map, reverse, true, None, Result, Ok, Err, refl, sym, ap, subst, ◌∙◌, append_assoc, arith}
use Rattle.std.proofs.Math.Seq.{get_or-append_seam}
use Rattle.std.proofs.lemmas.Bool.{eqb-false}
use Rattle.std.proofs.lemmas.List.{reverse-append, length-append, get_or_append_left}
use Rattle.std.proofs.lemmas.List.Elements.{All-nil, All-push, All-head, All-tail}
use Rattle.atomic_table.specs.Seated.{TableId}
use Rattle.plcr_nodes.specs.Tokens.{PassState}
use Rattle.plcr_nodes.specs.Opening.{IsSized, opened_owner, opened_pass, opened_passes}
use Rattle.plcr_imagelist.specs.inner.Keeping.{writer_state}
use Rattle.plcr_imagelist.specs.declared.refusals.LoadRefused.{LoadRefused}
use Rattle.plcr_imagelist.specs.declared.refusals.LoadRefused.TheVariants.{Full, NameTooLong, Worn}
use Rattle.plcr_imagelist.specs.declared.refusals.UnloadRefused.{UnloadRefused}
use Rattle.plcr_imagelist.specs.declared.refusals.UnloadRefused.TheVariants.{NotLoaded}
use Rattle.plcr_imagelist.specs.Loading.{LoadsOrRefuses, UnloadsOrRefuses}
use Rattle.plcr_imagelist.specs.States.{WriterState, IsAtRest}
use Rattle.plcr_imagelist.specs.Holds.{WalkerState}
use Rattle.plcr_imagelist.specs.inner.Holding.{walker_state, IsReady}
use Rattle.plcr_imagelist.specs.Opening.{opened_writer, opened_walker, opened_walkers, StartsEmpty, PassesAreNumbered}
use Rattle.plcr_machine.proofs.Cases.{at_or_else, not_both}

-- the passes have room for their walks
pub opened_ready : (z : TableId) (nodes passes : ℕ) → IsSized nodes passes → (count : ℕ) → All (IsReady nodes) (opened_passes z nodes passes count)
opened_ready z nodes passes sized zero = All-nil (IsReady nodes)
opened_ready z nodes passes sized (suc count) =
    All-push (IsReady nodes) (opened_passes z nodes passes count) (opened_pass z nodes passes count) (opened_ready z nodes passes sized count)
    (record { known = record { few_nodes = sized.0.1; few_passes = sized.1.1; legal = tt; named = refl }; outside = refl; retired = refl; made = ([], refl) }, refl)

pub all_reversed : (nodes : ℕ) (xs : List PassState) → All (IsReady nodes) xs → All (IsReady nodes) (reverse xs)
all_reversed nodes [] h = All-nil (IsReady nodes)
all_reversed nodes (x ∷ xs) h =
    subst (All (IsReady nodes)) (sym (reverse-append (x ∷ []) xs)) (All-push (IsReady nodes) (reverse xs) x (all_reversed nodes xs (All-tail (IsReady nodes) x xs h)) (All-head (IsReady nodes) x xs h))

map-snoc : (xs : List PassState) (x : PassState) → map walker_state (xs ++ x ∷ []) ≡ map walker_state xs ++ walker_state x ∷ []
map-snoc [] x = refl
map-snoc (y ∷ ys) x = ap (λ (zs : List WalkerState). walker_state y ∷ zs) (map-snoc ys x)

pub walkers-opened : (z : TableId) (nodes passes count : ℕ) → map walker_state (opened_passes z nodes passes count) ≡ opened_walkers z nodes passes count
walkers-opened z nodes passes zero = refl
walkers-opened z nodes passes (suc count) =
    map-snoc (opened_passes z nodes passes count) (opened_pass z nodes passes count) ∙ ap (λ (xs : List WalkerState). xs ++ opened_walker z nodes passes count ∷ []) (walkers-opened z nodes passes count)

-- the writer has no change open
pub opened_rest : (z : TableId) (nodes passes : ℕ) → IsSized nodes passes → IsAtRest (writer_state (opened_owner z nodes passes))
opened_rest z nodes passes sized = record { known = record { few_nodes = sized.0.1; few_passes = sized.1.1; legal = tt; named = refl }; paced = tt; first = tt; counted = refl }

-- and its first calls find a list without images and with free nodes
first_load : (z : TableId) (nodes passes : ℕ) → 0 < nodes → (header : ℕ) (name : List ℕ) (new : WriterState) (answer : Result ℕ LoadRefused) → LoadsOrRefuses (opened_writer z nodes passes) header name new answer → answer ≡ Ok 1
first_load z nodes passes some header name new (Ok number) k = ap Ok k.number_is
first_load z nodes passes some header name new (Err (Full lives held seen)) k = not_both true refl (k.none 1 (omega arith) (omega arith))
first_load z nodes passes some header name new (Err (NameTooLong len)) k = absurd k
first_load z nodes passes some header name new (Err (Worn changes)) k = absurd k

first_unload : (z : TableId) (nodes passes header : ℕ) (new : WriterState) (answer : Result ℕ UnloadRefused) → UnloadsOrRefuses (opened_writer z nodes passes) None new answer → answer ≡ Err NotLoaded
first_unload z nodes passes header new (Ok number) k = absurd k
first_unload z nodes passes header new (Err refused) k = ap Err k.0

pub opened_empty : (z : TableId) (nodes passes : ℕ) → IsSized nodes passes → StartsEmpty (opened_writer z nodes passes)
opened_empty z nodes passes sized = record { load = first_load z nodes passes sized.0.0; unload = first_unload z nodes passes }

-- one more of the reversed passes was taken
pub taken_more : (opened : List WalkerState) (rest front : List PassState) (x : PassState) (whole : List WalkerState) → rest ≡ front ++ x ∷ [] → opened ++ map walker_state (reverse rest) ≡ whole
    → (opened ++ walker_state x ∷ []) ++ map walker_state (reverse front) ≡ whole
taken_more opened rest front x whole e all =
    append_assoc opened (walker_state x ∷ []) (map walker_state (reverse front)) ∙ ap (λ (ys : List PassState). opened ++ map walker_state ys) (sym (ap reverse e ∙ reverse-append front (x ∷ []))) ∙ all

-- each pass stands at the place of its number
walkers_many : (z : TableId) (nodes passes count : ℕ) → length (opened_walkers z nodes passes count) ≡ count
walkers_many z nodes passes zero = refl
walkers_many z nodes passes (suc count) =
    let more = length-append (opened_walkers z nodes passes count) (opened_walker z nodes passes count ∷ []) in let before = walkers_many z nodes passes count in omega arith

walker_at : (z : TableId) (nodes passes count number : ℕ) (d : WalkerState) → number < count → get_or (opened_walkers z nodes passes count) number d ≡ opened_walker z nodes passes number
walker_at z nodes passes zero number d below = absurd (omega arith)
walker_at z nodes passes (suc count) number d below =
    let xs : List WalkerState = opened_walkers z nodes passes count in
    let last : WalkerState = opened_walker z nodes passes count in
    let many : length xs ≡ count = walkers_many z nodes passes count in
    at_or_else number count
    (λ same. subst (λ n. get_or (xs ++ last ∷ []) n d ≡ opened_walker z nodes passes n) (sym same) (subst (λ n. get_or (xs ++ last ∷ []) n d ≡ last) many (get_or-append_seam xs last [] d)))
    (λ other. let earlier : number < count = omega (arith, eqb-false number count other) in
    get_or_append_left xs (last ∷ []) d number (omega arith) ∙ walker_at z nodes passes count number d earlier)

pub walkers_numbered : PassesAreNumbered
walkers_numbered = λ z nodes passes count. (walkers_many z nodes passes count, λ number d below. walker_at z nodes passes count number d below)
