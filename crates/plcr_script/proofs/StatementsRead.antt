-- What the lines of statements say.
use Rattle.std.proofs.Common.{◌≡◌, ℕ, ◌^◌, ◌<◌, Bool, true, false, ltb, List, [], ◌∷◌, Option, Result, Ok, Err, refl, subst}
use Rattle.std.specs.Prelude.{if◌then◌else◌, codes}
use Rattle.std.specs.Str.{bytes_eq}
use Rattle.std.proofs.lemmas.Bool.{ltb-true}
use Rattle.plcr_base.specs.Chains.{◌>>=◌}
use Rattle.plcr_script.specs.declared.faults.Kind.{Kind}
use Rattle.plcr_script.specs.declared.faults.Kind.TheVariants.{BadWord, NoSuchPass, TooFew}
use Rattle.plcr_script.specs.declared.statements.Statement.{Statement}
use Rattle.plcr_script.specs.declared.statements.Statement.TheVariants.{Load, Unload, BeginLoad, BeginUnload, Step, End, Enter, Walk, Leave, Report}
use Rattle.plcr_script.specs.Refusals.{only_if, or_refuse}
use Rattle.plcr_script.specs.Splits.{words, first_word}
use Rattle.plcr_script.specs.Places.{HasPass}
use Rattle.plcr_script.specs.Sayings.{Saying, Sizes, Number, Words, States, one_word, two_words, number_below, is_file_name, image_in, load_in, unload_in, begun_in, begin_in, step_in, end_in, existing, pass_in, moving_in, walk_by, walk_in, report_by, report_in, statement_in}

-- a saying is a statement that names one of so many passes, if it names one
abbrev pub IsStatement : ℕ → Saying → Type 0
IsStatement passes (Sizes a b) = ⊥
IsStatement passes (Number key number) = ⊥
IsStatement passes (Words key text) = ⊥
IsStatement passes (States statement) = HasPass passes statement

-- what is read, if it is, is such a one
abbrev ReadsStatement : ℕ → Result Saying Kind → Type 0
ReadsStatement passes read = (s : Saying) → read ≡ Ok s → IsStatement passes s

refuses : (p : ℕ) (kind : Kind) → ReadsStatement p (Err kind)
refuses p kind s h = absurd cc

states : (p : ℕ) (statement : Statement) → HasPass p statement → ReadsStatement p (Ok (States statement))
states p statement has s h = let same : States statement ≡ s = cc in subst (IsStatement p) same has

behind : {A : Type 0} (p : ℕ) (r : Result A Kind) (f : A → Result Saying Kind) → ((x : A) → r ≡ Ok x → ReadsStatement p (f x)) → ReadsStatement p (r >>= f)
behind p (Ok x) f h s e = h x refl s e
behind p (Err kind) f h s e = absurd cc

either : (p : ℕ) (b : Bool) (r other : Result Saying Kind) → ReadsStatement p r → ReadsStatement p other → ReadsStatement p (if b then r else other)
either p true r other h k = h
either p false r other h k = k

one_of : (p n x : ℕ) → existing p n ≡ Ok x → x < p
one_of p n x h = of (ltb n p) refl h
  where
    of : (b : Bool) → ltb n p ≡ b → only_if NoSuchPass b n ≡ Ok x → x < p
    of true less e = let same : n ≡ x = cc in rw (← same) (ltb-true n p less)
    of false less e = absurd cc

load_read : (p : ℕ) (load : ℕ → List ℕ → Statement) (arguments : Option (List ℕ)) → ((header : ℕ) (name : List ℕ) → HasPass p (load header name)) → ReadsStatement p (load_in load arguments)
unfolding load_in
load_read p load arguments has = behind p (image_in arguments) (λ image. Ok (States (load image.0 image.1))) (λ image e. states p (load image.0 image.1) (has image.0 image.1))

unload_read : (p : ℕ) (unload : ℕ → Statement) (arguments : List (List ℕ)) → ((header : ℕ) → HasPass p (unload header)) → ReadsStatement p (unload_in unload arguments)
unfolding unload_in
unload_read p unload arguments has =
    behind p (one_word arguments) (λ word. number_below (2 ^ 64) word >>= λ header. Ok (States (unload header)))
    (λ word e. behind p (number_below (2 ^ 64) word) (λ header. Ok (States (unload header))) (λ header e2. states p (unload header) (has header)))

begin_read : (p : ℕ) (arguments : Option (List ℕ)) → ReadsStatement p (begin_in arguments)
unfolding begin_in
begin_read p arguments =
    behind p (or_refuse TooFew arguments) (λ text. begun_in (first_word text).front (first_word text).rest)
    (λ text e. either p (bytes_eq (first_word text).front (codes "load")) (load_in BeginLoad (first_word text).rest) _ (load_read p BeginLoad (first_word text).rest (λ header name. tt))
    (either p (bytes_eq (first_word text).front (codes "unload")) (unload_in BeginUnload (words (first_word text).rest)) (Err BadWord) (unload_read p BeginUnload (words (first_word text).rest) (λ header. tt)) (refuses p BadWord)))

step_read : (p : ℕ) (arguments : List (List ℕ)) → ReadsStatement p (step_in arguments)
unfolding step_in
step_read p arguments =
    behind p (one_word arguments) (λ word. number_below (2 ^ 32) word >>= λ most. Ok (States (Step most)))
    (λ word e. behind p (number_below (2 ^ 32) word) (λ most. Ok (States (Step most))) (λ most e2. states p (Step most) tt))

end_read : (p : ℕ) (arguments : List (List ℕ)) → ReadsStatement p (end_in arguments)
unfolding end_in
end_read p [] = states p End tt
end_read p (more ∷ others) = refuses p _

moving_read : (p : ℕ) (statement : ℕ → Statement) (arguments : List (List ℕ)) → ((pass : ℕ) → pass < p → HasPass p (statement pass)) → ReadsStatement p (moving_in p statement arguments)
unfolding moving_in
moving_read p statement arguments has = behind p (pass_in p arguments) (λ pass. Ok (States (statement pass))) (λ pass e. states p (statement pass) (has pass (within arguments pass e)))
  where
    numbered : (pass : ℕ) (word : Result ℕ Kind) → (word >>= existing p) ≡ Ok pass → pass < p
    numbered pass (Ok number) h = one_of p number pass h
    numbered pass (Err kind) h = absurd cc

    worded : (pass : ℕ) (word : Result (List ℕ) Kind) → (word >>= λ w. number_below (2 ^ 32) w >>= existing p) ≡ Ok pass → pass < p
    worded pass (Ok w) h = numbered pass (number_below (2 ^ 32) w) h
    worded pass (Err kind) h = absurd cc

    within : (arguments : List (List ℕ)) (pass : ℕ) → pass_in p arguments ≡ Ok pass → pass < p
    within arguments pass h = worded pass (one_word arguments) h

walk_read : (p : ℕ) (arguments : List (List ℕ)) → ReadsStatement p (walk_in p arguments)
unfolding walk_in
walk_read p arguments =
    behind p (two_words arguments) (λ both. walk_by p both.0 both.1)
    (λ both e. behind p (number_below (2 ^ 32) both.0) (λ number. number_below (2 ^ 32) both.1 >>= λ bound. existing p number >>= λ walker. Ok (States (Walk walker bound)))
    (λ number e2. behind p (number_below (2 ^ 32) both.1) (λ bound. existing p number >>= λ walker. Ok (States (Walk walker bound)))
    (λ bound e3. behind p (existing p number) (λ walker. Ok (States (Walk walker bound))) (λ walker e4. states p (Walk walker bound) (one_of p number walker e4)))))

report_read : (p : ℕ) (arguments : List (List ℕ)) → ReadsStatement p (report_in p arguments)
unfolding report_in
report_read p arguments =
    behind p (two_words arguments) (λ both. report_by p both.0 both.1)
    (λ both e. behind p (number_below (2 ^ 32) both.0) (λ number. only_if BadWord (is_file_name both.1) both.1 >>= λ name. existing p number >>= λ reporter. Ok (States (Report reporter name)))
    (λ number e2. behind p (only_if BadWord (is_file_name both.1) both.1) (λ name. existing p number >>= λ reporter. Ok (States (Report reporter name)))
    (λ name e3. behind p (existing p number) (λ reporter. Ok (States (Report reporter name))) (λ reporter e4. states p (Report reporter name) (one_of p number reporter e4)))))

-- the line of a statement says a statement
pub statement_read : (p : ℕ) (word : List ℕ) (arguments : Option (List ℕ)) (s : Saying) → statement_in p word arguments ≡ Ok s → IsStatement p s
unfolding statement_in
statement_read p word arguments =
    either p (bytes_eq word (codes "load")) (load_in Load arguments) _ (load_read p Load arguments (λ header name. tt))
    (either p (bytes_eq word (codes "unload")) (unload_in Unload (words arguments)) _ (unload_read p Unload (words arguments) (λ header. tt))
    (either p (bytes_eq word (codes "begin")) (begin_in arguments) _ (begin_read p arguments)
    (either p (bytes_eq word (codes "step")) (step_in (words arguments)) _ (step_read p (words arguments))
    (either p (bytes_eq word (codes "end")) (end_in (words arguments)) _ (end_read p (words arguments))
    (either p (bytes_eq word (codes "enter")) (moving_in p Enter (words arguments)) _ (moving_read p Enter (words arguments) (λ pass less. less))
    (either p (bytes_eq word (codes "walk")) (walk_in p (words arguments)) _ (walk_read p (words arguments))
    (either p (bytes_eq word (codes "leave")) (moving_in p Leave (words arguments)) _ (moving_read p Leave (words arguments) (λ pass less. less))
    (either p (bytes_eq word (codes "report")) (report_in p (words arguments)) (Err BadWord) (report_read p (words arguments)) (refuses p BadWord)))))))))
