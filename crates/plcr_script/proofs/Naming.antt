-- The files that statements and scripts write, and sets of them.
use Rattle.std.proofs.Common.{◌≡◌, ℕ, Bool, true, false, cond, List, [], ◌∷◌, ◌++◌, Option, Some, None, refl, sym, ◌∙◌, ap, subst, append_assoc, take, length, get_or, ◌+◌, ◌<◌, ◌||◌}
use Rattle.std.specs.Prelude.{option_to_list}
use Rattle.std.specs.List.{list_any}
use Rattle.std.proofs.lemmas.List.{append-nil, take_more}
use Rattle.std.proofs.lemmas.List.Elements.{filter_map-append}
use Rattle.std.proofs.lemmas.List.Folds.{list_any-append}
use Rattle.std.specs.Str.{bytes_eq}
use Rattle.std.specs.BTreeSet.{BTreeSet}
use denote.Ref.{Bor}
use Rattle.plcr_script.specs.inner.Names.{has, IsIndex}
use Rattle.plcr_script.specs.declared.statements.NumberedStatement.{NumberedStatement}
use Rattle.plcr_script.specs.Reading.{file_of, files_of, is_named}

-- a choice of true is an alternative
pub cond_or : (b x : Bool) → cond b true x ≡ (b || x)
cond_or true x = refl
cond_or false x = refl

-- the last of some alternatives may stand first
or_last : (a b : Bool) → (a || (b || false)) ≡ (b || a)
or_last true true = refl
or_last true false = refl
or_last false true = refl
or_last false false = refl

-- the files of statements with one more
pub files_more : (xs : List NumberedStatement) (x : NumberedStatement) → files_of (xs ++ x ∷ []) ≡ files_of xs ++ files_of (x ∷ [])
files_more xs x = filter_map-append (λ s. file_of s.statement) xs (x ∷ [])

-- the same behind other files
pub files_behind : (files : List (List ℕ)) (xs : List NumberedStatement) (x : NumberedStatement) → files ++ files_of (xs ++ x ∷ []) ≡ (files ++ files_of xs) ++ files_of (x ∷ [])
files_behind files xs x = ap (λ (fs : List (List ℕ)). files ++ fs) (files_more xs x) ∙ sym (append_assoc files (files_of xs) (files_of (x ∷ [])))

-- a set that gained a name is that of the files with one more
pub index_more : (old new : BTreeSet (Bor (List ℕ))) (files : List (List ℕ)) (name : List ℕ) → IsIndex old files → ((q : List ℕ) → has new q ≡ (bytes_eq name q || has old q)) → IsIndex new (files ++ name ∷ [])
unfolding is_named
index_more old new files name index added q =
    let p : List ℕ → Bool = λ file. bytes_eq file q in
    added q ∙ ap (λ b. bytes_eq name q || b) (index q)
    ∙ sym (list_any-append p files (name ∷ []) ∙ or_last (list_any p files) (bytes_eq name q))

-- a set stays that of the files with those of no statement more
pub index_same : (names : BTreeSet (Bor (List ℕ))) (files : List (List ℕ)) → IsIndex names files → IsIndex names (files ++ [])
index_same names files index = subst (λ (fs : List (List ℕ)). IsIndex names fs) (sym (append-nil files)) index

-- the set of the files behind a statement that writes none, and behind one that writes a file
pub index_behind : (names : BTreeSet (Bor (List ℕ))) (files : List (List ℕ)) (xs : List NumberedStatement) (x : NumberedStatement) → IsIndex names ((files ++ files_of xs) ++ files_of (x ∷ [])) → IsIndex names (files ++ files_of (xs ++ x ∷ []))
index_behind names files xs x index = subst (λ (fs : List (List ℕ)). IsIndex names fs) (sym (files_behind files xs x)) index

-- the files of one statement
pub files_one : (x : NumberedStatement) → files_of (x ∷ []) ≡ option_to_list (file_of x.statement)
files_one x = of (file_of x.statement) refl
  where
    of : (file : Option (List ℕ)) → file_of x.statement ≡ file → files_of (x ∷ []) ≡ option_to_list file
    of None h = rw h refl
    of (Some file) h = rw h refl

-- the set of the files behind some statements, and one statement more
pub index_step : (names : BTreeSet (Bor (List ℕ))) (files : List (List ℕ)) (xs : List NumberedStatement) (i : ℕ) (x : NumberedStatement) → i < length xs → x ≡ get_or xs i x → IsIndex names ((files ++ files_of (take i xs)) ++ option_to_list (file_of x.statement)) → IsIndex names (files ++ files_of (take (i + 1) xs))
index_step names files xs i x within is index =
    let more : take (i + 1) xs ≡ take i xs ++ x ∷ [] = take_more xs i x within ∙ ap (λ (y : NumberedStatement). take i xs ++ y ∷ []) (sym is) in
    let same = ap (λ (ys : List NumberedStatement). files ++ files_of ys) more ∙ files_behind files (take i xs) x ∙ ap (λ (fs : List (List ℕ)). (files ++ files_of (take i xs)) ++ fs) (files_one x) in
    subst (λ (fs : List (List ℕ)). IsIndex names fs) (sym same) index
