-- The other lines of scripts, printed script by script.
use Rattle.std.proofs.Common.{◌≡◌, ℕ, zero, suc, ◌+◌, ◌≤◌, List, [], ◌∷◌, ◌++◌, length, take, get_or, slice_get, Option, Some, sym, ap, subst, ◌∙◌, append-nil, append_assoc, take_all, arith}
use Rattle.std.specs.Prelude.{Vec, unwrap_or}
use Rattle.std.specs.declared.alloc.Global.{Global}
use Rattle.std.specs.Io.KnownBytes.{append_known}
use Rattle.plcr_base.specs.Told.{AppendsProperFront}
use Rattle.plcr_base.proofs.Appended.{append_twice, proper_first, proper_second}
use Rattle.plcr_script.specs.Scripts.{ScriptValue}
use Rattle.plcr_workers.specs.declared.lines.PassLine.{PassLine}
use Rattle.plcr_workers.specs.Log.{script_text, scripts_text}
use Rattle.plcr_workers.specs.inner.Stages.{items_of}

-- the text of one script more, and what is left behind it
pub record TextAt (number : ℕ) (scripts : List ScriptValue) (others : List (Vec PassLine Global)) (k : ℕ) (script : ScriptValue) (lines : List PassLine) : Type 0 where
  pub more : scripts_text number (take (suc k) scripts) (items_of (take (suc k) others)) ≡ scripts_text number (take k scripts) (items_of (take k others)) ++ script_text (number + k) script lines
  pub rest : List ℕ
  pub whole : scripts_text number scripts (items_of others) ≡ scripts_text number (take (suc k) scripts) (items_of (take (suc k) others)) ++ rest

same_script : {s t : ScriptValue} → Some s ≡ Some t → s ≡ t
same_script {s} {t} e = ap (λ (o : Option ScriptValue). unwrap_or o s) e

pub text_at : (number : ℕ) (scripts : List ScriptValue) (others : List (Vec PassLine Global)) (k : ℕ) (script : ScriptValue) (lines : List PassLine) (o : Vec PassLine Global) → length others ≡ length scripts
    → slice_get scripts k ≡ Some script → (get_or others k o).items ≡ lines → TextAt number scripts others k script lines
text_at number [] others k script lines o count at is = absurd cc
text_at number (s ∷ scripts) [] k script lines o count at is = absurd (omega (arith, count))
text_at number (s ∷ scripts) (v ∷ others) zero script lines o count at is =
    let same : s ≡ script = same_script at in
    record {
      more = append-nil (script_text number s v.items) ∙ (λ i. script_text (plain i) (same i) (is i));
      rest = scripts_text (number + 1) scripts (items_of others);
      whole = ap (λ (l : List ℕ). l ++ scripts_text (number + 1) scripts (items_of others)) (sym (append-nil (script_text number s v.items)));
    }
  where
    plain : number ≡ number + 0
    plain = omega arith
text_at number (s ∷ scripts) (v ∷ others) (suc k) script lines o count at is =
    let r = text_at (number + 1) scripts others k script lines o (omega (arith, count)) at is in
    let here : List ℕ = script_text number s v.items in
    let next : number + 1 + k ≡ number + suc k = omega arith in
    record {
      more = ap (λ (l : List ℕ). here ++ l) (r.more ∙ ap (λ (n : ℕ). scripts_text (number + 1) (take k scripts) (items_of (take k others)) ++ script_text n script lines) next)
          ∙ sym (append_assoc here (scripts_text (number + 1) (take k scripts) (items_of (take k others))) (script_text (number + suc k) script lines));
      rest = r.rest;
      whole = ap (λ (l : List ℕ). here ++ l) r.whole ∙ sym (append_assoc here (scripts_text (number + 1) (take (suc k) scripts) (items_of (take (suc k) others))) r.rest);
    }

-- the lines of the next script were printed
pub text_more : (number : ℕ) (scripts : List ScriptValue) (others : List (Vec PassLine Global)) (k n : ℕ) (script : ScriptValue) (lines : List PassLine) (old now new : Option (List ℕ)) → TextAt number scripts others k script lines → n ≡ number + k
    → now ≡ append_known old (scripts_text number (take k scripts) (items_of (take k others))) → new ≡ append_known now (script_text n script lines)
    → new ≡ append_known old (scripts_text number (take (k + 1) scripts) (items_of (take (k + 1) others)))
text_more number scripts others k n script lines old now new t numbered was printed =
    let before = scripts_text number (take k scripts) (items_of (take k others)) in
    let text = script_text n script lines in
    let plus : suc k ≡ k + 1 = omega arith in
    printed ∙ ap (λ (o : Option (List ℕ)). append_known o text) was ∙ append_twice old before text
    ∙ ap (append_known old) (ap (λ (m : ℕ). before ++ script_text m script lines) numbered ∙ sym t.more ∙ ap (λ (m : ℕ). scripts_text number (take m scripts) (items_of (take m others))) plus)

-- or a front of them
pub text_cut : (number : ℕ) (scripts : List ScriptValue) (others : List (Vec PassLine Global)) (k n : ℕ) (script : ScriptValue) (lines : List PassLine) (old now new : Option (List ℕ)) → TextAt number scripts others k script lines → n ≡ number + k
    → now ≡ append_known old (scripts_text number (take k scripts) (items_of (take k others))) → AppendsProperFront now new (script_text n script lines)
    → AppendsProperFront old new (scripts_text number scripts (items_of others))
text_cut number scripts others k n script lines old now new t numbered was cut =
    let before = scripts_text number (take k scripts) (items_of (take k others)) in
    let text = script_text n script lines in
    subst (λ (l : List ℕ). AppendsProperFront old new l)
    (ap (λ (l : List ℕ). l ++ t.rest) (ap (λ (m : ℕ). before ++ script_text m script lines) numbered ∙ sym t.more) ∙ sym t.whole)
    (proper_first old new (before ++ text) t.rest (proper_second old now new before text was cut))

pub text_all : (number : ℕ) (scripts : List ScriptValue) (others : List (Vec PassLine Global)) (k : ℕ) → length others ≡ length scripts → length scripts ≤ k → scripts_text number (take k scripts) (items_of (take k others)) ≡ scripts_text number scripts (items_of others)
text_all number scripts others k count all = λ i. scripts_text number (take_all k scripts all i) (items_of (take_all k others (omega (arith, count, all)) i))
