-- What a worker knows of the lines of its script, as the journal grows.
use Rattle.std.proofs.Common.{◌≡◌, ℕ, List, [], ◌∷◌, ◌++◌, Option, Some, None, length, slice_get, refl, sym, ap, ◌∙◌, subst, append-nil, length-append, arith}
use Rattle.plcr_machine.specs.declared.entry.Entry.{Entry}
use Rattle.plcr_machine.specs.Lists.{name_of}
use Rattle.plcr_nodes.specs.Entries.{WentOn}
use Rattle.plcr_nodes.proofs.NamesKept.{name-older}
use Rattle.plcr_script.specs.declared.statements.Statement.{Statement}
use Rattle.plcr_script.specs.declared.statements.Statement.TheVariants as stated
use Rattle.plcr_script.specs.declared.statements.NumberedStatement.{NumberedStatement}
use Rattle.plcr_script.specs.Meanings.{Meanings}
use Rattle.plcr_turns.specs.declared.lines.Asked.{Asked}
use Rattle.plcr_turns.specs.declared.lines.Said.{Said}
use Rattle.plcr_turns.specs.declared.lines.Said.TheVariants.{NotImage}
use Rattle.plcr_turns.specs.declared.lines.ChangeLine.{ChangeLine}
use Rattle.plcr_turns.specs.declared.lines.Request.{Request}
use Rattle.plcr_turns.specs.declared.lines.Request.TheVariants as requests
use Rattle.plcr_turns.specs.declared.view.View.{View}
use Rattle.plcr_turns.specs.Lines.{asked_by, lines_of, wanted_by}
use Rattle.plcr_turns.specs.Turns.{FaultSaid, NameSaid, line_of}
use Rattle.plcr_turns.specs.Working.{AppliesLine}
use Rattle.plcr_turns.proofs.Turned.{lines_more, line_here}
use Rattle.plcr_workers.specs.Asking.{asked_in}
use Rattle.plcr_workers.specs.Known.{FaultTold, StatementFault}
use Rattle.plcr_workers.specs.inner.Places.{Asks, fault_in}
use Rattle.plcr_workers.specs.inner.Own.{HaveOwnLines, CameTo, IsOwnLine, AreOwn, AddsOwn}

-- the fault that a request has is what its line says
fault_told : (fault : Option ℕ) (header : ℕ) (request : Request) (said : Said) → fault_in request ≡ fault → FaultSaid request said → asked_by request ≡ asked_by request → ((kind : ℕ) → fault ≡ Some kind → said ≡ NotImage kind)
fault_told fault header (requests.Load h name (Some k)) said is told same kind e = told ∙ ap NotImage (some_kind (is ∙ e))
  where
    some_kind : {a b : ℕ} → Some a ≡ Some b → a ≡ b
    some_kind e = cc
fault_told fault header (requests.Load h name None) said is told same kind e = absurd (let x = is ∙ e in cc)
fault_told fault header (requests.Unload h) said is told same kind e = absurd (let x = is ∙ e in cc)

fine_told : (request : Request) (header : ℕ) (said : Said) → fault_in request ≡ None → Some (asked_by request) ≡ asked_in (stated.Load header []) → FaultSaid request said → FaultTold None said
fine_told (requests.Load h name (Some k)) header said is same told = absurd cc
fine_told (requests.Load h name None) header said is same told = told
fine_told (requests.Unload h) header said is same told = absurd cc

told_by : (fault : Option ℕ) (request : Request) (header : ℕ) (said : Said) → fault_in request ≡ fault → Some (asked_by request) ≡ asked_in (stated.Load header []) → FaultSaid request said → FaultTold fault said
told_by None request header said is same told = fine_told request header said is same told
told_by (Some kind) request header said is same told = fault_told (Some kind) header request said is told refl kind refl

statement_fault : (process : Meanings) (statement : Statement) (request : Request) (said : Said) → Asks process.fault statement request → FaultSaid request said → StatementFault process statement said
statement_fault process (stated.Load header name) request said a told = told_by (process.fault header) request header said a.fault_is (sym a.asked) told
statement_fault process (stated.Unload header) request said a told = tt
statement_fault process (stated.BeginLoad header name) request said a told = tt
statement_fault process (stated.BeginUnload header) request said a told = tt
statement_fault process (stated.Step most) request said a told = tt
statement_fault process stated.End request said a told = tt
statement_fault process (stated.Enter pass) request said a told = tt
statement_fault process (stated.Walk pass most) request said a told = tt
statement_fault process (stated.Leave pass) request said a told = tt
statement_fault process (stated.Report pass file) request said a told = tt

pub adds_line : (process : Meanings) (script line : ℕ) (request : Request) (statement : Statement) (v w : View) (seen known : List Entry) (names : List (List ℕ)) → AppliesLine (record { script = script; line = line; request = request }) v seen w known names
    → Asks process.fault statement request → AddsOwn process script line statement (asked_in statement) v w names
adds_line process script line request statement v w seen known names a asks =
    let l = line_of script line (asked_by request) a.said in
    subst (λ (asked : Option Asked). AddsOwn process script line statement asked v w names) (sym asks.asked) (record {
      said = a.said;
      lines = ap (lines_of script) a.journal ∙ lines_more script (v.journal ++ a.others) (l ∷ [])
          ∙ (λ i. (lines_more script v.journal a.others ∙ ap (λ (m : List ChangeLine). lines_of script v.journal ++ m) a.none ∙ append-nil (lines_of script v.journal)) i ++ line_here script l refl i);
      came = record {
        fault = statement_fault process statement request a.said asks a.fault;
        long = subst (λ n. NameSaid n a.said) asks.name a.long;
        named = λ load e. let r = a.named load e in (r.0, r.1 ∙ asks.name);
      };
    })

pub adds_none : (process : Meanings) (script line : ℕ) (statement : Statement) (v : View) (names : List (List ℕ)) → asked_in statement ≡ None → AddsOwn process script line statement (asked_in statement) v v names
adds_none process script line statement v names e = subst (λ (asked : Option Asked). AddsOwn process script line statement asked v v names) (sym e) refl

came_later : (process : Meanings) (statement : Statement) (names more : List (List ℕ)) (said : Said) → WentOn names more → CameTo process statement names said → CameTo process statement more said
came_later process statement names more said went c = record {
  fault = c.fault;
  long = c.long;
  named = λ load e.
      let r = c.named load e in
      let long = ap length went.1 ∙ length-append went.0 names in
      (omega (arith, r.0, long), ap (name_of load) went.1 ∙ name-older load went.0 names r.0 ∙ r.1);
}

-- what is known stays known as the names go on
pub own_later : (process : Meanings) (statements : List NumberedStatement) (names more : List (List ℕ)) (lines : List ChangeLine) → WentOn names more → AreOwn process statements names lines → AreOwn process statements more lines
own_later process statements names more [] went own = tt
own_later process statements names more (line ∷ lines) went own =
    (record { statement = own.0.statement; stands = own.0.stands; asks = own.0.asks; came = came_later process own.0.statement names more line.said went own.0.came }, own_later process statements names more lines went own.1)

own_and : (process : Meanings) (statements : List NumberedStatement) (names : List (List ℕ)) (lines : List ChangeLine) (line : ChangeLine) → AreOwn process statements names lines → IsOwnLine process statements names line → AreOwn process statements names (lines ++ line ∷ [])
own_and process statements names [] line own one = (one, tt)
own_and process statements names (l ∷ lines) line own one = (own.0, own_and process statements names lines line own.1 one)

-- and a statement more is known
pub own_next : (process : Meanings) (statements : List NumberedStatement) (at line : ℕ) (statement : Statement) (script : ℕ) (v w : View) (names more : List (List ℕ)) → HaveOwnLines statements → slice_get statements at ≡ Some (record { line = line; statement = statement })
    → WentOn names more → AreOwn process statements names (lines_of script v.journal) → AddsOwn process script line statement (asked_in statement) v w more → AreOwn process statements more (lines_of script w.journal)
own_next process statements at line statement script v w names more apart e went own adds = of (asked_in statement) refl adds
  where
    of : (asked : Option Asked) → asked_in statement ≡ asked → AddsOwn process script line statement asked v w more → AreOwn process statements more (lines_of script w.journal)
    of None is a = subst (AreOwn process statements more) (sym a) (own_later process statements names more (lines_of script v.journal) went own)
    of (Some asked) is a = subst (AreOwn process statements more) (sym a.lines)
        (own_and process statements more (lines_of script v.journal) (line_of script line asked a.said) (own_later process statements names more (lines_of script v.journal) went own)
        (record { statement = statement; stands = apart at (record { line = line; statement = statement }) e; asks = is; came = a.came }))

-- of a script of which nothing was applied there is no line
pub nothing_own : (process : Meanings) (statements : List NumberedStatement) (names : List (List ℕ)) (lines : List ChangeLine) → wanted_by lines ≡ [] → AreOwn process statements names lines
nothing_own process statements names [] e = tt
nothing_own process statements names (line ∷ lines) e = absurd cc
