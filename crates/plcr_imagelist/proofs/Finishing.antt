-- A change that is made step by step.
use Rattle.std.proofs.Common.{◌≡◌, ⊎_elim, ℕ, suc, ◌<◌, List, ◌∷◌, refl, sym, ap, ◌∙◌, subst, arith}
use Rattle.std.proofs.lemmas.Bool.{cases_eq}
use Rattle.plcr_machine.specs.declared.entry.Entry.TheVariants.{Load}
use Rattle.plcr_machine.proofs.Cases.{eqb_same}
use Rattle.plcr_nodes.specs.declared.view.Store.{Store}
use Rattle.plcr_nodes.specs.Names.{stored_elsewhere, store}
use Rattle.plcr_imagelist.specs.States.{WriterState, Doing, Loads, Unloads, change_step, steps_of, ChangeState, IsAtRest}
use Rattle.plcr_imagelist.specs.Steps.{MakesStore, word_stored, value_stored, Advances}
use Rattle.plcr_imagelist.specs.inner.Making.{OnlyStores, HasCome, IsFinished}
use Rattle.plcr_imagelist.specs.Changes.{IsChangedAt, IsCountedAt, IsLoadedAt, IsUnloadedAt}

some_steps : (doing : Doing) → 0 < change_step doing
some_steps (Loads header name) = omega arith
some_steps (Unloads image) = omega arith

-- one store more in the node of a load
stores_none : (doing : Doing) (node : ℕ) (start : WriterState) → OnlyStores doing node start start
stores_none (Loads header name) node start = (refl, refl)
stores_none (Unloads image) node start = refl

stores_more : (doing : Doing) (made node : ℕ) (start old new : WriterState) → OnlyStores doing node start old → MakesStore doing made node old new → OnlyStores doing node start new
stores_more (Loads header name) made node start old new o m =
    let more : List Store = store node (word_stored name made) (value_stored header name made) ∷ old.stores in
    subst (λ (s : WriterState). OnlyStores (Loads header name) node start s) (sym m)
    (ap (λ (s : WriterState). record s { stores = more }) o.0, rw (eqb_same node) o.1)
stores_more (Unloads image) made node start old new o m = absurd m

stores_table : (doing : Doing) (node : ℕ) (start now : WriterState) → OnlyStores doing node start now → now.table ≡ start.table
stores_table (Loads header name) node start now o = ap (λ (s : WriterState). s.table) o.0
stores_table (Unloads image) node start now o = ap (λ (s : WriterState). s.table) o

-- a load drops what it had stored in its node, so the change is one of the writer that began it
loaded_from : (start : WriterState) (ss : List Store) (header : ℕ) (name : List ℕ) (load node : ℕ) (new : WriterState) → stored_elsewhere node ss ≡ stored_elsewhere node start.stores
    → IsLoadedAt (record start { stores = ss }) header name load node new → IsLoadedAt start header name load node new
loaded_from start ss header name load node new e k = record {
  past = k.past;
  names = k.names;
  sees = k.sees;
  free = k.free;
  number = k.number;
  now = k.now ∙ ap (λ (ts : List Store). record start { history = Load node load header ∷ k.past; names = name ∷ k.names; stores = ts }) e;
  legal = k.legal;
}

changed_from : (doing : Doing) (load node : ℕ) (start old new : WriterState) → OnlyStores doing node start old → IsChangedAt old doing load node new → IsChangedAt start doing load node new
changed_from (Loads header name) load node start old new o k =
    loaded_from start old.stores header name load node new o.1 (subst (λ (s : WriterState). IsLoadedAt s header name load node new) o.0 k)
changed_from (Unloads image) load node start old new o k = subst (λ (s : WriterState). IsUnloadedAt s image new) o k

pub come_start : (start : ChangeState) → start.made ≡ 0 → HasCome start start
come_start start none =
    let some = some_steps start.doing in
    record { table = refl; doing = refl; load = refl; most = omega arith; before = λ _. (refl, stores_none start.doing start.node start.writer); after = λ e. absurd (omega arith) }

-- all steps before the change itself
pub come_stored : (start now : ChangeState) → now.doing ≡ start.doing → now.load ≡ start.load → now.node ≡ start.node → suc now.made ≡ change_step start.doing → OnlyStores start.doing start.node start.writer now.writer → HasCome start now
come_stored start now doing load node last only = record {
  table = stores_table start.doing start.node start.writer now.writer only;
  doing = doing;
  load = load;
  most = omega arith;
  before = λ _. (node, only);
  after = λ e. absurd (omega arith);
}

-- the change itself stays on its table
same_table : (old : WriterState) (doing : Doing) (load node : ℕ) (new : WriterState) → IsChangedAt old doing load node new → new.table ≡ old.table
same_table old (Loads header name) load node new k = ap (λ (s : WriterState). s.table) k.now
same_table old (Unloads image) load node new k = ap (λ (s : WriterState). s.table) k.now

pub come_more : (start old new : ChangeState) → HasCome start old → suc old.made < steps_of old.doing → Advances old new → HasCome start new
come_more start old new h early a =
    let last : ℕ = change_step start.doing in
    let same : change_step old.doing ≡ last = ap change_step h.doing in
    let next = a.made in
    let before : (old.node ≡ start.node) × OnlyStores start.doing start.node start.writer old.writer = h.before (omega arith) in
    let doing : new.doing ≡ start.doing = a.doing ∙ h.doing in
    let load : new.load ≡ start.load = a.load ∙ h.load in
    ⊎_elim
    (λ (e : new.made ≡ last).
    let k = a.change (e ∙ sym same) in
    let k' : IsChangedAt start.writer start.doing start.load start.node new.writer =
    changed_from start.doing start.load start.node start.writer old.writer new.writer before.1
    (subst (λ (n : ℕ). IsChangedAt old.writer start.doing start.load n new.writer) before.0
    (subst (λ (l : ℕ). IsChangedAt old.writer start.doing l old.node new.writer) h.load (subst (λ (d : Doing). IsChangedAt old.writer d old.load old.node new.writer) h.doing k))) in
    record { table = same_table start.writer start.doing start.load start.node new.writer k'; doing = doing; load = load; most = omega (arith, e); before = λ b. absurd (omega (arith, e)); after = λ _. k' })
    (λ (n : new.made ≡ last → ⊥).
    let step = a.before (λ e. n (e ∙ same)) in
    let stored : MakesStore start.doing old.made start.node old.writer new.writer =
    subst (λ (m : ℕ). MakesStore start.doing old.made m old.writer new.writer) before.0 (subst (λ (d : Doing). MakesStore d old.made old.node old.writer new.writer) h.doing step.1) in
    let kept = stores_more start.doing old.made start.node start.writer old.writer new.writer before.1 stored in
    record { table = stores_table start.doing start.node start.writer new.writer kept; doing = doing; load = load; most = omega arith; before = λ _. (step.0 ∙ before.0, kept); after = λ e. absurd (n e) })
    (cases_eq new.made last)

pub come_end : (start old : ChangeState) (writer : WriterState) → HasCome start old → suc old.made ≡ steps_of old.doing → IsCountedAt old.writer writer → IsAtRest writer → IsFinished start writer
come_end start old writer h last count rest =
    let same : change_step old.doing ≡ change_step start.doing = ap change_step h.doing in
    record { changed = old.writer; change = h.after (omega arith); count = count; rest = rest }
