-- Whole loads and unloads.
use Rattle.std.proofs.Common.{◌≡◌, ℕ, suc, ◌+◌, List, [], ◌∷◌, ◌++◌, length, Option, Some, None, Ok, Err, refl, sym, ap, ◌∙◌, subst, arith}
use Rattle.plcr_machine.specs.declared.image.Image.{Image}
use Rattle.plcr_machine.specs.declared.entry.Entry.{Entry}
use Rattle.plcr_machine.specs.declared.entry.Entry.TheVariants.{Load, Unload, Count}
use Rattle.plcr_machine.specs.Lists.{Grows, live, loads, without, name_of}
use Rattle.plcr_machine.proofs.OnNodes.{IsApart}
use Rattle.plcr_machine.proofs.Freedom.{live_apart}
use Rattle.plcr_nodes.proofs.Known.{live_same, loads_same}
use Rattle.plcr_nodes.proofs.Pacing.{changes_same}
use Rattle.plcr_nodes.proofs.NamesKept.{name-new, name-older}
use Rattle.plcr_nodes.proofs.Seeing.{grows_again}
use Rattle.plcr_imagelist.specs.Finding.{first_with, without_first}
use Rattle.plcr_imagelist.specs.declared.refusals.UnloadRefused.{UnloadRefused}
use Rattle.plcr_imagelist.specs.States.{WriterState, Doing, Loads, Unloads, ChangeState}
use Rattle.plcr_imagelist.specs.Changes.{Looks, IsCountedAt, IsLoadedAt, IsUnloadedAt, IsChangedAt, FindsNode, AtOnce, AfterLooks, IsBegunLoad, begun_load}
use Rattle.plcr_imagelist.specs.Steps.{begun_unload, BeginsUnload}
use Rattle.plcr_imagelist.specs.Loading.{HasMade, IsLoaded, IsUnloaded, UnloadsOrRefuses}
use Rattle.plcr_imagelist.specs.inner.Making.{IsFinished}
use Rattle.plcr_imagelist.proofs.Placed.{first_cut}
use Rattle.plcr_imagelist.proofs.Looking.{looks_only, looks_grow, went_again}

one_more : (e : Entry) (past : List Entry) → Grows past (e ∷ past)
one_more e past = (e ∷ [], refl)

pub made_again : (a b c : WriterState) (m n : ℕ) → HasMade a m b → HasMade b n c → HasMade a (n + m) c
made_again a b c m n g h =
    let first = g.more in let then = h.more in
    record { grows = grows_again a.history b.history c.history g.grows h.grows; names = went_again a.names b.names c.names g.names h.names; more = omega arith }

pub none_made : (s : WriterState) → HasMade s 0 s
none_made s = record { grows = ([], refl); names = ([], refl); more = omega arith }

pub looks_made : (pass : ℕ) (old : WriterState) (found : ℕ) (new : WriterState) → Looks pass old found new → HasMade old 0 new
looks_made pass old found new l = let on = looks_grow pass old found new l in record { grows = on.0; names = on.1; more = omega (arith, (looks_only pass old found new l).changed) }

counted_made : (old new : WriterState) → IsCountedAt old new → HasMade old 0 new
counted_made old new k =
    subst (λ (s : WriterState). HasMade old 0 s) (sym k.now)
    (record { grows = grows_again old.history k.past (Count ∷ k.past) k.sees.added.grows (one_more Count k.past); names = k.sees.named; more = omega (arith, changes_same k.past old.history (k.sees.added.owner refl)) })

loaded_made : (old : WriterState) (header : ℕ) (name : List ℕ) (load node : ℕ) (new : WriterState) → IsLoadedAt old header name load node new → HasMade old 1 new
loaded_made old header name load node new k =
    subst (λ (s : WriterState). HasMade old 1 s) (sym k.now)
    (record { grows = grows_again old.history k.past (Load node load header ∷ k.past) k.sees.added.grows (one_more (Load node load header) k.past); names = went_again old.names k.names (name ∷ k.names) k.sees.named (name ∷ [], refl); more = omega (arith, changes_same k.past old.history (k.sees.added.owner refl)) })

unloaded_made : (old : WriterState) (image : Image) (new : WriterState) → IsUnloadedAt old image new → HasMade old 1 new
unloaded_made old image new k =
    subst (λ (s : WriterState). HasMade old 1 s) (sym k.now)
    (record { grows = grows_again old.history k.past (Unload image.node ∷ k.past) k.sees.added.grows (one_more (Unload image.node) k.past); names = k.sees.named; more = omega (arith, changes_same k.past old.history (k.sees.added.owner refl)) })

changed_made : (old : WriterState) (doing : Doing) (load node : ℕ) (new : WriterState) → IsChangedAt old doing load node new → HasMade old 1 new
changed_made old (Loads header name) load node new k = loaded_made old header name load node new k
changed_made old (Unloads image) load node new k = unloaded_made old image new k

pub finished_made : (start : ChangeState) (new : WriterState) → IsFinished start new → HasMade start.writer 1 new
finished_made start new f = made_again start.writer f.changed new 1 0 (changed_made start.writer start.doing start.load start.node f.changed f.change) (counted_made f.changed new f.count)

-- the writer was ready for a load
found_made : (old : WriterState) (node : ℕ) (ready : WriterState) → FindsNode old node ready → HasMade old 0 ready
found_made old node ready (AtOnce free e) = subst (λ (s : WriterState). HasMade old 0 s) (sym e) (none_made old)
found_made old node ready (AfterLooks none found looks free) = looks_made old.passes old found ready looks

found_list : (old : WriterState) (node : ℕ) (ready : WriterState) → FindsNode old node ready → (live ready.history ≡ live old.history) × (loads ready.history ≡ loads old.history)
found_list old node ready (AtOnce free e) = (ap (λ (s : WriterState). live s.history) e, ap (λ (s : WriterState). loads s.history) e)
found_list old node ready (AfterLooks none found looks free) = let only = looks_only old.passes old found ready looks in (only.list, only.loaded)

pub begun_made : (old : WriterState) (header : ℕ) (name : List ℕ) (change : ChangeState) → IsBegunLoad old header name change → HasMade old 0 change.writer
begun_made old header name change b = found_made old change.node change.writer b.finds

counted_list : (old new : WriterState) → IsCountedAt old new → live new.history ≡ live old.history
counted_list old new k = ap (λ (s : WriterState). live s.history) k.now ∙ live_same k.past old.history (k.sees.added.owner refl)

-- the name of the load stays the one that it began with
name_counted : (old : WriterState) (header : ℕ) (name : List ℕ) (load node : ℕ) (mid new : WriterState) → IsLoadedAt old header name load node mid → IsCountedAt mid new → name_of load new.names ≡ name
name_counted old header name load node mid new k c =
    let named = k.sees.legal.named in
    let number : load ≡ suc (length k.names) = k.number ∙ ap suc (sym named) in
    let there : mid.names ≡ name ∷ k.names = ap (λ (s : WriterState). s.names) k.now in
    let grew : new.names ≡ c.sees.named.0 ++ (name ∷ k.names) = ap (λ (s : WriterState). s.names) c.now ∙ c.sees.named.1 ∙ ap (λ (l : List (List ℕ)). c.sees.named.0 ++ l) there in
    ap (name_of load) grew ∙ name-older load c.sees.named.0 (name ∷ k.names) (omega arith) ∙ name-new load name k.names number

pub loaded_whole : (old ready : WriterState) (header : ℕ) (name : List ℕ) (number node : ℕ) (mid new : WriterState) → FindsNode old node ready → IsLoadedAt ready header name number node mid → IsCountedAt mid new → IsLoaded old header name number new
loaded_whole old ready header name number node mid new finds k c =
    let own = k.sees.added.owner refl in
    let lists = found_list old node ready finds in
    record {
      node = node;
      ready = ready;
      finds = finds;
      linked = mid;
      link = k;
      count = c;
      number_is = k.number ∙ ap suc (loads_same k.past ready.history own ∙ lists.1);
      list = counted_list mid new c ∙ ap (λ (s : WriterState). live s.history) k.now
          ∙ ap (λ (xs : List Image). xs ++ record { node = node; load = number; header = header } ∷ []) (live_same k.past ready.history own ∙ lists.0);
      named = name_counted ready header name number node mid new k c;
    }

pub unloaded_whole : (old : WriterState) (image : Image) (mid new : WriterState) → IsUnloadedAt old image mid → IsCountedAt mid new → IsUnloaded old image new
unloaded_whole old image mid new k c =
    let own = k.sees.added.owner refl in
    record {
      unlinked = mid;
      unlink = k;
      count = c;
      list = counted_list mid new c ∙ ap (λ (s : WriterState). live s.history) k.now ∙ ap (without image.node) (live_same k.past old.history own);
    }

-- a load that was begun and made whole
pub finished_load : (old : WriterState) (header : ℕ) (name : List ℕ) (change : ChangeState) (new : WriterState) → IsBegunLoad old header name change → IsFinished change new → IsLoaded old header name change.load new
finished_load old header name change new b f =
    let f' : IsFinished (begun_load change.writer header name change.node) new = subst (λ (c : ChangeState). IsFinished c new) b.begun f in
    subst (λ n. IsLoaded old header name n new) (sym (ap (λ (c : ChangeState). c.load) b.begun))
    (loaded_whole old change.writer header name (suc (loads change.writer.history)) change.node f'.changed new b.finds f'.change f'.count)

pub finished_unload : (old : WriterState) (image : Image) (change : ChangeState) (new : WriterState) → change ≡ begun_unload old image change.node → IsFinished change new → (change.load ≡ image.load) × IsUnloaded old image new
finished_unload old image change new e f =
    subst (λ (c : ChangeState). IsFinished c new → (c.load ≡ image.load) × IsUnloaded old image new) (sym e) (λ g. (refl, unloaded_whole old image g.changed new g.change g.count)) f

-- whichever image there is
pub unloads : (old : WriterState) (header : ℕ) (found : Option Image) (change : ChangeState) (load : ℕ) (new : WriterState) → BeginsUnload old header found (Ok change) → IsFinished change new → load ≡ change.load → UnloadsOrRefuses old found new (Ok load)
unloads old header None change load new e f n = absurd e
unloads old header (Some image) change load new e f n = let all = finished_unload old image change new e.1 f in (n ∙ all.0, all.1)

pub unload_refused : (old : WriterState) (header : ℕ) (found : Option Image) (r : WriterState × UnloadRefused) → BeginsUnload old header found (Err r) → UnloadsOrRefuses old found r.0 (Err r.1)
unload_refused old header None r e = (ap (λ (q : WriterState × UnloadRefused). q.1) e, ap (λ (q : WriterState × UnloadRefused). q.0) e)
unload_refused old header (Some image) r e = absurd e

-- the image taken out is the first with the header
pub unloads_first : (old : WriterState) (header : ℕ) (found : Option Image) (load : ℕ) (new : WriterState) → first_with header (live old.history) ≡ found
    → UnloadsOrRefuses old found new (Ok load) → live new.history ≡ without_first header (live old.history)
unloads_first old header None load new is u = absurd u
unloads_first old header (Some image) load new is u =
    let k = u.1.unlink in
    let lists = live_same k.past old.history (k.sees.added.owner refl) in
    let apart = subst (λ (xs : List Image). IsApart xs) lists (live_apart old.nodes old.passes k.past k.sees.legal.legal) in
    u.1.list ∙ first_cut header (live old.history) image apart is
