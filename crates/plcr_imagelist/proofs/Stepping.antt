-- A change between its steps.
use Rattle.std.proofs.Common.{◌≡◌, ◌≢◌, ℕ, suc, ◌+◌, ◌<◌, List, [], ◌∷◌, length, true, false, eqb, Some, refl, sym, ap, ◌∙◌, subst, arith, ne_eqb, get_or}
use Rattle.plcr_base.specs.Bytes.{IsBytes}
use Rattle.plcr_base.specs.Limits.{IsImageName}
use Rattle.plcr_machine.specs.declared.image.Image.{Image}
use Rattle.plcr_machine.specs.Lists.{live, loads, changes}
use Rattle.plcr_machine.specs.Passes.{owes_count}
use Rattle.plcr_machine.proofs.Cases.{eqb_same}
use Rattle.plcr_machine.proofs.Pace.{paced_rest}
use Rattle.plcr_machine.specs.declared.limits.TheConstants.{MOST_CHANGES}
use Rattle.plcr_nodes.specs.Names.{words_of, store}
use Rattle.plcr_nodes.specs.Owning.{IsLinked, IsUnlinked}
use Rattle.plcr_nodes.proofs.Spelling.{no_bytes}
use Rattle.plcr_imagelist.specs.declared.change.Task.{Task}
use Rattle.plcr_imagelist.specs.declared.change.Task.TheVariants.{Load, Unload}
use Rattle.plcr_imagelist.specs.inner.Keeping.{BooksState, writer_state}
use Rattle.plcr_imagelist.specs.Finding.{first_with}
use Rattle.plcr_imagelist.specs.States.{WriterState, Loads, change_step, ChangeState, IsAtRest}
use Rattle.plcr_imagelist.specs.Changes.{IsBegunLoad, begun_load, FindsNode}
use Rattle.plcr_imagelist.specs.inner.Making.{FindsRoom, OnlyStores, IsMaking, MakesStep, AreStored, stores_after, doing_of}
use Rattle.plcr_imagelist.specs.Steps.{word_stored, value_stored}
use Rattle.plcr_imagelist.proofs.Resting.{loaded_at, unloaded_at, due_linked, due_unlinked}
use Rattle.plcr_imagelist.proofs.Storing.{stored_more, stored_after, after_elsewhere, IsWhole, whole}

-- before the change itself, none is to be counted, and there is room for one more
pub making_rest : (b : BooksState) (task : Task) (name : List ℕ) (load made : ℕ) → IsMaking b task name load made → made < change_step (doing_of task name) → (owes_count b.owner.history ≡ false) × (changes b.owner.history < MOST_CHANGES)
making_rest b task name load made m early =
    let due : owes_count b.owner.history ≡ false = m.owes ∙ ne_eqb made (change_step (doing_of task name)) (λ e. omega arith) in
    let same = paced_rest b.owner.history m.paced due in
    let few = m.fewer in
    (due, omega arith)

-- once the change itself was made, it is to be counted
pub making_due : (b : BooksState) (task : Task) (name : List ℕ) (load made : ℕ) → IsMaking b task name load made → made ≡ change_step (doing_of task name) → owes_count b.owner.history ≡ true
making_due b task name load made m e = m.owes ∙ ap (λ n. eqb n (change_step (doing_of task name))) e ∙ eqb_same (change_step (doing_of task name))

-- a word was stored
pub making_stored : (b b' : BooksState) (header : ℕ) (name : List ℕ) (load made : ℕ) → IsMaking b (Load header) name load made → made < 3 + words_of (length name)
    → b' ≡ record b { owner = record b.owner { filled = store b.spare (word_stored name made) (value_stored header name made) ∷ b.owner.filled } }
    → MakesStep b b' (Load header) name load made
making_stored b b' header name load made m early e =
    let w : ℕ = words_of (length name) in
    subst (λ (s : BooksState). MakesStep b s (Load header) name load made) (sym e)
    (record {
      making = record {
        known = m.known;
        paced = m.paced;
        first = m.first;
        short = m.short;
        bytes = m.bytes;
        most = omega arith;
        fewer = m.fewer;
        owes = (making_rest b (Load header) name load made m (omega arith)).0 ∙ sym (ne_eqb (made + 1) (4 + w) (λ q. omega arith));
        ready = λ _. let r = m.ready (omega arith) in (r.0, r.1, stored_more b.spare header name made b.owner.filled early r.2);
      };
      before = λ _. (refl, refl);
      change = λ q. absurd (omega arith);
    })

-- and all of them
pub making_filled : (b b' : BooksState) (header : ℕ) (name : List ℕ) (load made : ℕ) → IsMaking b (Load header) name load 0 → made ≡ 3 + words_of (length name)
    → b' ≡ record b { owner = record b.owner { filled = stores_after b.spare header name (3 + words_of (length name)) b.owner.filled } } → IsMaking b' (Load header) name load made
making_filled b b' header name load made m is e =
    let w : ℕ = words_of (length name) in
    let now : b' ≡ record b { owner = record b.owner { filled = stores_after b.spare header name made b.owner.filled } } =
    e ∙ ap (λ n. record b { owner = record b.owner { filled = stores_after b.spare header name n b.owner.filled } }) (sym is) in
    subst (λ (s : BooksState). IsMaking s (Load header) name load made) (sym now)
    (record {
      known = m.known;
      paced = m.paced;
      first = m.first;
      short = m.short;
      bytes = m.bytes;
      most = omega arith;
      fewer = m.fewer;
      owes = (making_rest b (Load header) name load 0 m (omega arith)).0 ∙ sym (ne_eqb made (4 + w) (λ q. omega arith));
      ready = λ _. let r = m.ready (omega arith) in (r.0, r.1, stored_after b.spare header name made b.owner.filled (omega arith));
    })

pub filled_only : (b b' : BooksState) (header : ℕ) (name : List ℕ) (made : ℕ) → b' ≡ record b { owner = record b.owner { filled = stores_after b.spare header name made b.owner.filled } }
    → OnlyStores (Loads header name) b.spare (writer_state b.owner) (writer_state b'.owner)
filled_only b b' header name made e =
    subst (λ (s : BooksState). OnlyStores (Loads header name) b.spare (writer_state b.owner) (writer_state s.owner)) (sym e) (refl, after_elsewhere b.spare header name made b.owner.filled)

-- the words of the whole image are stored
pub making_whole : (b : BooksState) (header : ℕ) (name : List ℕ) (load made : ℕ) → IsMaking b (Load header) name load made → made ≡ 3 + words_of (length name) → IsWhole b.spare header name b.owner.filled
making_whole b header name load made m e =
    let r = m.ready (omega arith) in
    whole b.spare header name b.owner.filled m.bytes m.short (subst (λ k. AreStored b.spare header name k b.owner.filled) e r.2)

-- the node was linked
pub making_linked : (b b' : BooksState) (header : ℕ) (name : List ℕ) (load made : ℕ) → IsMaking b (Load header) name load made → made ≡ 3 + words_of (length name)
    → IsLinked b.owner b.spare b'.owner → MakesStep b b' (Load header) name load made
making_linked b b' header name load made m e k =
    let w : ℕ = words_of (length name) in
    let full = making_whole b header name load made m e in
    let due = due_linked b.owner b.spare b'.owner k m.paced m.first (making_rest b (Load header) name load made m (omega arith)).0 m.fewer in
    let last : made + 1 ≡ 4 + w = omega arith in
    record {
      making = record {
        known = k.legal;
        paced = due.paced;
        first = due.first;
        short = m.short;
        bytes = m.bytes;
        most = omega arith;
        fewer = due.fewer;
        owes = due.owes ∙ sym (ap (λ n. eqb n (4 + w)) last ∙ eqb_same (4 + w));
        ready = λ early. absurd (omega arith);
      };
      before = λ other. absurd (other (omega arith));
      change = λ _. loaded_at b.owner b.spare header load name b'.owner k (m.ready (omega arith)).1 full.header_is full.name_is;
    }

-- the image was unlinked
pub making_unlinked : (b b' : BooksState) (at : ℕ) (image : Image) (name : List ℕ) (load made : ℕ) → IsMaking b (Unload at image) name load made → made < 1
    → IsUnlinked b.owner image.node b'.owner → MakesStep b b' (Unload at image) name load made
making_unlinked b b' at image name load made m early k =
    let due = due_unlinked b.owner image b'.owner k m.paced m.first (making_rest b (Unload at image) name load made m early).0 m.fewer (m.ready early).2 in
    let last : made + 1 ≡ 1 = omega arith in
    record {
      making = record {
        known = k.legal;
        paced = due.paced;
        first = due.first;
        short = m.short;
        bytes = m.bytes;
        most = omega arith;
        fewer = due.fewer;
        owes = due.owes ∙ sym (ap (λ n. eqb n 1) last);
        ready = λ early'. absurd (omega arith);
      };
      before = λ other. absurd (other (omega arith));
      change = λ _. unloaded_at b.owner image b'.owner k (m.ready (omega arith)).2;
    }

-- a change that was just begun
pub making_begun_load : (b : BooksState) (header : ℕ) (name : List ℕ) (load : ℕ) → IsAtRest (writer_state b.owner) → changes b.owner.history < MOST_CHANGES → b.spare ≢ 0 → IsImageName name
    → IsBytes name → load ≡ suc (loads b.owner.history) → IsMaking b (Load header) name load 0
making_begun_load b header name load r few some short bytes number =
    let same = paced_rest b.owner.history r.paced r.counted in
    let w : ℕ = words_of (length name) in
    record {
      known = r.known;
      paced = r.paced;
      first = r.first;
      short = short;
      bytes = bytes;
      most = omega arith;
      fewer = omega arith;
      owes = r.counted ∙ sym (ne_eqb 0 (4 + w) (λ e. omega (arith, e)));
      ready = λ _. (some, number, λ k below. absurd (omega arith));
    }

pub making_begun_unload : (b : BooksState) (at : ℕ) (image : Image) (load : ℕ) → IsAtRest (writer_state b.owner) → changes b.owner.history < MOST_CHANGES
    → at < length (live b.owner.history) → image ≡ get_or (live b.owner.history) at image → first_with image.header (live b.owner.history) ≡ Some image → IsMaking b (Unload at image) [] load 0
making_begun_unload b at image load r few below is first =
    let same = paced_rest b.owner.history r.paced r.counted in
    record {
      known = r.known;
      paced = r.paced;
      first = r.first;
      short = omega arith;
      bytes = no_bytes;
      most = omega arith;
      fewer = omega arith;
      owes = r.counted;
      ready = λ _. (below, is, first);
    }

pub begun : (old : WriterState) (b b' : BooksState) (header : ℕ) (name : List ℕ) (change : ChangeState) → writer_state b.owner ≡ old → FindsRoom b b' → change ≡ begun_load (writer_state b'.owner) header name b'.spare
    → IsBegunLoad old header name change
begun old b b' header name change view r e =
    subst (λ (c : ChangeState). IsBegunLoad old header name c) (sym e)
    (record { finds = subst (λ (s : WriterState). FindsNode s b'.spare (writer_state b'.owner)) view r.finds; begun = refl })
