-- What a worker knows after one line of its script.
use Rattle.std.proofs.Common.{◌≡◌, ◌≢◌, ℕ, suc, ◌+◌, ◌<◌, ◌≤◌, true, false, List, [], ◌∷◌, ◌++◌, length, slice_get, Option, Some, None, refl, sym, ap, ◌∙◌, subst, length-append, append-nil, arith}
use Rattle.std.proofs.lemmas.List.{map-append}
use mathlib.Core.List.{IsPrefix}
use Rattle.atomic_table.specs.Seated.{TableId}
use Rattle.plcr_machine.specs.declared.entry.Entry.{Entry}
use Rattle.plcr_machine.specs.Lists.{Grows, changes, loads, name_of}
use Rattle.plcr_machine.proofs.Cases.{eqb_same, not_both}
use Rattle.plcr_machine.proofs.Growing.{changes-grows, loads-grows}
use Rattle.plcr_nodes.specs.Entries.{WentOn}
use Rattle.plcr_nodes.specs.Tokens.{NoteState}
use Rattle.plcr_nodes.proofs.NamesKept.{name-older}
use Rattle.plcr_nodes.proofs.Seeing.{grows_again}
use Rattle.plcr_imagelist.specs.States.{WriterState}
use Rattle.plcr_imagelist.specs.Holds.{WalkerState}
use Rattle.plcr_imagelist.specs.Carrying.{OnlySees}
use Rattle.plcr_imagelist.specs.Loading.{IsLoaded}
use Rattle.plcr_imagelist.specs.Tellings.{note_of_writer, note_of_walker, IsWriterTold, IsWalkerTold}
use Rattle.plcr_turns.specs.declared.lines.Asked.{Asked}
use Rattle.plcr_turns.specs.declared.lines.Asked.TheVariants as asked
use Rattle.plcr_turns.specs.declared.lines.Said.{Said}
use Rattle.plcr_turns.specs.declared.lines.Said.TheVariants.{NotImage, Worn, Long, Full, NotLoaded, Loaded, Unloaded}
use Rattle.plcr_turns.specs.declared.lines.ChangeLine.{ChangeLine}
use Rattle.plcr_turns.specs.declared.lines.Request.{Request}
use Rattle.plcr_turns.specs.declared.turn.Part.{Part}
use Rattle.plcr_turns.specs.declared.view.View.{View}
use Rattle.plcr_turns.specs.declared.worker.ScriptLine.{ScriptLine}
use Rattle.plcr_turns.specs.declared.view.Share.{Share}
use Rattle.plcr_turns.specs.declared.view.Face.{Face}
use Rattle.plcr_turns.specs.declared.view.Role.TheVariants.{Worker}
use Rattle.plcr_turns.specs.Lines.{asked_by, accepted, lines_of, wanted_by}
use Rattle.plcr_turns.specs.Turns.{TurnState, Says, IsTurn, IsTold, HasApplied, NameSaid, line_of, name_in, one_more}
use Rattle.plcr_turns.specs.Views.{face_of, has_share, Agrees, part_or, renewed, is_unspent, taken_view, given_view, IsTaken, MayGive}
use Rattle.plcr_turns.specs.Working.{IsWorking, AppliesLine}
use Rattle.plcr_turns.proofs.Shares.{has_first}
use Rattle.plcr_turns.proofs.Turned.{one_more_here, one_more_else, one_more_length, lines_more, line_here, SameSizes, same_again, same_sizes}

-- the number of a load is one of those that there are
loaded_among : (old : WriterState) (header : ℕ) (name : List ℕ) (number : ℕ) (new : WriterState) → IsLoaded old header name number new → number ≤ loads new.history
loaded_among old header name number new l =
    let now : loads l.linked.history ≡ suc (loads l.link.past) = ap (λ (s : WriterState). loads s.history) l.link.now in
    let more : loads l.linked.history ≤ loads l.count.past = loads-grows l.linked.history l.count.past l.count.sees.added.grows in
    let end : loads new.history ≡ loads l.count.past = ap (λ (s : WriterState). loads s.history) l.count.now in
    let number_is = l.link.number in
    omega arith

-- a load that was made has its name
named_load : (a : Asked) (name : List ℕ) (old new : WriterState) (load : ℕ) → Says a name old (Loaded load) new → length new.names ≡ loads new.history → (load ≤ length new.names) × (name_of load new.names ≡ name)
named_load (asked.Load header) name old new load s many = let among = loaded_among old header name load new s.2 in (omega arith, s.2.named)
named_load (asked.Unload header) name old new load s many = absurd s

pub named_then : (a : Asked) (name : List ℕ) (old : WriterState) (said : Said) (new : WriterState) (load : ℕ) → Says a name old said new → said ≡ Loaded load → length new.names ≡ loads new.history
    → (load ≤ length new.names) × (name_of load new.names ≡ name)
named_then a name old said new load s e many = named_load a name old new load (subst (λ x. Says a name old x new) e s) many

pub empty_if : {A : Type 0} (l : List A) → length l ≡ 0 → l ≡ []
empty_if [] e = refl
empty_if (x ∷ l) e = absurd (omega arith)

-- what an answer says of the name
name_said : (a : Asked) (name : List ℕ) (old : WriterState) (said : Said) (new : WriterState) → Says a name old said new → NameSaid name said
name_said (asked.Load header) name old (NotImage kind) new s = tt
name_said (asked.Load header) name old (Worn number) new s = tt
name_said (asked.Load header) name old (Long len) new s = (s.1, s.2)
name_said (asked.Load header) name old (Full lives held seen) new s = s.1
name_said (asked.Load header) name old NotLoaded new s = tt
name_said (asked.Load header) name old (Loaded load) new s = s.1
name_said (asked.Load header) name old (Unloaded load) new s = tt
name_said (asked.Unload header) name old (NotImage kind) new s = tt
name_said (asked.Unload header) name old (Worn number) new s = tt
name_said (asked.Unload header) name old (Long len) new s = absurd s
name_said (asked.Unload header) name old (Full lives held seen) new s = absurd s
name_said (asked.Unload header) name old NotLoaded new s = tt
name_said (asked.Unload header) name old (Loaded load) new s = absurd s
name_said (asked.Unload header) name old (Unloaded load) new s = tt

-- ---- one line, from the turn that was taken to the one that is given back

module _ (script line : ℕ) (request : Request) (list : TableId) (v : View) (x told x' : TurnState) (note : NoteState)
    (working : IsWorking script list v) (taken : IsTaken v x) (turn : IsTurn x) (tells : IsTold x note told) (turn_told : IsTurn told) (applies : HasApplied told script line request x') (turn' : IsTurn x') where
  -- the share of the worker, and its part in the turn
  pub part_there : slice_get x.parts script ≡ Some working.part
  part_there = (subst (λ (l : List Share). Agrees x.parts l) working.shares taken.progress).0

  told_journal : told.journal ≡ x.journal
  told_journal = ap (λ (t : TurnState). t.journal) tells.same

  told_parts : told.parts ≡ x.parts
  told_parts = ap (λ (t : TurnState). t.parts) tells.same

  table_same : x'.writer.table ≡ x.writer.table
  table_same = applies.answered.come.table ∙ ap (λ (s : WriterState). s.table) tells.writer.now

  sizes_same : SameSizes x.writer x'.writer
  sizes_same =
      let told_same : SameSizes x.writer told.writer = (ap (λ (s : WriterState). s.nodes) tells.writer.now, ap (λ (s : WriterState). s.passes) tells.writer.now) in
      same_again x.writer told.writer x'.writer told_same (same_sizes (asked_by request) (name_in request) told.writer applies.said x'.writer applies.answered.come.does.says)

  journal_is : x'.journal ≡ x.journal ++ line_of script line (asked_by request) applies.said ∷ []
  journal_is = applies.journal ∙ ap (λ (l : List ChangeLine). l ++ line_of script line (asked_by request) applies.said ∷ []) told_journal

  parts_are : x'.parts ≡ one_more script x.parts
  parts_are = applies.parts ∙ ap (one_more script) told_parts

  pub may_give : MayGive (taken_view v x) x'
  may_give = record {
    unspent = ap is_unspent working.role;
    list = taken.list ∙ ap Some (sym table_same);
    sizes = (taken.sizes.0 ∙ sym sizes_same.0, taken.sizes.1 ∙ sym sizes_same.1);
    face = face_of x;
    has = refl;
    journal = (line_of script line (asked_by request) applies.said ∷ [], sym journal_is);
    count = ap length parts_are ∙ one_more_length script x.parts;
    others = λ s no. ap (λ (ps : List Part). slice_get ps s) parts_are
        ∙ one_more_else script s x.parts (λ e. not_both _ (subst (λ (l : List Share). has_share s l ≡ true) (sym working.shares)
        (subst (λ k. has_share k (record { script = script; part = working.part } ∷ []) ≡ true) (sym e) (has_first (record { script = script; part = working.part }) []))) no);
  }

  -- the lines that came between are of others
  others_none : lines_of script taken.seen.0 ≡ []
  others_none =
      let all : length (lines_of script x.journal) ≡ working.part.applied = (turn.progress script working.part part_there).lines in
      let cut : length (lines_of script x.journal) ≡ length (lines_of script v.journal) + length (lines_of script taken.seen.0) =
      ap (λ l. length (lines_of script l)) (sym taken.seen.1) ∙ ap length (lines_more script v.journal taken.seen.0) ∙ length-append (lines_of script v.journal) (lines_of script taken.seen.0) in
      let mine = working.lines in
      empty_if (lines_of script taken.seen.0) (omega arith)

  shares_after : renewed x'.parts v.shares ≡ record { script = script; part = record working.part { applied = suc working.part.applied } } ∷ []
  shares_after =
      ap (λ (l : List Share). renewed x'.parts l) working.shares
      ∙ ap (λ (o : Option Part). record { script = script; part = part_or o working.part } ∷ []) (ap (λ (ps : List Part). slice_get ps script) parts_are ∙ one_more_here script x.parts working.part part_there)

  journal_after : x'.journal ≡ v.journal ++ taken.seen.0 ++ line_of script line (asked_by request) applies.said ∷ []
  journal_after = journal_is ∙ ap (λ (l : List ChangeLine). l ++ line_of script line (asked_by request) applies.said ∷ []) (sym taken.seen.1)

  lines_after : lines_of script x'.journal ≡ lines_of script v.journal ++ line_of script line (asked_by request) applies.said ∷ []
  lines_after =
      let l = line_of script line (asked_by request) applies.said in
      ap (lines_of script) journal_after ∙ lines_more script (v.journal ++ taken.seen.0) (l ∷ [])
      ∙ (λ i. (lines_more script v.journal taken.seen.0 ∙ ap (λ (m : List ChangeLine). lines_of script v.journal ++ m) others_none ∙ append-nil (lines_of script v.journal)) i ++ line_here script l refl i)

  -- what was seen before the line, and what is seen after it
  seen_before : changes note.history ≤ accepted (v.journal ++ taken.seen.0)
  seen_before =
      let more = changes-grows note.history tells.writer.past tells.writer.told in
      let now : changes told.writer.history ≡ changes tells.writer.past = ap (λ (s : WriterState). changes s.history) tells.writer.now in
      let counted = turn_told.counted in
      let same : accepted told.journal ≡ accepted (v.journal ++ taken.seen.0) = ap accepted (told_journal ∙ sym taken.seen.1) in
      omega arith

  -- what the writer knew when it was told, it knows still
  knows_on : Grows note.history x'.writer.history
  knows_on = grows_again note.history told.writer.history x'.writer.history
      (subst (λ (s : WriterState). Grows note.history s.history) (sym tells.writer.now) tells.writer.told)
      applies.answered.come.does.made.grows

  pub line_applied : AppliesLine (record { script = script; line = line; request = request }) v note.history (given_view (taken_view v x) x') x'.writer.history x'.writer.names
  line_applied = record {
    others = taken.seen.0;
    none = others_none;
    said = applies.said;
    fault = applies.answered.fault;
    long = name_said (asked_by request) (name_in request) told.writer applies.said x'.writer applies.answered.come.does.says;
    journal = journal_after;
    wanted = ap wanted_by lines_after ∙ map-append (λ (l : ChangeLine). l.wanted) (lines_of script v.journal) (line_of script line (asked_by request) applies.said ∷ []);
    part = working.part;
    was = working.shares;
    is = shares_after;
    before = seen_before;
    after = (let counted = turn'.counted in omega arith);
    grows = knows_on;
    named = λ load e. named_then (asked_by request) (name_in request) told.writer applies.said x'.writer load applies.answered.come.does.says e turn'.rest.known.named;
  }

  pub still_working : working.part.applied < working.part.total → IsWorking script list (given_view (taken_view v x) x')
  still_working less = record {
    role = working.role;
    list_is = working.list_is;
    turn = refl;
    alone = working.alone;
    part = record working.part { applied = suc working.part.applied };
    shares = shares_after;
    lines = ap (λ l. length (lines_of script l)) journal_is ∙ ap length (lines_more script x.journal (line_of script line (asked_by request) applies.said ∷ []))
        ∙ length-append (lines_of script x.journal) (lines_of script (line_of script line (asked_by request) applies.said ∷ []))
        ∙ (let here = ap length (line_here script (line_of script line (asked_by request) applies.said) refl) in let all = (turn.progress script working.part part_there).lines in omega arith);
    most = less;
  }

-- the one share is that of the script
abbrev first_part : Part → List Share → Part
first_part other [] = other
first_part other (share ∷ shares) = share.part

pub share_in : (shares : List Share) (script : ℕ) (part : Part) → ((share : Share) × (shares ≡ share ∷ []) × (share.part.applied < share.part.total)) → shares ≡ record { script = script; part = part } ∷ [] → part.applied < part.total
share_in shares script part left is = subst (λ (p : Part). p.applied < p.total) (ap (first_part part) (sym left.1 ∙ is)) left.2

-- who is told what the writer knew then knows of the line
pub told_line : (line : ScriptLine) (v : View) (seen : List Entry) (w : View) (known history : List Entry) (known_names names : List (List ℕ)) → AppliesLine line v seen w known known_names → Grows known history → WentOn known_names names
    → AppliesLine line v seen w history names
told_line line v seen w known history known_names names a grows went = record {
  others = a.others;
  none = a.none;
  said = a.said;
  fault = a.fault;
  long = a.long;
  journal = a.journal;
  wanted = a.wanted;
  part = a.part;
  was = a.was;
  is = a.is;
  before = a.before;
  after = (let more = changes-grows known history grows in let after = a.after in omega arith);
  grows = grows_again seen known history a.grows grows;
  named = λ load e.
      let n = a.named load e in (
        (let long : length names ≡ length went.0 + length known_names = ap length went.1 ∙ length-append went.0 known_names in let few = n.0 in omega arith),
        ap (name_of load) went.1 ∙ name-older load went.0 known_names n.0 ∙ n.1,
      );
}
