-- The journal as the changes of the history.
use Rattle.std.proofs.Common.{◌≡◌, ℕ, ◌≤◌, List, [], ◌∷◌, ◌++◌, length, refl, sym, ap, ◌∙◌, subst, append_assoc, append-nil}
use Rattle.plcr_machine.specs.declared.change.Change.{Change}
use Rattle.plcr_machine.specs.declared.entry.Entry.{Entry}
use Rattle.plcr_machine.specs.Lists.{Grows, name_of}
use Rattle.plcr_machine.specs.Changes.{changes_of}
use Rattle.plcr_nodes.specs.Entries.{WentOn}
use Rattle.plcr_nodes.proofs.NamesKept.{name-older}
use Rattle.plcr_nodes.proofs.Seeing.{grows_again}
use Rattle.plcr_imagelist.specs.States.{WriterState}
use Rattle.plcr_imagelist.specs.Opening.{opened_writer}
use Rattle.plcr_imagelist.proofs.Looking.{went_again}
use Rattle.plcr_turns.specs.declared.lines.Asked.{Asked}
use Rattle.plcr_turns.specs.declared.lines.Asked.TheVariants as asked
use Rattle.plcr_turns.specs.declared.lines.Said.{Said}
use Rattle.plcr_turns.specs.declared.lines.Said.TheVariants.{NotImage, Worn, Long, Full, NotLoaded, Loaded, Unloaded}
use Rattle.plcr_turns.specs.declared.lines.ChangeLine.{ChangeLine}
use Rattle.plcr_turns.specs.Turns.{TurnState, Says, changes_by, Did, SeesOthers, Applied, IsTurn}
use Rattle.plcr_turns.specs.Journals.{load_made, change_made, changes_made, LineDid}
use Rattle.plcr_turns.proofs.Turned.{SameSizes, same_again, same_sizes}
use Rattle.plcr_turns.proofs.Working.{named_then}

-- what the writer knew it knows after more lines
pub grows_through : (start : WriterState) (lines : List ChangeLine) (end : WriterState) → Applied start lines end → Grows start.history end.history × WentOn start.names end.names
grows_through start [] end a = (a.added.grows, a.named)
grows_through start (line ∷ lines) end a =
    let rest = grows_through a.1 lines end a.5 in (
      grows_again start.history a.1.history end.history (grows_again start.history a.0.history a.1.history a.3.added.grows a.4.does.made.grows) rest.0,
      went_again start.names a.1.names end.names (went_again start.names a.0.names a.1.names a.3.named a.4.does.made.names) rest.1,
    )

-- the change of a line is the same by the names of later loads
pub change_by_names : (a : Asked) (name : List ℕ) (said : Said) (names : List (List ℕ)) → ((load : ℕ) → said ≡ Loaded load → name_of load names ≡ name) → changes_by a name said ≡ changes_by a (name_of (load_made said) names) said
change_by_names (asked.Load header) name (NotImage kind) names same = refl
change_by_names (asked.Load header) name (Worn number) names same = refl
change_by_names (asked.Load header) name (Long len) names same = refl
change_by_names (asked.Load header) name (Full lives held seen) names same = refl
change_by_names (asked.Load header) name NotLoaded names same = refl
change_by_names (asked.Load header) name (Loaded load) names same = ap (λ (n : List ℕ). changes_by (asked.Load header) n (Loaded load)) (sym (same load refl))
change_by_names (asked.Load header) name (Unloaded load) names same = refl
change_by_names (asked.Unload header) name (NotImage kind) names same = refl
change_by_names (asked.Unload header) name (Worn number) names same = refl
change_by_names (asked.Unload header) name (Long len) names same = refl
change_by_names (asked.Unload header) name (Full lives held seen) names same = refl
change_by_names (asked.Unload header) name NotLoaded names same = refl
change_by_names (asked.Unload header) name (Loaded load) names same = refl
change_by_names (asked.Unload header) name (Unloaded load) names same = refl

-- the change of one line, by the names of all loads later
pub change_then : (line : ChangeLine) (name : List ℕ) (old new : WriterState) (names : List (List ℕ)) → Did line name old new → WentOn new.names names → changes_by line.wanted.asked name line.said ≡ change_made names line
change_then line name old new names d went =
    change_by_names line.wanted.asked name line.said names
    (λ load e.
    let n = named_then line.wanted.asked name old line.said new load d.does.says e d.rest.known.named in
    ap (name_of load) went.1 ∙ name-older load went.0 new.names n.0 ∙ n.1)

-- the changes after lines are theirs and those before
pub changes_through : (start : WriterState) (lines : List ChangeLine) (end : WriterState) → Applied start lines end → changes_of end.names end.history ≡ changes_made end.names lines ++ changes_of start.names start.history
changes_through start [] end a = a.changes
changes_through start (line ∷ lines) end a =
    let rest = changes_through a.1 lines end a.5 in
    let went = (grows_through a.1 lines end a.5).1 in
    rest
    ∙ ap (λ (l : List Change). changes_made end.names lines ++ l) (a.4.does.changes ∙ (λ i. change_then line a.2 a.0 a.1 end.names a.4 went i ++ a.3.changes i))
    ∙ sym (append_assoc (changes_made end.names lines) (change_made end.names line) (changes_of start.names start.history))

pub journal_is : (t : TurnState) → IsTurn t → changes_of t.writer.names t.writer.history ≡ changes_made t.writer.names t.journal
journal_is t turn = changes_through (opened_writer t.writer.table t.writer.nodes t.writer.passes) t.journal t.writer turn.applied ∙ append-nil (changes_made t.writer.names t.journal)

-- the changes of lines are the same by later names
pub made_later : (start : WriterState) (lines : List ChangeLine) (end : WriterState) (names : List (List ℕ)) → Applied start lines end → WentOn end.names names → changes_made end.names lines ≡ changes_made names lines
made_later start [] end names a went = refl
made_later start (line ∷ lines) end names a went =
    let mid = (grows_through a.1 lines end a.5).1 in
    λ i. made_later a.1 lines end names a.5 went i ++ (sym (change_then line a.2 a.0 a.1 end.names a.4 mid) ∙ change_then line a.2 a.0 a.1 names a.4 (went_again a.1.names end.names names mid went)) i

-- one line of a chain, with what came before it and after it
pub record Between (start : WriterState) (before : List ChangeLine) (line : ChangeLine) (after : List ChangeLine) (end : WriterState) : Type 0 where
  pub old : WriterState
  pub new : WriterState
  pub name : List ℕ
  pub first : Applied start before old
  pub did : Did line name old new
  pub last : Applied new after end

pub between : (start : WriterState) (before : List ChangeLine) (line : ChangeLine) (after : List ChangeLine) (end : WriterState) → Applied start (before ++ line ∷ after) end → Between start before line after end
between start [] line after end a = record { old = a.0; new = a.1; name = a.2; first = a.3; did = a.4; last = a.5 }
between start (l ∷ before) line after end a =
    let b = between a.1 before line after end a.5 in
    record { old = b.old; new = b.new; name = b.name; first = (a.0, a.1, a.2, a.3, a.4, b.first); did = b.did; last = b.last }

-- lines keep the sizes of the list, if what the writer sees of others does
pub sizes_through : (start : WriterState) (lines : List ChangeLine) (end : WriterState) → Applied start lines end → SameSizes start end
sizes_through start [] end a = a.sizes
sizes_through start (line ∷ lines) end a =
    same_again start a.1 end (same_again start a.0 a.1 a.3.sizes (same_sizes line.wanted.asked a.2 a.0 line.said a.1 a.4.does.says)) (sizes_through a.1 lines end a.5)

pub line_did : (t : TurnState) → IsTurn t → (before : List ChangeLine) (line : ChangeLine) (after : List ChangeLine) → t.journal ≡ before ++ line ∷ after → LineDid t before line
line_did t turn before line after is =
    let start = opened_writer t.writer.table t.writer.nodes t.writer.passes in
    let b = between start before line after t.writer (subst (λ (l : List ChangeLine). Applied start l t.writer) is turn.applied) in
    let rest = grows_through b.new after t.writer b.last in
    let went = went_again b.old.names b.new.names t.writer.names b.did.does.made.names rest.1 in
    record {
      old = b.old;
      new = b.new;
      name = b.name;
      did = b.did;
      earlier = changes_through start before b.old b.first ∙ append-nil (changes_made b.old.names before) ∙ made_later start before b.old t.writer.names b.first went;
      grows = rest.0;
      went = rest.1;
      sizes = sizes_through start before b.old b.first;
    }
