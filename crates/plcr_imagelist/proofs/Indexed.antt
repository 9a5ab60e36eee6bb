-- A hold has the same walk whatever index lies in its room.
use Rattle.std.proofs.Common.{◌≡◌, ◌∙◌, ◌++◌, ℕ, Bool, List, length, take, drop, sym, ap, subst}
use Rattle.std.proofs.Math.Seq.{take-append_seam}
use Rattle.plcr_memory.specs.Regions.{Contents}
use Rattle.plcr_regs.specs.declared.arch.Arch.{Arch}
use Rattle.plcr_macho.specs.declared.spot.Spot.{Spot}
use Rattle.plcr_macho.specs.Images.{Listed}
use Rattle.plcr_macho.specs.Index.{Extent, index_of}
use Rattle.plcr_macho.specs.Spots.{IsIndexOf, IsSettled}
use Rattle.plcr_nodes.specs.Tokens.{NoteState}
use Rattle.plcr_imagelist.specs.Holds.{HoldState, WalkerState, IsNext, IsReleased, IsWalking}
use Rattle.plcr_imagelist.specs.inner.Indexing.{extents_in}
use Rattle.plcr_imagelist.specs.Tellings.{IsHoldTold}
use Rattle.plcr_imagelist.specs.Walk.{IsSameWalk}

abbrev pub with : HoldState → List Extent → HoldState
with s es = record s { extents = es }

pub walking_with : (s : HoldState) (es : List Extent) → IsWalking s → IsWalking (with s es)
walking_with s es w = record { known = w.known; short = w.short; inside = w.inside; meets = w.meets; rises = w.rises; few = w.few; whole = w.whole }

pub same_with : (old new : HoldState) (es fs : List Extent) → IsSameWalk old new → IsSameWalk (with old es) (with new fs)
same_with old new es fs k = record {
  list = k.list;
  sizes = k.sizes;
  pass = k.pass;
  met = k.met;
  named = k.named;
  ended = k.ended;
  enter = k.enter;
  added = k.added;
  went = k.went;
  walking = λ w. walking_with new fs (k.walking (walking_with (with old es) old.extents w));
  ends = k.ends;
}

pub next_with : (old : HoldState) (more : Bool) (new : HoldState) (es : List Extent) → IsNext old more new → IsNext (with old es) more (with new es)
next_with old more new es k = record {
  ended = λ e. let n = k.ended e in (n.0, ap (λ (s : HoldState). with s es) n.1);
  goes = λ e. let g = k.goes e in record { past = g.past; names = g.names; sees = g.sees; walker = g.walker; met = g.met; end = g.end; lawful = g.lawful };
}

pub released_with : (old : HoldState) (new : WalkerState) (low high : ℕ) (es : List Extent) → IsReleased old new low high → IsReleased (with old es) new low high
released_with old new low high es k = record {
  out = k.out;
  leave = k.leave;
  retire = k.retire;
  low_is = k.low_is;
  high_is = k.high_is;
  grows = k.grows;
  went = k.went;
  own = k.own;
  before = k.before;
  ends = k.ends;
}

pub told_with : (old : HoldState) (note : NoteState) (new : HoldState) (es : List Extent) → IsHoldTold old note new → IsHoldTold (with old es) note (with new es)
told_with old note new es k = record { walker = k.walker; same = ap (λ (s : HoldState). with s es) k.same; ends = k.ends }

-- an index that was made in a room
pub made : (m : Contents) (arch : Arch) (images : List Listed) (room items : List Spot) (n filled : ℕ) → items ≡ room → n ≡ length images → IsIndexOf m arch images room filled
    → IsSettled n items filled × (extents_in n items filled ≡ index_of m arch images)
made m arch images room items n filled same size is = (
  subst (λ (xs : List Spot). IsSettled n xs filled) (sym same) (subst (λ (k : ℕ). IsSettled k room filled) (sym size) is.settled),
  ap (λ (xs : List Spot). extents_in n xs filled) same ∙ ap (λ (k : ℕ). extents_in k room filled) size ∙ (let whole = is.is in cc),
)

-- as many items as before are written back
pub written_back : (room items : List Spot) (n : ℕ) → length room ≡ n → take n (room ++ drop (length room) items) ≡ room
written_back room items n size = ap (λ (k : ℕ). take k (room ++ drop (length room) items)) (sym size) ∙ take-append_seam room (drop (length room) items)
