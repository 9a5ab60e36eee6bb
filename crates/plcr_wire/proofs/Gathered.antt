-- How a pen over a borrowed sink gathers bytes, passes them on, ends and is cut short.
use Rattle.std.proofs.Common.{◌≡◌, ℕ, ◌<◌, ◌≤◌, Bool, true, false, List, [], ◌∷◌, ◌++◌, length, Option, refl, sym, ap, subst, ◌∙◌, append_assoc, append-nil, length-append, arith}
use Rattle.std.proofs.Common.{◌⊎◌, inl, inr}
use Rattle.plcr_base.specs.Causes.{Rose}
use Rattle.std.specs.Borrow.{GName}
use Rattle.std.specs.Io.KnownBytes.{append_known}
use Rattle.plcr_base.specs.Told.{AppendsUpTo, AppendsProperFront}
use Rattle.plcr_base.proofs.Appended.{append_twice, proper_first, up_to_end}
use Rattle.plcr_wire.proofs.Writing.{wrote_twice}
use Rattle.plcr_wire.specs.Pen.{Pen, sink_pen, Given, PenShows, Puts, PutsProperFront, Wrote, Ended, Lost}

-- a front was put, and then a front of what was left
up_to_twice : (base told new : Option (List ℕ)) (given held left : List ℕ) → AppendsUpTo base told given held → AppendsUpTo told new held left → AppendsUpTo base new given left
up_to_twice base told new given held left first second = record {
  front = first.front ++ second.front;
  parts = first.parts ∙ ap (λ l. first.front ++ l) second.parts ∙ sym (append_assoc first.front second.front left);
  appended = second.appended ∙ ap (λ o. append_known o second.front) first.appended ∙ append_twice base first.front second.front;
}

-- what was held went to the sink, or a front of it
pub held_put : (name : GName) (told new : Option (List ℕ)) (faults more : ℕ) (mark same held left : List ℕ) (failed : Bool)
    → AppendsUpTo told new held left → faults ≤ more → same ≡ mark
    → Puts (sink_pen name told faults mark held failed) (sink_pen name new more same left failed) []
held_put name told new faults more mark same held left failed parts later kept = record {
  each = λ base given h. subst (λ bytes. AppendsUpTo base new bytes left) (sym (append-nil given)) (up_to_twice base told new given held left h parts);
  later = later;
  failed = refl;
  sink = refl;
  mark = kept;
}

-- one more byte is held
pub held_more : (name : GName) (told : Option (List ℕ)) (faults : ℕ) (mark held more : List ℕ) (b : ℕ) (failed : Bool)
    → more ≡ held ++ b ∷ [] → Puts (sink_pen name told faults mark held failed) (sink_pen name told faults mark more failed) (b ∷ [])
held_more name told faults mark held more b failed e = record {
  each = λ base given h. record {
    front = h.front;
    parts = ap (λ l. l ++ b ∷ []) h.parts ∙ append_assoc h.front held (b ∷ []) ∙ ap (λ l. h.front ++ l) (sym e);
    appended = h.appended;
  };
  later = omega arith;
  failed = refl;
  sink = refl;
  mark = refl;
}

-- more bytes are held
pub held_piece : (name : GName) (told : Option (List ℕ)) (faults : ℕ) (mark held more bytes : List ℕ) (failed : Bool)
    → more ≡ held ++ bytes → Puts (sink_pen name told faults mark held failed) (sink_pen name told faults mark more failed) bytes
held_piece name told faults mark held more bytes failed e = record {
  each = λ base given h. record {
    front = h.front;
    parts = ap (λ l. l ++ bytes) h.parts ∙ append_assoc h.front held bytes ∙ ap (λ l. h.front ++ l) (sym e);
    appended = h.appended;
  };
  later = omega arith;
  failed = refl;
  sink = refl;
  mark = refl;
}

-- something is still held at the end, or bytes were lost before
pub lost_end : (name : GName) (told new : Option (List ℕ)) (faults : ℕ) (mark held left : List ℕ) (failed : Bool)
    → (failed ≡ true) ⊎ (0 < length left) → AppendsUpTo told new held left → (failed ≡ true → new ≡ told) → Lost (sink_pen name told faults mark held failed) new
lost_end name told new faults mark held left true why parts kept base bytes h = subst (λ o. AppendsProperFront base o bytes) (sym (kept refl)) h
lost_end name told new faults mark held left false (inl gone) parts kept base bytes h = absurd (cc)
lost_end name told new faults mark held left false (inr some) parts kept base bytes h =
    let all = up_to_twice base told new bytes held left h parts in
    record { front = all.front; rest = left; parts = all.parts; left = some; appended = all.appended }

-- nothing is held at the end, and none was lost
pub ended_end : (name : GName) (told new : Option (List ℕ)) (faults : ℕ) (mark held left : List ℕ) (failed : Bool)
    → (left ≡ []) × (failed ≡ false) → AppendsUpTo told new held left → Ended (sink_pen name told faults mark held failed) new
ended_end name told new faults mark held left true whole parts base bytes h = absurd (let e = whole.1 in cc)
ended_end name told new faults mark held left false whole parts base bytes h =
    up_to_end base new bytes left (up_to_twice base told new bytes held left h parts) (ap length whole.0)

-- a pen that has lost bytes takes none any more
pub wrote_lost : (name : GName) (told : Option (List ℕ)) (faults : ℕ) (mark held bytes : List ℕ) (failed : Bool)
    → failed ≡ true → Wrote (sink_pen name told faults mark held failed) (sink_pen name told faults mark held failed) bytes
wrote_lost name told faults mark held bytes failed gone = record {
  each = λ base given h. subst (λ f. PenShows f (Given told held) base (given ++ bytes)) (sym gone)
      (proper_first base told given bytes (subst (λ f. PenShows f (Given told held) base given) gone h));
  later = omega arith;
  cause = λ h. inl h;
  sink = refl;
  mark = refl;
}

-- all of these bytes were put
pub wrote_put : (old new : Pen) (bytes : List ℕ) → old.failed ≡ false → Puts old new bytes → Wrote old new bytes
wrote_put old new bytes whole put = record {
  each = λ base given h. subst (λ f. PenShows f new.page base (given ++ bytes)) (sym (put.failed ∙ whole))
      (put.each base given (subst (λ f. PenShows f old.page base given) whole h));
  later = put.later;
  cause = λ h. absurd (let e = put.failed in cc);
  sink = put.sink;
  mark = put.mark;
}

-- two pieces more are held
pub wrote_both : (name : GName) (told : Option (List ℕ)) (faults : ℕ) (mark held mid more xs ys : List ℕ) (failed : Bool)
    → failed ≡ false → mid ≡ held ++ xs → more ≡ mid ++ ys → Wrote (sink_pen name told faults mark held failed) (sink_pen name told faults mark more failed) (xs ++ ys)
wrote_both name told faults mark held mid more xs ys failed whole first second =
    wrote_twice (sink_pen name told faults mark held failed) (sink_pen name told faults mark mid failed) (sink_pen name told faults mark more failed) xs ys
    (wrote_put (sink_pen name told faults mark held failed) (sink_pen name told faults mark mid failed) xs whole (held_piece name told faults mark held mid xs failed first))
    (wrote_put (sink_pen name told faults mark mid failed) (sink_pen name told faults mark more failed) ys whole (held_piece name told faults mark mid more ys failed second))

-- the put of these bytes failed, and is remembered
pub wrote_cut : (old : Pen) (name : GName) (told : Option (List ℕ)) (faults : ℕ) (mark held : List ℕ) (failed : Bool) (bytes : List ℕ)
    → old.failed ≡ false → PutsProperFront old (sink_pen name told faults mark held failed) bytes → Rose old.faults faults → Wrote old (sink_pen name told faults mark held true) bytes
wrote_cut old name told faults mark held failed bytes whole cut rose = record {
  each = λ base given h.
      let shown = cut.put.each base given (subst (λ f. PenShows f old.page base given) whole h) in
      record {
        front = shown.front;
        rest = held ++ cut.rest;
        parts = ap (λ l. given ++ l) cut.parts ∙ sym (append_assoc given cut.front cut.rest) ∙ ap (λ l. l ++ cut.rest) shown.parts ∙ append_assoc shown.front held cut.rest;
        left = let some = cut.left in rw length-append (omega arith);
        appended = shown.appended;
      };
  later = cut.put.later;
  cause = λ h. inr rose;
  sink = cut.put.sink;
  mark = cut.put.mark;
}
