-- What a writer of bytes shows of itself, and what its calls add to that.
use Rattle.std.specs.Prelude.{◌≡◌, ℕ, ◌-◌, ◌^◌, ◌<◌, ◌≤◌, ◌⊎◌, min, Bool, true, false, List, [], ◌++◌, length, Option, None, Some}
use Rattle.std.specs.Borrow.{GName}
use Rattle.std.specs.Io.KnownBytes.{append_known}
use Rattle.plcr_base.specs.Causes.{Rose}
use Rattle.plcr_base.specs.Told.{AppendsUpTo, AppendsProperFront}

-- What became of the bytes given: their number, which stays at its greatest value; or what the sink
-- tells, and what is held for it.
pub data Page : Type 0 where
  Counted : ℕ → Page
  Given : Option (List ℕ) → List ℕ → Page

pub record Pen : Type 0 where
  pub page : Page
  -- how often the sink has failed
  pub faults : ℕ
  -- whether bytes were lost, so that none are taken any more
  pub failed : Bool
  -- the borrow of the sink, where there is one, and the sink's mark: no call changes them
  pub sink : Option GName
  pub mark : List ℕ

-- a counter at this number
abbrev pub counter_pen : ℕ → Pen
counter_pen n = record { page = Counted n; faults = 0; failed = false; sink = None; mark = [] }

-- These bytes were given since the sink told `base`, and none is lost.
abbrev pub Shows : Page → Option (List ℕ) → List ℕ → Type 0
Shows (Counted n) base bytes = n ≡ min (length bytes) (2 ^ 64 - 1)
Shows (Given told held) base bytes = AppendsUpTo base told bytes held

-- These bytes were given since the sink told `base`, and it has a front of them, not all.
abbrev pub IsCut : Page → Option (List ℕ) → List ℕ → Type 0
IsCut (Counted n) base bytes = ⊥
IsCut (Given told held) base bytes = AppendsProperFront base told bytes

-- the one or the other, by whether it failed
abbrev pub PenShows : Bool → Page → Option (List ℕ) → List ℕ → Type 0
PenShows false = Shows
PenShows true = IsCut

-- It shows some list of bytes since some moment, so that what is said of all that it may show says
-- something of it.
pub record IsShown (pen : Pen) : Type 0 where
  pub base : Option (List ℕ)
  pub given : List ℕ
  pub shows : PenShows pen.failed pen.page base given

-- Between these two moments exactly these bytes were put.
pub record Puts (old new : Pen) (bytes : List ℕ) : Type 0 where
  pub each : (base : Option (List ℕ)) (given : List ℕ) → Shows old.page base given →
      Shows new.page base (given ++ bytes)
  pub later : old.faults ≤ new.faults
  pub failed : new.failed ≡ old.failed
  pub sink : new.sink ≡ old.sink
  pub mark : new.mark ≡ old.mark

-- A front of the bytes was put, and not all of them.
pub record PutsProperFront (old new : Pen) (bytes : List ℕ) : Type 0 where
  pub front : List ℕ
  pub rest : List ℕ
  pub parts : bytes ≡ front ++ rest
  pub left : 0 < length rest
  pub put : Puts old new front

-- Between these two moments a pen that remembers failures was given these bytes. It failed only
-- where the count of failures rose.
pub record Wrote (old new : Pen) (bytes : List ℕ) : Type 0 where
  pub each : (base : Option (List ℕ)) (given : List ℕ) → PenShows old.failed old.page base given →
      PenShows new.failed new.page base (given ++ bytes)
  pub later : old.faults ≤ new.faults
  pub cause : new.failed ≡ true → (old.failed ≡ true) ⊎ Rose old.faults new.faults
  pub sink : new.sink ≡ old.sink
  pub mark : new.mark ≡ old.mark

-- a pen over a borrowed sink: what the sink tells, its failures, its mark, and what is held for it
abbrev pub sink_pen : GName → Option (List ℕ) → ℕ → List ℕ → List ℕ → Bool → Pen
sink_pen name told faults mark held failed =
    record {
      page = Given told held;
      faults = faults;
      failed = failed;
      sink = Some name;
      mark = mark;
    }

-- nothing is held back from the sink
abbrev pub HoldsNothing : Page → Type 0
HoldsNothing (Counted n) = Unit {0}
HoldsNothing (Given told held) = held ≡ []

-- Of what this pen was given since the sink told `base`, the sink in the end has all.
abbrev pub Ended : Pen → Option (List ℕ) → Type 0
Ended pen told = (base : Option (List ℕ)) (bytes : List ℕ) →
    PenShows pen.failed pen.page base bytes → told ≡ append_known base bytes

-- Of what this pen was given since the sink told `base`, the sink in the end has a front, not all.
abbrev pub Lost : Pen → Option (List ℕ) → Type 0
Lost pen told = (base : Option (List ℕ)) (bytes : List ℕ) →
    PenShows pen.failed pen.page base bytes → AppendsProperFront base told bytes
