-- An output in memory, and what a put does to it.
use Rattle.std.specs.Prelude.{◌≡◌, ◌⊎◌, ◌↔◌, ℕ, ◌-◌, ◌≤◌, min, List, [], ◌++◌, length, take, Result, IsErr, IfOk, OnOk, OnErr}
use Rattle.plcr_io.specs.Counting.{next}
use Rattle.plcr_io.specs.Calls.{FailsNext}
use Rattle.plcr_io.specs.declared.sinks.PutFailed.{PutFailed}

pub record Output : Type 0 where
  -- what it has written
  pub bytes : List ℕ
  -- the most bytes that it takes in all, and in one put
  pub room : ℕ
  pub most : ℕ
  -- the numbers of the puts that fail, from 1
  pub failing : List ℕ
  -- how many puts there were, and how many failed
  pub puts : ℕ
  pub faults : ℕ

-- nothing was put to it yet
pub record IsFresh (out : Output) : Type 0 where
  pub bytes : out.bytes ≡ []
  pub puts : out.puts ≡ 0
  pub faults : out.faults ≡ 0

-- the next put fails: its number is one of those that fail, or the room is full
abbrev pub PutFails : Output → Type 0
PutFails out = FailsNext out.failing out.puts ⊎ (out.room ≤ length out.bytes)

-- how many of n bytes a put takes that doesn't fail
abbrev pub put_takes : Output → ℕ → ℕ
put_takes out n = min (min out.most n) (out.room - length out.bytes)

-- a put of this piece
pub record Puts (piece : List ℕ) (old new : Output) (result : Result ℕ PutFailed) : Type 0 where
  pub fails : IsErr result ↔ PutFails old
  pub takes : IfOk result (λ n. n ≡ put_takes old (length piece))
  pub bytes : IfOk result (λ n. new.bytes ≡ old.bytes ++ take n piece)
  pub err : OnErr result (new.bytes ≡ old.bytes)
  pub puts : new.puts ≡ next old.puts
  pub faults_ok : OnOk result (new.faults ≡ old.faults)
  pub faults_err : OnErr result (new.faults ≡ next old.faults)
  pub room : new.room ≡ old.room
  pub most : new.most ≡ old.most
  pub failing : new.failing ≡ old.failing
