use Rattle.std.proofs.Common.{Result, Ok, Err, IfOk, slice_index_or, subst, sym}
use Rattle.plcr_imagelist.specs.Holds.{WalkerState}
use Rattle.plcr_race.specs.Counting.{AreWalks}
use Rattle.plcr_race.proofs.walks.walk_all.Goals as goal

if_ok : {T E : Type 0} (P Q : T → Type 0) (result : Result T E) → ((x : T) → P x → Q x) → IfOk result P → IfOk result Q
if_ok P Q (Ok x) f met = f x met
if_ok P Q (Err e) f met = tt

pub returns-clause-walks : goal.returns-clause-walks
returns-clause-walks g c =
    if_ok _ _ c.map_vec.result
    (λ ends given i pass end inside.
    let job = (given i end inside).1 in
    subst (λ (p : WalkerState). AreWalks p c.args.rounds (slice_index_or ends.items i end).1 (slice_index_or ends.items i end).0) (sym (job.job_is pass)) job.call.met)
    c.map_vec.ensures.each
