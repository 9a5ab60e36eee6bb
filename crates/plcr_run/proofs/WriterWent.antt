-- That the writer only goes on, in each of its statements.
use Rattle.std.proofs.Common.{◌≡◌, ◌⊎◌, ℕ, zero, suc, ◌<◌, ◌≤◌, true, false, List, leb, Option, Some, None, Result, Ok, Err, sym, ap, subst, ⊎_elim, inl, inr}
use Rattle.std.proofs.lemmas.Bool.{cases_eq, cases_Bool, leb-true, leb-false}
use Rattle.plcr_base.specs.declared.limits.TheConstants.{IMAGE_NAME_BYTES}
use Rattle.plcr_machine.specs.declared.image.Image.{Image}
use Rattle.plcr_machine.specs.Histories.{IsHistory}
use Rattle.plcr_imagelist.specs.declared.refusals.LoadRefused.{LoadRefused}
use Rattle.plcr_imagelist.specs.declared.refusals.LoadRefused.TheVariants.{Full, NameTooLong, Worn}
use Rattle.plcr_imagelist.specs.declared.refusals.UnloadRefused.{UnloadRefused}
use Rattle.plcr_imagelist.specs.declared.change.Progress.{Progress}
use Rattle.plcr_imagelist.specs.declared.change.Progress.TheVariants.{More, Done}
use Rattle.plcr_imagelist.specs.States.{WriterState, Doing, Loads, Unloads, ChangeState, change_step}
use Rattle.plcr_imagelist.specs.Changes.{FindsNode, AtOnce, AfterLooks, IsChangedAt}
use Rattle.plcr_imagelist.specs.Loading.{LoadsOrRefuses, UnloadsOrRefuses}
use Rattle.plcr_imagelist.specs.Steps.{IsStepped}
use Rattle.plcr_imagelist.specs.Listing.{writer_of as left_of}
use Rattle.plcr_run.specs.inner.Changes.{MakesSteps}
use Rattle.plcr_run.proofs.Owning.{WriterWent, went_nowhere, went_twice, looks_went, counted_went, loaded_went, unloaded_went, step_went, stored_is}

pub went_same_writer : (old new : WriterState) → new ≡ old → WriterWent old new
went_same_writer old new e = subst (λ (s : WriterState). WriterWent old s) (sym e) (went_nowhere old)

pub short_or_long : (m : ℕ) → (IMAGE_NAME_BYTES < m) ⊎ (m ≤ IMAGE_NAME_BYTES)
short_or_long m = ⊎_elim (λ (t : leb m IMAGE_NAME_BYTES ≡ true). inr (leb-true m IMAGE_NAME_BYTES t)) (λ (f : leb m IMAGE_NAME_BYTES ≡ false). inl (leb-false m IMAGE_NAME_BYTES f)) (cases_Bool (leb m IMAGE_NAME_BYTES))

pub finds_went : (old : WriterState) (node : ℕ) (ready : WriterState) → FindsNode old node ready → WriterWent old ready
finds_went old node ready (AtOnce free same) = went_same_writer old ready same
finds_went old node ready (AfterLooks none found l free) = looks_went old.passes old found ready l

pub loads_went : (old : WriterState) (header : ℕ) (name : List ℕ) (new : WriterState) (answer : Result ℕ LoadRefused) → LoadsOrRefuses old header name new answer → WriterWent old new
loads_went old header name new (Ok number) l =
    went_twice old l.ready new (finds_went old l.node l.ready l.finds) (went_twice l.ready l.linked new (loaded_went l.ready header name number l.node l.linked l.link) (counted_went l.linked new l.count))
loads_went old header name new (Err (Full lives held seen)) l = looks_went old.passes old l.announced new l.looks
loads_went old header name new (Err (NameTooLong len)) l = absurd l
loads_went old header name new (Err (Worn changed)) l = absurd l

pub unloads_went : (old : WriterState) (found : Option Image) (new : WriterState) (answer : Result ℕ UnloadRefused) → UnloadsOrRefuses old found new answer → WriterWent old new
unloads_went old (Some image) new (Ok number) u = went_twice old u.1.unlinked new (unloaded_went old image u.1.unlinked u.1.unlink) (counted_went u.1.unlinked new u.1.count)
unloads_went old (Some image) new (Err refused) u = absurd u
unloads_went old None new (Ok number) u = absurd u
unloads_went old None new (Err refused) u = went_same_writer old new u.1

-- several steps
pub steps_went : (count : ℕ) (old new : ChangeState) → MakesSteps count old new → WriterWent old.writer new.writer
steps_went zero old new m = went_same_writer old.writer new.writer (ap (λ (c : ChangeState). c.writer) m)
steps_went (suc count) old new m = went_twice old.writer m.0.writer new.writer (steps_went count old m.0 m.1) (step_went m.0 (More new) m.2)

-- what a step knows stays a history
changed_known : (old : WriterState) (doing : Doing) (load node : ℕ) (new : WriterState) → IsChangedAt old doing load node new → IsHistory new.nodes new.passes new.history new.names
changed_known old (Loads header name) load node new k = k.legal
changed_known old (Unloads image) load node new k = k.legal

pub stepped_known : (old : ChangeState) (left : Progress) → IsHistory old.writer.nodes old.writer.passes old.writer.history old.writer.names → IsStepped old left → IsHistory (left_of left).nodes (left_of left).passes (left_of left).history (left_of left).names
stepped_known old (More new) known s =
    ⊎_elim
    (λ (e : new.made ≡ change_step old.doing). changed_known old.writer old.doing old.load old.node new.writer (s.1.change e))
    (λ (n : new.made ≡ change_step old.doing → ⊥). subst (λ (w : WriterState). IsHistory w.nodes w.passes w.history w.names) (sym (stored_is old.doing old.made old.node old.writer new.writer (s.1.before n).1)) known)
    (cases_eq new.made (change_step old.doing))
stepped_known old (Done writer) known s = s.1.legal
