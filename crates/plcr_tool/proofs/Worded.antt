-- What the words ask for: scripts side by side, or one of the other forms.
use Rattle.std.proofs.Common.{◌≡◌, ℕ, List, Option, Some, None, sym, subst}
use Rattle.plcr_imagelist.specs.States.{WriterState}
use Rattle.plcr_command.specs.Seen.{Seen}
use Rattle.plcr_workers.specs.Command.{ThreadsDoes, ThreadsLeave, ThreadsKept, ThreadsRan, ThreadsTell}
use Rattle.plcr_tool.specs.Headline.{FormTellsTruly, TopTellsTruly}
use Rattle.plcr_tool.specs.Past.{FormLeaves, TopLeaves}
use Rattle.plcr_tool.specs.Top.{Form, FormDoes, SideBySide, TopDoes, form_or, other_form, threads_in}

module _ (words : List (List ℕ)) (old new : Seen) (status : ℕ) where
  pub side_does : (core : List ℕ) (scripts : List (List ℕ)) → threads_in words ≡ Some (SideBySide core scripts) → ThreadsDoes core scripts old new status → TopDoes words old new status
  side_does core scripts is does = subst (λ (form : Option Form). FormDoes (form_or form (other_form words)) old new status) (sym is) does

  pub other_does : threads_in words ≡ None → FormDoes (other_form words) old new status → TopDoes words old new status
  other_does is does = subst (λ (form : Option Form). FormDoes (form_or form (other_form words)) old new status) (sym is) does

  module _ (past : Option WriterState) where
    pub side_leaves : (core : List ℕ) (scripts : List (List ℕ)) → threads_in words ≡ Some (SideBySide core scripts) → ThreadsLeave core scripts old new past status → TopLeaves words old new past status
    side_leaves core scripts is leaves = subst (λ (form : Option Form). FormLeaves (form_or form (other_form words)) old new past status) (sym is) leaves

    pub other_leaves : threads_in words ≡ None → FormLeaves (other_form words) old new past status → TopLeaves words old new past status
    other_leaves is leaves = subst (λ (form : Option Form). FormLeaves (form_or form (other_form words)) old new past status) (sym is) leaves

    pub side_tells : (core : List ℕ) (scripts : List (List ℕ)) → threads_in words ≡ Some (SideBySide core scripts) → ThreadsTell core scripts old new past status → ThreadsRan core scripts old new past status → ThreadsKept core scripts old new past status → TopTellsTruly words old new past status
    side_tells core scripts is tells ran kept = subst (λ (form : Option Form). FormTellsTruly (form_or form (other_form words)) old new past status) (sym is) (tells, ran, kept)

    pub other_tells : threads_in words ≡ None → FormTellsTruly (other_form words) old new past status → TopTellsTruly words old new past status
    other_tells is tells = subst (λ (form : Option Form). FormTellsTruly (form_or form (other_form words)) old new past status) (sym is) tells
