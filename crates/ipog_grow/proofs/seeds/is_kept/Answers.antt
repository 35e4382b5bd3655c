use Rattle.std.proofs.Common.{◌≡◌, ◌∙◌, ap, sym, subst}
use Rattle.cov_model.specs.declared.slice.Slice.{Slice}
use Rattle.definitions.specs.SliceRows.{IsSliceOf, IsOfSlice}
use Rattle.full_search.specs.Questions.{QuestionsView}
use Rattle.ipog_grow.proofs.Seeding.{slice_of-is, slice_of-grows}
use Rattle.ipog_grow.proofs.seeds.is_kept.Goals as goal

pub questions_of-requires-clause-slice : goal.questions_of-requires-clause-slice
questions_of-requires-clause-slice c = subst (IsSliceOf c.args.model.now) (sym c.slice_of-slice.ensures) (slice_of-is c.args.model.now c.args.cells.now)

pub ask-answer-requires : goal.ask-answer-requires
ask-answer-requires c =
    let own : QuestionsView = record { model = c.args.model.now; prefs = c.args.prefs.now; slice = c.slice_of-slice.result; effort = c.args.effort } in
    let is : c.in-Ok.one.questions ≡ own =
    c.in-Ok.ensures.questions ∙ ap (λ (slice : Slice). record { model = c.args.model.now; prefs = c.args.prefs.now; slice = slice; effort = c.args.effort }) c.in-Ok.ensures.slice in
    subst (λ (s : QuestionsView). IsOfSlice s.model s.slice c.args.cells.now) (sym is)
    (subst (λ (slice : Slice). IsOfSlice c.args.model.now slice c.args.cells.now) (sym c.slice_of-slice.ensures)
    (slice_of-grows c.args.model.now c.args.cells.now c.requires.fits (sym c.if-not-is_of_some_slice.ensures)).of)
