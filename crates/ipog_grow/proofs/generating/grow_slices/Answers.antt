use Rattle.std.proofs.Common.{◌≡◌, ◌+◌, ◌++◌, ◌∷◌, [], ℕ, List, Option, sum_by, take, drop, get_or, filter, ◌∙◌, sym, ap, subst, arith}
use Rattle.std.proofs.lemmas.List.{take_more}
use Rattle.std.proofs.lemmas.List.Sums.{sum_by-append, sum_by-cons}
use Rattle.std.proofs.lemmas.Result.{err_from_is_err_and}
use Rattle.cov_model.specs.declared.slice.Slice.{Slice}
use Rattle.cov_model.specs.declared.slice.Slice.TheVariants.{Positive}
use Rattle.definitions.specs.believed.Growth.{is_of_slice, slices_growth}
use Rattle.feasibility.specs.Refuting.{earlier_tuples}
use Rattle.full_search.specs.Questions.{QuestionsView}
use Rattle.ipog_grow.specs.Asking.{first_spent}
use Rattle.ipog_grow.specs.Inputs.{context_in}
use Rattle.ipog_grow.specs.Omissions.{met_count}
use Rattle.ipog_grow.specs.SliceGrowing.{grown_from}
use Rattle.ipog_grow.proofs.Slicing.{SlicesGrown, slices_grown-next, slices_grown-spent}
use Rattle.ipog_grow.proofs.Splitting.{split_at, ends-by}
use Rattle.ipog_grow.proofs.generating.grow_slices.Goals as goal

pub returns-in_err-grow_slice-clause-asked : goal.returns-in_err-grow_slice-clause-asked
returns-in_err-grow_slice-clause-asked g c =
    λ seeds kept.
    let p = err_from_is_err_and c.from_residual.result c.from_residual.ensures.1 in
    let context : QuestionsView = context_in c.args.input.now (get_or c.args.slices.now c.loop-slice.slice-index Positive) in
    let before : List Slice = take c.loop-slice.slice-index c.args.slices.now in
    rw (p.1, p.2) (ends-by c.in_err-grow_slice.field-0.0
    (first_spent context (grown_from context (filter (is_of_slice context.model context.slice) c.args.input.now.kept.now)).asked)
    (first_spent context (slices_growth context.model context.prefs seeds c.args.slices.now).asked)
    (λ q spent.
    ap (λ slices. first_spent context (slices_growth context.model context.prefs seeds slices).asked)
    (split_at c.args.slices.now c.loop-slice.slice-index Positive c.loop-slice-test.true)
    ∙ slices_grown-spent context.model context.prefs context.effort seeds before context.slice (drop (c.loop-slice.slice-index + 1) c.args.slices.now)
    c.loop-slice.rows (earlier_tuples context.model c.loop-slice.omissions) (c.loop-slice.invariant.grown seeds kept) q
    (ap (λ rows. first_spent context (grown_from context (filter (is_of_slice context.model context.slice) rows)).asked) (sym kept) ∙ spent))
    c.in_err-grow_slice.ensures.asked)

pub loop-slice-preserved : goal.loop-slice-preserved
loop-slice-preserved g c =
    let context : QuestionsView = context_in c.args.input.now (get_or c.args.slices.now c.loop-slice.slice-index Positive) in
    let before : List Slice = take c.loop-slice.slice-index c.args.slices.now in
    let tuples : List (List (Option ℕ)) = earlier_tuples context.model c.loop-slice.omissions in
    let tuples' : List (List (Option ℕ)) = earlier_tuples context.model c.grow_slice.new.omissions in
    let more : take (c.loop-slice.slice-index + 1) c.args.slices.now ≡ before ++ context.slice ∷ [] =
    take_more c.args.slices.now c.loop-slice.slice-index Positive c.loop-slice-test.true in
    record {
      grown = λ seeds kept.
          subst (λ (parts : List Slice). SlicesGrown context.model context.prefs context.effort seeds parts c.grow_slice.new.rows tuples') (sym more)
          (slices_grown-next context.model context.prefs context.effort seeds before context.slice c.loop-slice.rows c.grow_slice.new.rows tuples tuples'
          (c.loop-slice.invariant.grown seeds kept)
          (c.in_ok-grow_slice.ensures.rows ∙ ap (λ rows. c.loop-slice.rows
          ++ (grown_from context (filter (is_of_slice context.model context.slice) rows)).rows) kept)
          (c.in_ok-grow_slice.ensures.tuples ∙ ap (λ rows. tuples ++ (grown_from context (filter (is_of_slice context.model context.slice) rows)).omitted)
          kept)
          (ap (λ rows. first_spent context (grown_from context (filter (is_of_slice context.model context.slice) rows)).asked) (sym kept)
          ∙ c.in_ok-grow_slice.ensures.asked));
      omissions = c.in_ok-grow_slice.ensures.omissions;
      count = omega (
        arith,
        c.in_ok-grow_slice.ensures.count,
        c.loop-slice.invariant.count,
        ap (sum_by (met_count context.model)) more,
        sum_by-append (met_count context.model) before (context.slice ∷ []),
        sum_by-cons (met_count context.model) context.slice [],
      );
      long = c.in_ok-grow_slice.ensures.long;
    }
