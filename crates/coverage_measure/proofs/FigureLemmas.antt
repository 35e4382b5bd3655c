-- The figures of a suite, from those of its rows and of the demanded sets.
use Rattle.std.proofs.Common.{◌≡◌, ℕ, ◌+◌, ◌<◌, Bool, List, [], map, length, get_or, take, drop, Option, ◌∙◌, sym, ap, subst}
use Rattle.std.specs.Prelude.{sum}
use Rattle.std.specs.List.{filter}
use Rattle.std.proofs.lemmas.List.{get_or-map}
use Rattle.cov_model.specs.believed.Sound.{ModelView}
use Rattle.definitions.specs.believed.Demand.{demanded_sets, demanded_tuples, tuples_of}
use Rattle.definitions.specs.believed.Figures as defined
use Rattle.tuple_index.specs.Plan.{PlanView, plan_of, set_at}
use Rattle.shared_marks.specs.Served.{base_of}
use Rattle.shared_marks.proofs.PlaceLemmas.{all_places}
use Rattle.shared_marks.proofs.SetMarks.{set_marks}
use Rattle.coverage_measure.specs.declared.set_figures.SetFigures.{SetFigures}
use Rattle.coverage_measure.specs.declared.suite_rows.RowCounts.{RowCounts}
use Rattle.coverage_measure.specs.SetFigures.{set_figures, with_set}
use Rattle.coverage_measure.specs.SuiteRows.{row_counts}
use Rattle.coverage_measure.proofs.SetLemmas.{figures_more}
use Rattle.value_text.proofs.ListLemmas.{count_marks}

-- how many marks of a set of a plan are set
abbrev pub marked : PlanView → List Bool → ℕ → ℕ
marked plan marks set = length (filter (λ mark. mark) (take (get_or plan.sizes set 0) (drop (sum (take set plan.sizes)) marks)))

-- so many tuples of the set are covered
covered_is : (m : ModelView) (rows : List (List (Option ℕ))) (marks : List Bool) (set : ℕ) → set < length (demanded_sets m)
    → marks ≡ map (defined.is_served m (defined.tests_of m rows)) (demanded_tuples m)
    → marked (plan_of m) marks set ≡ defined.covered m rows (get_or (demanded_sets m) set [])
covered_is m rows marks set within are =
    let test : List (Option ℕ) → Bool = defined.is_served m (defined.tests_of m rows) in
    ap (λ n. length (filter (λ mark. mark) (take n (drop (base_of m set) marks)))) (get_or-map (λ set. length (tuples_of m set)) (demanded_sets m) set [] 0 within)
    ∙ ap (λ all. length (filter (λ mark. mark) (take (length (tuples_of m (get_or (demanded_sets m) set []))) (drop (base_of m set) all)))) are
    ∙ ap (λ part. length (filter (λ mark. mark) part)) (set_marks m test set within) ∙ count_marks test (tuples_of m (get_or (demanded_sets m) set []))

-- one more set
pub set_added : (m : ModelView) (plan : PlanView) (rows : List (List (Option ℕ))) (marks : List Bool) (set servable covered : ℕ) (before after : SetFigures)
    → plan ≡ plan_of m → set < length plan.sets → marks ≡ map (defined.is_served m (defined.tests_of m rows)) (demanded_tuples m)
    → before ≡ set_figures m rows (take set (demanded_sets m)) → servable ≡ defined.servable m (set_at plan set) → covered ≡ marked plan marks set
    → after ≡ with_set before servable covered → after ≡ set_figures m rows (take (set + 1) (demanded_sets m))
set_added m plan rows marks set servable covered before after same within are before_is servable_is marked_is after_is =
    subst (λ (p : PlanView). set < length p.sets → servable ≡ defined.servable m (set_at p set) → covered ≡ marked p marks set
    → after ≡ set_figures m rows (take (set + 1) (demanded_sets m))) (sym same) added within servable_is marked_is
  where
    added : set < length (demanded_sets m) → servable ≡ defined.servable m (get_or (demanded_sets m) set []) → covered ≡ marked (plan_of m) marks set
        → after ≡ set_figures m rows (take (set + 1) (demanded_sets m))
    added inside served marked_is =
        let here : List ℕ = get_or (demanded_sets m) set [] in
        after_is ∙ ap (λ figures. with_set figures servable covered) before_is
        ∙ ap (λ n. with_set (set_figures m rows (take set (demanded_sets m))) n covered) served
        ∙ ap (λ n. with_set (set_figures m rows (take set (demanded_sets m))) (defined.servable m here) n) (marked_is ∙ covered_is m rows marks set inside are)
        ∙ sym (figures_more m rows (demanded_sets m) set inside)

-- the figures with these numbers
abbrev pub joined : RowCounts → SetFigures → ℕ → ℕ → defined.Figures
joined counts sets n tuples = record {
  tests = counts.tests;
  incomplete = counts.incomplete;
  invalid = counts.invalid;
  sets = n;
  tuples = tuples;
  servable = sets.servable;
  covered = sets.covered;
  complete = sets.complete;
  at75 = sets.at75;
  at50 = sets.at50;
  at25 = sets.at25;
}

-- how many tuples the sets of a plan have
pub tuples_are : (m : ModelView) (plan : PlanView) → plan ≡ plan_of m → sum plan.sizes ≡ length (demanded_tuples m)
tuples_are m plan same = ap (λ (p : PlanView). sum p.sizes) same ∙ all_places m

pub figures_are : (m : ModelView) (plan : PlanView) (rows : List (List (Option ℕ))) (counts : RowCounts) (sets : SetFigures) (n tuples : ℕ) → plan ≡ plan_of m
    → counts ≡ row_counts m rows → sets ≡ set_figures m rows (demanded_sets m) → n ≡ length plan.sets → tuples ≡ sum plan.sizes
    → joined counts sets n tuples ≡ defined.figures m rows
figures_are m plan rows counts sets n tuples same counts_is sets_is n_is tuples_is =
    ap (λ k. joined k sets n tuples) counts_is ∙ ap (λ f. joined (row_counts m rows) f n tuples) sets_is
    ∙ ap (λ k. joined (row_counts m rows) (set_figures m rows (demanded_sets m)) k tuples) (n_is ∙ ap (λ (p : PlanView). length p.sets) same)
    ∙ ap (λ k. joined (row_counts m rows) (set_figures m rows (demanded_sets m)) (length (demanded_sets m)) k) (tuples_is ∙ tuples_are m plan same)
