-- The marks of the demanded tuples of a set, and the coverage of one set more.
use Rattle.std.proofs.Common.{◌≡◌, ℕ, ◌+◌, ◌<◌, Bool, true, false, cond, List, [], map, length, get_or, take, drop, sum_by, Option, None, Some, refl, ◌∙◌, sym, ap, subst, arith}
use Rattle.std.specs.List.{filter}
use Rattle.std.specs.Option.{option_map}
use Rattle.std.specs.Prelude.{IfSome, nat_lt, sum}
use Rattle.std.proofs.lemmas.List.{drop_all, drop_more, get_or-map, length-map, take_all}
use Rattle.std.proofs.lemmas.List.Sums.{sum_by_more}
use Rattle.cov_model.specs.believed.Sound.{ModelView}
use Rattle.definitions.specs.believed.Demand.{demanded_sets, demanded_tuples, tuples_of}
use Rattle.definitions.specs.believed.Figures.{covered, is_served, tests_of}
use Rattle.tuple_index.specs.Plan.{PlanView, plan_of, set_at}
use Rattle.shared_marks.specs.Served.{base_of}
use Rattle.shared_marks.proofs.PlaceLemmas.{all_places}
use Rattle.shared_marks.proofs.SetMarks.{set_marks}
use Rattle.row_text.specs.declared.row_file.FileRow.{FileRow}
use Rattle.suite_facts.specs.Coverages.{IsCoverageOf, larger, set_seen, with_set}
use Rattle.suite_facts.specs.believed.Coverages.{numbers_of}
use Rattle.suite_facts.specs.Facts.{AreMarksOf}
use Rattle.suite_facts.specs.believed.Facts.{covered_of, largest_from, largest_of, more_covered}
use Rattle.suite_facts.specs.declared.coverage.Coverage.{Coverage}
use Rattle.suite_facts.specs.declared.coverage.LargestSet.{LargestSet}
use Rattle.suite_facts.specs.declared.coverage.SuiteNumbers.{SuiteNumbers}
use Rattle.value_text.proofs.ListLemmas.{count_marks}

-- how many marks of a set of a plan are set
abbrev marked : PlanView → List Bool → ℕ → ℕ
marked plan marks set = length (filter (λ mark. mark) (take (get_or plan.sizes set 0) (drop (sum (take set plan.sizes)) marks)))

-- so many tuples of the set are covered
covered_is : (m : ModelView) (rows : List (List (Option ℕ))) (marks : List Bool) (set : ℕ) → set < length (demanded_sets m)
    → AreMarksOf m rows marks → marked (plan_of m) marks set ≡ covered m rows (get_or (demanded_sets m) set [])
covered_is m rows marks set within are =
    let test : List (Option ℕ) → Bool = is_served m (tests_of m rows) in
    ap (λ n. length (filter (λ mark. mark) (take n (drop (base_of m set) marks)))) (get_or-map (λ set. length (tuples_of m set)) (demanded_sets m) set [] 0 within)
    ∙ ap (λ all. length (filter (λ mark. mark) (take (length (tuples_of m (get_or (demanded_sets m) set []))) (drop (base_of m set) all)))) are
    ∙ ap (λ part. length (filter (λ mark. mark) part)) (set_marks m test set within) ∙ count_marks test (tuples_of m (get_or (demanded_sets m) set []))

pub covered_counted : (m : ModelView) (plan : PlanView) (rows : List (List (Option ℕ))) (marks : List Bool) (set base size result : ℕ) → plan ≡ plan_of m
    → set < length plan.sets → base ≡ sum (take set plan.sizes) → size ≡ get_or plan.sizes set 0
    → result ≡ length (filter (λ mark. mark) (take size (drop base marks))) → AreMarksOf m rows marks → result ≡ covered m rows (set_at plan set)
covered_counted m plan rows marks set base size result same within based sized counted are =
    counted ∙ ap (λ n. length (filter (λ mark. mark) (take n (drop base marks)))) sized
    ∙ ap (λ n. length (filter (λ mark. mark) (take (get_or plan.sizes set 0) (drop n marks)))) based
    ∙ subst (λ (p : PlanView). set < length p.sets → marked p marks set ≡ covered m rows (set_at p set)) (sym same)
    (λ inside. covered_is m rows marks set inside are) within

-- as many places are marked as there are demanded tuples
pub as_many : (m : ModelView) (plan : PlanView) (rows : List (List (Option ℕ))) (marks : List Bool) → plan ≡ plan_of m → AreMarksOf m rows marks → length marks ≡ sum plan.sizes
as_many m plan rows marks same are =
    ap length are ∙ length-map (demanded_tuples m) (is_served m (tests_of m rows)) ∙ sym (ap (λ (p : PlanView). sum p.sizes) same ∙ all_places m)

-- the coverage of the sets before one
pub record IsCoverageTo (m : ModelView) (rows : List (List (Option ℕ))) (set : ℕ) (coverage : Coverage) : Type 0 where
  pub counted : coverage.covered ≡ sum_by (covered m rows) (take set (demanded_sets m))
  pub best : largest_from (covered m rows) (option_map (set_seen m) coverage.largest) (drop set (demanded_sets m)) ≡ largest_of m rows
  pub exists : IfSome coverage.largest (λ found. found.set < set)

-- of none
pub coverage_none : (m : ModelView) (rows : List (List (Option ℕ))) → IsCoverageTo m rows 0 (record { covered = 0; largest = None })
coverage_none m rows = record { counted = refl; best = refl; exists = tt }

-- the larger of two sets
larger_seen : (m : ModelView) (best : Option LargestSet) (here : LargestSet) → option_map (set_seen m) (larger best here) ≡ more_covered (option_map (set_seen m) best) (set_seen m here)
larger_seen m None here = refl
larger_seen m (Some before) here = by_test (nat_lt before.covered here.covered)
  where
    by_test : (b : Bool) → option_map (set_seen m) (cond b (Some here) (Some before)) ≡ cond b (Some (set_seen m here)) (Some (set_seen m before))
    by_test true = refl
    by_test false = refl

larger_exists : (set : ℕ) (best : Option LargestSet) (here : ℕ) → IfSome best (λ found. found.set < set)
    → IfSome (larger best (record { set = set; covered = here })) (λ found. found.set < set + 1)
larger_exists set None here exists = omega arith
larger_exists set (Some before) here exists = by_test (nat_lt before.covered here)
  where
    by_test : (b : Bool) → IfSome (cond b (Some (record { set = set; covered = here })) (Some before)) (λ (found : LargestSet). found.set < set + 1)
    by_test true = omega arith
    by_test false = omega (arith, exists)

-- one set more
pub coverage_more : (m : ModelView) (rows : List (List (Option ℕ))) (set here : ℕ) (before : Coverage) → set < length (demanded_sets m)
    → here ≡ covered m rows (set_at (plan_of m) set) → IsCoverageTo m rows set before → IsCoverageTo m rows (set + 1) (with_set before set here)
coverage_more m rows set here before within is so_far = record {
  counted =
      ap (λ n. n + here) so_far.counted ∙ ap (λ n. sum_by (covered m rows) (take set sets) + n) is
      ∙ sym (sum_by_more (covered m rows) sets set [] within);
  best =
      ap (λ best. largest_from (covered m rows) best (drop (set + 1) sets))
      (larger_seen m before.largest (record { set = set; covered = here })
      ∙ ap (λ n. more_covered (option_map (set_seen m) before.largest) (set_at (plan_of m) set, n)) is)
      ∙ sym (ap (largest_from (covered m rows) (option_map (set_seen m) before.largest)) (drop_more sets set [] within))
      ∙ so_far.best;
  exists = larger_exists set before.largest here so_far.exists;
}
  where
    sets : List (List ℕ)
    sets = demanded_sets m

-- all sets
pub coverage_all : (m : ModelView) (rows : List (List (Option ℕ))) (set : ℕ) (coverage : Coverage) → set ≡ length (demanded_sets m)
    → IsCoverageTo m rows set coverage → IsCoverageOf m rows coverage
coverage_all m rows set coverage ended so_far = record {
  covered = so_far.counted ∙ ap (sum_by (covered m rows)) (take_all set (demanded_sets m) (omega (arith, ended)));
  largest =
      sym (ap (largest_from (covered m rows) (option_map (set_seen m) coverage.largest)) (drop_all set (demanded_sets m) (omega (arith, ended)))) ∙ so_far.best;
  exists = found_before coverage.largest so_far.exists;
}
  where
    found_before : (best : Option LargestSet) → IfSome best (λ found. found.set < set) → IfSome best (λ found. found.set < length (demanded_sets m))
    found_before None exists = tt
    found_before (Some found) exists = omega (arith, exists, ended)

-- the same by the plan
pub coverage_step : (m : ModelView) (plan : PlanView) (rows : List (List (Option ℕ))) (set here : ℕ) (before after : Coverage) → plan ≡ plan_of m
    → set < length plan.sets → here ≡ covered m rows (set_at plan set) → after ≡ with_set before set here
    → IsCoverageTo m rows set before → IsCoverageTo m rows (set + 1) after
coverage_step m plan rows set here before after same within is added so_far =
    subst (IsCoverageTo m rows (set + 1)) (sym added)
    (subst (λ (p : PlanView). set < length p.sets → here ≡ covered m rows (set_at p set) → IsCoverageTo m rows (set + 1) (with_set before set here)) (sym same)
    (λ inside there. coverage_more m rows set here before inside there so_far) within is)

-- the numbers of a suite
abbrev pub built : ℕ → ℕ → ℕ → ℕ → ℕ → SuiteNumbers
built tests params sets demanded covered = record { tests = tests; params = params; sets = sets; demanded = demanded; covered = covered }

pub numbers_are : (m : ModelView) (plan : PlanView) (rows : List FileRow) (covered tests params sets demanded : ℕ) → plan ≡ plan_of m
    → covered ≡ covered_of m (map (λ row. row.cells) rows) → tests ≡ length rows → params ≡ length m.params → sets ≡ length plan.sets → demanded ≡ sum plan.sizes
    → built tests params sets demanded covered ≡ numbers_of m (map (λ row. row.cells) rows)
numbers_are m plan rows covered tests params sets demanded same covers many wide all_sets all_tuples =
    let as_rows : tests ≡ length (map (λ (row : FileRow). row.cells) rows) = many ∙ sym (length-map rows (λ (row : FileRow). row.cells)) in
    let in_sets : sets ≡ length (demanded_sets m) = all_sets ∙ ap (λ (p : PlanView). length p.sets) same in
    let in_tuples : demanded ≡ length (demanded_tuples m) = all_tuples ∙ ap (λ (p : PlanView). sum p.sizes) same ∙ all_places m in
    cc
