use Rattle.std.proofs.Common.{◌≡◌, ◌++◌, ◌∙◌, ℕ, Bool, true, List, Option, All, find, length, sum, sum_by, ap, sym, subst, arith}
use Rattle.std.proofs.lemmas.List.{length-map}
use Rattle.std.proofs.lemmas.List.Elements.{All-map}
use Rattle.std.proofs.lemmas.Result.{err_from_is_err_and}
use Rattle.cov_model.specs.declared.slice.Slice.{Slice}
use Rattle.cov_model.specs.Fits.{FitsModel}
use Rattle.cov_model.specs.believed.Slices.{slices}
use Rattle.definitions.specs.believed.Completion.{has_slice}
use Rattle.definitions.specs.believed.Growth.{slices_growth}
use Rattle.definitions.specs.believed.Search.{exceeds, question_cost}
use Rattle.definitions.specs.believed.Seeds.{asked_seeds}
use Rattle.definitions.specs.SliceRows.{IsSliceOf}
use Rattle.row_text.specs.RowFiles.{row_seen, seeds_seen}
use Rattle.tuple_index.specs.Plan.{PlanView}
use Rattle.ipog_grow.specs.Omissions.{met_count}
use Rattle.ipog_grow.proofs.Beginning.{slices_exist, kept-fit, kept-few, kept-short}
use Rattle.ipog_grow.proofs.MetCount.{few_in_slices}
use Rattle.ipog_grow.proofs.Splitting.{ends-by}
use Rattle.ipog_grow.proofs.Spending.{find-later, find-earlier}
use Rattle.ipog_grow.proofs.generating.generate.Goals as goal

pub returns-in_err-split-clause-asked : goal.returns-in_err-split-clause-asked
returns-in_err-split-clause-asked g c =
    let p = err_from_is_err_and c.from_residual.result c.from_residual.ensures.1 in
    let over : List (Option ℕ) → Bool = λ cells. exceeds c.args.opts.now.effort (question_cost c.args.model.now c.args.prefs.now cells) in
    let first : List (List (Option ℕ)) = asked_seeds c.args.model.now (seeds_seen c.args.seeds.now) in
    let later : List (List (Option ℕ)) = (slices_growth c.args.model.now c.args.prefs.now (seeds_seen c.args.seeds.now) (slices c.args.model.now)).asked in
    rw (p.1, p.2) (ends-by c.in_err-split.field-0.0 (find over first) (find over (first ++ later)) (λ q spent. find-earlier over q first later spent)
    c.in_err-split.ensures.asked)

pub grow_slices-requires-clause-input : goal.grow_slices-requires-clause-input
grow_slices-requires-clause-input g c _ _ = record {
  plan = c.requires.plan;
  orders = c.requires.orders;
  fit = subst (λ (rows : List (List (Option ℕ))). All (FitsModel c.args.model.now) rows) (sym c.in_ok-split.ensures.kept)
      (kept-fit c.args.model.now (seeds_seen c.args.seeds.now)
      (All-map (λ seed. FitsModel c.args.model.now seed.1) row_seen c.args.seeds.now.rows c.requires.seeds));
  few = subst (λ (rows : List (List (Option ℕ))). All (λ seed. has_slice c.args.model.now seed ≡ true) rows) (sym c.in_ok-split.ensures.kept)
      (kept-few c.args.model.now (seeds_seen c.args.seeds.now));
}

pub grow_slices-requires-clause-slices : goal.grow_slices-requires-clause-slices
grow_slices-requires-clause-slices g c _ _ =
    subst (λ (parts : List Slice). All (IsSliceOf c.args.model.now) parts) (sym (c.as_slice.ensures.value ∙ c.in-Ok.ensures)) (slices_exist c.args.model.now)

pub grow_slices-requires-clause-few : goal.grow_slices-requires-clause-few
grow_slices-requires-clause-few g c _ _ =
    omega (
      arith,
      ap (sum_by (met_count c.args.model.now)) (c.as_slice.ensures.value ∙ c.in-Ok.ensures),
      few_in_slices c.args.model.now,
      ap (λ (plan : PlanView). sum plan.sizes) c.requires.plan,
      c.assert_invariant.ensures.within,
    )

pub returns-in_err-grow_slices-clause-asked : goal.returns-in_err-grow_slices-clause-asked
returns-in_err-grow_slices-clause-asked g c =
    let p = err_from_is_err_and c.from_residual-in_err-grow_slices.result c.from_residual-in_err-grow_slices.ensures.1 in
    let over : List (Option ℕ) → Bool = λ cells. exceeds c.args.opts.now.effort (question_cost c.args.model.now c.args.prefs.now cells) in
    let first : List (List (Option ℕ)) = asked_seeds c.args.model.now (seeds_seen c.args.seeds.now) in
    let asked : List Slice → List (List (Option ℕ)) = λ parts. (slices_growth c.args.model.now c.args.prefs.now (seeds_seen c.args.seeds.now) parts).asked in
    let parts : c.as_slice.result.now ≡ slices c.args.model.now = c.as_slice.ensures.value ∙ c.in-Ok.ensures in
    rw (p.1, p.2) (ends-by c.in_err-grow_slices.field-0.0 (find over (asked c.as_slice.result.now)) (find over (first ++ asked (slices c.args.model.now)))
    (λ q spent. find-later over first (asked (slices c.args.model.now)) c.in_ok-split.ensures.asked ∙ ap (λ ss. find over (asked ss)) (sym parts) ∙ spent)
    (c.in_err-grow_slices.ensures.asked (seeds_seen c.args.seeds.now) c.in_ok-split.ensures.kept))

pub overflow_cast-kept : goal.overflow_cast-kept
overflow_cast-kept g c =
    omega (
      arith,
      c.len-kept.ensures,
      ap length c.in_ok-split.ensures.kept,
      kept-short c.args.model.now (seeds_seen c.args.seeds.now),
      length-map c.args.seeds.now.rows row_seen,
      c.requires.few,
    )

pub returns-clause-asked : goal.returns-clause-asked
returns-clause-asked g c =
    let over : List (Option ℕ) → Bool = λ cells. exceeds c.args.opts.now.effort (question_cost c.args.model.now c.args.prefs.now cells) in
    let first : List (List (Option ℕ)) = asked_seeds c.args.model.now (seeds_seen c.args.seeds.now) in
    let asked : List Slice → List (List (Option ℕ)) = λ parts. (slices_growth c.args.model.now c.args.prefs.now (seeds_seen c.args.seeds.now) parts).asked in
    let parts : c.as_slice.result.now ≡ slices c.args.model.now = c.as_slice.ensures.value ∙ c.in-Ok.ensures in
    find-later over first (asked (slices c.args.model.now)) c.in_ok-split.ensures.asked ∙ ap (λ ss. find over (asked ss)) (sym parts)
    ∙ c.in_ok-grow_slices.ensures.asked (seeds_seen c.args.seeds.now) c.in_ok-split.ensures.kept
