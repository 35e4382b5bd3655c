use Rattle.std.proofs.Common.{◌≡◌, ◌∙◌, ap, arith, length, sym, subst}
use Rattle.std.specs.Prelude.{slice_get}
use Rattle.tuple_index.specs.Plan.{set_at}
use Rattle.definitions.specs.believed.Demand.{tuples_of}
use Rattle.tuple_index.specs.Places.{RisesFrom, rank_of}
use Rattle.tuple_index.proofs.RankLemmas.{choice_long, rank_inside, rank_within, slice_get-rank_of, slice_get-tuples_of}
use Rattle.tuple_index.proofs.plan.Plan.rank.Goals as goal

pub place_of_values-requires-clause-as_long : goal.place_of_values-requires-clause-as_long
place_of_values-requires-clause-as_long c =
    choice_long c.args.self.now (set_at c.args.self.now c.args.set) c.args.values.now c.requires.choice.exist ∙ ap length (sym c.kept_members.ensures.value)

is_exact : (c : goal.After-place_of_values) → c.place_of_values.result ≡ rank_of c.args.self.now (set_at c.args.self.now c.args.set) c.args.values.now
is_exact c =
    let plan = c.args.self.now in
    let rises : RisesFrom 0 (length plan.positives) (set_at plan c.args.set) =
    subst (RisesFrom 0 (length plan.positives)) c.kept_members.ensures.value c.kept_members.ensures.rising in
    let small = rank_within plan c.args.set c.args.values.now (length plan.positives) c.kept_members.ensures.kept c.requires.set rises c.requires.choice in
    let told_rank = ap (λ set. rank_of plan set c.args.values.now) c.kept_members.ensures.value in
    omega (arith, small, c.place_of_values.ensures, told_rank)

pub overflow_cast-result : goal.overflow_cast-result
overflow_cast-result c =
    let plan = c.args.self.now in
    let rises : RisesFrom 0 (length plan.positives) (set_at plan c.args.set) =
    subst (RisesFrom 0 (length plan.positives)) c.kept_members.ensures.value c.kept_members.ensures.rising in
    let small = rank_within plan c.args.set c.args.values.now (length plan.positives) c.kept_members.ensures.kept c.requires.set rises c.requires.choice in
    omega (arith, small, is_exact c)

pub returns-clause-tuple : goal.returns-clause-tuple
returns-clause-tuple c m same =
    let plan = c.args.self.now in
    let rises : RisesFrom 0 (length plan.positives) (set_at plan c.args.set) =
    subst (RisesFrom 0 (length plan.positives)) c.kept_members.ensures.value c.kept_members.ensures.rising in
    ap (slice_get (tuples_of m (set_at plan c.args.set))) (is_exact c)
    ∙ slice_get-tuples_of m plan (set_at plan c.args.set) (rank_of plan (set_at plan c.args.set) c.args.values.now) c.args.values.now same rises
    (slice_get-rank_of plan (set_at plan c.args.set) c.args.values.now (length plan.positives) rises c.requires.choice)

pub returns-clause-within : goal.returns-clause-within
returns-clause-within c =
    let plan = c.args.self.now in
    let rises : RisesFrom 0 (length plan.positives) (set_at plan c.args.set) =
    subst (RisesFrom 0 (length plan.positives)) c.kept_members.ensures.value c.kept_members.ensures.rising in
    let inside = rank_inside plan c.args.set c.args.values.now (length plan.positives) c.kept_members.ensures.kept c.requires.set rises c.requires.choice in
    omega (arith, inside, is_exact c)
