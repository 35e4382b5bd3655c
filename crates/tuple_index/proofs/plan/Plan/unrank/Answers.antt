use Rattle.std.proofs.Common.{◌≡◌, subst, length, Some}
use Rattle.std.specs.Prelude.{slice_get}
use Rattle.tuple_index.specs.Plan.{set_at}
use Rattle.tuple_index.specs.Places.{RisesFrom, tuple_lists}
use Rattle.tuple_index.proofs.ChoiceAt.{choice_at}
use Rattle.tuple_index.proofs.RankLemmas.{slice_get-tuples_of}
use Rattle.tuple_index.proofs.plan.Plan.unrank.Goals as goal

pub returns : goal.returns
returns c =
    let plan = c.args.self.now in
    let rises : RisesFrom 0 (length plan.positives) (set_at plan c.args.set) =
    subst (RisesFrom 0 (length plan.positives)) c.kept_members-members.ensures.value c.kept_members-members.ensures.rising in
    let here = c.slice_holding-slice.ensures.holds c.put_values.new.into c.put_values.ensures in
    let there : slice_get (tuple_lists plan (set_at plan c.args.set)) c.args.rank ≡ Some c.put_values.new.into =
    subst (λ set. slice_get (tuple_lists plan set) c.args.rank ≡ Some c.put_values.new.into) c.kept_members-members.ensures.value here in
    record {
      tuple = λ m same. slice_get-tuples_of m plan (set_at plan c.args.set) c.args.rank c.put_values.new.into same rises there;
      choice = λ m same. choice_at m plan (set_at plan c.args.set) c.put_values.new.into c.args.rank (length plan.positives) same rises there;
    }
