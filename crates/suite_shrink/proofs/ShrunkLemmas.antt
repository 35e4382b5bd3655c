-- The distinct ones of valid rows are a shorter suite.
use Rattle.std.proofs.Common.{◌≡◌, ℕ, true, List, All, Option, ◌∙◌, sym, subst}
use Rattle.std.proofs.lemmas.List.Elements.{All-weaker}
use Rattle.cov_model.specs.Fits.{FitsModel}
use Rattle.cov_model.specs.believed.Rows.{contains}
use Rattle.cov_model.specs.believed.Sound.{ModelView}
use Rattle.cov_model.specs.believed.Valid.{is_valid, serves}
use Rattle.cov_model.proofs.RowLemmas.{FitsModel-is_row}
use Rattle.definitions.specs.believed.Demand.{demanded_tuples}
use Rattle.definitions.specs.believed.Figures.{is_served}
use Rattle.definitions.specs.believed.Seeds.{distinct}
use Rattle.definitions.proofs.Members.{Has, all_members, any_member, member_of_all, of_any}
use Rattle.definitions.proofs.Once.{apart_pairs, distinct_apart, few_distinct, has_distinct, of_distinct}
use Rattle.definitions.proofs.PartialRowLemmas.{same_row_is}
use Rattle.shared_marks.proofs.OwnTupleLemmas.{of_valid}
use Rattle.shorter_suites.specs.believed.Shrinking.{IsShrunk, is_contained}

-- valid rows fit the model
pub valid_fit : (m : ModelView) (rows : List (List (Option ℕ))) → All (λ row. is_valid m row ≡ true) rows → All (FitsModel m) rows
valid_fit m rows valid =
    All-weaker (λ row. is_valid m row ≡ true) (FitsModel m) (λ row holds. FitsModel-is_row m row (of_valid m row holds).complete) rows valid

-- each valid row is one of the distinct ones
distinct_has : (m : ModelView) (given : List (List (Option ℕ))) → All (FitsModel m) given → (row : List (Option ℕ)) → Has given row → Has (distinct given) row
distinct_has m given fit row has =
    let kept = has_distinct given row has in
    let own = member_of_all (FitsModel m) given row fit has in
    let other = member_of_all (FitsModel m) given kept.0 fit (of_distinct given kept.0 kept.1) in
    subst (Has (distinct given)) (same_row_is kept.0 row (other.as_long ∙ sym own.as_long) kept.2) kept.1

pub distinct_shrunk : (m : ModelView) (given seeds : List (List (Option ℕ))) → All (λ row. is_valid m row ≡ true) given
    → IsShrunk m given seeds (distinct given)
distinct_shrunk m given seeds valid =
    let fit = valid_fit m given valid in
    record {
      valid = all_members (λ row. is_valid m row ≡ true) (distinct given) (λ row has.
          member_of_all (λ r. is_valid m r ≡ true) given row valid (of_distinct given row has));
      serves = all_members (λ tuple. is_served m given tuple ≡ true → is_served m (distinct given) tuple ≡ true) (demanded_tuples m) (λ tuple _ served.
          let one = of_any (λ row. serves m row tuple) given served in
          any_member (λ row. serves m row tuple) (distinct given) one.0 (distinct_has m given fit one.0 one.1) one.2);
      few = few_distinct given;
      distinct = apart_pairs (distinct given) (distinct_apart given);
      kept = all_members (λ seed. is_contained given seed ≡ true → is_contained (distinct given) seed ≡ true) seeds (λ seed _ contained.
          let one = of_any (λ row. contains row seed) given contained in
          any_member (λ row. contains row seed) (distinct given) one.0 (distinct_has m given fit one.0 one.1) one.2);
    }
