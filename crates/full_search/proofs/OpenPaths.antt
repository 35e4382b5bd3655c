-- Paths that no row contains.
use Rattle.std.proofs.Common.{◌≡◌, ℕ, suc, ◌+◌, ◌-◌, ◌<◌, Bool, true, false, not, List, [], ◌∷◌, length, Option, get_or, inl, inr, ◌∙◌, sym, ap, refl, arith}
use Rattle.std.specs.List.{list_all}
use Rattle.std.proofs.lemmas.Bool.{false≢true, and_cases}
use Rattle.cov_model.specs.declared.truth.Truth.{Truth}
use Rattle.cov_model.specs.declared.truth.Truth.TheVariants.{Yes, No, Unknown}
use Rattle.cov_model.specs.believed.Views.{RuleView}
use Rattle.cov_model.specs.believed.Kleene.{body_truth}
use Rattle.cov_model.specs.believed.Meaning.{body_holds}
use Rattle.cov_model.specs.Sound.{no_rule}
use Rattle.cov_model.proofs.CellLemmas.{contains-from, contains-refl}
use Rattle.cov_model.proofs.KnownLemmas.{yes_stays}
use Rattle.compiled_rules.specs.Codes.{is_yes}
use Rattle.feasibility.specs.Tree.{TreeView}
use Rattle.full_search.specs.Reasons.{HasNoRow, IsPart}
use Rattle.full_search.specs.Witnesses.{BreaksOne, IsWitness}
use Rattle.full_search.specs.declared.witness.Witness.{Witness}

-- where not all pass, there is a place of one that doesn't
fails_at : {X : Type 0} (test : X → Bool) (xs : List X) (d : X) → list_all test xs ≡ false → (i : ℕ) × (i < length xs) × (test (get_or xs i d) ≡ false)
fails_at test [] d some = absurd (false≢true (sym some))
fails_at test (x ∷ xs) d some =
    elim (and_cases (test x) (list_all test xs) some) [
      | inl here ↦ (0, omega arith, here)
      | inr there ↦ let later = fails_at test xs d there in (suc later.0, omega (arith, later.1), later.2)
    ]

-- a constraint that doesn't hold on a row is broken
not_yes : (truth : Truth) → (truth ≡ Yes → ⊥) → not (is_yes truth) ≡ true
not_yes Yes away = absurd (away refl)
not_yes No away = refl
not_yes Unknown away = refl

-- a row of listed values that contains such a path breaks a constraint
pub breaks_one : (tree : TreeView) (cells : List (Option ℕ)) (witness : Witness) → HasNoRow tree cells → IsWitness tree witness → IsPart cells witness.row
    → BreaksOne tree.model witness.row
breaks_one tree cells witness none is part =
    let row = witness.row in
    let found = fails_at (λ (rule : RuleView). body_holds tree.model rule.body row) tree.model.rules no_rule
    (none row is.row (contains-from row cells part.same)) in
    let place : (found.0 + 1) - 1 ≡ found.0 = omega arith in
    record {
      number = found.0 + 1;
      some = omega arith;
      most = omega (arith, found.1);
      broken = ap (λ (i : ℕ). not (is_yes (body_truth tree.model (get_or tree.model.rules i no_rule).body row))) place
          ∙ not_yes (body_truth tree.model (get_or tree.model.rules found.0 no_rule).body row) (λ yes.
          false≢true (sym found.2 ∙ yes_stays tree.model (get_or tree.model.rules found.0 no_rule).body row row (contains-refl row) yes));
    }
