-- Constraints as plain trees, as contracts see them. (PICT's guide.)
use Rattle.std.specs.Prelude.{ℕ}
use Rattle.cov_model.specs.declared.constraint.Term as terms

-- a predicate: a term, a negation, a conjunction or a disjunction
mutual
  pub data PredView : Type 0 where
    Leaf : terms.Term → PredView
    Negated : PredView → PredView
    Each : PredViews → PredView
    Either : PredViews → PredView

  pub data PredViews : Type 0 where
    End : PredViews
    More : PredView → PredViews → PredViews

-- what a constraint demands, and a constraint
pub data BodyView : Type 0 where
  Plain : PredView → BodyView
  IfThen : PredView → PredView → BodyView
  IfElse : PredView → PredView → PredView → BodyView

pub record RuleView : Type 0 where
  pub number : ℕ
  pub line : ℕ
  pub body : BodyView
