-- Compiled constraints that a model can evaluate: what they compare by it is a sound term of it. (This project's
-- rule.)
use Rattle.std.specs.Prelude.{List}
use Rattle.cov_model.specs.declared.constraint.Term.TheVariants.{ParamIs}
use Rattle.cov_model.specs.declared.parameter.Param.{Param}
use Rattle.cov_model.specs.believed.Sound.{IsSoundTerm}
use Rattle.compiled_rules.specs.declared.code.Code.{Code, OneParameter, TwoParameters, Comparison, Not', All', Any', Row_of-Code, end_of-Code, more_of-Code}
use Rattle.compiled_rules.specs.declared.code.BodyCode.{BodyCode}
use Rattle.compiled_rules.specs.declared.code.BodyCode.TheVariants.{Plain, IfThen, IfElse}

-- a predicate
abbrev mutual
  pub IsSoundCode : List Param → Code → Type 0
  IsSoundCode params (OneParameter p start) = Unit {0}
  IsSoundCode params (TwoParameters p q start width) = Unit {0}
  IsSoundCode params (Comparison p relation q) = IsSoundTerm params (ParamIs p relation q)
  IsSoundCode params (Not' pointer inner) = IsSoundCode params inner
  IsSoundCode params (All' n parts) = AreSoundRows params parts
  IsSoundCode params (Any' n parts) = AreSoundRows params parts

  pub AreSoundRows : {n : _} → List Param → Row_of-Code n → Type 0
  AreSoundRows params end_of-Code = Unit {0}
  AreSoundRows params (more_of-Code part rest) = IsSoundCode params part × AreSoundRows params rest

-- a constraint
abbrev pub IsSoundBodyCode : List Param → BodyCode → Type 0
IsSoundBodyCode params (Plain code) = IsSoundCode params code
IsSoundBodyCode params (IfThen premise code) = IsSoundCode params premise × IsSoundCode params code
IsSoundBodyCode params (IfElse premise code other) = IsSoundCode params premise × IsSoundCode params code × IsSoundCode params other
