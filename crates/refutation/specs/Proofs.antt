-- What proofs, omissions and tokens of the code mean. (This project's rule.)
use Rattle.std.specs.Prelude.{List, map}
use Rattle.definitions.specs.believed.ProofText as texts
use Rattle.definitions.specs.believed.Refutation as tokens
use Rattle.refutation.specs.declared.omissions.Omission.{Omission}
use Rattle.refutation.specs.declared.omissions.ProofForm.{ProofForm}
use Rattle.refutation.specs.declared.token.TreeToken.{TreeToken}
use Rattle.refutation.specs.declared.token.TreeToken.TheVariants.{Branch, ByRule, ByNegative, ByOmission}

-- what a token of the code means
abbrev pub meant : TreeToken → tokens.Token
meant (Branch p) = tokens.Branch p
meant (ByRule k) = tokens.ByRule k
meant ByNegative = tokens.ByNegative
meant (ByOmission n) = tokens.ByOmission n

-- an omission with the meaning of its tokens
abbrev pub omission_meant : Omission → texts.Omission
omission_meant omission = record { tuple = omission.tuple; tree = map meant omission.tree }

-- the omissions of a proof, with their form
pub record ProofView : Type 0 where
  pub form : ProofForm
  pub omissions : List Omission
