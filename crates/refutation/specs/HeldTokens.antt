-- The tokens that a tree holds, alone or with others.
use Rattle.std.specs.Prelude.{List}
use Rattle.std.specs.Arc.{arc_value}
use Rattle.refutation.specs.declared.token.Tokens.{Tokens}
use Rattle.refutation.specs.declared.token.Tokens.TheVariants.{Own, Shared}
use Rattle.refutation.specs.declared.token.TreeToken.{TreeToken}

abbrev pub held_tokens : Tokens → List TreeToken
held_tokens (Own list) = list.items
held_tokens (Shared list) = (arc_value list).items
