use Rattle.std.proofs.Common.{◌≡◌, length}
use Rattle.acts_front.specs.Reading.{tokens_seen}
use Rattle.acts_front.specs.believed.Tokens.{tokens_behind, tokens_found}
use Rattle.acts_front.proofs.TokenLists.{more_tokens}
use Rattle.acts_front.proofs.token.tokens_found.Given as goal

abbrev pub invariant-loop-rest : goal.invariant-loop-rest
invariant-loop-rest l = tokens_found l.fn.text ≡ more_tokens (tokens_seen l.tokens.items) (tokens_behind 0 l.ahead)

abbrev pub decreases-loop-rest : goal.decreases-loop-rest
decreases-loop-rest l = length l.ahead
