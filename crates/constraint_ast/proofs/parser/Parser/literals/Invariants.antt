use Rattle.std.proofs.Common.{◌≡◌, ℕ, ◌<◌, List, [], length}
use Rattle.constraint_ast.specs.believed.Grammar.{most_open}
use Rattle.constraint_ast.specs.Machine.{Around, Itemed, Opened, run}
use Rattle.constraint_ast.proofs.parser.Parser.literals.Given as goal

abbrev pub invariant-loop-more : goal.invariant-loop-more
invariant-loop-more l = record {
  reads : (around : Around) (line : ℕ) (name : List ℕ) → run most_open l.self.last l.fn.tokens (Opened around line name [])
      ≡ run most_open l.self.last l.ahead (Itemed around line name l.literals);
  shorter : length l.ahead < length l.fn.tokens;
}

abbrev pub decreases-loop-more : goal.decreases-loop-more
decreases-loop-more l = length l.ahead
