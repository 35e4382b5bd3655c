use Rattle.std.proofs.Common.{◌≡◌, length, map}
use Rattle.constraint_ast.specs.believed.Grammar.{most_open}
use Rattle.constraint_ast.specs.Trees.{rule_tree}
use Rattle.constraint_ast.specs.Machine.{Between, run, with_rules}
use Rattle.constraint_ast.proofs.parser.Parser.rules.Given as goal

abbrev pub invariant-loop-ahead : goal.invariant-loop-ahead
invariant-loop-ahead l = run most_open l.self.last l.fn.tokens Between ≡ with_rules (map rule_tree l.rules) (run most_open l.self.last l.ahead Between)

abbrev pub decreases-loop-ahead : goal.decreases-loop-ahead
decreases-loop-ahead l = length l.ahead
