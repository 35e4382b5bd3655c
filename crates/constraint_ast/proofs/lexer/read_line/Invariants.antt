use Rattle.std.proofs.Common.{◌-◌, length}
use Rattle.constraint_ast.proofs.Lexing.{ReadsTo}
use Rattle.constraint_ast.proofs.lexer.read_line.Given as goal

abbrev pub invariant-loop-code : goal.invariant-loop-code
invariant-loop-code l = ReadsTo l.fn.number l.fn.text l.fn.tokens l.tokens l.at

abbrev pub decreases-loop-code : goal.decreases-loop-code
decreases-loop-code l = length l.fn.text - l.at
