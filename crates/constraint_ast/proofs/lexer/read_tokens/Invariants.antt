use Rattle.std.proofs.Common.{◌≡◌, drop, map}
use Rattle.std.specs.Prelude.{Ok}
use Rattle.model_lex.specs.Sections.{line_seen}
use Rattle.constraint_ast.specs.believed.Lexing.{both_tokens, tokens_of}
use Rattle.constraint_ast.proofs.lexer.read_tokens.Given as goal

abbrev pub invariant-loop-line : goal.invariant-loop-line
invariant-loop-line l = tokens_of (map line_seen l.lines) ≡ both_tokens (Ok l.tokens) (tokens_of (map line_seen (drop l.line-index l.lines)))
