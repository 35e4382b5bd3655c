use Rattle.std.proofs.Common.{◌<◌, length, arith}
use Rattle.std.proofs.lemmas.Str.{IsCharBoundary-after_ascii}
use Rattle.constraint_ast.proofs.lexer.inside.Goals as goal

pub range-requires-clause-start_boundary : goal.range-requires-clause-start_boundary
range-requires-clause-start_boundary c =
    let some : 0 < length c.args.text.now = omega (arith, c.requires.both) in
    λ h. IsCharBoundary-after_ascii c.args.text.now 0 c.utf8.text some c.requires.first
