use Rattle.std.proofs.Common.{◌≡◌, true, false, drop, rules, arith}
use Rattle.model_lex.specs.Tokens.{quotes_next}
use Rattle.constraint_ast.proofs.Unquoting.{begins, copies, passes}
use Rattle.constraint_ast.proofs.quoting.unquoted.Goals as goal

pub loop-at-init : goal.loop-at-init
loop-at-init c = begins c.args.text.now _ c.new-plain.ensures.bytes c.utf8.text

pub loop-at-preserved-then-quotes : goal.loop-at-preserved-then-quotes
loop-at-preserved-then-quotes c =
    let quotes : quotes_next (drop c.loop-at.at c.args.text.now) ≡ true = search rules in
    copies c.args.text.now _ c.loop-at.start c.loop-at.at c.loop-at.invariant (omega arith) _ c.utf8.text quotes (search rules)

pub loop-at-preserved : goal.loop-at-preserved
loop-at-preserved c =
    let quotes : quotes_next (drop c.loop-at.at c.args.text.now) ≡ false = search rules in
    passes c.args.text.now _ c.loop-at.start c.loop-at.at c.loop-at.invariant (omega arith) quotes
