use Rattle.std.proofs.Common.{◌≡◌, true, false, ◌++◌, get_or, rules, refl, ap, ◌∙◌}
use Rattle.std.specs.String.{string_bytes}
use Rattle.model_lex.specs.believed.Tokens.{is_quotable}
use Rattle.constraint_ast.proofs.Backslashes.{begins, copies, passes}
use Rattle.constraint_ast.proofs.writer.push_quoted.Goals as goal

pub loop-at-init : goal.loop-at-init
loop-at-init c = begins c.args.text.now (string_bytes c.args.out.now) (string_bytes c.args.out.now) refl c.utf8.text

pub loop-at-preserved-then-is_quotable : goal.loop-at-preserved-then-is_quotable
loop-at-preserved-then-is_quotable c =
    let quotes : is_quotable (get_or c.args.text.now c.loop-at.at 0) ≡ true = search rules in
    copies c.args.text.now (string_bytes c.args.out.now) (string_bytes c.loop-at.out) c.loop-at.start c.loop-at.at c.loop-at.invariant c.loop-at-test.true quotes (string_bytes c.push.new.out)
    (string_bytes c.push-then-is_quotable.new.out) (c.in_ok-push.ensures ∙ ap (λ piece. string_bytes c.loop-at.out ++ piece) c.range.ensures.value) c.in_ok-push-2.ensures

pub loop-at-preserved : goal.loop-at-preserved
loop-at-preserved c =
    let other : is_quotable (get_or c.args.text.now c.loop-at.at 0) ≡ false = search rules in
    passes c.args.text.now (string_bytes c.args.out.now) (string_bytes c.loop-at.out) c.loop-at.start c.loop-at.at c.loop-at.invariant c.loop-at-test.true other
