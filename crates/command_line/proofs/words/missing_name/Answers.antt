use Rattle.std.proofs.Common.{◌≡◌, [], false, below_more, get_or, length, sym, ◌∙◌, arith}
use Rattle.std.specs.Prelude.{◌==◌}
use Rattle.command_line.specs.believed.Words.{texts}
use Rattle.command_line.proofs.NameLemmas.{first_missing, none_missing}
use Rattle.command_line.proofs.words.missing_name.Goals as goal

pub returns-then-is_missing : goal.returns-then-is_missing
returns-then-is_missing c =
    sym (first_missing (texts c.args.words.now) c.args.count c.loop-place.place c.loop-place-test.true c.loop-place.invariant
    (sym c.is_missing.ensures ∙ c.if-is_missing.true))

pub loop-place-preserved : goal.loop-place-preserved
loop-place-preserved c =
    below_more (λ k. (length (get_or (texts c.args.words.now) k []) == 0) ≡ false) c.loop-place.place c.loop-place.invariant
    (sym c.is_missing.ensures ∙ c.if-is_missing.false)

pub returns : goal.returns
returns c = sym (none_missing (texts c.args.words.now) c.args.count (λ k before. c.loop-place.invariant k (omega (arith, before))))
