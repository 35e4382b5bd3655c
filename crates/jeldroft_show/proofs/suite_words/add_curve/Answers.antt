use Rattle.std.proofs.Common.{◌≡◌, ◌++◌, sym, subst, arith}
use Rattle.std.specs.Prelude.{OnOk}
use Rattle.jeldroft_show.proofs.WordLemmas.{curve_is}
use Rattle.jeldroft_show.proofs.suite_words.add_curve.Goals as goal

pub returns : goal.returns
returns c =
    subst (λ words. OnOk c.add_under.result (c.add_under.new.text.items ≡ c.args.text.now.items ++ words))
    (sym (curve_is c.args.numbers.now c.args.points.now (omega (arith, c.if-numbers-eq0.false, c.if-numbers-eq0-2.false)) (omega (arith, c.if-numbers-eq0.false, c.if-numbers-eq0-2.false))))
    c.add_under.ensures
