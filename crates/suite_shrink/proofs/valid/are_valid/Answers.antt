use Rattle.std.proofs.Common.{◌≡◌, true, ◌<◌, [], length, All, ◌∙◌, ap, arith, subst}
use Rattle.std.proofs.lemmas.List.{take_all}
use Rattle.std.proofs.lemmas.List.Elements.{All-more}
use Rattle.cov_model.specs.believed.Valid.{is_valid}
use Rattle.suite_shrink.proofs.valid.are_valid.Goals as goal

pub loop-i-preserved : goal.loop-i-preserved
loop-i-preserved c =
    let within : c.loop-i.i < length c.args.rows.now = omega (arith, c.loop-i-test.true, c.loop-i.auto.i-end, c.len-i-end.ensures) in
    let is = c.copy_from_slice.ensures ∙ c.row.ensures in
    let fits = c.requires c.loop-i.i [] within in
    record {
      long = ap length is ∙ fits.as_long;
      valid = All-more (λ row. is_valid c.args.model.now row ≡ true) c.args.rows.now c.loop-i.i [] within c.loop-i.invariant.valid
          (subst (λ row. is_valid c.args.model.now row ≡ true) is (c.is_test.ensures c.if-not-is_test.false));
    }

pub returns : goal.returns
returns c =
    λ _. subst (All (λ row. is_valid c.args.model.now row ≡ true)) (take_all c.loop-i.i c.args.rows.now (omega (arith, c.loop-i-test.false, c.len-i-end.ensures)))
    c.loop-i.invariant.valid
