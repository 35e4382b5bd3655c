use Rattle.std.proofs.Common.{◌<◌, ◌&&◌, arith}
use Rattle.std.proofs.lemmas.Grind.{common_steps}
use Rattle.cov_model.specs.believed.Rows.{is_assigned}
use Rattle.cov_model.specs.believed.Meaning.{given_value}
use Rattle.cov_model.specs.believed.Valid.{negatives}
use Rattle.cov_model.proofs.FaultLemmas.{found_more, passed_more}
use Rattle.cov_model.proofs.model.TestModel.two_negatives.Goals.{then-gives_negative+in-None, else-gives_negative}
use Rattle.cov_model.proofs.model.TestModel.two_negatives.Goals as goal

pub loop-p-preserved : goal.loop-p-preserved
loop-p-preserved c =
    let within : c.loop-p.p < c.len-count.result = omega arith in (
      c.loop-p.invariant.0,
      elim c.if-gives_negative.branch [
        | then-gives_negative+in-None w ↦
            found_more (λ p. is_assigned c.args.cells.now p && (given_value c.args.self.now c.args.cells.now p).negative) c.loop-p.p c.len-count.result
            (negatives c.args.self.now c.args.cells.now) c.loop-p.first c.if-gives_negative.first within (grind (arith, common_steps)) (cc)
            (cc) c.loop-p.invariant.1
        | else-gives_negative w ↦
            passed_more (λ p. is_assigned c.args.cells.now p && (given_value c.args.self.now c.args.cells.now p).negative) c.loop-p.p c.len-count.result
            (negatives c.args.self.now c.args.cells.now) c.loop-p.first c.if-gives_negative.first within (grind (arith, common_steps)) (cc) c.loop-p.invariant.1
      ],
    )
