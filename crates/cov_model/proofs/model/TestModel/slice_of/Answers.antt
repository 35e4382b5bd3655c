use Rattle.std.proofs.Common.{None, ◌&&◌, sym, refl, ◌∙◌, arith}
use Rattle.cov_model.specs.believed.Rows.{is_assigned, value_in}
use Rattle.cov_model.specs.believed.Meaning.{given_value}
use Rattle.cov_model.specs.believed.Valid.{negatives}
use Rattle.cov_model.proofs.FaultLemmas.{passed_more, unless_passed}
use Rattle.cov_model.proofs.model.TestModel.slice_of.Goals as goal

pub loop-p-preserved : goal.loop-p-preserved
loop-p-preserved c =
    let m = c.args.self.now in
    let cells = c.args.cells.now in
    let fails = unless_passed (is_assigned cells c.loop-p.p && (given_value m cells c.loop-p.p).negative) (value_in cells c.loop-p.p)
    (sym c.negative_value.ensures ∙ c.in_default.is) in (
      c.loop-p.invariant.0,
      passed_more (λ p. is_assigned cells p && (given_value m cells p).negative) c.loop-p.p c.len-count.result (negatives m cells) None None
          (omega arith) fails refl c.loop-p.invariant.1,
    )
