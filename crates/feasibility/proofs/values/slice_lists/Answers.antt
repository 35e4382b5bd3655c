use Rattle.std.proofs.Common.{◌++◌, ◌∷◌, [], ◌∙◌, sym, ap, take, arith}
use Rattle.std.proofs.lemmas.List.{take_all, take_more}
use Rattle.cov_model.specs.believed.Slices.{slice_values}
use Rattle.cov_model.proofs.CellLemmas.{length-slice_values}
use Rattle.feasibility.proofs.values.slice_lists.Goals as goal

pub loop-p-preserved : goal.loop-p-preserved
loop-p-preserved c =
    let lists = slice_values c.args.model.now c.args.slice in (
      c.loop-p.invariant.0,
      c.in_ok-put_list.ensures
          ∙ ap (λ done. done ++ c.in_ok-list.list.items ∷ []) c.loop-p.invariant.1
          ∙ ap (λ list. take c.loop-p.p lists ++ list ∷ []) c.in_ok-list.ensures
          ∙ sym (take_more lists c.loop-p.p [] (omega (arith, c.loop-p-test.true, c.loop-p.invariant.0, length-slice_values c.args.model.now c.args.slice))),
    )

pub returns : goal.returns
returns c =
    c.loop-p.invariant.1
    ∙ take_all c.loop-p.p (slice_values c.args.model.now c.args.slice)
    (omega (arith, c.loop-p-test.false, c.loop-p.invariant.0, length-slice_values c.args.model.now c.args.slice))
