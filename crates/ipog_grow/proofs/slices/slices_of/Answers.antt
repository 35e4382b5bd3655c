use Rattle.std.proofs.Common.{◌∷◌, ◌++◌, ◌∙◌, sym, ap}
use Rattle.cov_model.specs.declared.slice.Slice.TheVariants.{Positive}
use Rattle.ipog_grow.specs.SliceLists.{negative_slices}
use Rattle.ipog_grow.proofs.SliceSteps.{flat-more}
use Rattle.ipog_grow.proofs.slices.slices_of.Goals as goal

pub loop-p-preserved : goal.loop-p-preserved
loop-p-preserved c = (
  c.loop-p.invariant.0,
  c.in_ok-push_negatives.ensures ∙ ap (λ list. list ++ negative_slices c.args.model.now c.loop-p.p) c.loop-p.invariant.1
      ∙ ap (λ list. Positive ∷ list) (sym (flat-more (negative_slices c.args.model.now) c.loop-p.p)),
)
