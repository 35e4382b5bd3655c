use Rattle.std.proofs.Common.{◌≡◌, ◌∷◌, length}
use Rattle.std.specs.List.{flat_map, range_with_len}
use Rattle.cov_model.specs.declared.slice.Slice.TheVariants.{Positive}
use Rattle.ipog_grow.specs.SliceLists.{negative_slices}
use Rattle.ipog_grow.proofs.slices.slices_of.Given as goal

-- the slices of the parameters before this one
abbrev pub invariant-loop-p : goal.invariant-loop-p
invariant-loop-p l =
    (l.count ≡ length l.model.params) × (l.list.items ≡ Positive ∷ flat_map (negative_slices l.model) (range_with_len 0 l.p))
