use Rattle.std.proofs.Common.{◌++◌, ◌∷◌, [], ◌∙◌, sym, ap, map, zero-add}
use Rattle.std.specs.List.{range_with_len}
use Rattle.std.proofs.lemmas.List.FromFn.{map-range_with_len_more}
use Rattle.definitions.specs.believed.Completion.{preferred_at}
use Rattle.feasibility.proofs.values.preferred_lists.Goals as goal

pub loop-p-preserved : goal.loop-p-preserved
loop-p-preserved c = (
  c.loop-p.invariant.0,
  c.in_ok-put_list.ensures
      ∙ ap (λ lists. lists ++ c.in_ok-list.list.items ∷ []) c.loop-p.invariant.1
      ∙ ap (λ list. map (preferred_at c.args.model.now c.args.prefs.now c.args.slice) (range_with_len 0 c.loop-p.p) ++ list ∷ [])
      c.in_ok-list.ensures
      ∙ sym (map-range_with_len_more (preferred_at c.args.model.now c.args.prefs.now c.args.slice) 0 c.loop-p.p c.loop-p.p (zero-add c.loop-p.p)),
)
