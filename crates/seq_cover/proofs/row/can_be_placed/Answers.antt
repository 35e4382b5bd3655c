use Rattle.std.proofs.Common.{◌&&◌, ◌∙◌, not, ap, sym}
use Rattle.seq_check.specs.EventSets.{in_set}
use Rattle.seq_cover.proofs.BuildLemmas.{placeable}
use Rattle.seq_cover.proofs.row.can_be_placed.Goals as goal

pub returns-clause-value : goal.returns-clause-value
returns-clause-value c = λ pairs row turned exist are.
    placeable c.args.back.now pairs row c.args.placed c.without.result c.args.event
    (λ other low. c.without.ensures other low ∙ ap (λ b. b && not (in_set c.args.placed other)) (c.ends.ensures other))
    c.is_none.result c.first.result c.is_none.ensures c.first.ensures.none c.first.ensures.some turned exist are
    (sym (are c.args.event c.requires) ∙ sym c.has.ensures ∙ c.if-has.false)
