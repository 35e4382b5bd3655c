use Rattle.std.proofs.Common.{sym, ◌∙◌}
use Rattle.model_parse.proofs.Cuts.{begins_cut}
use Rattle.model_parse.proofs.cut.behind_mark.Goals as goal

pub range_from-requires : goal.range_from-requires
range_from-requires c = λ h. begins_cut c.args.mark c.args.text.now c.requires c.utf8.text (sym c.begins_with.ensures ∙ c.if-begins_with.true)
