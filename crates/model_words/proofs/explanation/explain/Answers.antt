use Rattle.model_words.proofs.ListLemmas.{explained_is}
use Rattle.model_words.proofs.explanation.explain.Goals as goal

pub returns : goal.returns
returns c =
    explained_is c.args.tree.now c.case_count.result c.in_ok-rules.rules.items c.has_invalid.result c.in_ok-cited.cited.items
    c.case_count.ensures c.in_ok-rules.ensures c.has_invalid.ensures c.in_ok-cited.ensures
