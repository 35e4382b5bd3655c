use Rattle.std.proofs.Common.{eqb, rules, tests}
use Rattle.std.proofs.lemmas.Iterator.{YieldsList-from_chars}
use Rattle.std.proofs.lemmas.Iterator.Search.{any_from_yields_List}
use Rattle.model_parse.proofs.cut.has_order_mark.Goals as goal

pub returns : goal.returns
returns c = any_from_yields_List (λ mark. eqb mark 0xfeff) _ _ _ c.any.ensures.ran (YieldsList-from_chars c.args.text.now c.utf8.text c.chars.ensures.rest) (λ x b q k. search (rules, tests))
