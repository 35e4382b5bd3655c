use Rattle.std.proofs.Common.{ℕ, List, rules, tests, Bor, ◌∙◌}
use Rattle.std.proofs.lemmas.Iterator.{YieldsList-from_map_by}
use Rattle.std.proofs.lemmas.Iterator.Consumers.{YieldsList-at, map_from_collect}
use Rattle.std.proofs.lemmas.Iterator.Splits.{YieldsList-from_str_split}
use Rattle.model_lex.specs.believed.Blanks.{trimmed}
use Rattle.model_parse.proofs.cut.pieces.Goals as goal

pub returns : goal.returns
returns c =
    let parts =
    map_from_collect c.collect.result c.collect.ensures.ran (YieldsList-from_map_by _ (λ (r : Bor (List ℕ)). r.now) trimmed
    (YieldsList-at c.map.ensures.source (YieldsList-from_str_split c.args.mark c.args.text.now c.requires c.split.ensures.text c.split.ensures.has_more (c.split.ensures.pattern ∙ c.from.ensures)))
    c.map.ensures.closure (λ x r q k. search (rules, tests))) in
    rw c.in_ok-parts.was at parts
