use Rattle.std.proofs.Common.{ℕ, List, Bor, eqb, rules, tests}
use Rattle.std.proofs.lemmas.Iterator.{YieldsList-from_map_by}
use Rattle.std.proofs.lemmas.Iterator.Consumers.{YieldsList-at, map_from_collect}
use Rattle.std.proofs.lemmas.Iterator.Splits.{YieldsList-from_slice_split}
use Rattle.model_lex.specs.believed.Blanks.{trimmed}
use Rattle.acts_front.proofs.text.pieces.Goals as goal

pub returns : goal.returns
returns c =
    let parts =
    map_from_collect c.collect.result c.collect.ensures.ran (YieldsList-from_map_by _ (λ (r : Bor (List ℕ)). r.now) trimmed
    (YieldsList-at c.map.ensures.source
    (YieldsList-from_slice_split _ (λ byte. eqb byte 44) c.args.text.now c.split.ensures.rest c.split.ensures.done c.split.ensures.closure (λ x b q k. search (rules, tests))))
    c.map.ensures.closure (λ x r q k. search (rules, tests))) in
    rw c.in_ok-parts.was at parts
