use Rattle.std.proofs.Common.{ℕ, List, Bor, rules, tests}
use Rattle.std.proofs.lemmas.Iterator.{YieldsList-from_map_by, YieldsList-from_slice}
use Rattle.std.proofs.lemmas.Iterator.Consumers.{YieldsList-at, map_from_collect}
use Rattle.acts_front.specs.believed.Translation.{value_text}
use Rattle.acts_front.proofs.kind.Kind.printed.Goals as goal

pub returns : goal.returns
returns c =
    let texts =
    map_from_collect c.collect.result c.collect.ensures.ran (YieldsList-from_map_by _ (λ (r : Bor (List ℕ)). r.now) (λ (value : Bor (List ℕ)). value_text c.args.self value.now)
    (YieldsList-at c.map.ensures.source (YieldsList-from_slice c.args.values.now c.iter.ensures.rest))
    c.map.ensures.closure (λ x r q k. search (rules, tests))) in
    rw c.in_ok-texts.was at texts
