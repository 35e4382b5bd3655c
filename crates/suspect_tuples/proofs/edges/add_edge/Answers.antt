use Rattle.std.proofs.Common.{map, ap, sym, ◌∙◌, ◌++◌, ◌∷◌, []}
use Rattle.std.proofs.lemmas.List.{map-append}
use Rattle.suspect_tuples.specs.Told.{found_seen}
use Rattle.suspect_tuples.proofs.EdgeLemmas.{edge_here}
use Rattle.suspect_tuples.proofs.edges.add_edge.Goals as goal

pub returns : goal.returns
returns c =
    let edge = edge_here c.args.passing.now c.args.rows.now c.args.tuple.now c.requires.some (sym c.is_edge.ensures ∙ c.if-not-is_edge.false) in
    let before = map found_seen c.args.found.now in
    ap (map found_seen) c.in_ok-push.ensures.ok ∙ map-append found_seen c.args.found.now (record { tuple = c.in_ok-of.field-0; failing = c.len.result } ∷ [])
    ∙ ap (λ tuple. before ++ (tuple, c.len.result) ∷ []) c.in_ok-of.ensures ∙ ap (λ n. before ++ (c.args.tuple.now, n) ∷ []) c.len.ensures
    ∙ ap (λ edges. before ++ edges) (sym edge)
