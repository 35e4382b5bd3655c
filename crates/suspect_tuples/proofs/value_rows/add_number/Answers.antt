use Rattle.std.proofs.Common.{◌++◌, ◌∷◌, [], ◌∙◌, cond, get_or, map, ap, rules, sym}
use Rattle.suspect_tuples.specs.ValueRows.{is_value}
use Rattle.suspect_tuples.proofs.ValueRowLemmas.{list_pushed}
use Rattle.suspect_tuples.proofs.value_rows.add_number.Goals as goal

pub returns-in_ok-push-clause-each : goal.returns-in_ok-push-clause-each
returns-in_ok-push-clause-each c v within =
    list_pushed c.args.lists.now.items c.in-Some.value c.args.number c.index_mut.result.now c.push.new.self (search rules) (search rules) c.in_ok-push.ensures.items v
    ∙ ap (λ value. get_or (map (λ list. list.items) c.args.lists.now.items) v [] ++ cond (is_value value v) (c.args.number ∷ []) []) (sym c.in-Some.is)
