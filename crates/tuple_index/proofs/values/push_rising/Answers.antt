use Rattle.std.proofs.Common.{◌≡◌, ◌++◌, ◌∷◌, [], OnOk, true, length, sym, subst, arith}
use Rattle.std.proofs.lemmas.Grind.{common_steps}
use Rattle.tuple_index.specs.Places.{rises_from}
use Rattle.tuple_index.proofs.RisingLemmas.{rising_itself}
use Rattle.tuple_index.proofs.values.push_rising.Goals as goal

pub returns-then-is_rising : goal.returns-then-is_rising
returns-then-is_rising c =
    let rises : rises_from 0 (length c.args.model.now.params) c.args.choice.now ≡ true = grind (arith, common_steps) in
    subst (λ set. OnOk c.push.result (c.push.new.self ≡ c.args.sets.now ++ set ∷ []))
    (sym (rising_itself c.args.choice.now (length c.args.model.now.params) rises)) c.push.ensures.ok
