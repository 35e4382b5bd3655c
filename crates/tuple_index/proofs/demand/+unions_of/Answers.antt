use Rattle.std.proofs.Common.{◌≡◌, [], List, ℕ, map, get_or, ◌∙◌, ap, sym, Some, IfOk, subst, arith}
use Rattle.std.proofs.lemmas.List.{take_rest}
use Rattle.std.proofs.lemmas.Option.{slice_get-get_or}
use Rattle.definitions.specs.believed.Demand.{unions}
use Rattle.tuple_index.proofs.ChoiceLemmas.{unions_first}
use Rattle.tuple_index.proofs.demand.+unions_of.Goals as goal

pub returns-in-Some : goal.returns-in-Some
returns-in-Some t c =
    let of : List ℕ → List (List ℕ) = λ taken. unions (map (λ u. get_or c.args.units.now u []) taken) in
    subst (λ sets. IfOk c.cross.result (λ both. both ≡ sets))
    (unions_first c.args.units.now c.args.taken.now c.in-Some.ways.now c.as_slice.result.now c.as_slice-in-Some.result.now
    (omega (arith, c.in-len1-up.len_at_least))
    (slice_get-get_or c.args.units.now (get_or c.args.taken.now 0 0) c.in-Some.ways.now c.in-Some.ensures.lookup.3.0
    ∙ ap Some (sym c.in-Some.ensures.lookup.1)) c.as_slice.ensures
    (c.as_slice-in-Some.ensures ∙ c.in_ok-others-in-len1-up.ensures ∙ ap of (take_rest c.args.taken.now 1)))
    c.cross.ensures
