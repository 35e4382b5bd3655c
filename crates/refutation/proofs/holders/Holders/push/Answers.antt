use Rattle.std.proofs.Common.{◌≡◌, ◌<◌, ℕ, [], ◌∷◌, ◌++◌, List, length, get_or, ◌∙◌, ap, rules, inr}
use Rattle.std.proofs.lemmas.List.{get_or_read}
use Rattle.refutation.proofs.HolderLemmas.{adds_one}
use Rattle.refutation.proofs.holders.Holders.push.Goals as goal

pub returns-clause-adds : goal.returns-clause-adds
returns-clause-adds c =
    let items = c.self.inside.params.items in
    let within : c.args.p < length items = search rules in
    let read : c.index_mut-values.result.now ≡ get_or items c.args.p [] = get_or_read items c.args.p c.index_mut-values.result.now within (search rules) [] in
    adds_one c.args.number c.args.p c.args.v c.args.self.now items c.push.new.self within (search rules)
    (λ w apart. c.in_ok-push.ensures.others w apart ∙ ap (λ (lists : List (List ℕ)). get_or lists w []) read)
    (inr (c.in_ok-push.ensures.ok ∙ ap (λ (lists : List (List ℕ)). get_or lists c.args.v [] ++ c.args.number ∷ []) read))
