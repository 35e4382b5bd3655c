use Rattle.std.proofs.Common.{List, ℕ, take, map, ap, ◌∙◌}
use Rattle.std.proofs.lemmas.List.{take_min}
use Rattle.refutation.specs.Proofs.{omission_meant}
use Rattle.refutation.specs.declared.omissions.Omission.{Omission}
use Rattle.model_page.specs.believed.Omitted.{omitted}
use Rattle.model_page.specs.believed.Pages.{most_shown}
use Rattle.model_page.proofs.Citing.{first_omitted}
use Rattle.model_page.proofs.omitted.omitted.Goals as goal

pub returns : goal.returns
returns c =
    let all = c.args.omissions.now in
    let one = omitted c.args.model.now (map omission_meant all) in
    c.in_ok-shown.ensures
    ∙ ap (λ (count : ℕ). map (λ (listed : Omission). one (omission_meant listed)) (take count all)) c.min-count.ensures
    ∙ ap (λ (those : List Omission). map (λ (listed : Omission). one (omission_meant listed)) those) (take_min most_shown all)
    ∙ first_omitted one most_shown all
