use Rattle.std.proofs.Common.{◌≡◌, map, take}
use Rattle.refutation.specs.Proofs.{omission_meant}
use Rattle.suite_page.specs.Seen.{omission_seen}
use Rattle.model_page.specs.believed.Omitted.{omitted}
use Rattle.model_page.proofs.omitted.omitted_ones.Given as goal

abbrev pub invariant-loop-omission : goal.invariant-loop-omission
invariant-loop-omission l =
    map omission_seen l.shown.items ≡ map (λ one. omitted l.model (map omission_meant l.omissions) (omission_meant one)) (take l.omission-index l.those)
