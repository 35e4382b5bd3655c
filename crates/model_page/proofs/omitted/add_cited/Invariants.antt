use Rattle.std.proofs.Common.{◌≡◌, ◌++◌, map, take}
use Rattle.std.specs.Prelude.{◌-◌, slice_get}
use Rattle.std.specs.List.{flat_map}
use Rattle.refutation.specs.Proofs.{omission_meant}
use Rattle.model_page.specs.believed.Omitted.{cited_words}
use Rattle.model_page.proofs.omitted.add_cited.Given as goal

abbrev pub invariant-loop-number : goal.invariant-loop-number
invariant-loop-number l =
    l.text.items ≡ l.fn.text.items ++ flat_map (λ n. cited_words l.model (slice_get (map omission_meant l.omissions) (n - 1))) (take l.number-index l.numbers)
