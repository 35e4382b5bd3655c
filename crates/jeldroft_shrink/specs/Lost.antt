-- Seed rows that aren't kept. (This project's rule.)
use Rattle.std.specs.Prelude.{ℕ, not, List, map, Option}
use Rattle.std.specs.List.{filter}
use Rattle.shorter_suites.specs.believed.Shrinking.{is_contained}
use Rattle.jeldroft_shrink.specs.believed.Reading.{Lines}

-- the lines of the seed rows that no given row contains
abbrev pub lost_lines : List (List (Option ℕ)) → Lines → List ℕ
lost_lines given seeds = map (λ seed. seed.0) (filter (λ seed. not (is_contained given seed.1)) seeds)
