use Rattle.std.proofs.Common.{◌≡◌, All, length, map, take}
use Rattle.definitions.specs.believed.Seeds.{distinct_by, seed_rows}
use Rattle.row_text.specs.RowFiles.{row_seen}
use Rattle.ipog_grow.proofs.seeds.distinct_seeds.Given as goal

-- the seed rows before this place are gathered
abbrev pub invariant-loop-seed : goal.invariant-loop-seed
invariant-loop-seed l =
    (l.known ≡ map (λ seed. seed.1) (distinct_by (λ seed. seed.1) (map row_seen (take l.seed-index l.seeds))))
    × (map row_seen l.list ≡ seed_rows (map row_seen (take l.seed-index l.seeds)))
    × All (λ other. length other ≡ length l.model.params) l.known
