use Rattle.std.proofs.Common.{◌≡◌, ℕ, List, Option, map, filter, not, ◌∙◌, ap, subst}
use Rattle.std.specs.Prelude.{IfOk}
use Rattle.definitions.specs.believed.Completion.{can_be_served, has_slice}
use Rattle.definitions.specs.believed.Search.{first_over}
use Rattle.definitions.specs.believed.Seeds.{seed_rows}
use Rattle.feasibility.specs.Ends.{Ends}
use Rattle.row_text.specs.RowFiles.{row_seen}
use Rattle.row_text.specs.declared.row_file.FileRow.{FileRow}
use Rattle.ipog_grow.proofs.seeds.split_seeds.Goals as goal

-- the seeds that are asked are the distinct ones
whole : (rows distinct items slice : List FileRow) → slice ≡ rows → map row_seen distinct ≡ seed_rows (map row_seen slice) → items ≡ distinct
    → map row_seen items ≡ seed_rows (map row_seen rows)
whole rows distinct items slice are found same = ap (map row_seen) same ∙ found ∙ ap (λ seeds. seed_rows (map row_seen seeds)) are

split_are : (c : goal.After-drop-distinct-inside) → map row_seen c.as_slice-2.result.now ≡ seed_rows (map row_seen c.args.seeds.now.rows)
split_are c = whole c.args.seeds.now.rows c.in-Ok.distinct c.as_slice-2.result.now c.as_slice.result.now c.as_slice.ensures c.in-Ok.ensures.seeds c.as_slice-2.ensures

pub returns-clause-kept : goal.returns-clause-kept
returns-clause-kept c =
    subst (λ (seeds : List (ℕ × List (Option ℕ))). IfOk c.split_each.result (λ split. split.kept
    ≡ filter (can_be_served c.args.model.now) (map (λ seed. seed.1) seeds))) (split_are c) c.split_each.ensures.kept

pub returns-clause-dropped : goal.returns-clause-dropped
returns-clause-dropped c =
    subst (λ (seeds : List (ℕ × List (Option ℕ))). IfOk c.split_each.result (λ split. split.dropped
    ≡ map (λ seed. seed.0) (filter (λ seed. not (can_be_served c.args.model.now seed.1)) seeds))) (split_are c) c.split_each.ensures.dropped

pub returns-clause-asked : goal.returns-clause-asked
returns-clause-asked c =
    subst (λ (seeds : List (ℕ × List (Option ℕ))). Ends c.split_each.result
    (first_over c.args.model.now c.args.prefs.now c.args.effort (filter (has_slice c.args.model.now) (map (λ seed. seed.1) seeds)))) (split_are c)
    c.split_each.ensures.asked
