use Rattle.std.proofs.Common.{◌≡◌, ◌+◌, ◌++◌, ◌∷◌, [], ℕ, List, Option, All, length, map, take, ◌∙◌, sym, ap, subst}
use Rattle.std.proofs.lemmas.List.{take_more, take_all, map-append}
use Rattle.std.proofs.lemmas.List.Elements.{All-map}
use Rattle.cov_model.specs.Fits.{FitsModel}
use Rattle.row_text.specs.declared.row_file.FileRow.{FileRow}
use Rattle.definitions.specs.believed.Seeds.{distinct_by, seed_rows}
use Rattle.row_text.specs.RowFiles.{row_seen}
use Rattle.ipog_grow.proofs.Seeding.{gathered-next, seed_rows-fit, fit-map}
use Rattle.ipog_grow.proofs.seeds.distinct_seeds.Goals as goal

pub loop-seed-preserved : goal.loop-seed-preserved
loop-seed-preserved c =
    let before : List (ℕ × List (Option ℕ)) = map row_seen (take c.loop-seed.seed-index c.args.seeds.now) in
    let next = gathered-next before (row_seen c.seed-item.result) c.loop-seed.known c.add_seed.new.known (map row_seen c.loop-seed.list)
    (map row_seen c.add_seed.new.list)
    c.loop-seed.invariant.0 c.loop-seed.invariant.1 c.in_ok-add_seed.ensures.known c.in_ok-add_seed.ensures.list in
    let long : length c.seed-item.result.cells ≡ length c.args.model.now.params =
    ap (λ (seed : FileRow). length seed.cells) c.seed-item.is ∙ (c.requires c.loop-seed.seed-index c.seed-item.result c.loop-seed-test.true).as_long in
    let more : map row_seen (take (c.loop-seed.seed-index + 1) c.args.seeds.now) ≡ before ++ row_seen c.seed-item.result ∷ [] =
    ap (map row_seen) (take_more c.args.seeds.now c.loop-seed.seed-index c.seed-item.result c.loop-seed-test.true
    ∙ ap (λ x. take c.loop-seed.seed-index c.args.seeds.now ++ x ∷ []) (sym c.seed-item.is))
    ∙ map-append row_seen (take c.loop-seed.seed-index c.args.seeds.now) (c.seed-item.result ∷ []) in (
      next.known_are ∙ ap (λ seeds. map (λ seed. seed.1) (distinct_by (λ seed. seed.1) seeds)) (sym more),
      next.list_are ∙ ap seed_rows (sym more),
      (λ k d within. c.in_ok-add_seed.ensures.long k d within ∙ long),
    )

pub returns-clause-fit : goal.returns-clause-fit
returns-clause-fit c =
    let fits : ℕ × List (Option ℕ) → Type 0 = λ seed. FitsModel c.args.model.now seed.1 in
    let all : map row_seen (take c.loop-seed.seed-index c.args.seeds.now) ≡ map row_seen c.args.seeds.now =
    ap (map row_seen) (take_all c.loop-seed.seed-index c.args.seeds.now c.loop-seed-test.false) in
    fit-map fits row_seen c.loop-seed.list
    (subst (All fits) (sym (c.loop-seed.invariant.1 ∙ ap seed_rows all))
    (seed_rows-fit fits (map row_seen c.args.seeds.now) (All-map fits row_seen c.args.seeds.now c.requires)))
