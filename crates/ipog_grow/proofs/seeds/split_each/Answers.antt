use Rattle.std.proofs.Common.{◌≡◌, ◌+◌, ◌++◌, ◌∷◌, [], ℕ, All, List, Option, length, map, take, drop, filter, not, ◌∙◌, sym, ap, subst}
use Rattle.std.proofs.lemmas.List.{take_more, take_all, map-append}
use Rattle.std.proofs.lemmas.List.Elements.{All-append, All-cons, All-filter, All-nil}
use Rattle.std.proofs.lemmas.Result.{err_from_is_err_and}
use Rattle.cov_model.specs.Fits.{FitsModel}
use Rattle.definitions.specs.believed.Completion.{can_be_served, has_slice}
use Rattle.definitions.specs.believed.Search.{first_over}
use Rattle.row_text.specs.RowFiles.{row_seen}
use Rattle.row_text.specs.declared.row_file.FileRow.{FileRow}
use Rattle.ipog_grow.proofs.Splitting.{Split, split-next, split-spent, split_at, ends-by}
use Rattle.ipog_grow.proofs.seeds.split_each.Goals as goal

pub returns-in_err-place_seed-clause-asked : goal.returns-in_err-place_seed-clause-asked
returns-in_err-place_seed-clause-asked c =
    let p = err_from_is_err_and c.from_residual.result c.from_residual.ensures.1 in
    let items : List FileRow = c.args.seeds.now in
    let cut : map row_seen items ≡ map row_seen (take c.loop-seed.seed-index items) ++ row_seen c.seed-item.result ∷ map row_seen
    (drop (c.loop-seed.seed-index + 1) items) =
    ap (map row_seen) (split_at items c.loop-seed.seed-index c.seed-item.result c.loop-seed-test.true
    ∙ ap (λ x. take c.loop-seed.seed-index items ++ x ∷ drop (c.loop-seed.seed-index + 1) items) (sym c.seed-item.is))
    ∙ map-append row_seen (take c.loop-seed.seed-index items) (c.seed-item.result ∷ drop (c.loop-seed.seed-index + 1) items) in
    rw (p.1, p.2) (ends-by c.in_err-place_seed.field-0.0
    (first_over c.args.model.now c.args.prefs.now c.args.effort (filter (has_slice c.args.model.now) (c.seed-item.result.cells ∷ [])))
    (first_over c.args.model.now c.args.prefs.now c.args.effort (filter (has_slice c.args.model.now) (map (λ seed. seed.1) (map row_seen items))))
    (λ q spent.
    ap (λ seeds. first_over c.args.model.now c.args.prefs.now c.args.effort (filter (has_slice c.args.model.now) (map (λ seed. seed.1) seeds))) cut
    ∙ split-spent c.args.model.now c.args.prefs.now c.args.effort (map row_seen (take c.loop-seed.seed-index items)) (row_seen c.seed-item.result)
    (map row_seen (drop (c.loop-seed.seed-index + 1) items)) c.loop-seed.split.kept c.loop-seed.split.dropped c.loop-seed.invariant.seeds q spent)
    c.in_err-place_seed.ensures.asked)

pub loop-seed-preserved : goal.loop-seed-preserved
loop-seed-preserved c =
    let items : List FileRow = c.args.seeds.now in
    let more : map row_seen (take (c.loop-seed.seed-index + 1) items) ≡ map row_seen (take c.loop-seed.seed-index items) ++ row_seen c.seed-item.result ∷ [] =
    ap (map row_seen) (take_more items c.loop-seed.seed-index c.seed-item.result c.loop-seed-test.true
    ∙ ap (λ x. take c.loop-seed.seed-index items ++ x ∷ []) (sym c.seed-item.is))
    ∙ map-append row_seen (take c.loop-seed.seed-index items) (c.seed-item.result ∷ []) in
    let fits : FitsModel c.args.model.now c.seed-item.result.cells =
    subst (λ seed. FitsModel c.args.model.now seed.cells) (sym c.seed-item.is) (c.requires.fits c.loop-seed.seed-index c.seed-item.result c.loop-seed-test.true) in
    record {
      seeds =
          subst (λ (seeds : List (ℕ × List (Option ℕ))). Split c.args.model.now c.args.prefs.now c.args.effort seeds c.place_seed.new.split.kept
          c.place_seed.new.split.dropped) (sym more)
          (split-next c.args.model.now c.args.prefs.now c.args.effort (map row_seen (take c.loop-seed.seed-index items)) (row_seen c.seed-item.result)
          c.loop-seed.split.kept
          c.place_seed.new.split.kept c.loop-seed.split.dropped c.place_seed.new.split.dropped c.loop-seed.invariant.seeds c.in_ok-place_seed.ensures.kept
          c.in_ok-place_seed.ensures.dropped c.in_ok-place_seed.ensures.asked);
      last = c.place_seed.ensures.last;
      long =
          subst (All (λ row. length row ≡ length c.args.model.now.params)) (sym c.in_ok-place_seed.ensures.kept)
          (All-append (λ row. length row ≡ length c.args.model.now.params) c.loop-seed.split.kept
          (filter (can_be_served c.args.model.now) (c.seed-item.result.cells ∷ [])) c.loop-seed.invariant.long
          (All-filter (can_be_served c.args.model.now) (λ row. length row ≡ length c.args.model.now.params) (c.seed-item.result.cells ∷ [])
          (All-cons (λ row. length row ≡ length c.args.model.now.params) c.seed-item.result.cells [] fits.as_long
          (All-nil (λ row. length row ≡ length c.args.model.now.params)))));
    }

-- at the end all are split
pub returns-clause-kept : goal.returns-clause-kept
returns-clause-kept c =
    c.loop-seed.invariant.seeds.kept_are
    ∙ ap (λ seeds. filter (can_be_served c.args.model.now) (map (λ seed. seed.1) (map row_seen seeds)))
    (take_all c.loop-seed.seed-index c.args.seeds.now c.loop-seed-test.false)

pub returns-clause-dropped : goal.returns-clause-dropped
returns-clause-dropped c =
    c.loop-seed.invariant.seeds.dropped_are
    ∙ ap (λ seeds. map (λ seed. seed.0) (filter (λ seed. not (can_be_served c.args.model.now seed.1)) (map row_seen seeds)))
    (take_all c.loop-seed.seed-index c.args.seeds.now c.loop-seed-test.false)

pub returns-clause-asked : goal.returns-clause-asked
returns-clause-asked c =
    ap (λ seeds. first_over c.args.model.now c.args.prefs.now c.args.effort (filter (has_slice c.args.model.now) (map (λ seed. seed.1) (map row_seen seeds))))
    (sym (take_all c.loop-seed.seed-index c.args.seeds.now c.loop-seed-test.false))
    ∙ c.loop-seed.invariant.seeds.unspent
