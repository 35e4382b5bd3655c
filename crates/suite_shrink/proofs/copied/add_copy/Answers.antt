use Rattle.std.proofs.Common.{length, ◌∙◌, ◌≡◌, ap, sym}
use Rattle.std.proofs.lemmas.List.Elements.{All-weaker}
use Rattle.cov_model.specs.Fits.{FitsModel}
use Rattle.suite_shrink.proofs.copied.add_copy.Goals as goal

pub push-requires : goal.push-requires
push-requires c =
    All-weaker (FitsModel c.args.model.now) (λ other. length other ≡ length c.as_slice.result.now)
    (λ other fits. fits.as_long ∙ sym c.requires.row.as_long ∙ sym (ap length c.as_slice.ensures)) c.args.rows.now c.requires.rows
