use Rattle.std.proofs.Common.{◌≡◌, ◌∙◌, None, true, get_or, set, sym, ap, subst, arith}
use Rattle.cov_model.specs.believed.Rows.{with_value}
use Rattle.definitions.specs.believed.Search.{breaks_a_rule}
use Rattle.feasibility.specs.Live.{no_on}
use Rattle.feasibility.proofs.Nodes.{none_of, set_clear}
use Rattle.full_search.specs.Reasons.{Grows, HasMembers}
use Rattle.full_search.proofs.Parts.{no_row_members}
use Rattle.full_search.proofs.reason.add_dead.Goals as goal

pub first_broken-rule-requires-clause-before : goal.first_broken-rule-requires-clause-before
first_broken-rule-requires-clause-before c =
    let back = ap (λ cells. set cells c.args.p None) c.set_cell.ensures
    ∙ set_clear c.args.cells.now c.args.p c.args.v (none_of (get_or c.args.cells.now c.args.p None) c.requires.free) in
    ap (breaks_a_rule c.args.tree.now.model) back ∙ c.requires.unbroken

pub returns-clause-same : goal.returns-clause-same
returns-clause-same c =
    c.clear_cell.ensures ∙ ap (λ cells. set cells c.args.p None) c.set_cell.ensures
    ∙ set_clear c.args.cells.now c.args.p c.args.v (none_of (get_or c.args.cells.now c.args.p None) c.requires.free)

pub returns-clause-refuted : goal.returns-clause-refuted
returns-clause-refuted c =
    let m = c.args.tree.now.model in
    let p = c.args.p in
    let back : c.clear_cell.new.self ≡ c.args.cells.now =
    c.clear_cell.ensures ∙ ap (λ cells. set cells p None) c.set_cell.ensures
    ∙ set_clear c.args.cells.now p c.args.v (none_of (get_or c.args.cells.now p None) c.requires.free) in
    let grows = subst (λ cells. Grows cells p c.args.why.now c.add_members.new.why) back c.add_members.ensures.grows in
    let broken : no_on m (with_value c.args.cells.now p c.args.v) c.first_broken-rule.result ≡ true =
    ap (λ cells. no_on m cells c.first_broken-rule.result) (sym c.set_cell.ensures) ∙ c.first_broken-rule.ensures.broken in
    record {
      grows = grows;
      refuted = no_row_members c.args.tree.now c.args.cells.now c.add_members.new.why c.first_broken-rule.result p c.args.v c.first_broken-rule.ensures.first
          c.first_broken-rule.ensures.last (omega (arith, c.requires.parameter, c.requires.fits.as_long)) grows.part.long broken
          (subst (λ cells. HasMembers m c.first_broken-rule.result p cells c.add_members.new.why) back c.add_members.ensures.members);
    }
