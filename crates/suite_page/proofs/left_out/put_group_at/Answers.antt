use Rattle.std.proofs.Common.{◌≡◌, ◌++◌, map, refl, ap, subst}
use Rattle.std.specs.Prelude.{OnOk}
use Rattle.suite_page.proofs.Grouping.{group_known, group_new}
use Rattle.suite_page.proofs.left_out.put_group_at.Goals as goal

pub returns-then-are_among : goal.returns-then-are_among
returns-then-are_among c =
    group_known c.args.omissions.now c.args.at c.index-omissions-at.result c.requires c.index-omissions-at.is
    c.as_slice-causes.result.now _ c.are_among.result c.args.page.now c.as_slice-causes.ensures.value refl c.are_among.ensures c.if-are_among.true

pub returns : goal.returns
returns c =
    subst (λ words. OnOk c.put_group.result (c.put_group.new.page ≡ c.args.page.now ++ words))
    (group_new c.args.omissions.now c.args.at c.index-omissions-at.result c.requires c.index-omissions-at.is
    c.as_slice-causes.result.now (map (λ text. text.items) c.as_slice.result.now) _ c.are_among.result
    c.as_slice-causes.ensures.value (ap (map (λ text. text.items)) c.as_slice.ensures.value) refl c.are_among.ensures c.if-are_among.false)
    c.put_group.ensures
