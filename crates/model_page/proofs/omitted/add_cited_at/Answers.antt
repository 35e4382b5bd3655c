use Rattle.std.proofs.Common.{◌≡◌, ◌++◌, Some, None, ap, subst, sym, arith, ◌∙◌, append-nil}
use Rattle.std.specs.Prelude.{OnOk}
use Rattle.model_page.proofs.Citing.{cited_found, not_there, there}
use Rattle.model_page.proofs.omitted.add_cited_at.Goals as goal

pub returns-in-Some : goal.returns-in-Some
returns-in-Some c =
    let found = there c.args.omissions.now c.saturating_sub.result c.get.result c.in-Some.omission c.get.ensures.lookup.0 c.get.ensures.lookup.1 c.in-Some.is in
    subst (λ words. OnOk c.add_around.result (c.add_around.new.text.items ≡ c.args.text.now.items ++ words))
    (sym (cited_found c.args.model.now c.args.omissions.now c.saturating_sub.result c.args.number (Some c.in-Some.omission.now) found (omega (arith, c.saturating_sub.ensures))))
    c.add_around.ensures

pub returns-in-None : goal.returns-in-None
returns-in-None c =
    let found = not_there c.args.omissions.now c.saturating_sub.result c.get.result c.get.ensures.lookup.0 c.in-None.is in
    let none = cited_found c.args.model.now c.args.omissions.now c.saturating_sub.result c.args.number None found (omega (arith, c.saturating_sub.ensures)) in
    sym (ap (λ words. c.args.text.now.items ++ words) none ∙ append-nil c.args.text.now.items)
