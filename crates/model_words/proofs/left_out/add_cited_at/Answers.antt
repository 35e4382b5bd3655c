use Rattle.std.proofs.Common.{◌≡◌, ◌++◌, ◌-◌, Some, None, ap, subst, sym, arith, ◌∙◌}
use Rattle.std.specs.Prelude.{OnOk, option_copied}
use Rattle.std.proofs.lemmas.List.{append-nil}
use Rattle.model_words.proofs.ListLemmas.{cited_found}
use Rattle.model_words.proofs.left_out.add_cited_at.Goals as goal

pub returns-in-Some : goal.returns-in-Some
returns-in-Some c =
    subst (λ line. OnOk c.add_cited_one.result (c.add_cited_one.new.text.items ≡ c.args.text.now.items ++ line))
    (sym (cited_found c.args.model.now c.args.proof.now.omissions c.saturating_sub.result c.args.number c.get.result (Some c.in-Some.omission.now)
    c.get.ensures (omega (arith, c.saturating_sub.ensures)) (ap option_copied c.in-Some.is))) c.add_cited_one.ensures

pub returns-in-None : goal.returns-in-None
returns-in-None c =
    let none = cited_found c.args.model.now c.args.proof.now.omissions c.saturating_sub.result c.args.number c.get.result None
    c.get.ensures (omega (arith, c.saturating_sub.ensures)) (ap option_copied c.in-None.is) in
    sym (ap (λ lines. c.args.text.now.items ++ lines) none ∙ append-nil c.args.text.now.items)
