use Rattle.std.proofs.Common.{◌≡◌, ◌++◌, subst, sym, ◌∙◌}
use Rattle.std.specs.Prelude.{OnOk}
use Rattle.model_words.proofs.ListLemmas.{left_out_is}
use Rattle.model_words.proofs.left_out.add_left_out.Goals as goal

pub returns : goal.returns
returns c =
    subst (λ words. OnOk c.add_under.result (c.add_under.new.text.items ≡ c.args.text.now.items ++ words))
    (sym (left_out_is c.args.model.now c.args.proof.now.omissions (sym c.is_empty.ensures ∙ c.if-is_empty.false))) c.add_under.ensures
