use Rattle.std.proofs.Common.{ℕ, List, [], ◌++◌, ◌∙◌, Bor, ap, codes, get_or}
use Rattle.acts_front.proofs.Joined.{one_more}
use Rattle.acts_front.proofs.write.put_behind_commas.Goals as goal

pub loop-text-preserved : goal.loop-text-preserved
loop-text-preserved c =
    let none : Bor (List ℕ) = record { ref_ptr = (0, 0); now = [] } in
    c.in_ok-extend_from_slice-2.ensures.items
    ∙ (ap (λ items. items ++ (get_or c.args.texts.now c.loop-text.text-index none).now) (c.in_ok-extend_from_slice.ensures.items ∙ ap (λ items. items ++ codes ", ") c.loop-text.invariant)
    ∙ one_more (λ (text : Bor (List ℕ)). text.now) (codes ", ") c.args.out.now.items c.args.texts.now c.loop-text.text-index none c.loop-text-test.true)
