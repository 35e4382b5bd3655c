use Rattle.std.proofs.Common.{◌∙◌, arith}
use Rattle.std.proofs.lemmas.Grind.{same_number_lists}
use Rattle.std.proofs.lemmas.List.{length-set}
use Rattle.std.specs.Slots.{slots_counts, slots_items}
use Rattle.shared_marks.proofs.CloseLemmas.{copied_more}
use Rattle.shared_marks.proofs.bits.words_of.Goals as goal

pub loop-i-preserved : goal.loop-i-preserved
loop-i-preserved c =
    let into = c.loop-i.into.items in (
      length-set into c.loop-i.i c.word.result ∙ c.loop-i.invariant.0,
      copied_more into (slots_items c.args.closed.now.words) c.loop-i.i c.word.result (omega (arith, c.args.into.ok.0)) c.word.ensures c.loop-i.invariant.1,
    )

pub returns : goal.returns
returns c =
    same_number_lists c.loop-i.into.items (slots_items c.args.closed.now.words) (c.loop-i.invariant.0 ∙ (slots_counts c.args.closed.now.words).0)
    (λ k within. c.loop-i.invariant.1 k (omega (arith, within, c.args.into.ok.0)))
