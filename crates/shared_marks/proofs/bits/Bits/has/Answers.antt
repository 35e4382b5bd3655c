use Rattle.std.proofs.Common.{◌%◌, ◌/◌, false, get_or, eqb, ◌∙◌, sym, ap, arith}
use Rattle.std.specs.Int.{bit_at}
use Rattle.std.proofs.lemmas.List.{get_or_read}
use Rattle.std.proofs.lemmas.Nat.Bits.{shr_and_one}
use Rattle.bit_table.proofs.MarkLemmas.{mark_is, viewed_below, word_listed}
use Rattle.shared_marks.proofs.bits.Bits.has.Goals as goal

pub index-word-requires : goal.index-word-requires
index-word-requires c =
    let below = viewed_below c.self.inside.words.items c.self.inside.size c.args.place c.args.self.now c.self.view_is c.requires in
    omega (arith, word_listed c.self.inside.words.items c.self.inside.size c.args.place c.self.invariant below, c.self.inside.words.ok.0)

pub returns : goal.returns
returns c =
    let words = c.self.inside.words.items in
    let below = viewed_below words c.self.inside.size c.args.place c.args.self.now c.self.view_is c.requires in
    let listed = word_listed words c.self.inside.size c.args.place c.self.invariant below in
    let read = get_or_read words (c.args.place / 64) c.index-word.result.now listed c.index-word.ensures 0 in
    ap (λ b. eqb b 1) (shr_and_one c.index-word.result.now (c.args.place % 64) ∙ ap (λ w. bit_at w (c.args.place % 64)) read)
    ∙ sym (mark_is words c.self.inside.size c.args.place false below)
    ∙ ap (λ marks. get_or marks c.args.place false) c.self.view_is
