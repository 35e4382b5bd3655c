use Rattle.std.proofs.Common.{◌+◌, ◌-◌, ◌/◌, ◌%◌, ◌^◌, ◌<◌, bit_and, length, ◌∙◌, ap, arith, subst}
use Rattle.std.specs.Int.{bit_at}
use Rattle.std.proofs.lemmas.List.{get_or_read}
use Rattle.bit_table.specs.Marks.{AreMarksFrom}
use Rattle.bit_table.proofs.FromLemmas.{marks_read}
use Rattle.bit_table.proofs.MarkLemmas.{marks_long, word_listed}
use Rattle.bit_table.proofs.NextLemmas.{bit_of_rest}
use Rattle.shared_marks.proofs.bits.Bits.marks_in_word.Goals as goal

pub index-word-requires : goal.index-word-requires
index-word-requires c =
    let words = c.self.inside.words.items in
    let long = marks_long words c.self.inside.size in
    let seen = ap length c.self.view_is in
    omega (arith, word_listed words c.self.inside.size c.args.from c.self.invariant (omega (arith, c.requires.within, c.requires.some, seen, long)), c.self.inside.words.ok.0)

pub returns : goal.returns
returns c =
    let words = c.self.inside.words.items in
    let size = c.self.inside.size in
    let from = c.args.from in
    let count = c.args.count in
    let word = c.index-word.result.now in
    let long = marks_long words size in
    let seen = ap length c.self.view_is in
    let below : from < size = omega (arith, c.requires.within, c.requires.some, seen, long) in
    let read = get_or_read words (from / 64) word (word_listed words size from c.self.invariant below) c.index-word.ensures 0 in
    subst (λ marks. AreMarksFrom marks from count (bit_and (word / 2 ^ (from % 64)) ((2 ^ 64 - 1) / 2 ^ (64 - count)))) c.self.view_is
    (marks_read words size from count (word / 2 ^ (from % 64)) (record {
      below = λ i within near. bit_of_rest word (from % 64) i ∙ ap (λ w. bit_at w (from % 64 + i)) read;
      above = λ i within far. absurd (omega (arith, c.requires.shared, far, within));
    }) (omega (arith, c.requires.shared)) (omega (arith, c.requires.within, seen, long)))
