use Rattle.std.proofs.Common.{◌^◌, ◌-◌, ◌/◌, bit_and, length, ap, arith, subst}
use Rattle.bit_table.specs.Marks.{AreMarksFrom}
use Rattle.bit_table.proofs.FromLemmas.{AreBitsFrom, marks_read}
use Rattle.bit_table.proofs.MarkLemmas.{marks_long}
use Rattle.bit_table.proofs.table.BitTable.marks_from.Goals as goal

pub bits_from-word-requires-clause-within : goal.bits_from-word-requires-clause-within
bits_from-word-requires-clause-within c =
    let same = ap length c.as_slice-words.ensures.value in
    let long = marks_long c.self.inside.words.items c.self.inside.size in
    let seen = ap length c.self.view_is in
    omega (arith, same, long, seen, c.requires.within, c.self.invariant.1)

pub returns : goal.returns
returns c =
    let count = c.args.count in
    let from = c.args.from in
    let word = c.bits_from-word.result in
    let long = marks_long c.self.inside.words.items c.self.inside.size in
    let seen = ap length c.self.view_is in
    let bits = subst (λ words. AreBitsFrom words from count word) c.as_slice-words.ensures.value c.bits_from-word.ensures in
    subst (λ marks. AreMarksFrom marks from count (bit_and word ((2 ^ 64 - 1) / 2 ^ (64 - count)))) c.self.view_is
    (marks_read c.self.inside.words.items c.self.inside.size from count word bits c.requires.few (omega (arith, c.requires.within, seen, long)))
