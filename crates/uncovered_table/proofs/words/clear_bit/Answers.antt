use Rattle.std.proofs.Common.{◌≡◌, ◌∙◌, ◌/◌, ◌%◌, ◌<◌, ap, arith, length, sym}
use Rattle.std.specs.Int.{bit_at}
use Rattle.std.proofs.lemmas.List.{get_or_default}
use Rattle.std.proofs.lemmas.Nat.Bits.{shr_and_one}
use Rattle.uncovered_table.specs.Words.{bit_in}
use Rattle.uncovered_table.proofs.WordLemmas.{clear-bit, clear-none}
use Rattle.uncovered_table.proofs.words.clear_bit.Goals as goal

unset : (c : goal.Then-word-bit-eq0) → bit_in c.args.words.now.items c.args.place ≡ 0
unset c =
    let words = c.args.words.now.items in
    let at = c.args.place / 64 in
    let bit = c.args.place % 64 in
    let word = c.index-word.result.now in
    let inside : at < length words = omega (arith, c.if-at-len.false, c.len.ensures, c.args.words.now.ok.0) in
    ap (λ w. bit_at w bit) (sym (c.index-word.ensures ∙ get_or_default words at word 0 inside)) ∙ sym (shr_and_one word bit) ∙ c.if-word-bit-eq0.true

pub returns-then-word-bit-eq0-clause-none : goal.returns-then-word-bit-eq0-clause-none
returns-then-word-bit-eq0-clause-none c = λ same. unset c

pub returns-then-word-bit-eq0-clause-each : goal.returns-then-word-bit-eq0-clause-each
returns-then-word-bit-eq0-clause-each c = λ k. clear-none c.args.words.now.items c.args.place k (unset c)

pub returns-clause-each : goal.returns-clause-each
returns-clause-each c =
    let words = c.args.words.now.items in
    let at = c.args.place / 64 in
    let inside : at < length words = omega (arith, c.if-at-len.false, c.len.ensures, c.args.words.now.ok.0) in
    λ k. clear-bit words c.args.place k c.index-word.result.now inside
    (c.index-word.ensures ∙ get_or_default words at c.index-word.result.now 0 inside)
