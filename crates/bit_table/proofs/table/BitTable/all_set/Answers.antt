use Rattle.std.proofs.Common.{◌≡◌, ◌+◌, ◌/◌, ◌*◌, ◌^◌, ◌-◌, ◌≤◌, replicate, ◌∙◌, ap, arith}
use Rattle.std.proofs.lemmas.List.{length-replicate}
use Rattle.bit_table.specs.Words.{marks_of}
use Rattle.bit_table.proofs.MarkLemmas.{all_counted, all_marked}
use Rattle.bit_table.proofs.table.BitTable.all_set.Goals as goal

pub invariant_of-result : goal.invariant_of-result
invariant_of-result c =
    let count = c.args.size / 64 + 1 in
    let enough : c.args.size ≤ 64 * count = omega arith in
    let full : c.in_ok-words.words.items ≡ replicate count (2 ^ 64 - 1) = c.in_ok-words.ensures.items_if_clones_equal (λ y same. same) in
    rw full (rw (length-replicate count (2 ^ 64 - 1)) enough, all_counted count c.args.size enough)

pub returns : goal.returns
returns c =
    let count = c.args.size / 64 + 1 in
    let full : c.in_ok-words.words.items ≡ replicate count (2 ^ 64 - 1) = c.in_ok-words.ensures.items_if_clones_equal (λ y same. same) in
    ap (λ words. marks_of words c.args.size) full ∙ all_marked count c.args.size (omega arith)
