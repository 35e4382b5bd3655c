use Rattle.std.proofs.Common.{◌≡◌, ◌∙◌, ◌*◌, ◌<◌, [], ap, arith, get_or, length, map, subst, sym}
use Rattle.std.specs.Prelude.{IfSome}
use Rattle.std.proofs.lemmas.List.{get_or-map}
use Rattle.uncovered_table.specs.Pairs.{common_count}
use Rattle.uncovered_table.specs.Words.{common, sum_to}
use Rattle.uncovered_table.proofs.pairs.count_pairs.Goals as goal

pub count_common-requires-clause-room : goal.count_common-requires-clause-room
count_common-requires-clause-room c =
    let blocks = c.args.pairs.now.blocks.items in
    let within : c.in-Some.d < length blocks = subst (λ o. IfSome o (λ d. d < length blocks)) c.in-Some.is c.requires.digit in
    let same : c.as_slice.result.now ≡ get_or (map (λ block. block.items) blocks) c.in-Some.d [] =
    c.as_slice.ensures.value ∙ ap (λ block. block.items) c.index-block.ensures
    ∙ sym (get_or-map (λ block. block.items) blocks c.in-Some.d c.index-block.result.now [] within) in
    omega (arith, ap length same, c.requires.short c.in-Some.d, c.requires.mask)

pub count_common-requires-clause-few : goal.count_common-requires-clause-few
count_common-requires-clause-few c =
    let blocks = c.args.pairs.now.blocks.items in
    let within : c.in-Some.d < length blocks = subst (λ o. IfSome o (λ d. d < length blocks)) c.in-Some.is c.requires.digit in
    let same : c.as_slice.result.now ≡ get_or (map (λ block. block.items) blocks) c.in-Some.d [] =
    c.as_slice.ensures.value ∙ ap (λ block. block.items) c.index-block.ensures
    ∙ sym (get_or-map (λ block. block.items) blocks c.in-Some.d c.index-block.result.now [] within) in
    omega (arith, ap length same, c.requires.short c.in-Some.d)

pub returns-in-Some : goal.returns-in-Some
returns-in-Some c =
    let blocks = c.args.pairs.now.blocks.items in
    let within : c.in-Some.d < length blocks = subst (λ o. IfSome o (λ d. d < length blocks)) c.in-Some.is c.requires.digit in
    let same : c.as_slice.result.now ≡ get_or (map (λ block. block.items) blocks) c.in-Some.d [] =
    c.as_slice.ensures.value ∙ ap (λ block. block.items) c.index-block.ensures
    ∙ sym (get_or-map (λ block. block.items) blocks c.in-Some.d c.index-block.result.now [] within) in
    c.count_common.ensures ∙ ap (λ list. sum_to (common list c.args.mask.now) (64 * length list)) same
    ∙ sym (ap (common_count (map (λ block. block.items) blocks) c.args.mask.now) c.in-Some.is)

pub returns-in-None : goal.returns-in-None
returns-in-None c = sym (ap (common_count (map (λ block. block.items) c.args.pairs.now.blocks.items) c.args.mask.now) c.in-None.is)
