use Rattle.std.proofs.Common.{◌≡◌, ◌∙◌, ◌+◌, ◌<◌, [], ap, arith, get_or, length, map, subst, sym}
use Rattle.std.specs.Prelude.{slice_set}
use Rattle.std.proofs.lemmas.List.{get_or-map, length-map, map-set}
use Rattle.uncovered_table.specs.Bits.{all_cleared, sets_in_play}
use Rattle.uncovered_table.specs.Digits.{cell_digit, own_values, with_digit}
use Rattle.tuple_index.specs.Places.{RisesFrom}
use Rattle.uncovered_table.specs.Masks.{IsCleared, begin_at, restricted}
use Rattle.uncovered_table.specs.Pairs.{IsBlockPair, IsPair, Matched, digit_count}
use Rattle.uncovered_table.specs.Words.{bit_in}
use Rattle.uncovered_table.proofs.DigitLemmas.{cell_digits}
use Rattle.uncovered_table.proofs.PairLemmas.{AreCleared, matched-weaker, pairs-closed}
use Rattle.uncovered_table.proofs.PartnerLemmas.{cleared-blocks}
use Rattle.uncovered_table.proofs.pairs.clear_pairs.Goals as goal

pub index_mut-block-requires : goal.index_mut-block-requires
index_mut-block-requires c =
    let v = c.args.sets.now in
    let list = c.args.pairs.now.blocks.items in
    let within : c.args.digit < length list =
    omega (arith, length-map list (λ block. block.items), c.requires.pairs.enough, c.requires.digit) in
    omega (arith, within, c.args.pairs.now.blocks.ok.0)

pub clear_partners-requires-clause-rise : goal.clear_partners-requires-clause-rise
clear_partners-requires-clause-rise c =
    subst (RisesFrom 0 (length c.args.sets.now.model.params)) (sym c.as_slice.ensures.value) c.requires.pairs.rise

pub clear_partners-requires-clause-partners : goal.clear_partners-requires-clause-partners
clear_partners-requires-clause-partners c =
    let v = c.args.sets.now in
    let d = c.args.digit in
    let list = c.args.pairs.now.blocks.items in
    let olds = map (λ block. block.items) list in
    let within : d < length list = omega (arith, length-map list (λ block. block.items), c.requires.pairs.enough, c.requires.digit) in
    let block = c.index_mut-block.result.now.items in
    let was : block ≡ get_or olds d [] =
    ap (λ block. block.items) c.index_mut-block.ensures.value
    ∙ sym (get_or-map (λ block. block.items) list d c.index_mut-block.result.now [] within) in
    let sets = sets_in_play v.model v.slice c.args.column in
    subst (Matched (IsBlockPair v.model v.slice c.args.column d c.args.bits.now block) sets) (sym c.as_slice.ensures.value)
    (matched-weaker (IsPair v.model v.slice c.args.column c.args.bits.now olds) (IsBlockPair v.model v.slice c.args.column d c.args.bits.now block)
    (λ set p is. record {
      partner = is.partner;
      held =
          λ e digits below first second.
          ap (λ words. bit_in words (begin_at (digit_count v.model v.slice) p + e)) was ∙ is.held d e digits below first second;
    })
    sets c.args.pairs.now.partners.items c.requires.pairs.pairs)

pub returns-clause-pairs : goal.returns-clause-pairs
returns-clause-pairs c =
    let v = c.args.sets.now in
    let list = c.args.pairs.now.blocks.items in
    let partners = c.args.pairs.now.partners.items in
    let olds = map (λ block. block.items) list in
    let count = digit_count v.model v.slice in
    let digits = cell_digit (own_values v.model v.slice) c.args.cells.now in
    let within : c.args.digit < length list =
    omega (arith, length-map list (λ block. block.items), c.requires.pairs.enough, c.requires.digit) in
    let block = c.clear_partners.new.block in
    let was : c.index_mut-block.result.now.items ≡ get_or olds c.args.digit [] =
    ap (λ block. block.items) c.index_mut-block.ensures.value
    ∙ sym (get_or-map (λ block. block.items) list c.args.digit c.index_mut-block.result.now [] within) in
    let own : IsCleared count (restricted partners digits) (get_or olds c.args.digit []) block.items =
    subst (λ old. IsCleared count (restricted partners digits) old block.items) was
    (subst (λ cells. IsCleared count (restricted partners (cell_digit (own_values v.model v.slice) cells)) c.index_mut-block.result.now.items block.items)
    c.as_slice-2.ensures
    (subst (λ ps. IsCleared count (restricted ps (cell_digit (own_values v.model v.slice) c.as_slice-2.result.now)) c.index_mut-block.result.now.items block.items)
    c.as_slice.ensures.value c.clear_partners.ensures.block)) in
    let made : AreCleared count (restricted partners digits) olds (map (λ block. block.items) (slice_set list c.args.digit block)) c.args.digit =
    subst (λ next. AreCleared count (restricted partners digits) olds next c.args.digit) (sym (map-set (λ block. block.items) list c.args.digit block))
    (cleared-blocks count (restricted partners digits) olds c.args.digit block.items (omega (arith, within, length-map list (λ block. block.items))) own) in
    pairs-closed v.model v.slice c.args.column c.args.digit digits c.args.bits.now partners olds (map (λ block. block.items) (slice_set list c.args.digit block))
    c.assert_invariant.ensures.kept (cell_digits (own_values v.model v.slice) c.args.cells.now) c.requires.digit made c.requires.pairs

pub returns-clause-bits : goal.returns-clause-bits
returns-clause-bits c =
    let v = c.args.sets.now in
    c.clear_partners.ensures.bits
    ∙ ap (λ cells. all_cleared v.model v.slice (with_digit (cell_digit (own_values v.model v.slice) cells) c.args.column c.args.digit) c.args.bits.now
    (sets_in_play v.model v.slice c.args.column)) c.as_slice-2.ensures
