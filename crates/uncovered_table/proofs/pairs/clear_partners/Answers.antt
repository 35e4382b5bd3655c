use Rattle.std.proofs.Common.{false, ◌∙◌, ◌+◌, ◌<◌, ap, arith, drop, get_or, length, refl, subst, sym, take}
use Rattle.std.proofs.lemmas.List.{at_drop_all, drop_more, take_all, take_more}
use Rattle.uncovered_table.specs.Bits.{all_cleared, held_bit, sets_in_play}
use Rattle.uncovered_table.specs.Digits.{cell_digit, own_values, with_digit}
use Rattle.uncovered_table.specs.Masks.{IsCleared, restricted}
use Rattle.uncovered_table.specs.Pairs.{IsBlockPair, digit_count}
use Rattle.uncovered_table.proofs.DigitLemmas.{cell_digits}
use Rattle.uncovered_table.proofs.GainLemmas.{length-cleared}
use Rattle.uncovered_table.proofs.MaskLemmas.{cleared-more, cleared-start}
use Rattle.uncovered_table.proofs.PairLemmas.{cleared_stays, matched-at, matched-long, none-cleared, unlisted}
use Rattle.uncovered_table.proofs.pairs.clear_partners.Goals as goal

pub bounds-partners-k : goal.bounds-partners-k
bounds-partners-k c =
    let v = c.args.sets.now in
    omega (
      arith,
      c.loop-k-test.true,
      ap length c.in_play-demanded.ensures.value,
      matched-long (IsBlockPair v.model v.slice c.args.column c.args.digit c.args.bits.now c.args.block.now.items) (sets_in_play v.model v.slice c.args.column) c.args.partners.now c.requires.partners,
    )

pub clear_pair-requires-clause-partner : goal.clear_pair-requires-clause-partner
clear_pair-requires-clause-partner c =
    let v = c.args.sets.now in
    let of = IsBlockPair v.model v.slice c.args.column c.args.digit c.args.bits.now c.args.block.now.items in
    let p = get_or c.args.partners.now c.loop-k.k 0 in
    let pair : of (get_or c.in_play-demanded.result.now c.loop-k.k 0) p =
    subst (λ list. of (get_or list c.loop-k.k 0) p) (sym c.in_play-demanded.ensures.value)
    (matched-at of (sets_in_play v.model v.slice c.args.column) c.args.partners.now c.loop-k.k c.requires.partners
    (omega (arith, c.loop-k-test.true, ap length c.in_play-demanded.ensures.value))) in
    pair.partner

pub clear_pair-requires-clause-none : goal.clear_pair-requires-clause-none
clear_pair-requires-clause-none c =
    let v = c.args.sets.now in
    let of = IsBlockPair v.model v.slice c.args.column c.args.digit c.args.bits.now c.args.block.now.items in
    let p = get_or c.args.partners.now c.loop-k.k 0 in
    let pair : of (get_or c.in_play-demanded.result.now c.loop-k.k 0) p =
    subst (λ list. of (get_or list c.loop-k.k 0) p) (sym c.in_play-demanded.ensures.value)
    (matched-at of (sets_in_play v.model v.slice c.args.column) c.args.partners.now c.loop-k.k c.requires.partners
    (omega (arith, c.loop-k-test.true, ap length c.in_play-demanded.ensures.value))) in
    let digits = cell_digit (own_values v.model v.slice) c.args.cells.now in
    let within : c.loop-k.k < length c.args.partners.now =
    omega (
      arith,
      c.loop-k-test.true,
      ap length c.in_play-demanded.ensures.value,
      matched-long of (sets_in_play v.model v.slice c.args.column) c.args.partners.now c.requires.partners,
    ) in
    λ e given none.
    none-cleared v.model v.slice c.args.column c.args.digit (get_or c.in_play-demanded.result.now c.loop-k.k 0) p e digits (take c.loop-k.k c.args.partners.now)
    c.args.bits.now c.loop-k.bits c.args.block.now.items c.loop-k.block.items (cell_digits (own_values v.model v.slice) c.args.cells.now) c.requires.digit pair
    c.loop-k.invariant.block (unlisted 0 (length v.model.params) c.args.partners.now c.loop-k.k c.requires.rise within) c.loop-k.invariant.gone given none

pub loop-k-init : goal.loop-k-init
loop-k-init c =
    let v = c.args.sets.now in
    record {
      left = refl;
      long = c.requires.bits;
      gone = λ i none. none;
      block = cleared-start (digit_count v.model v.slice) (cell_digit (own_values v.model v.slice) c.args.cells.now) c.args.block.now.items;
    }

pub loop-k-preserved : goal.loop-k-preserved
loop-k-preserved c =
    let v = c.args.sets.now in
    let digits = cell_digit (own_values v.model v.slice) c.args.cells.now in
    let f = with_digit digits c.args.column c.args.digit in
    let sets = c.in_play-demanded.result.now in
    let set = get_or sets c.loop-k.k 0 in
    let p = get_or c.args.partners.now c.loop-k.k 0 in
    let within : c.loop-k.k < length c.args.partners.now =
    omega (
      arith,
      c.loop-k-test.true,
      ap length c.in_play-demanded.ensures.value,
      matched-long (IsBlockPair v.model v.slice c.args.column c.args.digit c.args.bits.now c.args.block.now.items) (sets_in_play v.model v.slice c.args.column) c.args.partners.now c.requires.partners,
    ) in
    record {
      left =
          ap (λ bits. all_cleared v.model v.slice f bits (drop (c.loop-k.k + 1) sets)) c.clear_pair.ensures.bits
          ∙ sym (ap (all_cleared v.model v.slice f c.loop-k.bits) (drop_more sets c.loop-k.k 0 c.loop-k-test.true)) ∙ c.loop-k.invariant.left;
      long = ap length c.clear_pair.ensures.bits ∙ length-cleared (held_bit v.model v.slice f set) c.loop-k.bits ∙ c.loop-k.invariant.long;
      gone = λ i none.
          ap (λ bits. get_or bits i false) c.clear_pair.ensures.bits
          ∙ cleared_stays (held_bit v.model v.slice f set) c.loop-k.bits i (c.loop-k.invariant.gone i none);
      block =
          subst (λ list. IsCleared (digit_count v.model v.slice) (restricted list digits) c.args.block.now.items c.clear_pair.new.block.items)
          (sym (take_more c.args.partners.now c.loop-k.k 0 within))
          (cleared-more (digit_count v.model v.slice) digits (take c.loop-k.k c.args.partners.now) p c.args.block.now.items c.loop-k.block.items
          c.clear_pair.new.block.items (cell_digits (own_values v.model v.slice) c.args.cells.now p) c.loop-k.invariant.block c.clear_pair.ensures.block);
    }

pub returns-clause-bits : goal.returns-clause-bits
returns-clause-bits c =
    let v = c.args.sets.now in
    let f = with_digit (cell_digit (own_values v.model v.slice) c.args.cells.now) c.args.column c.args.digit in
    let sets = c.in_play-demanded.result.now in
    sym (at_drop_all (all_cleared v.model v.slice f c.loop-k.bits) sets c.loop-k.k (omega (arith, c.loop-k-test.false))) ∙ c.loop-k.invariant.left
    ∙ ap (all_cleared v.model v.slice f c.args.bits.now) c.in_play-demanded.ensures.value

pub returns-clause-block : goal.returns-clause-block
returns-clause-block c =
    let v = c.args.sets.now in
    subst (λ list. IsCleared (digit_count v.model v.slice) (restricted list (cell_digit (own_values v.model v.slice) c.args.cells.now)) c.args.block.now.items
    c.loop-k.block.items)
    (take_all c.loop-k.k c.args.partners.now (omega (
      arith,
      c.loop-k-test.false,
      ap length c.in_play-demanded.ensures.value,
      matched-long (IsBlockPair v.model v.slice c.args.column c.args.digit c.args.bits.now c.args.block.now.items) (sets_in_play v.model v.slice c.args.column) c.args.partners.now c.requires.partners,
    )))
    c.loop-k.invariant.block
