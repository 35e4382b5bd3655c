use Rattle.std.proofs.Common.{inl, inr, ◌≡◌, ◌∙◌, ◌+◌, ◌-◌, ◌<◌, All, None, ap, arith, drop, get_or, length, map, subst, sum_by, sym}
use Rattle.std.specs.Prelude.{slice_set}
use Rattle.std.proofs.lemmas.Bool.{cases_eq}
use Rattle.std.proofs.lemmas.List.{get_or-set_other, get_or-set_same, length-drop, length-map, length-set}
use Rattle.cov_model.specs.believed.Sound.{param_at}
use Rattle.uncovered_table.specs.Bits.{sets_in_play, value_held}
use Rattle.uncovered_table.specs.Digits.{cell_digit, digit_of, own_values}
use Rattle.uncovered_table.specs.Kept.{digits_of}
use Rattle.uncovered_table.specs.Masks.{IsMask, restricted}
use Rattle.uncovered_table.specs.Pairs.{digit_count}
use Rattle.uncovered_table.specs.Words.{bit_in}
use Rattle.uncovered_table.proofs.PartnerLemmas.{digit-block, no-bits, pairs-gain, partners-exist}
use Rattle.uncovered_table.proofs.ValueLemmas.{digit_from, digits_long}
use Rattle.uncovered_table.proofs.pairs.put_pair_counts.Goals as goal

pub put_mask-requires-clause-exist : goal.put_mask-requires-clause-exist
put_mask-requires-clause-exist c =
    let v = c.args.sets.now in
    subst (All (λ p. p < length v.model.params)) (sym c.as_slice.ensures.value)
    (partners-exist (λ p. p < length v.model.params) 0 (length v.model.params) c.args.pairs.now.partners.items c.requires.pairs.rise (λ p less. less))

pub put_mask-requires-clause-fits : goal.put_mask-requires-clause-fits
put_mask-requires-clause-fits c = c.requires.pairs.fits

pub put_mask-requires-clause-none : goal.put_mask-requires-clause-none
put_mask-requires-clause-none c = no-bits 128

pub from_value-digits-requires : goal.from_value-digits-requires
from_value-digits-requires c =
    let v = c.args.sets.now in
    omega (arith, ap length c.digits.ensures, digits_long v.model v.slice c.args.column, c.requires.values)

pub bounds-digits-i : goal.bounds-digits-i
bounds-digits-i c =
    let v = c.args.sets.now in
    let place = c.args.from + c.loop-i.i in
    let below : place < length (param_at v.model.params c.args.column).values = omega (arith, c.loop-i-test.true, c.loop-i.invariant.long, c.requires.values) in
    let long : length c.from_value-digits.result.now ≡ length (digits_of v.model v.slice c.args.column) - c.args.from =
    ap length (c.from_value-digits.ensures ∙ ap (drop c.args.from) c.digits.ensures) ∙ length-drop c.args.from (digits_of v.model v.slice c.args.column) in
    omega (arith, long, below, digits_long v.model v.slice c.args.column)

pub count_pairs-requires-clause-digit : goal.count_pairs-requires-clause-digit
count_pairs-requires-clause-digit c =
    let v = c.args.sets.now in
    let place = c.args.from + c.loop-i.i in
    let below : place < length (param_at v.model.params c.args.column).values = omega (arith, c.loop-i-test.true, c.loop-i.invariant.long, c.requires.values) in
    let long : length c.from_value-digits.result.now ≡ length (digits_of v.model v.slice c.args.column) - c.args.from =
    ap length (c.from_value-digits.ensures ∙ ap (drop c.args.from) c.digits.ensures) ∙ length-drop c.args.from (digits_of v.model v.slice c.args.column) in
    let digit : get_or c.from_value-digits.result.now c.loop-i.i None ≡ digit_of (own_values v.model v.slice c.args.column) place =
    ap (λ list. get_or list c.loop-i.i None) (c.from_value-digits.ensures ∙ ap (drop c.args.from) c.digits.ensures)
    ∙ digit_from v.model v.slice c.args.column c.args.from c.loop-i.i below in
    digit-block v.model v.slice c.args.column place (length c.args.pairs.now.blocks.items) (get_or c.from_value-digits.result.now c.loop-i.i None) (sym digit)
    (sym (length-map c.args.pairs.now.blocks.items (λ block. block.items)) ∙ c.requires.pairs.enough)

pub count_pairs-requires-clause-mask : goal.count_pairs-requires-clause-mask
count_pairs-requires-clause-mask c = c.put_mask.ensures.long

pub count_pairs-requires-clause-short : goal.count_pairs-requires-clause-short
count_pairs-requires-clause-short c = c.requires.pairs.short

pub loop-i-preserved : goal.loop-i-preserved
loop-i-preserved c =
    let v = c.args.sets.now in
    let place = c.args.from + c.loop-i.i in
    let below : place < length (param_at v.model.params c.args.column).values = omega (arith, c.loop-i-test.true, c.loop-i.invariant.long, c.requires.values) in
    let long : length c.from_value-digits.result.now ≡ length (digits_of v.model v.slice c.args.column) - c.args.from =
    ap length (c.from_value-digits.ensures ∙ ap (drop c.args.from) c.digits.ensures) ∙ length-drop c.args.from (digits_of v.model v.slice c.args.column) in
    let digit : get_or c.from_value-digits.result.now c.loop-i.i None ≡ digit_of (own_values v.model v.slice c.args.column) place =
    ap (λ list. get_or list c.loop-i.i None) (c.from_value-digits.ensures ∙ ap (drop c.args.from) c.digits.ensures)
    ∙ digit_from v.model v.slice c.args.column c.args.from c.loop-i.i below in
    let sets = sets_in_play v.model v.slice c.args.column in
    let masked = subst (λ cells. IsMask (digit_count v.model v.slice) (restricted c.args.pairs.now.partners.items (cell_digit (own_values v.model v.slice) cells))
    (length v.model.params) (bit_in c.put_mask.new.mask)) c.as_slice-2.ensures
    (subst (λ list. IsMask (digit_count v.model v.slice) (restricted list (cell_digit (own_values v.model v.slice) c.as_slice-2.result.now))
    (length v.model.params) (bit_in c.put_mask.new.mask)) c.as_slice.ensures.value c.put_mask.ensures.mask) in
    let value : c.count_pairs.result ≡ sum_by (value_held v.model v.slice c.args.bits.now c.args.cells.now c.args.column place) sets =
    c.count_pairs.ensures
    ∙ pairs-gain v.model v.slice c.args.column place c.args.cells.now c.put_mask.new.mask c.args.bits.now c.args.pairs.now.partners.items
    (map (λ block. block.items) c.args.pairs.now.blocks.items) (get_or c.from_value-digits.result.now c.loop-i.i None) (sym digit) masked c.requires.pairs in
    record {
      long = length-set c.loop-i.scores c.loop-i.i c.count_pairs.result ∙ c.loop-i.invariant.long;
      each =
          λ k less.
          elim (cases_eq k c.loop-i.i) [
            | inl here ↦
                ap (λ n. get_or (slice_set c.loop-i.scores c.loop-i.i c.count_pairs.result) n 0) here
                ∙ get_or-set_same c.loop-i.scores c.loop-i.i c.count_pairs.result 0 (omega (arith, c.loop-i-test.true))
                ∙ value ∙ ap (λ n. sum_by (value_held v.model v.slice c.args.bits.now c.args.cells.now c.args.column (c.args.from + n)) sets) (sym here)
            | inr apart ↦
                get_or-set_other c.loop-i.scores c.loop-i.i k c.count_pairs.result 0 apart ∙ c.loop-i.invariant.each k (omega (arith, less, apart))
          ];
    }
