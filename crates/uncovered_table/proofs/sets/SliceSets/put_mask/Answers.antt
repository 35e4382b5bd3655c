use Rattle.std.proofs.Common.{◌≡◌, ◌∙◌, ◌+◌, ◌++◌, ◌∷◌, [], ◌*◌, ◌<◌, ℕ, Option, Some, None, ap, arith, get_or, length, refl, subst, sym, take}
use Rattle.std.specs.Prelude.{◌==◌, if◌then◌else◌}
use Rattle.std.proofs.lemmas.List.{take_all, take_more}
use Rattle.uncovered_table.specs.Digits.{cell_digit, own_values}
use Rattle.uncovered_table.specs.Masks.{IsMask, restricted}
use Rattle.uncovered_table.specs.Pairs.{digit_count}
use Rattle.uncovered_table.specs.Words.{bit_in}
use Rattle.uncovered_table.proofs.DigitLemmas.{cell_digits}
use Rattle.uncovered_table.proofs.MaskLemmas.{mask-none, mask-some, mask-start}
use Rattle.uncovered_table.proofs.PartnerLemmas.{digit-room}
use Rattle.uncovered_table.proofs.sets.SliceSets.put_mask.Goals as goal

pub put_digit-requires : goal.put_digit-requires
put_digit-requires c =
    let v = c.args.self.now in
    let p = get_or c.args.params.now c.loop-k.k 0 in
    let inside : p < length v.model.params = c.requires.exist c.loop-k.k 0 c.loop-k-test.true in
    digit-room (digit_count v.model v.slice) (length v.model.params) p (get_or c.args.begins.now p 0) (64 * length c.loop-k.mask) c.digit_in.result
    (λ d is. cell_digits (own_values v.model v.slice) c.args.cells.now p d (sym c.digit_in.ensures ∙ is)) inside
    (c.requires.begins.each p 0 (omega (arith, inside)))
    (omega (arith, c.requires.fits, c.loop-k.invariant.long))

pub loop-k-init : goal.loop-k-init
loop-k-init c =
    let v = c.args.self.now in
    record {
      long = refl;
      is = mask-start (digit_count v.model v.slice) (cell_digit (own_values v.model v.slice) c.args.cells.now) (length v.model.params) (bit_in c.args.mask.now)
          c.requires.none;
    }

pub loop-k-preserved : goal.loop-k-preserved
loop-k-preserved c =
    let v = c.args.self.now in
    let digits = cell_digit (own_values v.model v.slice) c.args.cells.now in
    record {
      long = c.put_digit.ensures.long ∙ c.loop-k.invariant.long;
      is =
          subst (λ list. IsMask (digit_count v.model v.slice) (restricted list digits) (length v.model.params) (bit_in c.put_digit.new.mask))
          (sym (take_more c.args.params.now c.loop-k.k 0 c.loop-k-test.true)) (by_digit c.digit_in.result refl);
    }
  where
    by_digit : (o : Option ℕ) → c.digit_in.result ≡ o → IsMask (digit_count c.args.self.now.model c.args.self.now.slice)
        (restricted (take c.loop-k.k c.args.params.now ++ get_or c.args.params.now c.loop-k.k 0 ∷ [])
        (cell_digit (own_values c.args.self.now.model c.args.self.now.slice) c.args.cells.now)) (length c.args.self.now.model.params) (bit_in c.put_digit.new.mask)
    by_digit None is =
        let v = c.args.self.now in
        let count = digit_count v.model v.slice in
        let params = take c.loop-k.k c.args.params.now in
        let p = get_or c.args.params.now c.loop-k.k 0 in
        let digits = cell_digit (own_values v.model v.slice) c.args.cells.now in
        subst (λ words. IsMask count (restricted (params ++ p ∷ []) digits) (length v.model.params) (bit_in words)) (sym (c.put_digit.ensures.none is))
        (mask-none count digits (length v.model.params) (bit_in c.loop-k.mask) params p c.loop-k.invariant.is (sym c.digit_in.ensures ∙ is))
    by_digit (Some d) is =
        let v = c.args.self.now in
        let p = get_or c.args.params.now c.loop-k.k 0 in
        let digits = cell_digit (own_values v.model v.slice) c.args.cells.now in
        let given = sym c.digit_in.ensures ∙ is in
        let inside : p < length v.model.params = c.requires.exist c.loop-k.k 0 c.loop-k-test.true in
        let begin = c.requires.begins.each p 0 (omega (arith, inside)) in
        mask-some (digit_count v.model v.slice) digits (length v.model.params) (bit_in c.loop-k.mask) (bit_in c.put_digit.new.mask)
        (take c.loop-k.k c.args.params.now) p d c.loop-k.invariant.is inside given (cell_digits (own_values v.model v.slice) c.args.cells.now p d given)
        (λ k. c.put_digit.ensures.some d is k ∙ ap (λ b. if k == b + d then 1 else bit_in c.loop-k.mask k) begin)

pub returns-clause-mask : goal.returns-clause-mask
returns-clause-mask c =
    let v = c.args.self.now in
    subst (λ list. IsMask (digit_count v.model v.slice) (restricted list (cell_digit (own_values v.model v.slice) c.args.cells.now)) (length v.model.params)
    (bit_in c.loop-k.mask)) (take_all c.loop-k.k c.args.params.now (omega (arith, c.loop-k-test.false))) c.loop-k.invariant.is
