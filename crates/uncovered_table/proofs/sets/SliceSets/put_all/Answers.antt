use Rattle.std.proofs.Common.{◌≡◌, ◌∙◌, ◌+◌, ◌<◌, add-one, ap, arith, get_or, length, refl, subst, sym, take}
use Rattle.std.proofs.lemmas.List.{take_all, take_more}
use Rattle.uncovered_table.specs.Masks.{AreAll, begin_at}
use Rattle.uncovered_table.specs.Pairs.{digit_count}
use Rattle.uncovered_table.specs.Words.{bit_in}
use Rattle.uncovered_table.proofs.MaskLemmas.{all-more, all-start, begins-rise}
use Rattle.uncovered_table.proofs.sets.SliceSets.put_all.Goals as goal

pub set_bits-requires : goal.set_bits-requires
set_bits-requires c =
    let v = c.args.self.now in
    let count = digit_count v.model v.slice in
    let p = get_or c.args.params.now c.loop-k.k 0 in
    let inside : p < length v.model.params = c.requires.exist c.loop-k.k 0 c.loop-k-test.true in
    let end = c.requires.begins.each (p + 1) 0 (omega (arith, inside)) in
    let next = ap (begin_at count) (add-one p) in
    let rise = begins-rise count p (length v.model.params) inside in
    omega (arith, end, next, rise, c.requires.fits, c.loop-k.invariant.long)

pub loop-k-init : goal.loop-k-init
loop-k-init c =
    let v = c.args.self.now in
    record { long = refl; all = all-start (digit_count v.model v.slice) (bit_in c.args.mask.now) c.requires.none }

pub loop-k-preserved : goal.loop-k-preserved
loop-k-preserved c =
    let v = c.args.self.now in
    let count = digit_count v.model v.slice in
    let p = get_or c.args.params.now c.loop-k.k 0 in
    let inside : p < length v.model.params = c.requires.exist c.loop-k.k 0 c.loop-k-test.true in
    let begin = c.requires.begins.each p 0 (omega (arith, inside)) in
    let end = c.requires.begins.each (p + 1) 0 (omega (arith, inside)) in
    let next : begin_at count (p + 1) ≡ begin_at count p + count p = ap (begin_at count) (add-one p) in
    record {
      long = c.set_bits.ensures.long ∙ c.loop-k.invariant.long;
      all =
          subst (λ list. AreAll count list (bit_in c.set_bits.new.words))
          (sym (take_more c.args.params.now c.loop-k.k 0 c.loop-k-test.true))
          (all-more count (take c.loop-k.k c.args.params.now) (bit_in c.loop-k.mask) (bit_in c.set_bits.new.words) p c.loop-k.invariant.all
          (λ i least below. c.set_bits.ensures.inside i (omega (arith, least, begin)) (omega (arith, below, end, next)))
          (λ i out. c.set_bits.ensures.outside i (λ least below. out (omega (arith, least, begin)) (omega (arith, below, end, next)))));
    }

pub returns-clause-all : goal.returns-clause-all
returns-clause-all c =
    let v = c.args.self.now in
    subst (λ list. AreAll (digit_count v.model v.slice) list (bit_in c.loop-k.mask)) (take_all c.loop-k.k c.args.params.now (omega (arith, c.loop-k-test.false)))
    c.loop-k.invariant.all
