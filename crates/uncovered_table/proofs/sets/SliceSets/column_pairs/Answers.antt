use Rattle.std.proofs.Common.{◌∙◌, ◌<◌, ◌≤◌, All, ap, arith, length, map, subst, sym}
use Rattle.std.specs.Prelude.{IfSome}
use Rattle.std.proofs.lemmas.List.{length-take}
use Rattle.uncovered_table.specs.Bits.{sets_in_play}
use Rattle.uncovered_table.specs.Masks.{AreAll}
use Rattle.uncovered_table.specs.Pairs.{ArePartners, digit_count}
use Rattle.uncovered_table.specs.Words.{bit_in}
use Rattle.uncovered_table.proofs.PartnerLemmas.{all-used, no-bits, pairs-new, partners-exist}
use Rattle.uncovered_table.proofs.sets.SliceSets.column_pairs.Goals as goal

pub put_all-requires-clause-exist : goal.put_all-requires-clause-exist
put_all-requires-clause-exist c =
    let v = c.args.self.now in
    let are = subst (λ o. IfSome o (λ partners. ArePartners v.model v.slice c.args.column (sets_in_play v.model v.slice c.args.column) partners.items))
    c.in-Some.is c.in_ok-found.ensures in
    subst (All (λ p. p < length v.model.params)) (sym c.as_slice.ensures.value)
    (partners-exist (λ p. p < length v.model.params) 0 (length v.model.params) c.in-Some.partners.items are.rise (λ p less. less))

pub put_all-requires-clause-fits : goal.put_all-requires-clause-fits
put_all-requires-clause-fits c = c.requires.fits

pub put_all-requires-clause-none : goal.put_all-requires-clause-none
put_all-requires-clause-none c = no-bits 128

pub returns : goal.returns
returns c =
    let v = c.args.self.now in
    let sets = sets_in_play v.model v.slice c.args.column in
    let are = subst (λ o. IfSome o (λ partners. ArePartners v.model v.slice c.args.column sets partners.items)) c.in-Some.is c.in_ok-found.ensures in
    let all = subst (λ list. AreAll (digit_count v.model v.slice) list (bit_in c.put_all.new.mask)) c.as_slice.ensures.value c.put_all.ensures.all in
    let block = c.first_words-block.result.now in
    let few : length block ≤ 128 =
    omega (arith, ap length c.first_words-block.ensures, length-take c.used-words.result c.put_all.new.mask, c.used-words.ensures.within, c.put_all.ensures.long) in
    pairs-new v.model v.slice c.args.column c.value_count-count.result sets c.in-Some.partners.items block (map (λ list. list.items) c.in_ok-blocks.blocks.items) c.assert_invariant.ensures.kept are
    (all-used (digit_count v.model v.slice) c.in-Some.partners.items c.put_all.new.mask block c.used-words.result all c.used-words.ensures.within
    c.used-words.ensures.rest c.first_words-block.ensures)
    few c.requires.fits (c.value_count-count.ensures ∙ ap (λ w. digit_count w.model w.slice c.args.column) c.self.view_is) c.in_ok-blocks.ensures
