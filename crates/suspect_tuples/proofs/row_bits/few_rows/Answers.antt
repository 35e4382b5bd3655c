use Rattle.std.proofs.Common.{◌≡◌, ◌∙◌, Some, true, get_or, ap, subst, sym}
use Rattle.std.specs.Option.{option_copied}
use Rattle.std.proofs.lemmas.List.{take_all, take_more}
use Rattle.std.proofs.lemmas.List.Elements.{All-push}
use Rattle.definitions.specs.believed.Demand.{is_among}
use Rattle.suspect_tuples.specs.ValueRows.{AreMany, KeepsPair, is_many, rows_of}
use Rattle.suspect_tuples.specs.declared.value_rows.ValueRows.TheVariants.{Few}
use Rattle.suspect_tuples.proofs.RowBitLemmas.{member_has}
use Rattle.suspect_tuples.proofs.row_bits.few_rows.Goals as goal

pub returns-in-None-clause-few : goal.returns-in-None-clause-few
returns-in-None-clause-few c rows at given has =
    let tuple = c.args.tuple.now in
    let i = c.loop-pair.pair-index in
    let pair = get_or tuple i (0, 0) in
    let none = sym c.rows_of.ensures ∙ ap option_copied c.in-None.is in
    sym (subst (KeepsPair rows pair) none (given pair) at) ∙ member_has rows tuple i at (0, 0) c.loop-pair-test.true has

pub returns-in-Some-Few-clause-few : goal.returns-in-Some-Few-clause-few
returns-in-Some-Few-clause-few c rows at given has =
    let tuple = c.args.tuple.now in
    let i = c.loop-pair.pair-index in
    let pair = get_or tuple i (0, 0) in
    let kept : rows_of c.args.giving.now pair ≡ Some (Few c.in-Some-Few.numbers) =
    sym c.rows_of.ensures ∙ ap option_copied c.in-Some-Few.is ∙ ap Some c.in-Some-Few.field-0-is in
    ap (λ ns. is_among ns at) c.as_slice.ensures.value ∙ subst (KeepsPair rows pair) kept (given pair) at ∙ member_has rows tuple i at (0, 0) c.loop-pair-test.true has

pub loop-pair-preserved : goal.loop-pair-preserved
loop-pair-preserved c =
    let giving = c.args.giving.now in
    let tuple = c.args.tuple.now in
    let i = c.loop-pair.pair-index in
    let pair = get_or tuple i (0, 0) in
    subst (AreMany giving) (sym (take_more tuple i (0, 0) c.loop-pair-test.true))
    (All-push (λ p. is_many (rows_of giving p) ≡ true) _ pair c.loop-pair.invariant
    (ap is_many (sym c.rows_of.ensures ∙ ap option_copied c.in-Some-Many.is) ∙ ap (λ kept. is_many (Some kept)) c.in-Some-Many.field-0-is))

pub returns-clause-many : goal.returns-clause-many
returns-clause-many c none =
    subst (AreMany c.args.giving.now) (take_all c.loop-pair.pair-index c.args.tuple.now c.loop-pair-test.false) c.loop-pair.invariant
