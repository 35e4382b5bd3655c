use Rattle.std.proofs.Common.{◌≡◌, length, nat_lt, sym, ◌∙◌, ap, arith}
use Rattle.std.specs.List.{list_any}
use Rattle.std.specs.Option.{option_or}
use Rattle.std.proofs.lemmas.Bool.{cond-false, cond-true}
use Rattle.std.proofs.lemmas.List.FromFn.{length-map-range_with_len}
use Rattle.std.specs.List.{count_by}
use Rattle.definitions.specs.believed.RowReading.{missing_fault}
use Rattle.row_text.specs.Readings.{mode_seen}
use Rattle.row_text.proofs.ColumnSteps.{counts_are, is_of, twice_is}
use Rattle.row_text.proofs.header.check_columns.Goals as goal

pub returns-then-is_twice : goal.returns-then-is_twice
returns-then-is_twice c = λ m header long same.
    let are = counts_are m header c.args.columns.now c.args.params c.in_ok-counts.counts.items long same c.in_ok-counts.ensures in
    let some : list_any (λ count. nat_lt 1 count) c.in_ok-counts.counts.items ≡ _ =
    ap (list_any (λ count. nat_lt 1 count)) (sym c.as_slice.ensures.value) ∙ sym c.is_twice.ensures ∙ c.if-is_twice.true in
    ap (λ fault. option_or fault (missing_fault m (mode_seen c.args.mode) header)) (twice_is m c.args.line header c.in_ok-counts.counts.items are ∙ cond-true _ _ _ some)

pub check_missing-requires : goal.check_missing-requires
check_missing-requires c =
    omega (arith, ap length c.as_slice-2.ensures.value, ap length c.in_ok-counts.ensures, length-map-range_with_len (λ p. count_by (is_of p) c.args.columns.now) 0 c.args.params, c.requires.few)

pub returns : goal.returns
returns c = λ m header long same.
    let are = counts_are m header c.args.columns.now c.args.params c.in_ok-counts.counts.items long same c.in_ok-counts.ensures in
    let none : list_any (λ count. nat_lt 1 count) c.in_ok-counts.counts.items ≡ _ =
    ap (list_any (λ count. nat_lt 1 count)) (sym c.as_slice.ensures.value) ∙ sym c.is_twice.ensures ∙ c.if-is_twice.false in
    let fault = twice_is m c.args.line header c.in_ok-counts.counts.items are ∙ cond-false _ _ _ none in
    rw fault (c.check_missing.ensures m header (c.as_slice-2.ensures.value ∙ are))
