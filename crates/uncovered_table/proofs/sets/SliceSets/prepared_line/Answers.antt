use Rattle.std.proofs.Common.{◌≡◌, ◌∙◌, ◌<◌, ◌+◌, None, refl, All, length, ap, sym, subst, arith}
use Rattle.std.specs.Prelude.{slice_range}
use Rattle.uncovered_table.specs.Digits.{cell_digit, own_values}
use Rattle.uncovered_table.specs.Places.{set_at}
use Rattle.uncovered_table.specs.Prepared.{digit_in, sum_of}
use Rattle.uncovered_table.proofs.LineLemmas.{LineKnown, no_line}
use Rattle.uncovered_table.proofs.PreparedLemmas.{line-of, parts-exist, parts-few, prepared-known, prepared-number}
use Rattle.uncovered_table.proofs.sets.SliceSets.prepared_line.Goals as goal

pub between-parts-requires-clause-order : goal.between-parts-requires-clause-order
between-parts-requires-clause-order c =
    let v = c.args.self.now in
    let own = line-of v.model v.slice c.args.column c.args.set c.args.k c.args.lines.now.sets.items c.index-line.result.now
    c.args.lines.now.lines.items c.args.lines.now.parts.items c.requires.lines c.requires.k c.requires.own c.index-line.ensures in
    own.order

pub between-parts-requires-clause-within : goal.between-parts-requires-clause-within
between-parts-requires-clause-within c =
    let v = c.args.self.now in
    let own = line-of v.model v.slice c.args.column c.args.set c.args.k c.args.lines.now.sets.items c.index-line.result.now
    c.args.lines.now.lines.items c.args.lines.now.parts.items c.requires.lines c.requires.k c.requires.own c.index-line.ensures in
    omega (arith, own.within, ap length c.as_slice.ensures.value)

pub sum_of-requires-clause-within : goal.sum_of-requires-clause-within
sum_of-requires-clause-within c =
    let v = c.args.self.now in
    let ranged : c.between-parts.result.now ≡ slice_range c.args.lines.now.parts.items c.index-line.result.now.begin c.index-line.result.now.end =
    c.between-parts.ensures ∙ ap (λ list. slice_range list c.index-line.result.now.begin c.index-line.result.now.end) c.as_slice.ensures.value in
    subst (All (λ part. part.param < length c.args.digits.now)) (sym ranged)
    (parts-exist (λ part. part.param < length c.args.digits.now) c.args.lines.now.parts.items c.index-line.result.now.begin c.index-line.result.now.end
    (λ i d within. (let less = c.requires.lines.exist i d within in omega (arith, less, c.requires.long))))

pub sum_of-requires-clause-few : goal.sum_of-requires-clause-few
sum_of-requires-clause-few c =
    let v = c.args.self.now in
    let own = line-of v.model v.slice c.args.column c.args.set c.args.k c.args.lines.now.sets.items c.index-line.result.now
    c.args.lines.now.lines.items c.args.lines.now.parts.items c.requires.lines c.requires.k c.requires.own c.index-line.ensures in
    let ranged : c.between-parts.result.now ≡ slice_range c.args.lines.now.parts.items c.index-line.result.now.begin c.index-line.result.now.end =
    c.between-parts.ensures ∙ ap (λ list. slice_range list c.index-line.result.now.begin c.index-line.result.now.end) c.as_slice.ensures.value in
    let few = parts-few c.args.lines.now.parts.items c.index-line.result.now.begin c.index-line.result.now.end own.order own.within own.few in
    omega (arith, few, ap length ranged)

-- what the sum of the parts makes of the line
known : (c : goal.After-struct_known-in-Some-1) → LineKnown c.args.self.now.model c.args.self.now.slice
    (cell_digit (own_values c.args.self.now.model c.args.self.now.slice) c.args.cells.now) c.args.column c.args.set
    (c.index-line.result.now.first + c.in-Some.sum) c.index-line.result.now.step
known c =
    let v = c.args.self.now in
    let own = line-of v.model v.slice c.args.column c.args.set c.args.k c.args.lines.now.sets.items c.index-line.result.now
    c.args.lines.now.lines.items c.args.lines.now.parts.items c.requires.lines c.requires.k c.requires.own c.index-line.ensures in
    let ranged : c.between-parts.result.now ≡ slice_range c.args.lines.now.parts.items c.index-line.result.now.begin c.index-line.result.now.end =
    c.between-parts.ensures ∙ ap (λ list. slice_range list c.index-line.result.now.begin c.index-line.result.now.end) c.as_slice.ensures.value in
    prepared-known v.model v.slice c.args.cells.now c.args.column c.args.set c.index-line.result.now c.args.lines.now.parts.items c.args.digits.now
    c.in-Some.sum c.assert_invariant.ensures.kept c.assert_invariant.ensures.own c.requires.set own c.requires.digits
    (sym c.in-Some.is ∙ c.sum_of.ensures ∙ ap (sum_of (digit_in c.args.digits.now)) ranged)

pub overflow_cast-result : goal.overflow_cast-result
overflow_cast-result c =
    let v = c.args.self.now in
    let own = line-of v.model v.slice c.args.column c.args.set c.args.k c.args.lines.now.sets.items c.index-line.result.now
    c.args.lines.now.lines.items c.args.lines.now.parts.items c.requires.lines c.requires.k c.requires.own c.index-line.ensures in
    let ranged : c.between-parts.result.now ≡ slice_range c.args.lines.now.parts.items c.index-line.result.now.begin c.index-line.result.now.end =
    c.between-parts.ensures ∙ ap (λ list. slice_range list c.index-line.result.now.begin c.index-line.result.now.end) c.as_slice.ensures.value in
    let line =
    prepared-known v.model v.slice c.args.cells.now c.args.column c.args.set c.index-line.result.now c.args.lines.now.parts.items c.args.digits.now
    c.in-Some.sum c.assert_invariant.ensures.kept c.assert_invariant.ensures.own c.requires.set own c.requires.digits
    (sym c.in-Some.is ∙ c.sum_of.ensures ∙ ap (sum_of (digit_in c.args.digits.now)) ranged) in
    omega (arith, line.few)

pub overflow_add-result : goal.overflow_add-result
overflow_add-result c =
    omega (arith, (known c).few)

pub returns-in-Some-clause-value : goal.returns-in-Some-clause-value
returns-in-Some-clause-value c =
    (known c).value

pub returns-in-Some-clause-within : goal.returns-in-Some-clause-within
returns-in-Some-clause-within c =
    (known c).within

pub returns-in-None-clause-value : goal.returns-in-None-clause-value
returns-in-None-clause-value c =
    let v = c.args.self.now in
    let own = line-of v.model v.slice c.args.column c.args.set c.args.k c.args.lines.now.sets.items c.index-line.result.now
    c.args.lines.now.lines.items c.args.lines.now.parts.items c.requires.lines c.requires.k c.requires.own c.index-line.ensures in
    let ranged : c.between-parts.result.now ≡ slice_range c.args.lines.now.parts.items c.index-line.result.now.begin c.index-line.result.now.end =
    c.between-parts.ensures ∙ ap (λ list. slice_range list c.index-line.result.now.begin c.index-line.result.now.end) c.as_slice.ensures.value in
    no_line v.model v.slice (cell_digit (own_values v.model v.slice) c.args.cells.now) c.args.column c.args.set (set_at v.model c.args.set)
    c.assert_invariant.ensures.kept c.requires.set refl
    (prepared-number v.model v.slice c.args.cells.now c.args.column c.args.set c.index-line.result.now c.args.lines.now.parts.items c.args.digits.now None own
    c.requires.digits (sym c.in-None.is ∙ c.sum_of.ensures ∙ ap (sum_of (digit_in c.args.digits.now)) ranged))
