use Rattle.std.proofs.Common.{◌≡◌, ◌∙◌, ◌<◌, ℕ, List, Option, All, length, ap, ◌∷◌, ◌++◌, None, IfSome, [], get_or, sym, subst, arith}
use Rattle.std.proofs.lemmas.List.Elements.{All-weaker}
use Rattle.cov_model.specs.believed.Sound.{ModelView, param_at}
use Rattle.cov_model.specs.declared.slice.Slice.{Slice}
use Rattle.definitions.specs.SliceRows.{IsOfSlice}
use Rattle.ipog_grow.specs.Asking.{Grows, IsPassed}
use Rattle.ipog_grow.specs.UnfilledRows.{HasUnfilled, with_unfilled}
use Rattle.ipog_grow.proofs.Closing.{next-grows, passed-new, passed-omitted}
use Rattle.ipog_grow.proofs.UnfilledLemmas.{unfilled-push, value-within}
use Rattle.ipog_grow.proofs.slice_growth.SliceGrowth.settle_alone.Goals as goal

pub push-requires : goal.push-requires
push-requires c =
    let own = next-grows c.requires.next in
    All-weaker (Grows c.args.self.now.asker.context) (λ other. length other ≡ length c.as_slice.result.now)
    (λ other grows. grows.of.fits.as_long ∙ sym own.of.fits.as_long ∙ sym (ap length c.as_slice.ensures)) c.args.self.now.rows c.requires.next.grows

pub push_row-requires-clause-exist : goal.push_row-requires-clause-exist
push_row-requires-clause-exist c =
    let own = next-grows c.requires.next in
    subst (λ (n : ℕ). All (λ p. p < n) c.args.columns.now) (sym (ap length c.as_slice-then-branch.ensures ∙ own.of.fits.as_long)) c.requires.exist

pub push_row-requires-clause-column : goal.push_row-requires-clause-column
push_row-requires-clause-column c =
    let own = next-grows c.requires.next in
    omega (arith, c.requires.column, own.of.fits.as_long, ap length c.as_slice-then-branch.ensures)

pub push_row-requires-clause-value : goal.push_row-requires-clause-value
push_row-requires-clause-value c =
    let own = next-grows c.requires.next in
    subst (λ (row : List (Option ℕ)). IfSome (get_or row c.args.column None) (λ v. v < length c.args.unfilled.now.by_value)) (sym c.as_slice-then-branch.ensures)
    (subst (λ (n : ℕ). IfSome (get_or c.args.self.now.tuple c.args.column None) (λ v. v < n)) (sym c.requires.unfilled.values)
    (value-within c.args.self.now.asker.context.model c.args.self.now.tuple c.args.column own.of.fits))

pub ask-requires : goal.ask-requires
ask-requires c = next-grows c.requires.next

pub push_tuple-requires : goal.push_tuple-requires
push_tuple-requires c =
    let own = next-grows c.requires.next in
    omega (arith, own.of.fits.as_long, c.assert_invariant.ensures.context.sound.few)

pub close_row-requires-clause-cells : goal.close_row-requires-clause-cells
close_row-requires-clause-cells c =
    let own = next-grows c.requires.next in
    subst (λ (m : ModelView). IsOfSlice m c.args.self.now.table.slice c.args.self.now.tuple) (sym c.requires.next.of.0)
    (subst (λ (s : Slice). IsOfSlice c.args.self.now.asker.context.model s c.args.self.now.tuple) (sym c.requires.next.of.1) own.of)

pub returns-in_ok-push_row-clause-unfilled : goal.returns-in_ok-push_row-clause-unfilled
returns-in_ok-push_row-clause-unfilled c =
    let tuple = c.args.self.now.tuple in
    let columns = c.args.columns.now in
    let count = length (param_at c.args.self.now.asker.context.model.params c.args.column).values in
    let own = next-grows c.requires.next in
    subst (λ rows. HasUnfilled columns c.args.column count rows c.push_row.new.self) (sym (c.in_ok-push.ensures.ok ∙ ap (λ row. c.args.self.now.rows ++ row ∷ []) c.as_slice.ensures))
    (subst (HasUnfilled columns c.args.column count (c.args.self.now.rows ++ tuple ∷ []))
    (sym (c.in_ok-push_row.ensures ∙ ap (λ row. with_unfilled columns c.args.column row c.len-number.result c.args.unfilled.now) c.as_slice-then-branch.ensures
    ∙ ap (λ n. with_unfilled columns c.args.column tuple n c.args.unfilled.now) c.len-number.ensures))
    (unfilled-push columns c.args.column count c.args.self.now.rows c.args.unfilled.now tuple
    (value-within c.args.self.now.asker.context.model tuple c.args.column own.of.fits) c.requires.unfilled))

pub returns-in_ok-push_row-clause-passed : goal.returns-in_ok-push_row-clause-passed
returns-in_ok-push_row-clause-passed c =
    let own = next-grows c.requires.next in
    subst (IsPassed c.args.self.now.asker.context c.args.self.now.table c.close_row.new.self c.args.column c.args.place)
    (sym (c.in_ok-push.ensures.ok ∙ ap (λ row. c.args.self.now.rows ++ row ∷ []) c.as_slice.ensures))
    (passed-new c.requires.next c.close_row.ensures own)

pub returns-in_ok-push_tuple-clause-passed : goal.returns-in_ok-push_tuple-clause-passed
returns-in_ok-push_tuple-clause-passed c =
    passed-omitted
    c.requires.next c.close.ensures
