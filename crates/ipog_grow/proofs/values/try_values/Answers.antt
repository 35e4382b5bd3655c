use Rattle.std.proofs.Common.{◌∙◌, Bool, List, Option, Some, ℕ, length, ap, sym, subst}
use Rattle.std.proofs.lemmas.List.{length-set}
use Rattle.std.proofs.lemmas.Result.{err_from_is_err_and}
use Rattle.cov_model.specs.believed.Rows.{contains, with_value}
use Rattle.cov_model.proofs.CellLemmas.{contains-refl}
use Rattle.full_search.specs.Questions.{QuestionsView}
use Rattle.ipog_grow.specs.Asking.{Grows}
use Rattle.ipog_grow.proofs.Asking.{answered, told-answer}
use Rattle.ipog_grow.proofs.Trying.{Put, Tried, trying-put, trying-end, trying-yes, trying-spent, trying-more, trying-falls}
use Rattle.ipog_grow.proofs.values.try_values.Goals as goal

pub ask-requires : goal.ask-requires
ask-requires c =
    let put = trying-put c.assert_invariant.ensures.context c.requires.column c.requires.order c.requires.listed c.requires.grows c.requires.free
    c.loop-v.invariant.trying (sym c.best.ensures.best ∙ c.in-Some.is) c.in-Some.ensures.within c.loop-v.invariant.row c.set_cell.ensures in
    subst (λ (w : QuestionsView). Grows w c.set_cell.new.self) (sym c.loop-v.invariant.context) put.grows

pub returns-in_err-ask-clause-asked : goal.returns-in_err-ask-clause-asked
returns-in_err-ask-clause-asked c n all =
    let put = trying-put c.assert_invariant.ensures.context c.requires.column c.requires.order c.requires.listed c.requires.grows c.requires.free
    c.loop-v.invariant.trying (sym c.best.ensures.best ∙ c.in-Some.is) c.in-Some.ensures.within c.loop-v.invariant.row c.set_cell.ensures in
    let p = err_from_is_err_and c.from_residual.result c.from_residual.ensures.1 in
    rw (p.1, p.2) (told-answer Bool (Option ℕ) c.in_err-ask.field-0.0 c.ask.new.self.question c.loop-v.invariant.context put.is
    (λ over. trying-spent put.next over n all)
    c.in_err-ask.ensures.asked)

pub returns-in_err-ask-clause-size : goal.returns-in_err-ask-clause-size
returns-in_err-ask-clause-size c =
    ap length c.set_cell.ensures ∙ length-set c.loop-v.row c.args.column (Some c.in-Some.v) ∙ ap length c.loop-v.invariant.row

put_here : (c : goal.Then-branch) → Put c.args.asker.now.context c.args.order.now c.args.column c.in-Some.v c.args.row.now c.loop-v.row c.set_cell.new.self
    c.args.scores.now c.loop-v.scores
put_here c =
    trying-put c.assert_invariant.ensures.context c.requires.column c.requires.order c.requires.listed c.requires.grows c.requires.free
    c.loop-v.invariant.trying (sym c.best.ensures.best ∙ c.in-Some.is) c.in-Some.ensures.within c.loop-v.invariant.row c.set_cell.ensures

given : (c : goal.Then-branch) → Tried c.args.asker.now.context c.args.order.now c.args.column c.args.row.now
    (with_value c.args.row.now c.args.column c.in-Some.v) c.args.scores.now
given c =
    let put = put_here c in
    let answer = answered c.loop-v.invariant.context put.is c.in_ok-ask.ensures.value c.in_ok-ask.ensures.asked in
    trying-yes put.next (sym answer.value ∙ c.if-branch.true) answer.unspent

pub returns-then-branch-clause-asked : goal.returns-then-branch-clause-asked
returns-then-branch-clause-asked c = (given c).asked

pub returns-then-branch-clause-row : goal.returns-then-branch-clause-row
returns-then-branch-clause-row c n all = (put_here c).is ∙ (given c).given n all

pub returns-then-branch-clause-given : goal.returns-then-branch-clause-given
returns-then-branch-clause-given c = (put_here c).is

pub returns-then-branch-clause-grows : goal.returns-then-branch-clause-grows
returns-then-branch-clause-grows c = (put_here c).grows

pub returns-then-branch-clause-size : goal.returns-then-branch-clause-size
returns-then-branch-clause-size c = (put_here c).grows.of.fits.as_long ∙ sym c.requires.grows.of.fits.as_long

pub returns-then-branch-clause-more : goal.returns-then-branch-clause-more
returns-then-branch-clause-more c = (put_here c).more

pub loop-v-smaller : goal.loop-v-smaller
loop-v-smaller c =
    let put = trying-put c.assert_invariant.ensures.context c.requires.column c.requires.order c.requires.listed c.requires.grows c.requires.free
    c.loop-v.invariant.trying (sym c.best.ensures.best ∙ c.in-Some.is) c.in-Some.ensures.within c.loop-v.invariant.row c.set_cell.ensures in
    trying-falls c.loop-v.scores c.in-Some.v c.in-Some.ensures.within put.next.some

pub loop-v-preserved : goal.loop-v-preserved
loop-v-preserved c =
    let put = trying-put c.assert_invariant.ensures.context c.requires.column c.requires.order c.requires.listed c.requires.grows c.requires.free
    c.loop-v.invariant.trying (sym c.best.ensures.best ∙ c.in-Some.is) c.in-Some.ensures.within c.loop-v.invariant.row c.set_cell.ensures in
    let answer = answered c.loop-v.invariant.context put.is c.in_ok-ask.ensures.value c.in_ok-ask.ensures.asked in
    record {
      context = c.ask.ensures.same ∙ c.loop-v.invariant.context;
      row = c.clear_cell.ensures ∙ put.cleared;
      trying = trying-more
          c.loop-v.invariant.trying put.next c.in-Some.ensures.within (sym answer.value ∙ c.if-branch.false) answer.unspent;
    }

ended : (c : goal.In_default) → Tried c.args.asker.now.context c.args.order.now c.args.column c.args.row.now c.args.row.now c.args.scores.now
ended c =
    trying-end c.loop-v.invariant.trying
    (sym c.best.ensures.best ∙ c.in_default.is)

pub returns-clause-asked : goal.returns-clause-asked
returns-clause-asked c = (ended c).asked

pub returns-clause-row : goal.returns-clause-row
returns-clause-row c n all = c.loop-v.invariant.row ∙ (ended c).given n all

pub returns-clause-more : goal.returns-clause-more
returns-clause-more c = ap (λ (cells : List (Option ℕ)). contains cells c.args.row.now) c.loop-v.invariant.row ∙ contains-refl c.args.row.now
