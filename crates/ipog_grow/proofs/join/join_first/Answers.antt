use Rattle.std.proofs.Common.{false, ◌∙◌, ◌<◌, Bool, ℕ, List, Option, length, get_or, ap, refl, sym, subst, set, []}
use Rattle.std.proofs.lemmas.List.{get_or-set_same}
use Rattle.std.proofs.lemmas.Result.{err_from_is_err_and}
use Rattle.full_search.specs.Questions.{QuestionsView}
use Rattle.ipog_grow.specs.Asking.{AskerView, Grows}
use Rattle.ipog_grow.proofs.Asking.{answered, told-answer}
use Rattle.ipog_grow.proofs.Giving.{given_exist}
use Rattle.ipog_grow.proofs.Joining.{IsOffered, Joins, Takes, joining-none, joining-spent, joins-ruled_out, left, offered, offering-first, offering-start, passed_over, read_row, takes}
use Rattle.ipog_grow.proofs.join.join_first.Goals as goal

-- the parameters that the tuple gives exist in each row
pub agree-requires-clause-exist : goal.agree-requires-clause-exist
agree-requires-clause-exist c =
    let within = (offering-first _ c.loop-i.invariant.offering (sym c.take_first.ensures.first ∙ c.in-Some.is)).0 in
    given_exist c.args.tuple.now c.row-row.result.now c.args.given.now c.requires.given
    (c.requires.tuple.of.fits.as_long ∙ sym (c.requires.rows c.in-Some.i [] within).of.fits.as_long
    ∙ sym (ap length (read_row c.in-Some.i c.loop-i.invariant.rows c.row-row.ensures)))

pub unite-requires-clause-exist : goal.unite-requires-clause-exist
unite-requires-clause-exist c =
    let within = (offering-first _ c.loop-i.invariant.offering (sym c.take_first.ensures.first ∙ c.in-Some.is)).0 in
    given_exist c.args.tuple.now c.row-row.result.now c.args.given.now c.requires.given
    (c.requires.tuple.of.fits.as_long ∙ sym (c.requires.rows c.in-Some.i [] within).of.fits.as_long
    ∙ sym (ap length (read_row c.in-Some.i c.loop-i.invariant.rows c.row-row.ensures)))

-- the tuple isn't extendable
ruled_out : (c : goal.Then-rules_out) → Joins c.args.asker.now.context c.args.tuple.now c.args.rows.now c.args.rows.now false
ruled_out c = joins-ruled_out (c.rules_out.ensures.full c.if-rules_out.true) (c.rules_out.ensures.fails c.if-rules_out.true)

pub returns-then-rules_out-clause-asked : goal.returns-then-rules_out-clause-asked
returns-then-rules_out-clause-asked c = (ruled_out c).asked

pub returns-then-rules_out-clause-rows : goal.returns-then-rules_out-clause-rows
returns-then-rules_out-clause-rows c = (ruled_out c).rows_are

pub returns-then-rules_out-clause-taken : goal.returns-then-rules_out-clause-taken
returns-then-rules_out-clause-taken c = (ruled_out c).taken_is

pub loop-i-init : goal.loop-i-init
loop-i-init c = record { context = ap (λ (v : AskerView). v.context) c.rules_out.ensures.same; rows = refl; room = refl; offering = offering-start c.requires.candidates c.requires.others }

pub ask-requires : goal.ask-requires
ask-requires c =
    let offer = offered c.assert_invariant.ensures.context c.requires.tuple c.requires.rows c.loop-i.invariant.rows c.loop-i.invariant.offering
    (sym c.take_first.ensures.first ∙ c.in-Some.is) c.row-row.ensures c.row-row.ensures c.agree.ensures c.if-agree.true c.unite.ensures in
    subst (λ (w : QuestionsView). Grows w c.unite.new.into) (sym c.loop-i.invariant.context) offer.grows

pub returns-in_err-ask-clause-asked : goal.returns-in_err-ask-clause-asked
returns-in_err-ask-clause-asked c =
    let offer = offered c.assert_invariant.ensures.context c.requires.tuple c.requires.rows c.loop-i.invariant.rows c.loop-i.invariant.offering
    (sym c.take_first.ensures.first ∙ c.in-Some.is) c.row-row.ensures c.row-row.ensures c.agree.ensures c.if-agree.true c.unite.ensures in
    let p = err_from_is_err_and c.from_residual.result c.from_residual.ensures.1 in
    rw (p.1, p.2) (told-answer Bool (Option ℕ) c.in_err-ask.field-0.0 c.ask.new.self.question c.loop-i.invariant.context offer.is
    (joining-spent offer.within offer.joining offer.agree)
    c.in_err-ask.ensures.asked)

pub returns-in_err-ask-clause-long : goal.returns-in_err-ask-clause-long
returns-in_err-ask-clause-long c =
    let offer = offered c.assert_invariant.ensures.context c.requires.tuple c.requires.rows c.loop-i.invariant.rows c.loop-i.invariant.offering
    (sym c.take_first.ensures.first ∙ c.in-Some.is) c.row-row.ensures c.row-row.ensures c.agree.ensures c.if-agree.true c.unite.ensures in
    offer.long ∙ sym c.requires.room

pub put-requires-clause-long : goal.put-requires-clause-long
put-requires-clause-long c =
    let offer = offered c.assert_invariant.ensures.context c.requires.tuple c.requires.rows c.loop-i.invariant.rows c.loop-i.invariant.offering
    (sym c.take_first.ensures.first ∙ c.in-Some.is) c.row-row.ensures c.row-row.ensures c.agree.ensures c.if-agree.true c.unite.ensures in
    ap length c.as_slice.ensures ∙ offer.long ∙ sym (c.requires.rows c.in-Some.i [] offer.within).of.fits.as_long
    ∙ ap (λ rows. length (get_or rows c.in-Some.i [])) (sym c.loop-i.invariant.rows)

offer : (c : goal.After-put) → IsOffered c.args.asker.now.context c.args.tuple.now c.args.rows.now c.in-Some.i c.unite.new.into
offer c =
    offered c.assert_invariant.ensures.context c.requires.tuple c.requires.rows c.loop-i.invariant.rows c.loop-i.invariant.offering
    (sym c.take_first.ensures.first ∙ c.in-Some.is) c.row-row.ensures c.row-row.ensures c.agree.ensures c.if-agree.true c.unite.ensures

taken : (c : goal.After-put) → Takes c.args.asker.now.context c.args.tuple.now c.args.rows.now c.put.new.self c.in-Some.i
taken c =
    takes c.requires.rows c.loop-i.invariant.rows (offer c)
    (answered c.loop-i.invariant.context refl (sym c.if-branch.true ∙ c.in_ok-ask.ensures.value) c.in_ok-ask.ensures.asked)
    (c.put.ensures ∙ ap (set c.loop-i.rows c.in-Some.i) c.as_slice.ensures)

pub returns-then-branch-clause-asked : goal.returns-then-branch-clause-asked
returns-then-branch-clause-asked c = (taken c).joins.asked

pub returns-then-branch-clause-rows : goal.returns-then-branch-clause-rows
returns-then-branch-clause-rows c = (taken c).joins.rows_are

pub returns-then-branch-clause-taken : goal.returns-then-branch-clause-taken
returns-then-branch-clause-taken c = (taken c).joins.taken_is

pub returns-then-branch-clause-place : goal.returns-then-branch-clause-place
returns-then-branch-clause-place c = (taken c).union_at

pub returns-then-branch-clause-room : goal.returns-then-branch-clause-room
returns-then-branch-clause-room c =
    let put = ap (λ rows. get_or rows c.in-Some.i []) (c.put.ensures ∙ ap (set c.loop-i.rows c.in-Some.i) c.as_slice.ensures) in
    sym (put ∙ get_or-set_same c.loop-i.rows c.in-Some.i c.unite.new.into []
    (subst (λ (rows : List (List (Option ℕ))). c.in-Some.i < length rows) (sym c.loop-i.invariant.rows) (offer c).within))

pub returns-then-branch-clause-grows : goal.returns-then-branch-clause-grows
returns-then-branch-clause-grows c = (taken c).grows

pub returns-then-branch-clause-long : goal.returns-then-branch-clause-long
returns-then-branch-clause-long c = (offer c).long ∙ sym c.requires.room

pub loop-i-preserved-else-branch : goal.loop-i-preserved-else-branch
loop-i-preserved-else-branch c =
    let offer = offered c.assert_invariant.ensures.context c.requires.tuple c.requires.rows c.loop-i.invariant.rows c.loop-i.invariant.offering
    (sym c.take_first.ensures.first ∙ c.in-Some.is) c.row-row.ensures c.row-row.ensures c.agree.ensures c.if-agree.true c.unite.ensures in
    record {
      context = c.ask.ensures.same ∙ c.loop-i.invariant.context;
      rows = c.loop-i.invariant.rows;
      room = offer.long ∙ sym c.requires.room;
      offering = left c.loop-i.invariant.offering (sym c.take_first.ensures.first ∙ c.in-Some.is) c.take_first.ensures.rest offer
          (answered c.loop-i.invariant.context refl (sym c.if-branch.false ∙ c.in_ok-ask.ensures.value) c.in_ok-ask.ensures.asked);
    }

pub loop-i-preserved : goal.loop-i-preserved
loop-i-preserved c = record {
  context = c.loop-i.invariant.context;
  rows = c.loop-i.invariant.rows;
  room = c.loop-i.invariant.room;
  offering = passed_over c.loop-i.invariant.offering (sym c.take_first.ensures.first ∙ c.in-Some.is) c.take_first.ensures.rest
      c.loop-i.invariant.rows c.row-row.ensures c.agree.ensures c.if-agree.false;
}

ended : (c : goal.In_default) → Joins c.args.asker.now.context c.args.tuple.now c.args.rows.now c.args.rows.now false
ended c = joining-none c.loop-i.invariant.offering (sym c.take_first.ensures.first ∙ c.in_default.is)

pub returns-clause-asked : goal.returns-clause-asked
returns-clause-asked c = (ended c).asked

pub returns-clause-rows : goal.returns-clause-rows
returns-clause-rows c = c.loop-i.invariant.rows ∙ (ended c).rows_are

pub returns-clause-taken : goal.returns-clause-taken
returns-clause-taken c = (ended c).taken_is
