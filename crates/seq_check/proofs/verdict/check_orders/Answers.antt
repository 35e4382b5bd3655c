use Rattle.std.proofs.Common.{◌≡◌, ℕ, ◌<◌, ◌∙◌, ◌∷◌, ◌++◌, [], ◌&&◌, Bool, List, All, not, length, ap, sym, subst, arith, Some, None}
use Rattle.std.specs.List.{find}
use Rattle.std.specs.Str.{bytes_eq}
use Rattle.std.proofs.lemmas.Bool.{eqb-true}
use Rattle.std.proofs.lemmas.List.Elements.{All-weaker}
use Rattle.std.proofs.lemmas.List.FromFn.{length-map-range_with_len}
use Rattle.seq_check.specs.EventSets.{IsFront, IsLine, Tells, is_open, rises}
use Rattle.seq_check.specs.believed.OrderReport.{report_line_of}
use Rattle.seq_check.specs.believed.Orders.{distinct_lists, place}
use Rattle.seq_check.specs.believed.Verdicts.{rows_in}
use Rattle.seq_check.specs.declared.verdict.OrderVerdict.TheVariants.{Accepted}
use Rattle.seq_check.proofs.CheckSteps.{begins, after_row, after_never, at_wrong, ended, sequence_fits}
use Rattle.seq_check.proofs.verdict.check_orders.Goals as goal

pub loop-rest-init : goal.loop-rest-init
loop-rest-init c =
    let e = c.args.events.now in
    let n = length e.names in
    let most = c.assert_invariant.ensures.few in
    begins e c.args.report.now c.assert_invariant.ensures c.in_ok-opened.opened c.requires (c.in_ok-opened.ensures.len ∙ c.length.ensures)
    (λ front last f below.
    c.in_ok-opened.ensures.open front last
    (record { long = f.long ∙ c.in_ok-opened.ensures.len; exist = All-weaker (λ event. event < n) (λ event. event < 64) (λ event low. omega arith) front f.exist }) (omega arith))

pub close_row-requires : goal.close_row-requires
close_row-requires c =
    let e = c.args.events.now in
    let row = subst (IsLine e (report_line_of e c.cut_at_line_feed.result.0.now)) c.in-Row.is c.in_ok-places.ensures in
    let most = c.assert_invariant.ensures.few in
    let long = ap length (c.as_slice-in-Row.ensures.value ∙ row.2) ∙ length-map-range_with_len (place row.0) 0 (length e.names) in
    record { few = omega (arith, long) }

pub loop-rest-preserved-in-Row : goal.loop-rest-preserved-in-Row
loop-rest-preserved-in-Row c =
    let e = c.args.events.now in
    let row = subst (IsLine e (report_line_of e c.cut_at_line_feed.result.0.now)) c.in-Row.is c.in_ok-places.ensures in
    let o = c.loop-rest.opened in
    let closed = subst (λ at. (front : List ℕ) (last : ℕ) → IsFront o.len (length at) front → last < length at
    → is_open c.close_row.new.self front last ≡ (is_open o front last && not (rises at (front ++ last ∷ [])))) (c.as_slice-in-Row.ensures.value ∙ row.2) c.close_row.ensures.closed in
    after_row e c.args.report.now c.assert_invariant.ensures c.cut_at_line_feed.result.1.now c.loop-rest.invariant c.cut_at_line_feed.ensures.lines c.cut_at_line_feed.ensures.shorter
    c.close_row.new.self row.0 row.1 c.close_row.ensures.len closed

pub close-requires-clause-long : goal.close-requires-clause-long
close-requires-clause-long c =
    let e = c.args.events.now in
    let never = subst (IsLine e (report_line_of e c.cut_at_line_feed.result.0.now)) c.in-Never.is c.in_ok-places.ensures in
    ap length c.as_slice-in-Never.ensures ∙ (sequence_fits e c.in-Never.sequence c.assert_invariant.ensures never.1).0 ∙ sym c.loop-rest.invariant.len

pub close-requires-clause-exist : goal.close-requires-clause-exist
close-requires-clause-exist c =
    let e = c.args.events.now in
    let never = subst (IsLine e (report_line_of e c.cut_at_line_feed.result.0.now)) c.in-Never.is c.in_ok-places.ensures in
    subst (All (λ event. event < 64)) (sym c.as_slice-in-Never.ensures) (sequence_fits e c.in-Never.sequence c.assert_invariant.ensures never.1).1

pub loop-rest-preserved : goal.loop-rest-preserved
loop-rest-preserved c =
    let e = c.args.events.now in
    let never = subst (IsLine e (report_line_of e c.cut_at_line_feed.result.0.now)) c.in-Never.is c.in_ok-places.ensures in
    let o = c.loop-rest.opened in
    let closed = subst (λ named. (front : List ℕ) (last : ℕ) → IsFront o.len 64 front → last < 64
    → is_open c.close.new.self front last ≡ (is_open o front last && not (bytes_eq (front ++ last ∷ []) named))) c.as_slice-in-Never.ensures c.close.ensures.closed in
    after_never e c.args.report.now c.assert_invariant.ensures c.cut_at_line_feed.result.1.now c.loop-rest.invariant c.cut_at_line_feed.ensures.lines c.cut_at_line_feed.ensures.shorter
    c.close.new.self c.in-Never.sequence never.0 c.close.ensures.len closed

pub returns-in-Wrong : goal.returns-in-Wrong
returns-in-Wrong c =
    let e = c.args.events.now in
    let wrong = subst (IsLine e (report_line_of e c.cut_at_line_feed.result.0.now)) c.in-Wrong.is c.in_ok-places.ensures in
    at_wrong e c.args.report.now c.assert_invariant.ensures c.cut_at_line_feed.result.1.now c.loop-rest.invariant c.cut_at_line_feed.ensures.lines c.cut_at_line_feed.ensures.shorter wrong

pub returns-in-Some : goal.returns-in-Some
returns-in-Some c =
    let e = c.args.events.now in
    let n = length e.names in
    let o = c.loop-rest.opened in
    let count_is : c.len.result ≡ n = c.len.ensures ∙ ap length c.names.ensures in
    let none = eqb-true _ _ (sym c.is_empty.ensures ∙ c.loop-rest-test.false) in
    ended e c.args.report.now c.assert_invariant.ensures c.loop-rest.rest.now c.loop-rest.invariant none (Some c.in-Some.sequence)
    (λ (test : List ℕ → Bool) (tells : Tells o n test).
    sym c.in-Some.is ∙ c.in_ok-sequence.ensures test (subst (λ k. Tells o k test) (sym count_is) tells)
    ∙ ap (λ k. find test (distinct_lists k o.len)) count_is ∙ ap (λ l. find test (distinct_lists n l)) c.loop-rest.invariant.len)

pub returns : goal.returns
returns c =
    let e = c.args.events.now in
    let n = length e.names in
    let o = c.loop-rest.opened in
    let here = c.loop-rest.invariant in
    let count_is : c.len.result ≡ n = c.len.ensures ∙ ap length c.names.ensures in
    let none = eqb-true _ _ (sym c.is_empty.ensures ∙ c.loop-rest-test.false) in
    ap (λ rows. Accepted rows c.loop-rest.omissions) here.rows_are ∙ ap (λ omissions. Accepted (length (rows_in here.lines)) omissions) here.omissions_are
    ∙ ended e c.args.report.now c.assert_invariant.ensures c.loop-rest.rest.now here none None
    (λ (test : List ℕ → Bool) (tells : Tells o n test).
    sym c.in-None.is ∙ c.in_ok-sequence.ensures test (subst (λ k. Tells o k test) (sym count_is) tells)
    ∙ ap (λ k. find test (distinct_lists k o.len)) count_is ∙ ap (λ l. find test (distinct_lists n l)) here.len)
