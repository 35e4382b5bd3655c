use Rattle.std.proofs.Common.{◌≡◌, ◌∙◌, None, fold, filter, get_or, length, refl, ap, sym, arith}
use Rattle.std.specs.List.{range_with_len}
use Rattle.seq_cover.specs.believed.OrderGrowth.{better, can_be_placed, gain}
use Rattle.seq_cover.proofs.RowLemmas.{best_skips, best_stays, best_changes}
use Rattle.seq_cover.proofs.row.next_placed.Goals as goal

pub loop-event-preserved-then-not-can_be_placed : goal.loop-event-preserved-then-not-can_be_placed
loop-event-preserved-then-not-can_be_placed c =
    let before = c.loop-event.invariant in record {
      below = before.below;
      left = before.left;
      most = before.most;
      best = λ pairs rows row len turned exist are told.
          let best = before.best pairs rows row len turned exist are told in (
            best_skips (gain len rows row) (can_be_placed pairs row) c.loop-event.event c.loop-event.best 0 0 best.0
                (sym (c.can_be_placed.ensures.value pairs row turned exist are) ∙ c.if-not-can_be_placed.true),
            best.1,
          );
    }

pub loop-event-preserved-then-not-is_better : goal.loop-event-preserved-then-not-is_better
loop-event-preserved-then-not-is_better c =
    let before = c.loop-event.invariant in record {
      below = before.below;
      left = before.left;
      most = before.most;
      best = λ pairs rows row len turned exist are told.
          let best = before.best pairs rows row len turned exist are told in (
            best_stays (gain len rows row) (can_be_placed pairs row) c.loop-event.event c.loop-event.best c.loop-event.most (get_or c.args.gains.now c.loop-event.event 0) best.0
                (sym (c.can_be_placed.ensures.value pairs row turned exist are) ∙ c.if-not-can_be_placed.false)
                best.1 (told c.loop-event.event c.loop-event-test.true) (sym c.is_better.ensures ∙ c.if-not-is_better.true),
            best.1,
          );
    }

pub loop-event-preserved : goal.loop-event-preserved
loop-event-preserved c =
    let before = c.loop-event.invariant in record {
      below = c.loop-event-test.true;
      left = c.can_be_placed.ensures.left c.if-not-can_be_placed.false;
      most = refl;
      best = λ pairs rows row len turned exist are told.
          let best = before.best pairs rows row len turned exist are told in
          let gained = told c.loop-event.event c.loop-event-test.true in (
            best_changes (gain len rows row) (can_be_placed pairs row) c.loop-event.event c.loop-event.best c.loop-event.most (get_or c.args.gains.now c.loop-event.event 0) best.0
                (sym (c.can_be_placed.ensures.value pairs row turned exist are) ∙ c.if-not-can_be_placed.false)
                best.1 gained (sym c.is_better.ensures ∙ c.if-not-is_better.false),
            gained,
          );
    }

pub returns-clause-value : goal.returns-clause-value
returns-clause-value c = λ pairs rows row len turned exist are told.
    let done : c.loop-event.event ≡ length c.args.gains.now = let last = c.loop-event-test.false in let most = c.loop-event.auto.event-end in omega (arith, last, most) in
    (c.loop-event.invariant.best pairs rows row len turned exist are told).0 ∙ ap (λ k. fold (better (gain len rows row)) None (filter (can_be_placed pairs row) (range_with_len 0 k))) done
