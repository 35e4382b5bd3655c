use Rattle.std.proofs.Common.{◌≡◌, ◌&&◌, ◌∙◌, ap, length}
use Rattle.std.specs.List.{list_all}
use Rattle.std.proofs.lemmas.List.FromFn.{length-map-range_with_len}
use Rattle.seq_check.specs.EventSets.{is_lower, places}
use Rattle.seq_check.specs.believed.Orders.{place}
use Rattle.seq_check.proofs.StepLemmas.{below_is, lower_is, permitted_by}
use Rattle.seq_check.proofs.report_line.permitted_places.Goals as goal

pub returns-then-not-are_below : goal.returns-then-not-are_below
returns-then-not-are_below c =
    let e = c.args.events.now in
    let order = c.args.order.now in
    let n = length e.names in
    let count_is : c.len-count.result ≡ n = c.len-count.ensures ∙ ap length c.names.ensures in
    let long : length order ≡ n = c.if-order-count.false ∙ count_is in
    let at = c.as_slice.ensures.value ∙ c.in_ok-places.ensures ∙ ap (λ k. places k order) count_is in
    let below = below_is count_is at c.if-not-are_below.true c.are_below.ensures in
    permitted_by e order c.assert_invariant.ensures long ∙ ap (λ t. t && list_all (is_lower (places n order)) e.precedences) below

pub are_lower-requires : goal.are_lower-requires
are_lower-requires c =
    let e = c.args.events.now in
    let order = c.args.order.now in
    let n = length e.names in
    let count_is : c.len-count.result ≡ n = c.len-count.ensures ∙ ap length c.names.ensures in
    let at = c.as_slice-2.ensures.value ∙ c.in_ok-places.ensures ∙ ap (λ k. places k order) count_is in
    let long = ap length at ∙ length-map-range_with_len (place order) 0 n in
    rw (c.as_slice-3.ensures ∙ c.precedences.ensures, long) c.assert_invariant.ensures.exist

pub returns-then-not-are_lower : goal.returns-then-not-are_lower
returns-then-not-are_lower c =
    let e = c.args.events.now in
    let order = c.args.order.now in
    let n = length e.names in
    let count_is : c.len-count.result ≡ n = c.len-count.ensures ∙ ap length c.names.ensures in
    let long : length order ≡ n = c.if-order-count.false ∙ count_is in
    let at = c.as_slice.ensures.value ∙ c.in_ok-places.ensures ∙ ap (λ k. places k order) count_is in
    let below = below_is count_is at c.if-not-are_below.false c.are_below.ensures in
    let at_two = c.as_slice-2.ensures.value ∙ c.in_ok-places.ensures ∙ ap (λ k. places k order) count_is in
    let lower = lower_is at_two (c.as_slice-3.ensures ∙ c.precedences.ensures) c.if-not-are_lower.true c.are_lower.ensures in
    permitted_by e order c.assert_invariant.ensures long ∙ ap (λ t. t && list_all (is_lower (places n order)) e.precedences) below ∙ lower

pub returns : goal.returns
returns c =
    let e = c.args.events.now in
    let order = c.args.order.now in
    let n = length e.names in
    let count_is : c.len-count.result ≡ n = c.len-count.ensures ∙ ap length c.names.ensures in
    let long : length order ≡ n = c.if-order-count.false ∙ count_is in
    let at = c.as_slice.ensures.value ∙ c.in_ok-places.ensures ∙ ap (λ k. places k order) count_is in
    let below = below_is count_is at c.if-not-are_below.false c.are_below.ensures in
    let at_two = c.as_slice-2.ensures.value ∙ c.in_ok-places.ensures ∙ ap (λ k. places k order) count_is in
    let lower = lower_is at_two (c.as_slice-3.ensures ∙ c.precedences.ensures) c.if-not-are_lower.false c.are_lower.ensures in (
      permitted_by e order c.assert_invariant.ensures long ∙ ap (λ t. t && list_all (is_lower (places n order)) e.precedences) below ∙ lower,
      c.in_ok-places.ensures ∙ ap (λ k. places k order) count_is,
    )
