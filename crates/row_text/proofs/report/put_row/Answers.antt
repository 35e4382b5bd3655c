use Rattle.std.proofs.Common.{◌≡◌, ◌<◌, ◌≤◌, ◌+◌, ◌++◌, ◌∷◌, ℕ, [], map, length, get_or, take, sym, ap, ◌∙◌, subst, arith, below_more}
use Rattle.std.specs.List.{join_with_byte, range_with_len}
use Rattle.std.proofs.lemmas.List.FromFn.{length-range_with_len, get_or-range_with_len, length-map-range_with_len}
use Rattle.std.proofs.lemmas.List.{take_all}
use Rattle.cov_model.specs.believed.Valid.{param_numbers}
use Rattle.definitions.specs.believed.Report.{cell_text}
use Rattle.row_text.specs.Turns.{AreTurns, turns_at}
use Rattle.row_text.proofs.Lines.{line_more}
use Rattle.row_text.proofs.Sending.{Adds-then, Adds-same}
use Rattle.row_text.proofs.report.put_row.Goals as goal

pub loop-place-preserved : goal.loop-place-preserved
loop-place-preserved g c =
    let m = c.args.model.now in
    let earlier = take c.args.at c.args.rows.now in
    let text = cell_text m earlier (get_or c.args.rows.now c.args.at []) in
    let at = c.loop-place.place in
    let count : ℕ = length m.params in
    let inside : at < count = omega (arith, ap length c.params.ensures.value) in
    let number : get_or (range_with_len 0 count) at 0 ≡ at = get_or-range_with_len 0 count at 0 inside ∙ omega arith in
    let within : at < length (param_numbers m) = omega (arith, length-range_with_len 0 count) in
    record {
      text = Adds-same (line_more text (param_numbers m) at 0 (text at) within (sym (ap text number)))
          (Adds-then (Adds-then c.loop-place.invariant.text c.put_separator.ensures) c.put_cell.ensures.text);
      written = below_more (λ p. AreTurns m (take (c.args.at + 1) c.args.rows.now) p (turns_at c.put_cell.new.turns.next p)) at
          (λ p below. subst (AreTurns m (take (c.args.at + 1) c.args.rows.now) p) (sym (c.put_cell.ensures.others p (λ e. omega (arith, e, below)))) (c.loop-place.invariant.written p below))
          c.put_cell.ensures.next;
      open_ones = λ p least known.
          subst (AreTurns m earlier p) (sym (c.put_cell.ensures.others p (λ e. omega (arith, e, least)))) (c.loop-place.invariant.open_ones p (omega (arith, least)) known);
      shape = c.put_cell.ensures.shape;
    }

pub returns-clause-text : goal.returns-clause-text
returns-clause-text g c =
    let text = cell_text c.args.model.now (take c.args.at c.args.rows.now) (get_or c.args.rows.now c.args.at []) in
    let cells = map text (param_numbers c.args.model.now) in
    let past : length cells ≤ c.loop-place.place = omega
    (arith, length-map-range_with_len text 0 (length c.args.model.now.params), ap length c.params.ensures.value) in
    Adds-same (ap (λ parts. join_with_byte 9 parts ++ 10 ∷ []) (take_all c.loop-place.place cells past)) (Adds-then c.loop-place.invariant.text c.add_byte.ensures)

pub returns-clause-next : goal.returns-clause-next
returns-clause-next g c = λ p inside. c.loop-place.invariant.written p (omega (arith, inside, ap length c.params.ensures.value))
