use Rattle.std.proofs.Common.{◌≡◌, List, ℕ, sym, ap, ◌∙◌, ◌++◌, append_assoc}
use Rattle.std.specs.Prelude.{codes, decimal}
use Rattle.std.specs.List.{join_with_byte}
use Rattle.seq_check.specs.believed.OrderReport.{names_of}
use Rattle.seq_check.specs.believed.Verdicts.{verdict_text}
use Rattle.std.proofs.lemmas.Result.{on_ok_weaker}
use Rattle.seq_cover.proofs.TextLemmas.{three_behind}
use Rattle.seq_cover.proofs.text.add_verdict.Goals as goal

pub returns-in-Accepted : goal.returns-in-Accepted
returns-in-Accepted c =
    let text = c.args.text.now.items in
    let e = c.args.events.now in
    let told : codes "accepted: " ++ (c.format-rows.result.now ++ (codes " rows, " ++ (c.format-omissions.result.now ++ codes " omissions\n"))) ≡ verdict_text e c.args.verdict.now =
    ap (λ rows. codes "accepted: " ++ (rows ++ (codes " rows, " ++ (c.format-omissions.result.now ++ codes " omissions\n")))) c.format-rows.ensures.text
    ∙ ap (λ omissions. codes "accepted: " ++ (decimal c.in-Accepted.rows ++ (codes " rows, " ++ (omissions ++ codes " omissions\n")))) c.format-omissions.ensures.text
    ∙ joined (decimal c.in-Accepted.rows) (decimal c.in-Accepted.omissions) ∙ ap (verdict_text e) (sym c.in-Accepted.is) in
    on_ok_weaker c.add_pieces.result (λ added. added ∙ ap (λ t. text ++ t) told) c.add_pieces.ensures
  where
    joined : (rows omissions : List ℕ) → codes "accepted: " ++ (rows ++ (codes " rows, " ++ (omissions ++ codes " omissions\n")))
        ≡ codes "accepted: " ++ rows ++ codes " rows, " ++ omissions ++ codes " omissions\n"
    joined rows omissions =
        sym (append_assoc (codes "accepted: ") rows (codes " rows, " ++ (omissions ++ codes " omissions\n")))
        ∙ sym (append_assoc (codes "accepted: " ++ rows) (codes " rows, ") (omissions ++ codes " omissions\n"))
        ∙ sym (append_assoc (codes "accepted: " ++ rows ++ codes " rows, ") omissions (codes " omissions\n"))

pub returns-in_ok-add_names-in-Uncovered : goal.returns-in_ok-add_names-in-Uncovered
returns-in_ok-add_names-in-Uncovered c =
    let text = c.args.text.now.items in
    let e = c.args.events.now in
    let names = join_with_byte 32 (names_of e c.as_slice.result.now) in
    let told : codes "refused: uncovered " ++ (names ++ codes "\n") ≡ verdict_text e c.args.verdict.now =
    sym (append_assoc (codes "refused: uncovered ") names (codes "\n"))
    ∙ ap (λ sequence. codes "refused: uncovered " ++ join_with_byte 32 (names_of e sequence) ++ codes "\n") c.as_slice.ensures
    ∙ ap (verdict_text e) (sym c.in-Uncovered.is) in
    on_ok_weaker c.add_pieces-in-Uncovered-2.result
    (λ added.
    three_behind text (codes "refused: uncovered ") names (codes "\n") c.add_pieces-in-Uncovered.new.text.items c.add_names.new.text.items c.add_pieces-in-Uncovered-2.new.text.items
    c.in_ok-add_pieces-in-Uncovered.ensures c.in_ok-add_names-in-Uncovered.ensures added
    ∙ ap (λ t. text ++ t) told) c.add_pieces-in-Uncovered-2.ensures
