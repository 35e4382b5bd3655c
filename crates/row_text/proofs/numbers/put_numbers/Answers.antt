use Rattle.std.proofs.Common.{◌++◌, ◌∷◌, [], ap, ◌∙◌}
use Rattle.std.specs.Prelude.{codes, decimal}
use Rattle.row_text.proofs.Sending.{Adds-then, Adds-same}
use Rattle.row_text.proofs.numbers.put_numbers.Goals as goal

pub returns : goal.returns
returns g c =
    let first = c.as_bytes-2.result.now in
    let second = c.as_bytes-3.result.now in
    Adds-same (ap (λ text. (((text ++ first) ++ codes " of ") ++ second) ++ 10 ∷ []) c.as_bytes.ensures.value
    ∙ ap (λ digits. (((c.args.label.now ++ digits) ++ codes " of ") ++ second) ++ 10 ∷ []) (c.as_bytes-2.ensures.value ∙ c.format.ensures.text)
    ∙ ap (λ digits. (((c.args.label.now ++ decimal c.args.number) ++ codes " of ") ++ digits) ++ 10 ∷ [])
    (c.as_bytes-3.ensures.value ∙ c.format-2.ensures.text))
    (Adds-then (Adds-then (Adds-then (Adds-then c.add.ensures c.add-2.ensures) c.add-3.ensures) c.add-4.ensures) c.add-5.ensures)
