use Rattle.std.proofs.Common.{◌≡◌, ℕ, List, [], None, Bor, map, sym, ◌∙◌, ap}
use Rattle.std.specs.Prelude.{slice_index_or}
use Rattle.cov_model.specs.declared.parameter.Value.{Value}
use Rattle.model_parse.specs.believed.Pieces.{begins_with}
use Rattle.model_parse.specs.believed.Values.{without_prefix, piece_code, value_of}
use Rattle.model_parse.specs.ValueSteps.{add_value, names_code}
use Rattle.model_parse.proofs.Answering.{gives_same, accepted_is}
use Rattle.model_parse.proofs.Weights.{Spells, spelled}
use Rattle.model_parse.proofs.piece.add_spelled.Goals as goal

abbrev seen : List (Bor (List ℕ)) → List (List ℕ)
seen texts = map (λ text. text.now) texts

pub returns : goal.returns
returns c =
    let marks = c.args.opts.now.marks in
    let code : names_code marks.prefix (seen c.in_ok-names.names) ≡ None =
    ap (λ (ns : List (Bor (List ℕ))). names_code marks.prefix (seen ns)) (sym c.as_slice-2.ensures) ∙ sym c.names_code.ensures ∙ c.in_default.is in
    let value : Value = record { names = seen c.in_ok-names.names; weight = c.read_weight-weight.result.1; negative = c.is_negative-negative.result } in
    let spells : Spells marks c.args.piece.now value =
    spelled marks c.args.piece.now c.read_weight-weight.result.0.now c.read_weight-weight.result.1 (seen c.in_ok-parts.parts.items) (seen c.in_ok-names.names) c.is_negative-negative.result
    c.read_weight-weight.ensures.names c.read_weight-weight.ensures.weight c.if-weight-eq0.false c.if-weight-ge-WEIGHT_END.false c.in_ok-parts.ensures
    (c.in_ok-names.ensures ∙ ap (λ (ps : List (Bor (List ℕ))). map (without_prefix marks.prefix) (seen ps)) c.as_slice.ensures.value) code
    (c.is_negative-negative.ensures ∙ ap (λ (ps : List (Bor (List ℕ))). begins_with marks.prefix (slice_index_or (seen ps) 0 [])) c.as_slice-3.ensures.value) in
    let add = add_value c.args.opts.now.fold c.args.line c.args.read.now in
    gives_same (λ done. c.add_value.new.read) c.add_value.result _ _ (ap (λ (ns : List (Bor (List ℕ))). add
    (record { names = seen ns; weight = c.read_weight-weight.result.1; negative = c.is_negative-negative.result })) c.as_slice-4.ensures
    ∙ accepted_is c.args.line (piece_code marks c.args.piece.now) (value_of marks c.args.piece.now) value add spells.accepted spells.is) c.add_value.ensures
