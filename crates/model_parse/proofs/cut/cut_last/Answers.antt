use Rattle.std.proofs.Common.{◌≡◌, ◌-◌, ap, ◌∙◌, arith, not, length, take, drop}
use Rattle.std.specs.List.{suffix_len}
use Rattle.model_parse.specs.believed.Pieces.{is_byte}
use Rattle.model_parse.proofs.Cuts.{LastMark, last_mark, none_behind, front_is}
use Rattle.model_parse.proofs.cut.cut_last.Goals as goal
use Rattle.model_parse.proofs.cut.cut_last.Goals.{Else-behind-text}

pub returns-then-behind-text : goal.returns-then-behind-text
returns-then-behind-text c =
    none_behind (is_byte c.args.mark) c.args.text.now c.bytes_behind-behind.result
    (c.bytes_behind-behind.ensures ∙ ap (suffix_len (λ x. not (is_byte c.args.mark x))) c.as_bytes.ensures.value) c.if-behind-text.true

found : (c : Else-behind-text) → LastMark c.args.mark c.args.text.now c.bytes_behind-behind.result
found c =
    last_mark c.args.mark c.args.text.now c.bytes_behind-behind.result c.requires c.utf8.text
    (c.bytes_behind-behind.ensures ∙ ap (suffix_len (λ x. not (is_byte c.args.mark x))) c.as_bytes.ensures.value) c.if-behind-text.false

pub overflow_sub-end : goal.overflow_sub-end
overflow_sub-end c = let f = found c in omega (arith, f.within)

pub overflow_sub-end-2 : goal.overflow_sub-end-2
overflow_sub-end-2 c = let f = found (goal.at.overflow_sub-end-2 c).Else-behind-text in omega (arith, f.within)

pub range-requires-clause-end_boundary : goal.range-requires-clause-end_boundary
range-requires-clause-end_boundary c = (found (goal.at.range-requires-clause-end_boundary c).Else-behind-text).before

pub range_from-requires : goal.range_from-requires
range_from-requires c = λ h. (found (goal.at.range_from-requires c).Else-behind-text).behind

pub returns : goal.returns
returns c =
    let f = found (goal.at.returns c).Else-behind-text in
    let behind : c.bytes_behind-behind.result ≡ suffix_len (λ x. not (is_byte c.args.mark x)) c.args.text.now =
    c.bytes_behind-behind.ensures ∙ ap (suffix_len (λ x. not (is_byte c.args.mark x))) c.as_bytes.ensures.value in (
      f.stands,
      c.range.ensures.value ∙ front_is c.args.text.now (length c.args.text.now - c.bytes_behind-behind.result - 1)
          ∙ ap (λ n. take (length c.args.text.now - n - 1) c.args.text.now) behind,
      c.range_from.ensures.value ∙ ap (λ n. drop (length c.args.text.now - n) c.args.text.now) behind,
    )
