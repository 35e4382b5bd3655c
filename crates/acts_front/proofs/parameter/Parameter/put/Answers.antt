use Rattle.std.proofs.Common.{◌≡◌, ◌++◌, ◌∙◌, map, ap, sym, subst, codes, append_assoc}
use Rattle.std.specs.Prelude.{OnOk}
use Rattle.std.proofs.lemmas.Simd.{map-map}
use Rattle.model_parse.specs.believed.Written.{joined}
use Rattle.acts_front.specs.believed.Translation.{value_text}
use Rattle.acts_front.proofs.parameter.Parameter.put.Goals as goal

pub returns : goal.returns
returns c =
    let name = c.args.self.now.name.now in
    let kind = c.args.self.now.kind in
    let values = map (value_text kind) (map (λ value. value.now) c.args.self.now.values.items) in
    let printed : map (λ text. text.now) c.as_slice-2.result.now ≡ values =
    ap (map (λ text. text.now)) c.as_slice-2.ensures.value ∙ (c.in_ok-values.ensures
    ∙ (ap (map (λ value. value_text kind value.now)) c.as_slice.ensures.value ∙ sym (map-map (value_text kind) (λ value. value.now) c.args.self.now.values.items))) in
    let start : c.extend_from_slice-2.new.self.items ≡ (c.args.out.now.items ++ name) ++ codes ": " =
    c.in_ok-extend_from_slice-2.ensures.items ∙ ap (λ items. items ++ codes ": ") c.in_ok-extend_from_slice.ensures.items in
    subst (λ items. OnOk c.put_list.result (c.put_list.new.out.items ≡ items))
    (ap (λ items. items ++ joined (codes ", ") (map (λ text. text.now) c.as_slice-2.result.now)) start
    ∙ (ap (λ texts. ((c.args.out.now.items ++ name) ++ codes ": ") ++ joined (codes ", ") texts) printed
    ∙ (ap (λ items. items ++ joined (codes ", ") values) (append_assoc c.args.out.now.items name (codes ": "))
    ∙ append_assoc c.args.out.now.items (name ++ codes ": ") (joined (codes ", ") values))))
    c.put_list.ensures
