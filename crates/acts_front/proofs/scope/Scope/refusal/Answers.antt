use Rattle.std.proofs.Common.{◌≡◌, ◌∙◌, true, false, map, length, ap, sym}
use Rattle.std.proofs.lemmas.List.{length-map}
use Rattle.std.specs.Prelude.{is_some}
use Rattle.value_text.specs.believed.Numbers.{count_of}
use Rattle.acts_front.specs.Reading.{relation_seen}
use Rattle.acts_front.specs.believed.RelationLines.{are_members}
use Rattle.acts_front.proofs.LineForms.{related_is, unrelated_is}
use Rattle.acts_front.proofs.scope.Scope.refusal.Goals as goal

pub returns-then-not-branch : goal.returns-then-not-branch
returns-then-not-branch c =
    let seen = relation_seen c.args.relation.now in
    let fit : are_members c.args.self.now seen.members ≡ false =
    sym (c.in_ok-are_members.ensures ∙ ap (λ list. are_members c.args.self.now (map (λ name. name.now) list)) c.as_slice-members.ensures.value) ∙ c.if-not-branch.true in
    unrelated_is c.args.self.now seen fit

pub returns-then-not-is_strength : goal.returns-then-not-is_strength
returns-then-not-is_strength c =
    let seen = relation_seen c.args.relation.now in
    let fit : are_members c.args.self.now seen.members ≡ true =
    sym (c.in_ok-are_members.ensures ∙ ap (λ list. are_members c.args.self.now (map (λ name. name.now) list)) c.as_slice-members.ensures.value) ∙ c.if-not-branch.false in
    let within : is_some (count_of seen.strength 1 (length seen.members)) ≡ false =
    ap (λ n. is_some (count_of seen.strength 1 n)) (length-map c.args.relation.now.members.items (λ name. name.now) ∙ ap length (sym c.as_slice-members.ensures.value))
    ∙ (sym c.is_strength.ensures ∙ c.if-not-is_strength.true) in
    related_is c.args.self.now seen false fit within

pub returns : goal.returns
returns c =
    let seen = relation_seen c.args.relation.now in
    let fit : are_members c.args.self.now seen.members ≡ true =
    sym (c.in_ok-are_members.ensures ∙ ap (λ list. are_members c.args.self.now (map (λ name. name.now) list)) c.as_slice-members.ensures.value) ∙ c.if-not-branch.false in
    let within : is_some (count_of seen.strength 1 (length seen.members)) ≡ true =
    ap (λ n. is_some (count_of seen.strength 1 n)) (length-map c.args.relation.now.members.items (λ name. name.now) ∙ ap length (sym c.as_slice-members.ensures.value))
    ∙ (sym c.is_strength.ensures ∙ c.if-not-is_strength.false) in
    related_is c.args.self.now seen true fit within
