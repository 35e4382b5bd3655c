use Rattle.std.proofs.Common.{ap, refl, Some}
use Rattle.acts_front.specs.believed.Constraints.{OfWhole, OfText, OfTruth, OfParameter, operand_in}
use Rattle.acts_front.specs.Reading.{token_seen}
use Rattle.acts_front.specs.declared.kind.Kind.TheVariants.{Int, Enum, Boolean}
use Rattle.acts_front.proofs.Terms.{compared_is}
use Rattle.acts_front.proofs.scope.Scope.comparison.Goals as goal

pub returns-in-Whole : goal.returns-in-Whole
returns-in-Whole c =
    compared_is c.args.self.now c.args.name.now c.args.rel (token_seen c.args.operand.now) (OfWhole c.in-Whole.field-0.now) c.in_ok-kind.kind (Some Int) c.kinds_finding.result
    c.kinds_finding.ensures c.in_ok-kind.ensures refl (ap (λ token. operand_in (token_seen token)) c.in-Whole.is)

pub returns-in-Words : goal.returns-in-Words
returns-in-Words c =
    compared_is c.args.self.now c.args.name.now c.args.rel (token_seen c.args.operand.now) (OfText c.in-Words.field-0.now) c.in_ok-kind.kind (Some Enum) c.kinds_finding-in-Words.result
    c.kinds_finding-in-Words.ensures c.in_ok-kind.ensures refl (ap (λ token. operand_in (token_seen token)) c.in-Words.is)

pub returns-in-Truth : goal.returns-in-Truth
returns-in-Truth c =
    compared_is c.args.self.now c.args.name.now c.args.rel (token_seen c.args.operand.now) (OfTruth c.in-Truth.field-0) c.in_ok-kind.kind (Some Boolean) c.kinds_finding-in-Truth.result
    c.kinds_finding-in-Truth.ensures c.in_ok-kind.ensures refl (ap (λ token. operand_in (token_seen token)) c.in-Truth.is)

pub returns-in_ok-other-in-Name : goal.returns-in_ok-other-in-Name
returns-in_ok-other-in-Name c =
    compared_is c.args.self.now c.args.name.now c.args.rel (token_seen c.args.operand.now)
    (OfParameter c.in-Name.other.now) c.in_ok-kind.kind c.in_ok-other-in-Name.other c.kinds_finding-in-Name.result
    c.kinds_finding-in-Name.ensures c.in_ok-kind.ensures c.in_ok-other-in-Name.ensures (ap (λ token. operand_in (token_seen token)) c.in-Name.is)
