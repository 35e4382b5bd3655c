use Rattle.std.proofs.Common.{◌≡◌, ◌<◌, not, arith, ap, ◌∙◌, sym, is_none, length, Some}
use Rattle.std.proofs.lemmas.Grind.{common_steps}
use Rattle.cov_model.specs.declared.row_fault.RowWhy.TheVariants.{Rule}
use Rattle.cov_model.specs.Sound.{no_rule}
use Rattle.cov_model.specs.believed.Meaning.{body_holds}
use Rattle.cov_model.specs.believed.RowFault.{row_fault}
use Rattle.cov_model.proofs.RowLemmas.{FitsModel-is_row}
use Rattle.cov_model.proofs.FaultLemmas.{false_rule, find-drop_more, is_none-row_fault}
use Rattle.cov_model.proofs.SoundLemmas.{rule_seen, seen_sound}
use Rattle.cov_model.proofs.model.TestModel.row_fault.Goals as goal

pub holds_on-requires-clause-sound : goal.holds_on-requires-clause-sound
holds_on-requires-clause-sound c =
    let within : c.loop-rule.rule-index < length c.args.self.now.rules = grind (arith, common_steps, ap length c.rules.ensures.value) in
    seen_sound c.args.self.now c.rules.result.now c.as_slice-rule-items.result.now c.loop-rule.rule-index c.rule-item.result c.rule-item.result c.rules.ensures.sound
    c.rules.ensures.value c.as_slice-rule-items.ensures within c.rule-item.is

pub holds_on-requires-clause-fits : goal.holds_on-requires-clause-fits
holds_on-requires-clause-fits c = FitsModel-is_row c.args.self.now c.args.row.now c.requires

pub loop-rule-preserved : goal.loop-rule-preserved
loop-rule-preserved c =
    let within : c.loop-rule.rule-index < length c.args.self.now.rules = grind (arith, common_steps, ap length c.rules.ensures.value) in
    let seen = rule_seen c.args.self.now.rules c.rules.result.now c.as_slice-rule-items.result.now c.loop-rule.rule-index c.rule-item.result c.rule-item.result no_rule
    c.rules.ensures.value c.as_slice-rule-items.ensures within c.rule-item.is in
    c.loop-rule.invariant
    ∙ find-drop_more (λ rule. not (body_holds c.args.self.now rule.body c.args.row.now)) c.args.self.now.rules c.loop-rule.rule-index no_rule within
    (ap (λ rule. not (body_holds c.args.self.now rule.body c.args.row.now)) (sym seen) ∙ ap not (sym c.holds_on.ensures ∙ c.if-not-holds_on.false))

pub two_negatives-requires : goal.two_negatives-requires
two_negatives-requires c = record { fits = FitsModel-is_row c.args.self.now c.args.row.now c.requires }

pub returns-then-not-holds_on-clause-fault : goal.returns-then-not-holds_on-clause-fault
returns-then-not-holds_on-clause-fault c =
    let within : c.loop-rule.rule-index < length c.args.self.now.rules = grind (arith, common_steps, ap length c.rules.ensures.value) in
    let seen = rule_seen c.args.self.now.rules c.rules.result.now c.as_slice-rule-items.result.now c.loop-rule.rule-index c.rule-item.result c.rule-item.result no_rule
    c.rules.ensures.value c.as_slice-rule-items.ensures within c.rule-item.is in
    ap (λ rule. Some (Rule rule.number)) seen
    ∙ sym (false_rule c.args.self.now c.args.row.now c.loop-rule.rule-index no_rule within
    (ap (λ rule. body_holds c.args.self.now rule.body c.args.row.now) (sym seen) ∙ sym c.holds_on.ensures ∙ c.if-not-holds_on.true) c.loop-rule.invariant)

pub returns-clause-valid : goal.returns-clause-valid
returns-clause-valid c =
    let fault : c.two_negatives.result ≡ row_fault c.args.self.now c.args.row.now = grind (arith, common_steps) in
    ap (λ o. is_none o) fault ∙ is_none-row_fault c.args.self.now c.args.row.now c.requires

pub returns-then-not-holds_on-clause-valid : goal.returns-then-not-holds_on-clause-valid
returns-then-not-holds_on-clause-valid c =
    ap (λ o. is_none o) (returns-then-not-holds_on-clause-fault c) ∙ is_none-row_fault c.args.self.now c.args.row.now c.requires
