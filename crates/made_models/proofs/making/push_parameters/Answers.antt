use Rattle.std.proofs.Common.{subst, sym}
use Rattle.std.specs.String.{string_bytes}
use Rattle.made_models.proofs.Drawing.{PushedParameters, no_parameter, parameter_more}
use Rattle.made_models.proofs.making.push_parameters.Goals as goal

pub loop-number-init : goal.loop-number-init
loop-number-init c =
    subst (λ counts. PushedParameters c.args.n 0 (string_bytes c.args.text.now) (string_bytes c.args.text.now) counts c.args.words.now)
    (sym c.new-counts.ensures.items) (no_parameter c.args.n (string_bytes c.args.text.now) c.args.words.now c.requires)

pub loop-number-preserved : goal.loop-number-preserved
loop-number-preserved c =
    parameter_more c.args.n c.loop-number.number c.next_word.result (string_bytes c.args.text.now) (string_bytes c.loop-number.text)
    (string_bytes c.push_parameter.new.text) c.loop-number.counts.items c.push.new.self.items c.loop-number.words c.next_word.new.self
    c.loop-number.invariant c.next_word.ensures c.in_ok-push_parameter.ensures c.in_ok-push.ensures.items
