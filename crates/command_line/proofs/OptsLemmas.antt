-- How the model file is to be read, as the options have it.
use Rattle.std.proofs.Common.{◌≡◌, refl, ap}
use Rattle.model_lex.specs.declared.options.ModelOpts.{ModelOpts}
use Rattle.model_lex.specs.declared.options.OrderWord.{OrderWord}
use Rattle.model_lex.specs.declared.options.OrderWord.TheVariants.{Number, Max}
use Rattle.command_line.specs.Settings.{order_seen}
use Rattle.command_line.specs.believed.Words.{order_word}

same_order : (order : OrderWord) → order ≡ order_word (order_seen order)
same_order (Number n) = refl
same_order Max = refl

pub same_opts : (o : ModelOpts) → o ≡ record { order = order_word (order_seen o.order); marks = o.marks; fold = o.fold }
same_opts o = ap (λ order. record { order = order; marks = o.marks; fold = o.fold }) (same_order o.order)
