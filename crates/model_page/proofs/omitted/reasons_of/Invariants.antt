use Rattle.std.proofs.Common.{◌≡◌, map, take}
use Rattle.model_page.specs.believed.Omitted.{reason_of}
use Rattle.model_page.proofs.omitted.reasons_of.Given as goal

abbrev pub invariant-loop-cause : goal.invariant-loop-cause
invariant-loop-cause l = map (λ text. text.items) l.texts.items ≡ map (reason_of l.model) (take l.cause-index l.causes)
