use Rattle.std.proofs.Common.{◌≡◌, ◌++◌, codes, take}
use Rattle.std.specs.List.{flat_map}
use Rattle.acts_front.specs.Reading.{token_seen}
use Rattle.acts_front.specs.believed.Translation.{token_text}
use Rattle.acts_front.proofs.write.put_behind_blanks.Given as goal

abbrev pub invariant-loop-token : goal.invariant-loop-token
invariant-loop-token l = l.out.items ≡ l.fn.out.items ++ flat_map (λ token. codes " " ++ token_text (token_seen token)) (take l.token-index l.tokens)
