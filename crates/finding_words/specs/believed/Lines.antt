-- Where the constraints of a model stand in its file. (This project's rule.)
use Rattle.std.specs.Prelude.{ℕ, ◌-◌, map, slice_index_or}
use Rattle.cov_model.specs.believed.Sound.{ModelView}

-- the line where the constraint of a number begins
abbrev pub rule_line : ModelView → ℕ → ℕ
rule_line m number = slice_index_or (map (λ rule. rule.line) m.rules) (number - 1) 0
