-- In which order the values of each parameter are taken: as declared, shuffled if a number is given,
-- then stably sorted by falling weight. (PICT's guide has the weights; the shuffle is this project's
-- rule, and its words are those of PCG's XSH RR 64/32 with stream 1.)
use Rattle.std.specs.Prelude.{◌≡◌, ℕ, ◌-◌, ◌<◌, All, IsPermutation, List, [], length, slice_index_or}
use Rattle.cov_model.specs.believed.Sound.{ModelView, param_at}
use Rattle.cov_model.specs.believed.Preference.{declared_order}

-- one order for each parameter, which lists each of its values once
pub record OrdersValues (m : ModelView) (orders : List (List ℕ)) : Type 0 where
  pub as_many : length orders ≡ length m.params
  pub each : (p : ℕ) → p < length m.params → IsPermutation (declared_order (param_at m.params p).values) (slice_index_or orders p [])
  pub exist : (p : ℕ) → p < length m.params → All (λ v. v < length (param_at m.params p).values) (slice_index_or orders p [])
