-- Numbers of the made model of 7, computed: a script of the generator's published step gave the same.
use Rattle.std.specs.Prelude.{◌≡◌}
use Rattle.std.proofs.Common.{refl}
use Rattle.made_models.specs.believed.Words.{after_words}
use Rattle.made_models.specs.believed.MadeModel.{forbidden, value_count}

pub first_parameter : value_count 7 0 ≡ 4
unfolding after_words
first_parameter = refl

pub twelfth_parameter : value_count 7 11 ≡ 7
unfolding after_words
twelfth_parameter = refl

pub first_constraint : forbidden 7 0 ≡ record { first = 2; first_value = 1; second = 21; second_value = 2 }
unfolding after_words
first_constraint = refl

pub last_constraint : forbidden 7 29 ≡ record { first = 19; first_value = 4; second = 53; second_value = 2 }
unfolding after_words
last_constraint = refl
