-- Which status a cause has.
use Rattle.std.proofs.Common.{◌≡◌, ◌⊎◌, inl, inr, refl}
use Rattle.command_line.specs.declared.stop.Stop.{Stop}
use Rattle.command_line.specs.declared.stop.Stop.TheVariants as stops
use Rattle.jeldroft_files.specs.believed.Failures.{status_of, status_of_stop}
use Rattle.jeldroft_files.specs.declared.failure.Cause.{Cause}
use Rattle.jeldroft_files.specs.declared.failure.Cause.TheVariants as causes

pub stop_known : (stop : Stop) → (status_of_stop stop ≡ 2) ⊎ (status_of_stop stop ≡ 3)
stop_known stops.OutOfMemory = inr refl
stop_known (stops.Spent budget question) = inl refl
stop_known (stops.BadWord index) = inl refl
stop_known (stops.BadModel diag) = inl refl
stop_known (stops.BadConstraint diag) = inl refl
stop_known (stops.BadRows fault) = inl refl
stop_known stops.NoResult = inl refl
stop_known (stops.BadResult line) = inl refl
stop_known (stops.CannotRead kind) = inr refl
stop_known (stops.CannotWrite kind) = inr refl
stop_known stops.CannotWriteReport = inr refl
stop_known (stops.TooMany quantity count) = inl refl
stop_known (stops.TooLong kind) = inl refl

pub cause_known : (cause : Cause) → (status_of cause ≡ 2) ⊎ (status_of cause ≡ 3)
cause_known (causes.Stop stop) = stop_known stop
cause_known (causes.Comma fault) = inl refl
