-- Why the reading of a file stops.
use Rattle.std.proofs.Common.{◌≡◌, ◌<◌, ◌≤◌, ℕ, List, Option, None, Some, Ok, Err, Result, length, refl, sym, subst}
use Rattle.std.specs.Prelude.{◌≢◌, IfSome, IfErr, IsErrAnd, IsSomeAnd}
use Rattle.definitions.specs.believed.Limits.{ModelFile, most_bytes}
use Rattle.model_lex.specs.declared.fault.ModelFault.{ModelFault}
use Rattle.model_lex.specs.declared.fault.ModelFault.TheVariants.{Bad, BadRule, Limit}
use Rattle.model_lex.specs.declared.fault.ModelFault.TheVariants as model_faults
use Rattle.model_lex.specs.declared.options.ModelOpts.{ModelOpts}
use Rattle.cov_model.specs.believed.Sound.{ModelView}
use Rattle.model_lex.specs.declared.note.Note.{Note}
use Rattle.type_check.specs.believed.ModelOf.{IsModelOf, IsRefusalOf}
use Rattle.command_line.specs.believed.Loading.{IsLoaded, StopsReading, cannot_read, is_refused, out_of_memory, too_long}
use Rattle.command_line.specs.Loading.{IsOfReading, IsUnread, folder_failed, has_more, no_room}
use Rattle.command_line.specs.believed.Stops.{measured, stop_of_model}
use Rattle.command_line.specs.declared.files.FileKind.{FileKind}
use Rattle.command_line.specs.declared.files.FileKind.TheVariants as kinds
use Rattle.command_line.specs.declared.stop.Stop.{Stop}
use Rattle.command_line.specs.declared.stop.Stop.TheVariants.{OutOfMemory, CannotRead, TooLong}

-- a file isn't read
pub without_room : (kind : FileKind) (file : Option (Option (List ℕ))) → IfSome file (λ held. IsUnread kind held OutOfMemory)
without_room kind None = tt
without_room kind (Some held) = no_room refl

pub not_read : (kind : FileKind) (file : Option (Option (List ℕ))) → IfSome file (λ held. IsUnread kind held (CannotRead kind))
not_read kind None = tt
not_read kind (Some held) = folder_failed refl

pub longer : (kind : FileKind) (most : ℕ) (file : Option (Option (List ℕ))) → most ≡ most_bytes (measured kind)
    → IfSome file (λ held. IsSomeAnd held (λ bytes. most < length bytes)) → IfSome file (λ held. IsUnread kind held (TooLong kind))
longer kind most None is long = tt
longer kind most (Some held) is long = has_more refl (subst (λ n. IsSomeAnd held (λ bytes. n < length bytes)) is long)

-- a model file isn't read
unread : (opts : ModelOpts) (held : Option (List ℕ)) (stop : Stop) → IsUnread kinds.Model held stop → StopsReading opts held stop
unread opts held stop (no_room is) = out_of_memory is
unread opts held stop (folder_failed is) = cannot_read is
unread opts held stop (has_more is long) = too_long is long

unread_model : (opts : ModelOpts) (file : Option (Option (List ℕ))) (stop : Stop)
    → IfSome file (λ held. IsUnread kinds.Model held stop) → IfSome file (λ held. StopsReading opts held stop)
unread_model opts None stop why = tt
unread_model opts (Some held) stop why = unread opts held stop why

-- a file that was read whole is refused
stops_refused : (opts : ModelOpts) (bytes : List ℕ) (stop : Stop) (fault : ModelFault) → stop ≡ stop_of_model fault → length bytes ≤ most_bytes ModelFile
    → (fault ≢ model_faults.NoMemory → IsRefusalOf opts bytes fault) → StopsReading opts (Some bytes) stop
stops_refused opts bytes stop model_faults.NoMemory is short refusal = out_of_memory is
stops_refused opts bytes stop (Bad diag) is short refusal = is_refused (Bad diag) is (short, refusal (λ e. cc))
stops_refused opts bytes stop (BadRule diag) is short refusal = is_refused (BadRule diag) is (short, refusal (λ e. cc))
stops_refused opts bytes stop (Limit limit count) is short refusal = is_refused (Limit limit count) is (short, refusal (λ e. cc))

pub refused_whole : {A : Type 0} (opts : ModelOpts) (file : Option (Option (List ℕ))) (bytes : List ℕ) (result : Result A Stop) (fault : ModelFault)
    → IsErrAnd result (λ stop. stop ≡ stop_of_model fault)
    → IfSome file (λ held. held ≡ Some bytes) → length bytes ≤ most_bytes ModelFile → (fault ≢ model_faults.NoMemory → IsRefusalOf opts bytes fault)
    → IfErr result (λ stop. IfSome file (λ held. StopsReading opts held stop))
refused_whole opts file bytes (Ok read) fault is whole short refusal = tt
refused_whole opts None bytes (Err stop) fault is whole short refusal = tt
refused_whole opts (Some held) bytes (Err stop) fault is whole short refusal =
    subst (λ found. StopsReading opts found stop) (sym whole) (stops_refused opts bytes stop fault is short refusal)

-- and its stop is one of the reading
refused_stop : (fault : ModelFault) → IsOfReading kinds.Model (stop_of_model fault)
refused_stop model_faults.NoMemory = record { words = λ i e. cc; rows = λ f e. cc; results = (λ e. cc, λ l e. cc); questions = λ b q e. cc; read = λ k e. cc; writes = λ k e. cc; report = λ e. cc }
refused_stop (Bad diag) = record { words = λ i e. cc; rows = λ f e. cc; results = (λ e. cc, λ l e. cc); questions = λ b q e. cc; read = λ k e. cc; writes = λ k e. cc; report = λ e. cc }
refused_stop (BadRule diag) = record { words = λ i e. cc; rows = λ f e. cc; results = (λ e. cc, λ l e. cc); questions = λ b q e. cc; read = λ k e. cc; writes = λ k e. cc; report = λ e. cc }
refused_stop (Limit limit count) = record { words = λ i e. cc; rows = λ f e. cc; results = (λ e. cc, λ l e. cc); questions = λ b q e. cc; read = λ k e. cc; writes = λ k e. cc; report = λ e. cc }

pub refused_of_reading : {A : Type 0} (result : Result A Stop) (fault : ModelFault) → IsErrAnd result (λ stop. stop ≡ stop_of_model fault)
    → IfErr result (IsOfReading kinds.Model)
refused_of_reading (Ok read) fault is = tt
refused_of_reading (Err stop) fault is = subst (IsOfReading kinds.Model) (sym is) (refused_stop fault)

-- the stops of a file that isn't read
pub stop_of_room : (kind : FileKind) → IsOfReading kind OutOfMemory
stop_of_room kind = record { words = λ i e. cc; rows = λ f e. cc; results = (λ e. cc, λ l e. cc); questions = λ b q e. cc; read = λ k e. cc; writes = λ k e. cc; report = λ e. cc }

pub stop_of_folder : (kind : FileKind) → IsOfReading kind (CannotRead kind)
stop_of_folder kind = record { words = λ i e. cc; rows = λ f e. cc; results = (λ e. cc, λ l e. cc); questions = λ b q e. cc; read = λ k e. cc; writes = λ k e. cc; report = λ e. cc }

pub stop_of_length : (kind : FileKind) → IsOfReading kind (TooLong kind)
stop_of_length kind = record { words = λ i e. cc; rows = λ f e. cc; results = (λ e. cc, λ l e. cc); questions = λ b q e. cc; read = λ k e. cc; writes = λ k e. cc; report = λ e. cc }

-- a model file that isn't read, where the stop goes on
pub unread_whole : {A : Type 0} (opts : ModelOpts) (file : Option (Option (List ℕ))) (result : Result A Stop) (stop : Stop)
    → IsErrAnd result (λ other. other ≡ stop) → IfSome file (λ held. IsUnread kinds.Model held stop)
    → IfErr result (λ other. IfSome file (λ held. StopsReading opts held other))
unread_whole opts file (Ok read) stop is why = tt
unread_whole opts file (Err other) stop is why = subst (λ s. IfSome file (λ held. StopsReading opts held s)) (sym is) (unread_model opts file stop why)

pub goes_on : {A : Type 0} (result : Result A Stop) (stop : Stop) → IsErrAnd result (λ other. other ≡ stop) → IsOfReading kinds.Model stop
    → IfErr result (IsOfReading kinds.Model)
goes_on (Ok read) stop is of = tt
goes_on (Err other) stop is of = subst (IsOfReading kinds.Model) (sym is) of

-- a model file that was read whole spells a model
pub loaded_whole : (opts : ModelOpts) (file : Option (Option (List ℕ))) (bytes : List ℕ) (m : ModelView) (notes : List Note)
    → IfSome file (λ held. held ≡ Some bytes) → length bytes ≤ most_bytes ModelFile → IsModelOf opts bytes m notes
    → IfSome file (λ held. IsLoaded opts held m notes)
loaded_whole opts None bytes m notes whole short spelled = tt
loaded_whole opts (Some held) bytes m notes whole short spelled = subst (λ found. IsLoaded opts found m notes) (sym whole) (short, spelled)
