-- How the reading of a file ends, and a run that stops there or writes what was read.
use Rattle.std.proofs.Common.{◌≡◌, ◌≤◌, ℕ, Bool, List, Option, None, Some, Result, Ok, Err, length, refl, sym, subst}
use Rattle.std.specs.Prelude.{◌≢◌, IfErr, IfSome, IsErrAnd, IsSomeAnd}
use Rattle.std.specs.declared.vec.Vec.{Vec}
use Rattle.std.specs.declared.alloc.Global.{Global}
use Rattle.outside_io.specs.believed.Seen.{FolderSeen, KeepsFiles, KeepsReadFaults, KeepsWriteFaults, ReadFaultsRose}
use Rattle.definitions.specs.believed.Limits.{ModelFile, most_bytes}
use Rattle.acts_front.specs.Reading.{Translates}
use Rattle.acts_cli.specs.believed.Runs.{Ends, IsTranslated}
use Rattle.acts_cli.specs.Steps.{Loads, Ran}
use Rattle.acts_cli.specs.Stops.{stop_of}
use Rattle.acts_front.specs.believed.Translation.{translation}
use Rattle.acts_cli.specs.believed.Words.{Asked}
use Rattle.acts_front.specs.declared.code.ActsFault.{ActsFault}
use Rattle.acts_front.specs.declared.code.ActsFault.TheVariants.{Bad, NoMemory}
use Rattle.acts_cli.specs.declared.stop.Stop.{Stop}
use Rattle.acts_cli.specs.declared.stop.Stop.TheVariants.{OutOfMemory, Refused, CannotRead, CannotWrite, TooLong}

-- its bytes are translated
pub translated : (fold : Bool) (file : Option (Option (List ℕ))) (bytes : List ℕ) (text : Vec ℕ Global) → IfSome file (λ held. held ≡ Some bytes)
    → length bytes ≤ most_bytes ModelFile → translation fold bytes ≡ Ok text.items → IfSome file (λ held. Loads fold held (Ok text))
translated fold None bytes text whole within is = tt
translated fold (Some held) bytes text whole within is =
    subst (λ h. Loads fold h (Ok text)) (sym whole) (record { within = within; text = text.items; translated = is; holds = refl })

-- or refused
pub record IsRefused (fold : Bool) (file : Option (Option (List ℕ))) (result : Result (Vec ℕ Global) Stop) : Type 0 where
  pub loads : IfSome file (λ held. Loads fold held result)
  pub read : result ≢ Err CannotRead
  pub other : IfErr result (λ stop. stop ≢ CannotWrite)

pub refused : (fold : Bool) (file : Option (Option (List ℕ))) (bytes : List ℕ) (result : Result (Vec ℕ Global) Stop) (fault : ActsFault)
    → IsErrAnd result (λ stop. stop ≡ stop_of fault) → IfSome file (λ held. held ≡ Some bytes) → length bytes ≤ most_bytes ModelFile
    → Translates (translation fold bytes) (Err fault) → IsRefused fold file result
refused fold file bytes (Ok text) fault none whole within is = absurd none
refused fold file bytes (Err stop) fault same whole within is =
    subst (λ s. IsRefused fold file (Err s)) (sym same) (record { loads = loads fault file whole is; read = λ e. read fault (cc); other = write fault })
  where
    loads : (fault : ActsFault) (file : Option (Option (List ℕ))) → IfSome file (λ held. held ≡ Some bytes) → Translates (translation fold bytes) (Err fault)
        → IfSome file (λ held. Loads fold held (Err (stop_of fault)))
    loads fault None whole is = tt
    loads NoMemory (Some held) whole is = tt
    loads (Bad line code) (Some held) whole is = subst (λ h. Loads fold h (Err (stop_of (Bad line code)))) (sym whole) (within, is)

    read : (fault : ActsFault) → stop_of fault ≢ CannotRead
    read NoMemory = λ e. cc
    read (Bad line code) = λ e. cc

    write : (fault : ActsFault) → stop_of fault ≢ CannotWrite
    write NoMemory = λ e. cc
    write (Bad line code) = λ e. cc

-- nothing is said of a file that wasn't read
pub unread : (file : Option (Option (List ℕ))) → IfSome file (λ held. Unit {0})
unread None = tt
unread (Some held) = tt

-- the run stops where the file isn't read
ends : (fold : Bool) (file before after : Option (Option (List ℕ))) (stop : Stop) → after ≡ before → IfSome file (λ held. Loads fold held (Err stop))
    → IfSome file (λ held. Ends fold held before after (Err stop))
ends fold None before after stop same loads = tt
ends fold (Some held) before after OutOfMemory same loads = same
ends fold (Some held) before after (Refused line code) same loads = (loads, same)
ends fold (Some held) before after CannotRead same loads = same
ends fold (Some held) before after CannotWrite same loads = absurd loads
ends fold (Some held) before after TooLong same loads = (loads, same)

abbrev pub stops_with : Stop → Result (Vec ℕ Global) Stop
stops_with stop = Err stop

pub stopped : (asked : Asked) (before after : FolderSeen) (end : Result (Unit {0}) Stop) (stop : Stop)
    → IsErrAnd end (λ other. other ≡ stop) → IfSome (before.files asked.input) (λ held. Loads asked.fold held (stops_with stop))
    → (stops_with stop ≡ Err CannotRead → ReadFaultsRose asked.input before after) → (stops_with stop ≢ Err CannotRead → KeepsReadFaults before after)
    → stop ≢ CannotWrite → KeepsFiles before after → KeepsWriteFaults before after
    → Ran asked before after end
stopped asked before after (Ok done) stop none loads rose counts other kept keeps = absurd none
stopped asked before after (Err found) stop same loads rose counts other kept keeps =
    subst (λ s. Ran asked before after (Err s)) (sym same) (record {
      ends = ends asked.fold (before.files asked.input) (before.files asked.output) (after.files asked.output) stop (kept asked.output) loads;
      read = λ e. rose (cc);
      write = λ e. absurd (other (cc));
      others = λ name differs. kept name;
      nothing = λ some written. kept;
      no_read_fault = λ differs. counts (λ e. differs (cc));
      no_write_fault = λ differs. keeps;
    })

-- what holds of the text that was read holds of the translation
pub loaded : (fold : Bool) (file : Option (Option (List ℕ))) (text : Vec ℕ Global) (P : List ℕ → Type 0) → IfSome file (λ held. Loads fold held (Ok text)) → P text.items
    → IfSome file (λ held. IsSomeAnd held (IsTranslated fold P))
loaded fold None text P loads holds = tt
loaded fold (Some None) text P loads holds = absurd loads
loaded fold (Some (Some bytes)) text P loads holds =
    record { within = loads.within; text = loads.text; translated = loads.translated; holds = subst P (sym loads.holds) holds }
