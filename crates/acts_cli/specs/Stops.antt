-- Why a run may end before its file is written whole: its status, and its line on standard error.
-- (This project's rules.)
use Rattle.acts_front.specs.declared.code.ActsFault.{ActsFault}
use Rattle.acts_front.specs.declared.code.ActsFault.TheVariants.{Bad, NoMemory}
use Rattle.acts_cli.specs.declared.stop.Stop.{Stop}
use Rattle.acts_cli.specs.declared.stop.Stop.TheVariants.{OutOfMemory, Refused}

-- the stop of a fault of the translation
abbrev pub stop_of : ActsFault → Stop
stop_of (Bad line code) = Refused line code
stop_of NoMemory = OutOfMemory
