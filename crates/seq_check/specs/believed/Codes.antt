-- The codes and texts by which a refusal of a file of events is told, and what is counted in it.
-- (This project's rules.)
use Rattle.std.specs.Prelude.{ℕ, List, codes}
use Rattle.seq_check.specs.declared.fault.EventCode.{EventCode}
use Rattle.seq_check.specs.declared.fault.EventCode.TheVariants.{Q1, Q2, Q3, Q4, Q5}
use Rattle.seq_check.specs.declared.fault.EventLimit.{EventLimit}
use Rattle.seq_check.specs.declared.fault.EventLimit.TheVariants.{Events, Precedences}

abbrev pub event_code : EventCode → List ℕ
event_code Q1 = codes "Q1"
event_code Q2 = codes "Q2"
event_code Q3 = codes "Q3"
event_code Q4 = codes "Q4"
event_code Q5 = codes "Q5"

abbrev pub event_text : EventCode → List ℕ
event_text Q1 = codes "not an event line"
event_text Q2 = codes "repeated event"
event_text Q3 = codes "unknown event"
event_text Q4 = codes "no events"
event_text Q5 = codes "fewer events than the length"

abbrev pub limit_name : EventLimit → List ℕ
limit_name Events = codes "events"
limit_name Precedences = codes "precedences"
