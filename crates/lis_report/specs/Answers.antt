-- The engine's words for the program's commands, whose runs end early only for a record that is rejected.
use Rattle.lis_engine.specs.declared.report.Report.{Report as ReportOf}
use Rattle.lis_engine.specs.Outcome.{Outcome as OutcomeOf}
use Rattle.lis_report.specs.declared.refused.Refused.{Refused}

abbrev pub Report : Type 0
Report = ReportOf Refused

abbrev pub Outcome : Type 0
Outcome = OutcomeOf Refused
