-- Why a command of the program takes no more of its input.
use Rattle.lis_engine.specs.declared.machine.Stop.{Stop as StopOf}
use Rattle.lis_report.specs.declared.refused.Refused.{Refused}

abbrev pub Stop : Type 0
Stop = StopOf Refused
