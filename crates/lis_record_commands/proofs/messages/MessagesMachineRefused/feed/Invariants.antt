use Rattle.std.proofs.Common.{◌≡◌, length}
use Rattle.lis_engine.specs.Output.{IsWorking}
use Rattle.lis_record_commands.specs.Messages.{IsReadingMessages}
use Rattle.lis_record_commands.specs.inside.Messages.{Advances}
use Rattle.lis_record_commands.proofs.messages.MessagesMachineRefused.feed.Given as goal

-- what is read, and what came of it
abbrev pub invariant-loop-rest : goal.invariant-loop-rest
invariant-loop-rest g l = record {
  working : IsWorking l.out;
  same : l.out.sink ≡ l.fn.out.sink;
  so_far :
      Advances
      (IsReadingMessages g.C.MessageMachine.writes (g.C.MessageMachine.represents l.fn.self.counted.command)
      l.fn.self.reader l.fn.self.counted.count)
      (IsReadingMessages g.C.MessageMachine.writes (g.C.MessageMachine.represents l.self.counted.command)
      l.self.reader l.self.counted.count)
      l.bytes l.rest l.fn.out l.out;
}

abbrev pub decreases-loop-rest : goal.decreases-loop-rest
decreases-loop-rest g l = length l.rest
