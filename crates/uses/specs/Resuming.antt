-- A message that two sinks take, one after the other.
use Rattle.std.specs.Prelude.{◌≡◌, ◌≢◌, ℕ, ◌<◌, Bool, true, false, List, Option, Err}
use Rattle.std.specs.declared.result.Result.{Result}
use Rattle.lis_message.specs.declared.fault.MessageWriteFault.{MessageWriteFault}
use Rattle.lis_message.specs.Writing.{WroteMessage, is_sink_fault}
use Rattle.lis_record_write.specs.declared.faults.WriteFault.TheVariants.{Io}
use Rattle.lis_tree.specs.Tree.{MessageTree}

-- The first sink takes all of it, or it is rejected before any byte: the second one gets nothing. Or the first sink
-- fails in a record, and the second one gets the rest. A fault of a sink is said about the last one that was written
-- to, and only if that one failed.
pub data WroteToBoth
    (message : MessageTree) (first_old first_new second_old second_new : Option (List ℕ))
    (first_failed second_failed : Bool) (result : Result (Unit {0}) MessageWriteFault)
    : Type 0 where
  first : ((place count : ℕ) → place < 18446744073709551615 → result ≢ Err (record { place = place; fault = Io count }))
      → WroteMessage message 1 0 first_old first_new result → first_failed ≡ is_sink_fault result
      → second_new ≡ second_old → second_failed ≡ false
      → WroteToBoth message first_old first_new second_old second_new first_failed second_failed result
  both : (place count : ℕ) → place < 18446744073709551615
      → WroteMessage message 1 0 first_old first_new (Err (record { place = place; fault = Io count }))
      → first_failed ≡ true
      → WroteMessage message place count second_old second_new result → second_failed ≡ is_sink_fault result
      → WroteToBoth message first_old first_new second_old second_new first_failed second_failed result
