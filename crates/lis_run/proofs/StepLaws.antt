-- How a step is reported that stops at what it puts.
use Rattle.std.proofs.Common.{◌≡◌, Bool, List, Ok, Err, ℕ, refl}
use Rattle.std.specs.declared.result.Result.{Result}
use Rattle.lis_engine.specs.declared.fault.ToolFault.{ToolFault}
use Rattle.lis_engine.specs.declared.fault.ToolFault.TheVariants.{CaptureLine, Read, Write, OutOfMemory, TooManyReads}
use Rattle.lis_engine.specs.Outcome.{Outcome}
use Rattle.lis_engine.specs.Output.{Broke, IsLeft, IsPut, Out}
use Rattle.lis_engine.specs.Steps.{Ends, Fails, LineSteps}

-- how an output is left by a text that was put
pub put_left : (a b : Out) (text : List ℕ) (result : Result Unit ToolFault) → IsPut a b result text → IsLeft result b
put_left a b text (Ok done) put = put.working
put_left a b text (Err (Write written)) put = put.failed
put_left a b text (Err (CaptureLine line)) put = absurd put.part
put_left a b text (Err Read) put = absurd put.part
put_left a b text (Err OutOfMemory) put = absurd put.part
put_left a b text (Err TooManyReads) put = absurd put.part

pub put_same : (a b : Out) (text : List ℕ) (result : Result Unit ToolFault) → IsPut a b result text → b.sink ≡ a.sink
put_same a b text (Ok done) put = put.same
put_same a b text (Err fault) put = put.same

-- how an output is left by a fault, whatever else might have been reported
pub left_as : (A B : Type 0) (out : Out) (fault : ToolFault) → IsLeft {A = A} (Err fault) out
    → IsLeft {A = B} (Err fault) out
left_as A B out (Write written) left = left
left_as A B out (CaptureLine line) left = left
left_as A B out Read left = left
left_as A B out OutOfMemory left = left
left_as A B out TooManyReads left = left

-- a text that was put for a piece of the input
pub put_steps :
    {represents : Type 0} (memory : Bool) (a b : Out) (text : List ℕ) (result : Result Unit ToolFault)
    → IsPut a b result text → represents → LineSteps memory represents a b text result
put_steps memory a b text (Ok done) put represented = (put, represented)
put_steps memory a b text (Err (Write written)) put represented = put
put_steps memory a b text (Err (CaptureLine line)) put represented = absurd put.part
put_steps memory a b text (Err Read) put represented = absurd put.part
put_steps memory a b text (Err OutOfMemory) put represented = absurd put.part
put_steps memory a b text (Err TooManyReads) put represented = absurd put.part

-- where the sink fails, that is all there is to report
pub broke_stops :
    {F : Type 0} {means : Outcome F → Type 0} {old new : Out} {text : List ℕ} (memory : Bool) (fault : ToolFault)
    → Fails means old new text fault → Ends memory means old new text (Err fault)
broke_stops memory (Write written) fails = fails
broke_stops memory (CaptureLine line) fails = absurd fails.broke.part
broke_stops memory Read fails = absurd fails.broke.part
broke_stops memory OutOfMemory fails = absurd fails.broke.part
broke_stops memory TooManyReads fails = absurd fails.broke.part

-- a sink that fails has one fault
pub broke_write : (a b : Out) (fault : ToolFault) (text : List ℕ) → Broke a b fault text
    → (written : ℕ) × (fault ≡ Write written)
broke_write a b (Write written) text broke = (written, refl)
broke_write a b (CaptureLine line) text broke = absurd broke.part
broke_write a b Read text broke = absurd broke.part
broke_write a b OutOfMemory text broke = absurd broke.part
broke_write a b TooManyReads text broke = absurd broke.part
