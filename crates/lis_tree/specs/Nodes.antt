-- The nodes of a message below its groups.
use Rattle.std.specs.Prelude.{List}
use Rattle.lis_record_values.specs.Shape.{RecordContent}

-- a record with the notes that belong to it: a result, a query
pub record Annotated : Type 0 where
  pub head : RecordContent
  pub notes : List RecordContent

-- a record with its notes, and what is below it
pub record Branch (A : Type 0) : Type 0 where
  pub top : Annotated
  pub below : List A

-- an order with its results
abbrev pub OrderTree : Type 0
OrderTree = Branch Annotated

-- a patient with the orders
abbrev pub PatientTree : Type 0
PatientTree = Branch OrderTree
