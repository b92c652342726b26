-- Why a list of records is not one message.
use Rattle.std.specs.Prelude.{◌≡◌, ◌≢◌, ◌+◌, List, ◌∷◌, ◌++◌, length, Some, ◌⊎◌}
use Rattle.lis_record_values.specs.declared.kinds.Kind.{Kind}
use Rattle.lis_record_values.specs.declared.faults.MessageFault.{MessageFault}
use Rattle.lis_record_values.specs.declared.faults.Reason.TheVariants as reasons
use Rattle.lis_tree.specs.Level.{outside, closed, level_after, misplaced, AllowedFrom}
use Rattle.lis_bytes.specs.Capped.{capped}

-- a record of a list that can't be where it is, the first of them
pub record IsMisplacedAt (ks : List Kind) (fault : MessageFault) : Type 0 where
  pub before : List Kind
  pub kind : Kind
  pub following : List Kind
  pub whole : ks ≡ before ++ kind ∷ following
  pub placed : AllowedFrom outside before
  pub why : misplaced (level_after outside before) kind ≡ Some fault.reason
  pub place : fault.place ≡ capped (length before + 1)

-- a list whose message isn't closed
pub record IsUnclosed (ks : List Kind) (fault : MessageFault) : Type 0 where
  pub placed : AllowedFrom outside ks
  pub unclosed : level_after outside ks ≢ closed
  pub why : fault.reason ≡ reasons.Unfinished
  pub place : fault.place ≡ capped (length ks + 1)

-- why records are not one message
abbrev pub IsListFault : List Kind → MessageFault → Type 0
IsListFault ks fault = IsMisplacedAt ks fault ⊎ IsUnclosed ks fault
