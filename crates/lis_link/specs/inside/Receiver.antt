-- The reply to a good frame, by what was found of it.
use Rattle.std.specs.Prelude.{ℕ}
use Rattle.lis_text.specs.Control.{ACK, NAK}
use Rattle.lis_link.specs.declared.receiver.Note.{Note}
use Rattle.lis_link.specs.declared.receiver.Note.TheVariants.{Accepted, Duplicate}

-- the reply to what was found
abbrev pub found_reply : Note → ℕ
found_reply (Accepted number) = ACK
found_reply (Duplicate number) = ACK
found_reply note = NAK
