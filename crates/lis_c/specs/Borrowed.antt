-- The texts of a session that stay with the caller: a C array of them.
use Rattle.std.specs.Prelude.{ℕ, List, Option, length, map, if◌then◌else◌, nat_lt}
use Rattle.lis_c.specs.Status.{FULL, start_status}
use Rattle.lis_c.specs.declared.borrowed.LisText.{LisText}
use Rattle.lis_c.specs.declared.borrowed.OwnOrCallerTexts.{OwnOrCallerTexts}
use Rattle.lis_c.specs.declared.borrowed.OwnOrCallerTexts.TheVariants.{Copied, Borrowed}
use Rattle.lis_link.specs.declared.sender.StartFault.{StartFault}
use Rattle.lis_text.specs.LinkText.{most_texts}

-- the texts that an array names
abbrev pub borrowed_bytes : List LisText → List (List ℕ)
borrowed_bytes texts = map (λ text. text.bytes.now) texts

-- a session can be started with the texts of an array, or why it can't: that there are too many is reported first
abbrev pub borrowed_status : List LisText → Option StartFault → ℕ
borrowed_status texts fault = if nat_lt most_texts (length texts) then FULL else start_status fault

-- the texts of a session, whoever holds them
abbrev pub session_texts : OwnOrCallerTexts → List (List ℕ)
session_texts (Copied texts) = texts
session_texts (Borrowed texts) = texts
