-- What careful hearing costs, and what one changed bit makes of a reply (LIS01-A2, 6.3 to 6.6).
use Rattle.std.specs.Prelude.{◌≡◌, ◌≢◌, ℕ, ◌+◌, ◌-◌, ◌/◌, ◌%◌, ◌^◌, ◌<◌, true, [], ◌∷◌, Some, if◌then◌else◌, ◌==◌}
use Rattle.lis_text.specs.Control.{EOT, ENQ, ACK, NAK}
use Rattle.lis_text.specs.declared.readiness.Readiness.TheVariants.{Ready}
use Rattle.lis_link.specs.declared.receiver.Note.TheVariants.{Opened}
use Rattle.lis_link.specs.Receiver.{ReceiverState, answers}
use Rattle.lis_link.specs.Sender.{SenderState, on_reply}
use Rattle.lis_careful.specs.Careful.{session_ended, on_byte_carefully}

-- who begins a session on an open line gets no reply to his ENQ, and ACK to the next one, with which a session begins
-- as on a line that isn't open
pub record CostsOneEnquiry (limit : ℕ) : Type 0 where
  pub silent : (r : ReceiverState) → r.is_open ≡ true → on_byte_carefully limit ENQ r ≡ session_ended r
  pub answered : (r : ReceiverState) → r.readiness ≡ Ready
      → on_byte_carefully limit ENQ (session_ended r).after
      ≡ answers (Some ACK) Opened (record r { is_open = true; accepted = []; past = ENQ ∷ [] })

-- a byte of which one bit is changed
abbrev pub flipped : ℕ → ℕ → ℕ
flipped i b = if b / 2 ^ i % 2 == 1 then b - 2 ^ i else b + 2 ^ i

-- one changed bit makes neither ACK nor EOT out of NAK, and no other reply acknowledges anything
pub record NakStaysNak : Type 0 where
  pub bit : (i : ℕ) → i < 8 → (flipped i NAK ≢ ACK) × (flipped i NAK ≢ EOT)
  pub reply : (limit b : ℕ) (s : SenderState) → b ≢ ACK → b ≢ EOT
      → (on_reply {limit = limit} b s).after.acknowledged ≡ s.acknowledged
