-- What an ENQ on an open line costs, and why no bit of NAK makes an acknowledgement of it.
use Rattle.std.proofs.Common.{◌≡◌, ◌≢◌, ℕ, zero, suc, ◌+◌, ◌<◌, Bool, true, false, List, [], ◌∷◌, Some, refl, ap}
use Rattle.std.proofs.Common.{arith}
use Rattle.std.specs.Prelude.{nat_lt, ◌==◌, ◌&&◌, ◌||◌, if◌then◌else◌}
use Rattle.std.proofs.lemmas.Bool.Decides.{nat_tests}
use Rattle.lis_text.specs.Control.{EOT, ENQ, ACK, NAK}
use Rattle.lis_text.specs.declared.readiness.Readiness.TheVariants.{Ready}
use Rattle.lis_frame.specs.Frame.{FrameContent}
use Rattle.lis_frame.specs.Stream.{open_body, signal_after}
use Rattle.lis_link.specs.declared.receiver.Note.TheVariants.{Opened}
use Rattle.lis_link.specs.declared.sender.EmitOf.TheVariants.{Nothing, Nak, Frame}
use Rattle.lis_link.specs.declared.sender.Outcome.TheVariants.{SixTries}
use Rattle.lis_link.specs.declared.sender.Phase.{Phase}
use Rattle.lis_link.specs.declared.sender.Phase.TheVariants.{Neutral, AwaitLine, Busy, Contention, AwaitReply}
use Rattle.lis_link.specs.Receiver.{ReceiverState, answers, answered_request}
use Rattle.lis_link.specs.Sender.{SenderState, gives, ends, most_tries, reply_in, sends_again}
use Rattle.lis_link.specs.Sender.{sends_first}
use Rattle.lis_careful.specs.Careful.{careful_by, on_byte_carefully, session_ended}
use Rattle.lis_careful.specs.Cost.{CostsOneEnquiry, NakStaysNak, flipped}

answered_at : (limit : ℕ) (r : ReceiverState) → r.readiness ≡ Ready
    → on_byte_carefully limit ENQ (session_ended r).after
    ≡ answers (Some ACK) Opened (record r { is_open = true; accepted = []; past = ENQ ∷ [] })
unfolding signal_after open_body
answered_at limit r ready =
    ap (λ readiness. answered_request readiness (record r { is_open = false; past = ENQ ∷ [] })) ready

pub costs_one : (limit : ℕ) → CostsOneEnquiry limit
costs_one limit = record {
  silent = λ r is_open. ap (λ t. careful_by (t && true) limit ENQ r) is_open;
  answered = answered_at limit;
}

-- ---- a reply

nak_bit : (i : ℕ) → i < 8 → (flipped i NAK ≢ ACK) × (flipped i NAK ≢ EOT)
nak_bit zero h = (λ e. cc, λ e. cc)
nak_bit (suc zero) h = (λ e. cc, λ e. cc)
nak_bit (suc (suc zero)) h = (λ e. cc, λ e. cc)
nak_bit (suc (suc (suc zero))) h = (λ e. cc, λ e. cc)
nak_bit (suc (suc (suc (suc zero)))) h = (λ e. cc, λ e. cc)
nak_bit (suc (suc (suc (suc (suc zero))))) h = (λ e. cc, λ e. cc)
nak_bit (suc (suc (suc (suc (suc (suc zero)))))) h = (λ e. cc, λ e. cc)
nak_bit (suc (suc (suc (suc (suc (suc (suc zero))))))) h = (λ e. cc, λ e. cc)
nak_bit (suc (suc (suc (suc (suc (suc (suc (suc i)))))))) h = absurd (omega (h, arith))

module _ (limit b : ℕ) (s : SenderState) where
  first_same : (frames : List FrameContent) → (sends_first {limit = limit} frames s).after.acknowledged ≡ s.acknowledged
  first_same [] = refl
  first_same (frame ∷ frames) = refl

  again_same : (frames : List FrameContent) → (sends_again {limit = limit} frames s).after.acknowledged ≡ s.acknowledged
  again_same [] = refl
  again_same (frame ∷ frames) = by (nat_lt s.tries most_tries)
    where
      by : (more : Bool) → (if more then gives {limit = limit} (Frame frame) (record s { tries = s.tries + 1 })
          else ends SixTries s).after.acknowledged ≡ s.acknowledged
      by true = refl
      by false = refl

  neither_is : b ≢ ACK → b ≢ EOT → (b == ACK || b == EOT) ≡ false
  neither_is not_ack not_eot = by (b == ACK) (b == EOT) refl refl
    where
      by : (ack eot : Bool) → (b == ACK) ≡ ack → (b == EOT) ≡ eot → (ack || eot) ≡ false
      by true eot e f = absurd (not_ack (grind (arith, e, nat_tests)))
      by false true e f = absurd (not_eot (grind (arith, f, nat_tests)))
      by false false e f = refl

  in_phase : (phase : Phase) → b ≢ ACK → b ≢ EOT
      → (reply_in {limit = limit} phase b s).after.acknowledged ≡ s.acknowledged
  in_phase Neutral not_ack not_eot = by (b == ENQ)
    where
      by : (test : Bool) → (if test then gives {limit = limit} Nak s else gives Nothing s).after.acknowledged
          ≡ s.acknowledged
      by true = refl
      by false = refl
  in_phase AwaitLine not_ack not_eot = by (b == ACK) (b == ENQ)
    where
      by : (ack enq : Bool) → (if ack then sends_first {limit = limit} s.frames s
          else if enq then gives Nothing (record s { phase = Contention })
          else gives Nothing (record s { phase = Busy })).after.acknowledged ≡ s.acknowledged
      by true enq = first_same s.frames
      by false true = refl
      by false false = refl
  in_phase AwaitReply not_ack not_eot =
      rw (neither_is not_ack not_eot) (again_same _)
  in_phase Busy not_ack not_eot = refl
  in_phase Contention not_ack not_eot = refl

pub nak_stays : NakStaysNak
nak_stays = record {
  bit = nak_bit;
  reply = λ limit b s not_ack not_eot. in_phase limit b s s.phase not_ack not_eot;
}
