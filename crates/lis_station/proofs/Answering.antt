-- What a station answers after a step of its receiver.
use Rattle.std.proofs.Common.{◌≡◌, ◌<◌, ℕ, true, List, [], ◌∷◌, length, take, None, refl, ap, arith, sym, ◌∙◌, subst}
use Rattle.std.specs.Prelude.{slice_index_or}
use Rattle.lis_link.specs.Kept.{Kept}
use Rattle.lis_link.specs.Receiver.{ReceiverState, ReceiverStep}
use Rattle.lis_link.specs.Representation.{IsStepMade, RefusesFrame}
use Rattle.lis_link.specs.declared.receiver.Note.{Note}
use Rattle.lis_link.specs.declared.receiver.Note.TheVariants.{OutOfMemory}
use Rattle.lis_link.specs.declared.receiver.Step.{Step}
use Rattle.lis_station.specs.declared.station.AnswerOf.TheVariants.{Hears}
use Rattle.lis_station.specs.Station.{StationState, turn_reply, turn_after_note, asks_after, heard, replied}
use Rattle.lis_station.specs.Station.{routed_bytes, taken_by}
use Rattle.lis_station.specs.Representation.{KeptStation, station_at, IsAnswer}

-- what comes while a reply is awaited takes no frame
pub front_takes_none : (limit : ℕ) (bytes : List ℕ) (s : StationState)
    → taken_by (routed_bytes limit true bytes s).step.answer ≡ None
front_takes_none limit [] s = refl
front_takes_none limit (b ∷ bytes) s = refl

-- the first of some bytes is the reply
pub front_replies :
    (limit : ℕ) (bytes : List ℕ) (s : StationState)
    → (length bytes ≡ 0 → ⊥)
    → routed_bytes limit true bytes s ≡ record { count = 1; step = replied (slice_index_or bytes 0 0) s }
front_replies limit [] s some = absurd (some refl)
front_replies limit (b ∷ bytes) s some = refl

pub front_first :
    (limit : ℕ) (bytes : List ℕ) (s : StationState) → 0 < length bytes
    → routed_bytes limit true (take 1 bytes) s ≡ record { count = 1; step = replied (slice_index_or bytes 0 0) s }
front_first limit [] s some = absurd (omega (some, arith))
front_first limit (b ∷ bytes) s some = refl

-- the program's step with regard to the turn, and what the station keeps after it
abbrev pub turned_step : KeptStation → Step → Step
turned_step old raw = record raw { reply = turn_reply raw.note old.asks_turn raw.reply }

abbrev pub kept_after : KeptStation → Note → Kept → KeptStation
kept_after old note new = record old {
  receiver = new;
  turn = turn_after_note note old.turn;
  asks_turn = asks_after note old.asks_turn;
}

module _ (limit : ℕ) (old after : KeptStation) (new : Kept) (step : ReceiverStep) (r : ReceiverState)
    (raw result : Step) (result_is : result ≡ turned_step old raw)
    (after_is : after ≡ kept_after old raw.note new) where
  -- the step was made
  pub heard_made : IsStepMade limit step raw new
      → IsAnswer limit old (heard step (station_at old r)) (Hears result) after
  heard_made made =
      let note = made.answer.note_is in
      subst (λ k. IsAnswer limit old (heard step (station_at old r)) (Hears result) k) (sym after_is)
      (subst (λ x. IsAnswer limit old (heard step (station_at old r)) (Hears x) (kept_after old raw.note new))
      (sym result_is)
      (record {
        answers = record {
          answer = record {
            reply_is = ap (λ n. turn_reply n old.asks_turn raw.reply) note
                ∙ ap (turn_reply step.note old.asks_turn) made.answer.reply_is;
            message_is = made.answer.message_is;
            note_is = note;
          };
          state = made.state;
        };
        station_is = ap (λ n. station_at (kept_after old n new) step.after) note;
      }))

  -- memory ran out
  pub heard_refused :
      raw.note ≡ OutOfMemory
      → RefusesFrame limit old.receiver.spare step r raw new
      → RefusesFrame limit old.receiver.spare step r result after.receiver
      × (after ≡ record old { receiver = after.receiver })
  heard_refused out refused =
      let same : result ≡ raw =
      result_is ∙ ap (λ n. record raw { reply = turn_reply n old.asks_turn raw.reply }) out in
      let kept : after ≡ record old { receiver = new } = after_is ∙ ap (λ n. kept_after old n new) out in
      subst (λ k. RefusesFrame limit old.receiver.spare step r result k.receiver
      × (k ≡ record old { receiver = k.receiver }))
      (sym kept)
      (subst (λ x. RefusesFrame limit old.receiver.spare step r x new) (sym same) refused, refl)
