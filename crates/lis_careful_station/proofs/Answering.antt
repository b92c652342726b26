-- What a station answers that hears carefully.
use Rattle.std.proofs.Common.{◌≡◌, ◌≢◌, ◌≤◌, ◌+◌, ℕ, ◌⊎◌, inl, inr, Bool, true, false, List, [], ◌∷◌, Option, None}
use Rattle.std.proofs.Common.{Some}
use Rattle.std.proofs.Common.{length, take, drop, refl, ap, sym, ◌∙◌, subst, arith}
use Rattle.std.specs.Prelude.{◌==◌, ◌&&◌, ◌||◌}
use Rattle.lis_text.specs.Control.{EOT, ENQ}
use Rattle.lis_frame.specs.Stream.{open_body}
use Rattle.lis_link.specs.Kept.{Kept}
use Rattle.lis_link.specs.declared.receiver.Note.{Note}
use Rattle.lis_link.specs.declared.receiver.Note.TheVariants.{Quiet, OutOfMemory}
use Rattle.lis_link.specs.declared.receiver.Step.{Step}
use Rattle.lis_link.specs.Receiver.{ReceiverState, ReceiverStep, on_byte}
use Rattle.lis_link.specs.Representation.{IsIn, IsStepMade, RefusesFrame, SpareAfter, KeepsRoom, room_of}
use Rattle.lis_careful.specs.Careful.{ends_session, session_ended, heard_as, careful_by, on_byte_carefully, heard_only}
use Rattle.lis_careful.specs.Careful.{on_bytes_by, on_bytes_carefully, noise_by}
use Rattle.lis_careful.specs.declared.receiver.CarefulHearing.{CarefulHearing}
use Rattle.lis_careful.proofs.Receiving.{IsHearing, ended_refused, eot_ends, forgets, open_then, not_ended}
use Rattle.lis_careful.proofs.Receiving.{hears_more, hears_last, hears_all, quiet_answer, on_byte-heard_only}
use Rattle.lis_station.specs.declared.station.AnswerOf.{AnswerOf}
use Rattle.lis_station.specs.declared.station.AnswerOf.TheVariants.{Emits, Hears}
use Rattle.lis_station.specs.Representation.{KeptStation, station_at, IsAnswer, IsOutOfMemory, IsRefused}
use Rattle.lis_station.specs.Representation.{KeepsStationRoom}
use Rattle.lis_station.specs.Station.{StationState, StationStep, asking, awaits_reply, heard, taken_by, turn_reply}
use Rattle.lis_station.specs.Station.{turn_after_note, asks_after}
use Rattle.lis_station.proofs.Answering.{heard_made, heard_refused}
use Rattle.lis_careful_station.specs.Station.{noise_at, noise_routed, on_station_bytes_carefully}
use Rattle.lis_careful_station.specs.Station.{routed_bytes_carefully}
use Rattle.lis_careful_station.specs.inside.Front.{heard_step, IsTurned, HearsFrontOf, IsHeardOf}

-- ---- one byte

-- the end of a session, heard as EOT
pub ended_answer : (limit b : ℕ) (old : KeptStation) (r : ReceiverState) (answer : AnswerOf limit) (new : KeptStation)
    → ends_session r b ≡ true
    → IsAnswer limit old (heard (on_byte limit EOT r) (station_at old r)) answer new
    → IsAnswer limit old (heard (on_byte_carefully limit b r) (station_at old r)) answer new
ended_answer limit b old r (Emits emit) new ends is = absurd is.answers
ended_answer limit b old r (Hears step) new ends is =
    let is_open = open_then r.is_open (b == ENQ || b == EOT) ends in
    let eot : IsAnswer limit old (heard (record (session_ended r) {
      after = record r { is_open = false; past = EOT ∷ r.past };
    }) (station_at old r)) (Hears step) new =
    subst (λ (s : ReceiverStep). IsAnswer limit old (heard s (station_at old r)) (Hears step) new)
    (eot_ends limit r is_open) is in
    let here : IsAnswer limit old (heard (session_ended r) (station_at old r)) (Hears step) new = record {
      answers = record {
        answer = record {
          reply_is = eot.answers.answer.reply_is;
          message_is = eot.answers.answer.message_is;
          note_is = eot.answers.answer.note_is;
        };
        state = forgets limit new.receiver (record r { is_open = false }) eot.answers.state;
      };
      station_is = ap (λ (s : StationState). record s { receiver = record r { is_open = false; past = [] } })
          eot.station_is;
    } in
    subst (λ t. IsAnswer limit old (heard (careful_by t limit b r) (station_at old r)) (Hears step) new) (sym ends)
    here

pub ended_memory : (limit b : ℕ) (old : KeptStation) (r other : ReceiverState) (answer : AnswerOf limit)
    (new : KeptStation) (A : Type 0) → ends_session r b ≡ true
    → IsRefused limit old (on_byte limit EOT r) other answer new → A
ended_memory limit b old r other (Emits emit) new A ends refused = absurd refused
ended_memory limit b old r other (Hears step) new A ends refused =
    ended_refused limit b old.receiver.spare r other step new.receiver A ends refused.0

-- any other byte, heard as this one
pub other_refused : (limit b c : ℕ) (old : KeptStation) (r : ReceiverState) (answer : AnswerOf limit)
    (new : KeptStation) → ends_session r b ≡ false → c ≡ heard_as (open_body r.past) b
    → IsRefused limit old (on_byte limit c r) (record r { past = c ∷ r.past }) answer new
    → IsRefused limit old (on_byte_carefully limit b r) (heard_only (on_byte_carefully limit b r) r) answer new
other_refused limit b c old r answer new goes is refused =
    let same : on_byte limit c r ≡ on_byte_carefully limit b r =
    ap (λ d. on_byte limit d r) is ∙ not_ended limit b r goes in
    subst (λ step. IsRefused limit old step (heard_only step r) answer new) same
    (subst (λ s. IsRefused limit old (on_byte limit c r) s answer new) (on_byte-heard_only limit c r) refused)

-- ---- the receiver's own step

oom_or : (note : Note) → (note ≡ OutOfMemory) ⊎ (note ≢ OutOfMemory)
oom_or OutOfMemory = inl refl
oom_or note = inr (λ e. cc)

-- what is kept with this of the receiver
abbrev kept_as : StationState → Kept → KeptStation
kept_as s kept =
    record { role = s.role; sender = s.sender; receiver = kept; turn = s.turn; asks_turn = s.asks_turn }

abbrev kept_after : KeptStation → Note → Kept → KeptStation
kept_after old note new = record old {
  receiver = new;
  turn = turn_after_note note old.turn;
  asks_turn = asks_after note old.asks_turn;
}

pub record Raw (limit : ℕ) (step : ReceiverStep) (other : ReceiverState) (old : KeptStation) (result : Step)
    (new : KeptStation) : Type 0 where
  pub raw : Step
  pub turned : IsTurned old raw result new
  pub makes : raw.note ≢ OutOfMemory → IsStepMade limit step raw new.receiver
  pub refused : raw.note ≡ OutOfMemory → RefusesFrame limit old.receiver.spare step other raw new.receiver

raw_step : (limit : ℕ) (step : ReceiverStep) (r other : ReceiverState) (old : KeptStation) (result : Step)
    (new : KeptStation) → (result.note ≡ OutOfMemory) ⊎ (result.note ≢ OutOfMemory)
    → ((result.note ≡ OutOfMemory → ⊥) → IsAnswer limit old (heard step (station_at old r)) (Hears result) new)
    → (result.note ≡ OutOfMemory → IsRefused limit old step other (Hears result) new)
    → Raw limit step other old result new
raw_step limit step r other old result new (inl out) makes refuses =
    let was = refuses out in
    record {
      raw = result;
      turned = record {
        result_is = ap (λ n. record result { reply = turn_reply n old.asks_turn result.reply }) (sym out);
        after_is = was.1 ∙ ap (λ n. kept_after old n new.receiver) (sym out);
      };
      makes = λ fine. absurd (fine out);
      refused = λ again. was.0;
    }
raw_step limit step r other old result new (inr fine) makes refuses =
    let made = makes fine in
    let note : result.note ≡ step.note = made.answers.answer.note_is in
    record {
      raw = record result { reply = step.reply };
      turned = record {
        result_is = ap (λ (reply : Option ℕ). record result { reply = reply }) (made.answers.answer.reply_is
            ∙ ap (λ n. turn_reply n old.asks_turn step.reply) (sym note));
        after_is = ap (λ (s : StationState). kept_as s new.receiver) made.station_is
            ∙ ap (λ n. kept_after old n new.receiver) (sym note);
      };
      makes = λ again. record {
        answer = record { reply_is = refl; message_is = made.answers.answer.message_is; note_is = note };
        state = made.answers.state;
      };
      refused = λ out. absurd (fine out);
    }

pub raw_of : (limit : ℕ) (step : ReceiverStep) (r other : ReceiverState) (old : KeptStation) (answer : AnswerOf limit)
    (new : KeptStation)
    → ((IsOutOfMemory answer → ⊥) → IsAnswer limit old (heard step (station_at old r)) answer new)
    → (IsOutOfMemory answer → IsRefused limit old step other answer new)
    → Raw limit step other old (heard_step answer) new
raw_of limit step r other old (Emits emit) new makes refuses = absurd (makes (λ out. out)).answers
raw_of limit step r other old (Hears result) new makes refuses =
    raw_step limit step r other old result new (oom_or result.note) makes refuses

-- the room after an answer is that after its step
pub step_room : (limit : ℕ) (answer : AnswerOf limit) (old new : Kept) → KeepsStationRoom answer old new
    → KeepsRoom (heard_step answer).note (heard_step answer).message (room_of old) (room_of new)
step_room limit (Emits emit) old new same = ap room_of same
step_room limit (Hears step) old new room = room

-- ---- bytes

-- so many bytes were heard, and each was quiet
pub record IsHearingOf (limit : ℕ) (hear : ℕ → ReceiverState → ReceiverStep) (bytes : List ℕ) (r : ReceiverState)
    (old : KeptStation) (count noise : ℕ) (now : KeptStation) : Type 0 where
  pub same : now ≡ record old { receiver = now.receiver }
  pub hearing : IsHearing limit hear bytes r old.receiver.spare count noise now.receiver

note_is : (old : KeptStation) (raw result : Step) (new : KeptStation) → IsTurned old raw result new
    → result.note ≡ raw.note
note_is old raw result new turned = ap (λ (s : Step). s.note) turned.result_is

module _ (limit : ℕ) (hear : ℕ → ReceiverState → ReceiverStep) (bytes : List ℕ) (r : ReceiverState)
    (old : KeptStation) (count noise : ℕ) (now : KeptStation) (more : CarefulHearing) (new : KeptStation)
    (heard : IsHearingOf limit hear bytes r old count noise now)
    (front : HearsFrontOf limit hear (drop count bytes) heard.hearing.at now more new) where
  pub more_of : more.step.note ≡ Quiet
      → IsHearingOf limit hear bytes r old (count + more.count) (noise + more.noise) new
  more_of quiet =
      let raw_quiet : front.raw.note ≡ Quiet =
      sym (note_is now front.raw more.step new front.turned) ∙ quiet in
      record {
        same = front.turned.after_is ∙ ap (λ n. kept_after now n new.receiver) raw_quiet
            ∙ ap (λ (k : KeptStation). record k { receiver = new.receiver }) heard.same;
        hearing = hears_more limit hear bytes r old.receiver.spare count noise now.receiver
            (record more { step = front.raw }) new.receiver heard.hearing front.front raw_quiet;
      }

  pub last_of : more.step.note ≢ Quiet
      → IsHeardOf limit hear bytes r old
      (record { count = count + more.count; noise = noise + more.noise; step = more.step }) new
  last_of loud =
      let raw_loud : front.raw.note ≢ Quiet =
      λ quiet. loud (note_is now front.raw more.step new front.turned ∙ quiet) in
      let all = hears_last limit hear bytes r old.receiver.spare count noise now.receiver
      (record more { step = front.raw }) new.receiver heard.hearing front.front raw_loud in
      let turned = subst (λ (k : KeptStation). IsTurned k front.raw more.step new) heard.same front.turned in
      record {
        raw = front.raw;
        turned = record { result_is = turned.result_is; after_is = turned.after_is };
        count_is = all.count_is;
        noise_is = all.noise_is;
        makes = all.makes;
        refused = all.refused;
        spare_after = all.spare_after;
      }

pub all_of : (limit : ℕ) (hear : ℕ → ReceiverState → ReceiverStep) (bytes : List ℕ) (r : ReceiverState)
    (old : KeptStation) (count noise : ℕ) (now : KeptStation)
    (heard : IsHearingOf limit hear bytes r old count noise now) → length bytes ≤ count → count ≤ length bytes
    → IsHeardOf limit hear bytes r old (record { count = count; noise = noise; step = quiet_answer }) now
all_of limit hear bytes r old count noise now heard long short =
    let all = hears_all limit hear bytes r old.receiver.spare count noise now.receiver heard.hearing long short in
    record {
      raw = quiet_answer;
      turned = record { result_is = refl; after_is = heard.same };
      count_is = all.count_is;
      noise_is = all.noise_is;
      makes = all.makes;
      refused = all.refused;
      spare_after = all.spare_after;
    }

-- what the station answers that has heard them
module _ (limit : ℕ) (bytes : List ℕ) (r : ReceiverState) (old : KeptStation) (result : CarefulHearing)
    (new : KeptStation) (rests : awaits_reply old.sender.phase ≡ false)
    (heard : IsHeardOf limit (on_byte_carefully limit) bytes r old result new) where
  pub counts : result.count ≡ (on_station_bytes_carefully limit bytes (station_at old r)).count
  counts =
      subst (λ a. result.count ≡ (routed_bytes_carefully limit a bytes (station_at old r)).count) (sym rests)
      heard.count_is

  pub noises : result.noise ≡ noise_at limit bytes (station_at old r)
  noises = subst (λ a. result.noise ≡ noise_routed limit a bytes (station_at old r)) (sym rests) heard.noise_is

  pub makes_answer : result.step.note ≢ OutOfMemory
      → IsAnswer limit old (on_station_bytes_carefully limit bytes (station_at old r)).step (Hears result.step) new
  makes_answer fine =
      let note = note_is old heard.raw result.step new heard.turned in
      subst (λ a. IsAnswer limit old (routed_bytes_carefully limit a bytes (station_at old r)).step
      (Hears result.step) new) (sym rests)
      (heard_made limit old new new.receiver (on_bytes_carefully limit bytes r).step r heard.raw result.step
      heard.turned.result_is heard.turned.after_is (heard.makes (λ out. fine (note ∙ out))))

  pub refuses : result.step.note ≡ OutOfMemory
      → IsRefused limit old (on_bytes_carefully limit bytes r).step
      (heard_only (on_bytes_carefully limit bytes r).step r) (Hears result.step) new
  refuses out =
      let raw_out : heard.raw.note ≡ OutOfMemory =
      sym (note_is old heard.raw result.step new heard.turned) ∙ out in
      heard_refused limit old new new.receiver _ _ heard.raw result.step heard.turned.result_is
      heard.turned.after_is raw_out (heard.refused raw_out)

  pub spare_is : SpareAfter old.receiver.spare new.receiver.spare
      (taken_by (on_station_bytes_carefully limit bytes (station_at old r)).step.answer)
  spare_is =
      subst (λ a. SpareAfter old.receiver.spare new.receiver.spare
      (taken_by (routed_bytes_carefully limit a bytes (station_at old r)).step.answer)) (sym rests)
      heard.spare_after
