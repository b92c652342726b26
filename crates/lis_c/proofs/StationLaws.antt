-- A station's answer, put into the caller's structs.
use Rattle.std.proofs.Common.{◌≡◌, ◌≤◌, ℕ, List, [], ◌∷◌, Option, None, Some, refl, ap, sym, ◌∙◌, subst, arith}
use Rattle.std.specs.Option.{option_to_list}
use Rattle.lis_text.specs.Control.{NAK}
use Rattle.lis_link.specs.Kept.{Kept}
use Rattle.lis_link.specs.declared.receiver.Step.{Step}
use Rattle.lis_link.specs.Duties.{emitted_bytes}
use Rattle.lis_link.specs.Receiver.{ReceiverState, ReceiverStep}
use Rattle.lis_link.specs.Representation.{IsIn, IsStepMade, RefusesFrame}
use Rattle.lis_station.specs.declared.station.AnswerOf.{AnswerOf}
use Rattle.lis_station.specs.declared.station.AnswerOf.TheVariants.{Emits, Hears}
use Rattle.lis_station.specs.Representation.{AnswersAs, IsAnswer, IsOutOfMemory, IsRefused, KeptStation, station_at}
use Rattle.lis_station.specs.Station.{StationAnswer, StationState, StationStep, sends, hears}
use Rattle.lis_c.proofs.StepLaws as steps
use Rattle.lis_c.specs.Codes.{note_code, note_detail, note_place, reply_code}
use Rattle.lis_c.specs.Emitted.{HoldsBytes, HoldsEmitted}
use Rattle.lis_c.specs.Stations.{AnswerReported, IsNow, MakesAnswer, RejectsForMemory, StepReported, state_of}
use Rattle.lis_c.specs.Stations.{station_kept, station_limit, station_spare}
use Rattle.lis_c.specs.Stations as of_station
use Rattle.lis_c.specs.Steps.{HoldsText, IsNotOutOfMemory}
use Rattle.lis_c.specs.Steps as of_receiver
use Rattle.lis_c.specs.inside.Stations.{Answers, IsMemoryOut, PutsAnswer, PutsStep, RejectsFrame, ReportsAnswer}
use Rattle.lis_c.specs.declared.out.LisAnswer.{LisAnswer}
use Rattle.lis_c.specs.declared.out.LisBytes.{LisBytes}
use Rattle.lis_c.specs.declared.station_state.StationHandleState.{StationHandleState}
use Rattle.lis_c.specs.declared.stationing.AnyStation.{AnyStation}

-- what was put is that of the answer
puts_step : (limit : ℕ) (step : StationAnswer limit) (answer : AnswerOf limit) (result : Option Step) (out : LisBytes)
    (old new : Kept) → AnswersAs limit step answer old new → PutsAnswer answer result out
    → PutsStep limit step result out old new
puts_step limit (sends step) (Emits emit) None out old new (is, same) put =
    (subst (λ e. HoldsEmitted limit out (emitted_bytes e)) is put, same)
puts_step limit (sends step) (Emits emit) (Some result) out old new is put = absurd put
puts_step limit (sends step) (Hears answer) result out old new is put = absurd is
puts_step limit (hears step) (Emits emit) result out old new is put = absurd is
puts_step limit (hears step) (Hears answer) None out old new is put = absurd put
puts_step limit (hears step) (Hears answer) (Some result) out old new is (same, put) = (
  subst (λ (s : Step). HoldsBytes out (option_to_list s.reply)) (sym same) put,
  subst (λ s. IsStepMade limit step s new) (sym same) is,
)

-- memory ran out in the answer exactly if it did in what is given on
not_out : (limit : ℕ) (answer : AnswerOf limit) (result : Option Step) (out : LisBytes) → PutsAnswer answer result out
    → (IsMemoryOut result → ⊥) → IsOutOfMemory answer → ⊥
not_out limit (Emits emit) result out put not is = is
not_out limit (Hears answer) None out put not is = put
not_out limit (Hears answer) (Some result) out (same, put) not is = not (ap (λ (s : Step). s.note) same ∙ is)

is_out : (limit : ℕ) (answer : AnswerOf limit) (result : Option Step) (out : LisBytes) → PutsAnswer answer result out
    → IsMemoryOut result → IsOutOfMemory answer
is_out limit (Emits emit) None out put is = is
is_out limit (Emits emit) (Some result) out put is = put
is_out limit (Hears answer) None out put is = absurd put
is_out limit (Hears answer) (Some result) out (same, put) is = sym (ap (λ (s : Step). s.note) same) ∙ is

pub made : (limit : ℕ) (step : StationStep limit) (answer : AnswerOf limit) (result : Option Step) (out : LisBytes)
    (old new : KeptStation) → IsAnswer limit old step answer new → PutsAnswer answer result out
    → Answers step result out old new
made limit step answer result out old new is put = record {
  puts = puts_step limit step.answer answer result out old.receiver new.receiver is.answers put;
  station_is = is.station_is;
}

pub answers : (limit : ℕ) (step : StationStep limit) (answer : AnswerOf limit) (result : Option Step) (out : LisBytes)
    (old new : KeptStation) → ((IsOutOfMemory answer → ⊥) → IsAnswer limit old step answer new)
    → PutsAnswer answer result out → (IsMemoryOut result → ⊥) → Answers step result out old new
answers limit step answer result out old new makes put not =
    made limit step answer result out old new (makes (not_out limit answer result out put not)) put

-- a frame that is rejected
rejected : (limit : ℕ) (step : ReceiverStep) (r : ReceiverState) (answer : AnswerOf limit) (result : Option Step)
    (out : LisBytes) (old new : KeptStation) → IsRefused limit old step r answer new → PutsAnswer answer result out
    → RejectsFrame limit step r result out old new
rejected limit step r (Emits emit) result out old new is put = absurd is
rejected limit step r (Hears answer) None out old new is put = put
rejected limit step r (Hears answer) (Some result) out old new (refuses, same_but) (same, put) = (
  subst (λ s. RefusesFrame limit old.receiver.spare step r s new.receiver) (sym same) refuses,
  subst (λ (s : Step). HoldsBytes out (option_to_list s.reply)) (sym same) put,
  same_but,
)

pub rejects : (limit : ℕ) (step : ReceiverStep) (r : ReceiverState) (answer : AnswerOf limit) (result : Option Step)
    (out : LisBytes) (old new : KeptStation) → (IsOutOfMemory answer → IsRefused limit old step r answer new)
    → PutsAnswer answer result out → IsMemoryOut result → RejectsFrame limit step r result out old new
rejects limit step r answer result out old new refuses put is =
    rejected limit step r answer result out old new (refuses (is_out limit answer result out put is)) put

-- ---- an answer is reported

memory : (result : Option Step) (before text : List ℕ) (out : LisAnswer) → ReportsAnswer result before out text
    → of_receiver.IsOutOfMemory out.step → IsMemoryOut result
memory None before text out reported same = absurd (omega (reported.1.note_is, same, arith))
memory (Some step) before text out reported same = steps.is_out step before text out.step reported.1 same

-- what is kept with this of the receiver
abbrev kept_as : StationState → Kept → KeptStation
kept_as s kept =
    record { role = s.role; sender = s.sender; receiver = kept; turn = s.turn; asks_turn = s.asks_turn }

module _ (old new : StationHandleState) (after : AnyStation) (sent : LisBytes) (out : LisAnswer) where
  -- how the report left the station that made the step
  pub record Reported (result : Option Step) : Type 0 where
    pub reports : ReportsAnswer result old.text out new.text
    pub sends_is : out.send ≡ sent
    pub state : (r : ReceiverState) → of_station.Hears after r → IsNow new.station (state_of after r)
    pub limit_is : station_limit after ≡ station_limit old.station
    pub room_stays : station_spare after ≤ station_spare new.station

  -- the state that the receiver is in after a step, as the report leaves it
  now : (result : Option Step) (r : ReceiverState) → Reported result
      → IsIn (station_limit old.station) (station_kept after).receiver r → IsNow new.station (state_of after r)
  now result r it is =
      it.state r (subst (λ (n : ℕ). IsIn n (station_kept after).receiver r) (sym it.limit_is) is)

  -- the step was made
  reported_of : (answer : StationAnswer (station_limit old.station)) (result : Option Step)
      → PutsStep (station_limit old.station) answer result sent (station_kept old.station).receiver
      (station_kept after).receiver
      → Reported result → (result ≡ None → new.station ≡ after) → station_limit new.station ≡ station_limit after
      → AnswerReported (station_limit old.station) answer old out new
  reported_of (sends step) None (puts, same) it stays limit = (
    it.reports.0,
    subst (λ (b : LisBytes). HoldsEmitted (station_limit old.station) b (emitted_bytes step.emit)) (sym it.sends_is)
        puts,
    it.reports.1,
    it.reports.2,
    ap (λ (s : AnyStation). (station_kept s).receiver) (stays refl) ∙ same,
  )
  reported_of (sends step) (Some result) puts it stays limit = absurd puts
  reported_of (hears step) None puts it stays limit = absurd puts
  reported_of (hears step) (Some result) (puts, was) it stays limit =
      let reports = it.reports.1 in (
        it.reports.0,
        subst (λ (b : LisBytes). HoldsBytes b (option_to_list step.reply)) (sym it.sends_is)
            (subst (λ (reply : Option ℕ). HoldsBytes sent (option_to_list reply)) was.answer.reply_is puts),
        record {
          reply_is = reports.reply_is ∙ ap reply_code was.answer.reply_is;
          note_is = reports.note_is ∙ ap note_code was.answer.note_is;
          detail_is = reports.detail_is ∙ ap note_detail was.answer.note_is;
          place_is = reports.place_is ∙ ap note_place was.answer.note_is;
          text_is = subst (λ message. HoldsText message out.step.has_text old.text new.text) was.answer.message_is
              reports.text_is;
        },
        subst (λ (n : ℕ). IsIn n (station_kept new.station).receiver step.after) (limit ∙ it.limit_is)
            (now (Some result) step.after it was.state).receiver_is,
      )

  station_of : (answer : StationAnswer (station_limit old.station)) (result : Option Step) (r : ReceiverState)
      → PutsStep (station_limit old.station) answer result sent (station_kept old.station).receiver
      (station_kept after).receiver
      → Reported result → (result ≡ None → new.station ≡ after)
      → station_at (station_kept new.station) r ≡ station_at (station_kept after) r
  station_of (sends step) None r puts it stays = ap (λ (s : AnyStation). station_at (station_kept s) r) (stays refl)
  station_of (sends step) (Some result) r puts it stays = absurd puts
  station_of (hears step) None r puts it stays = absurd puts
  station_of (hears step) (Some result) r (puts, was) it stays =
      ap (λ (s : StationState). record s { receiver = r }) (now (Some result) step.after it was.state).station_is

  makes_reported : (step : StationStep (station_limit old.station)) (result : Option Step)
      → Answers step result sent (station_kept old.station) (station_kept after)
      → Reported result → (result ≡ None → new.station ≡ after) → station_limit new.station ≡ station_limit after
      → MakesAnswer step old out new
  makes_reported step result is it stays limit = record {
    reported = reported_of step.answer result is.puts it stays limit;
    station_is = station_of step.answer result step.after.receiver is.puts it stays ∙ is.station_is;
  }

  rejects_reported : (step : ReceiverStep) (r : ReceiverState) (result : Option Step)
      → RejectsFrame (station_limit old.station) step r result sent (station_kept old.station) (station_kept after)
      → Reported result → of_receiver.IsOutOfMemory out.step → RejectsForMemory step r old out new
  rejects_reported step r None is it same = absurd is
  rejects_reported step r (Some result) (was, put, same_but) it same =
      let reported = it.reports.1 in
      let note = steps.is_out result old.text new.text out.step reported same in
      let left = now (Some result) r it was.state in
      record {
        frame = was.frame;
        would_accept = was.would_accept;
        too_long = was.too_long;
        is_step = it.reports.0;
        sends_is = subst (λ (b : LisBytes). HoldsBytes b (NAK ∷ [])) (sym it.sends_is)
            (subst (λ (reply : Option ℕ). HoldsBytes sent (option_to_list reply)) was.reply_is put);
        reply_is = reported.reply_is ∙ ap reply_code was.reply_is;
        detail_is = reported.detail_is ∙ ap note_detail note;
        place_is = reported.place_is ∙ ap note_place note;
        text_is = subst (λ message. HoldsText message out.step.has_text old.text new.text) was.message_is
            reported.text_is;
        spare_kept = omega (was.spare_kept, it.room_stays, arith);
        state = left.receiver_is;
        station_is =
            ap (λ (s : StationState). kept_as s (station_kept new.station).receiver) left.station_is
            ∙ ap (λ (k : KeptStation). record k { receiver = (station_kept new.station).receiver }) same_but;
      }

pub reports_rejected : (old new : StationHandleState) (after : AnyStation) (sent : LisBytes) (out : LisAnswer)
    (step : ReceiverStep) (r : ReceiverState) (result : Option Step)
    → (IsMemoryOut result
    → RejectsFrame (station_limit old.station) step r result sent (station_kept old.station) (station_kept after))
    → Reported old new after sent out result → of_receiver.IsOutOfMemory out.step → RejectsForMemory step r old out new
reports_rejected old new after sent out step r result rejects it same =
    let is_out = memory result old.text new.text out it.reports same in
    rejects_reported old new after sent out step r result (rejects is_out) it same

not_memory : (result : Option Step) (before text : List ℕ) (out : LisAnswer) → ReportsAnswer result before out text
    → (out.step.note ≡ 11 → ⊥) → IsMemoryOut result → ⊥
not_memory None before text out reported not is = is
not_memory (Some step) before text out reported not is = not (reported.1.note_is ∙ ap note_code is)

pub reports_made : (old new : StationHandleState) (after : AnyStation) (sent : LisBytes) (out : LisAnswer)
    (step : StationStep (station_limit old.station)) (result : Option Step)
    → ((IsMemoryOut result → ⊥) → Answers step result sent (station_kept old.station) (station_kept after))
    → Reported old new after sent out result → (result ≡ None → new.station ≡ after)
    → station_limit new.station ≡ station_limit after → IsNotOutOfMemory out.step → MakesAnswer step old out new
reports_made old new after sent out step result makes it stays limit fine =
    makes_reported old new after sent out step result
    (makes (not_memory result old.text new.text out it.reports fine)) it stays limit
