-- The definitions of the loops at values known from outside.
use Rattle.std.proofs.Common.{[], ◌∷◌, None, Some, true, refl}
use Rattle.lis_frame.specs.Frame.{frame_bytes}
use Rattle.lis_frame.specs.Stream.{open_body, signal_after}
use Rattle.lis_frame.specs.FrameBody.{body_fault}
use Rattle.lis_frame.specs.Pieces.{pieces, session_frames, text_frames}
use Rattle.lis_link.specs.declared.sender.Outcome.TheVariants.{Done, TimedOut}
use Rattle.lis_link.specs.declared.sender.Phase.TheVariants.{Neutral}
use Rattle.lis_link.specs.declared.receiver.Note.TheVariants as notes
use Rattle.lis_link.specs.Receiver.{ReceiverState, new_receiver}
use Rattle.lis_link.specs.Sender.{started}
use Rattle.uses.specs.Analyzer.{IsSession, answered, finished, quiet}
use Rattle.uses.specs.Computer.{IsReception, acknowledged, closed, goes_on, made, unanswered}
use Rattle.uses.specs.Connection.{kept, not_kept, sent, timed, waited}
use Rattle.uses.specs.declared.connection.Event.TheVariants.{Byte, Closed, Timer}

-- the text A: ACK, its frame, ACK, EOT
a_text_is_sent : IsSession 2 (started 240 ((65 ∷ []) ∷ []))
    (waited (Byte 6) ∷ sent (2 ∷ 49 ∷ 65 ∷ 3 ∷ 55 ∷ 53 ∷ 13 ∷ 10 ∷ []) ∷ timed 15 ∷ waited (Byte 6) ∷ sent (4 ∷ [])
    ∷ [])
    (Some Done) (record { frames = []; acknowledged = 1; phase = Neutral; tries = 1; outcome = Some Done })
unfolding session_frames text_frames pieces frame_bytes
a_text_is_sent =
    answered 1 (Byte 6) 15 (waited (Byte 6) ∷ sent (4 ∷ []) ∷ []) refl (λ e. cc) refl (λ nothing. cc) refl
    (finished 0 (Byte 6) refl (λ e. cc) refl refl refl refl)

-- NAK, a byte that means nothing, the timer that ends the wait, and one that ends the session
each_wait_has_its_timer : IsSession 4 (started 240 ((65 ∷ []) ∷ []))
    (waited (Byte 21) ∷ timed 10 ∷ waited (Byte 120) ∷ waited Timer ∷ sent (5 ∷ []) ∷ timed 15 ∷ waited Timer
    ∷ sent (4 ∷ []) ∷ [])
    (Some TimedOut) (record { frames = []; acknowledged = 0; phase = Neutral; tries = 0; outcome = Some TimedOut })
unfolding session_frames text_frames pieces frame_bytes
each_wait_has_its_timer =
    answered 3 (Byte 21) 10 (waited (Byte 120) ∷ waited Timer ∷ sent (5 ∷ []) ∷ timed 15 ∷ waited Timer
    ∷ sent (4 ∷ []) ∷ [])
    refl (λ e. cc) refl (λ nothing. cc) refl
    (quiet 2 (Byte 120) 10 (waited Timer ∷ sent (5 ∷ []) ∷ timed 15 ∷ waited Timer ∷ sent (4 ∷ []) ∷ [])
    refl (λ e. cc) refl (refl, refl) refl
    (answered 1 Timer 15 (waited Timer ∷ sent (4 ∷ []) ∷ []) refl (λ e. cc) refl (λ nothing. cc) refl
    (finished 0 Timer refl (λ e. cc) refl refl refl refl)))

-- ENQ opens the line, the timer closes it again, and the line is hung up
a_line_is_opened_and_times_out : IsReception 3 new_receiver
    (waited (Byte 5) ∷ sent (6 ∷ []) ∷ timed 30 ∷ waited Timer ∷ waited Closed ∷ []) None
    (record new_receiver { past = 5 ∷ [] })
unfolding signal_after
a_line_is_opened_and_times_out =
    goes_on 2 (Byte 5) (record { reply = Some 6; message = None; note = notes.Opened })
    (record new_receiver { is_open = true; past = 5 ∷ [] }) (waited Timer ∷ waited Closed ∷ []) refl (λ e. cc)
    (made (record { reply_is = refl; message_is = refl; note_is = refl }) refl) refl refl
    (goes_on 1 Timer (record { reply = None; message = None; note = notes.TimedOut })
    (record new_receiver { past = 5 ∷ [] }) (waited Closed ∷ []) refl (λ e. cc)
    (made (record { reply_is = refl; message_is = refl; note_is = refl }) refl) refl refl
    (closed 0 refl refl refl refl))

-- the frame of the text A came but for its LF
before_last_byte : ReceiverState
before_last_byte = record new_receiver { is_open = true; past = 13 ∷ 53 ∷ 55 ∷ 3 ∷ 65 ∷ 49 ∷ 2 ∷ 5 ∷ [] }

-- it is kept, and then its frame is acknowledged
a_text_is_kept : IsReception 1 before_last_byte
    (waited (Byte 10) ∷ kept (65 ∷ []) ∷ sent (6 ∷ []) ∷ timed 30 ∷ []) (Some (65 ∷ []))
    (record before_last_byte {
      accepted = record { number = 1; text = 65 ∷ []; last = true } ∷ [];
      past = 10 ∷ 13 ∷ 53 ∷ 55 ∷ 3 ∷ 65 ∷ 49 ∷ 2 ∷ 5 ∷ [];
    })
unfolding signal_after open_body body_fault before_last_byte
a_text_is_kept =
    acknowledged {r = before_last_byte} 0 (Byte 10)
    (record { reply = Some 6; message = Some (65 ∷ []); note = notes.Accepted 1 }) (65 ∷ []) refl (λ e. cc)
    (made (record { reply_is = refl; message_is = refl; note_is = refl }) refl) refl refl refl

-- it can't be kept: nothing is sent, and the receiver restarts; then the line is hung up
a_text_is_not_kept : IsReception 2 before_last_byte (waited (Byte 10) ∷ not_kept (65 ∷ []) ∷ waited Closed ∷ []) None
    (record new_receiver { accepted = record { number = 1; text = 65 ∷ []; last = true } ∷ [] })
unfolding signal_after open_body body_fault before_last_byte
a_text_is_not_kept =
    unanswered {r = before_last_byte} 1 (Byte 10)
    (record { reply = Some 6; message = Some (65 ∷ []); note = notes.Accepted 1 }) (65 ∷ [])
    (record before_last_byte {
      accepted = record { number = 1; text = 65 ∷ []; last = true } ∷ [];
      past = 10 ∷ 13 ∷ 53 ∷ 55 ∷ 3 ∷ 65 ∷ 49 ∷ 2 ∷ 5 ∷ [];
    })
    (waited Closed ∷ []) refl (λ e. cc) (made (record { reply_is = refl; message_is = refl; note_is = refl }) refl)
    refl refl (closed 0 refl refl refl refl)
