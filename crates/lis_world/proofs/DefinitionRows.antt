-- The definitions at lists of events whose outcomes are known from outside, by computation.
use Rattle.std.proofs.Common.{◌≡◌, ℕ, zero, suc, List, [], ◌∷◌, ◌++◌, None, Some, refl, true, false, replicate}
use Rattle.lis_frame.specs.Frame.{FrameContent, frame_bytes}
use Rattle.lis_frame.specs.FrameBody.{body_fault}
use Rattle.lis_frame.specs.Stream.{signal_after, open_body}
use Rattle.lis_frame.specs.Pieces.{session_frames, pieces}
use Rattle.lis_link.specs.declared.sender.Outcome.TheVariants.{Done, TimedOut, Restarted}
use Rattle.lis_world.specs.declared.event.Event.{Event}
use Rattle.lis_world.specs.declared.event.Event.TheVariants.{Start, Deliver, DeliverNoRoom, Damage, Reply, DamageReply}
use Rattle.lis_world.specs.declared.event.Event.TheVariants.{SenderTimer, ReceiverTimer, RestartSender, RestartReceiver}
use Rattle.lis_world.specs.declared.event.Event.TheVariants.{Busy, Contending}
use Rattle.lis_world.specs.Progress.{undisturbed, session_events}
use Rattle.lis_world.specs.Recovery.{comes, comes_without_room, is_lost, emptying_events, two_timers, rest_events}
use Rattle.lis_world.specs.Recovery.{unit_is_lost, unit_is_unheard, reply_is_lost, lost_events}
use Rattle.lis_world.specs.Session.{Session}
use Rattle.lis_world.specs.Steps.{world}

abbrev pub one_letter : ℕ → FrameContent
one_letter letter = record { number = 1; last = true; text = letter ∷ [] }

abbrev pub start : ℕ → Event
start letter = Start ((letter ∷ []) ∷ [])

-- the session of this text: done, given up after the frame was accepted, or just begun
abbrev pub done_letter : ℕ → Session
done_letter letter =
    record {
      texts = (letter ∷ []) ∷ [];
      sent = one_letter letter ∷ [];
      accepted = one_letter letter ∷ [];
      acknowledged = 1;
      handed = (letter ∷ []) ∷ [];
      outcome = Some Done;
    }

abbrev pub unheard_letter : ℕ → Session
unheard_letter letter = record (done_letter letter) { acknowledged = 0; outcome = Some TimedOut }

abbrev pub begun_letter : ℕ → Session
begun_letter letter =
    record (done_letter letter) { sent = []; accepted = []; acknowledged = 0; handed = []; outcome = None }

-- the sessions that these events give
abbrev ComesTo : List Event → List Session → Type 0
ComesTo events sessions = (world 240 events).sessions ≡ sessions

no_session : (world 240 []).sessions ≡ []
no_session = refl

nothing_to_deliver : (world 240 (Deliver ∷ Deliver ∷ [])).sessions ≡ []
nothing_to_deliver = refl

-- the reply to the frame is damaged: the frame is sent again, found to be a duplicate, and acknowledged
sent_again_and_taken_once : ComesTo
    (start 0x41 ∷ Deliver ∷ Reply ∷ Deliver ∷ DamageReply 0x7f ∷ Deliver ∷ Reply ∷ Deliver ∷ [])
    (done_letter 0x41 ∷ [])
unfolding signal_after open_body body_fault session_frames pieces frame_bytes
sent_again_and_taken_once = refl

-- the sender gives up before its frame has come: the frame counts for its own session, and its ACK comes too late
late_frame_is_of_its_session : ComesTo
    (start 0x41 ∷ Deliver ∷ Reply ∷ SenderTimer ∷ start 0x42 ∷ Deliver ∷ Deliver ∷ Deliver ∷ Reply ∷ Deliver
    ∷ Reply ∷ Deliver ∷ [])
    (unheard_letter 0x41 ∷ done_letter 0x42 ∷ [])
unfolding signal_after open_body body_fault session_frames pieces frame_bytes
late_frame_is_of_its_session = refl

-- an ENQ can't be damaged to a bad frame, a frame can: it is rejected and sent again
damaged_frame_is_sent_again : ComesTo
    (start 0x41 ∷ Damage (0x05 ∷ []) ∷ Deliver ∷ Reply ∷ Damage (0x02 ∷ 0x31 ∷ 0x0a ∷ []) ∷ Reply ∷ Deliver
    ∷ Reply ∷ Deliver ∷ [])
    (done_letter 0x41 ∷ [])
unfolding signal_after open_body body_fault session_frames pieces frame_bytes
damaged_frame_is_sent_again = refl

-- so the ENQ is delivered; the session goes on
damage_of_an_enquiry_is_not_allowed : ComesTo
    (start 0x41 ∷ Damage (0x02 ∷ 0x31 ∷ 0x0a ∷ []) ∷ Deliver ∷ [])
    (begun_letter 0x41 ∷ [])
unfolding signal_after open_body body_fault session_frames pieces frame_bytes
damage_of_an_enquiry_is_not_allowed = refl

-- there is no room for the frame, and then there is
no_room_is_answered_by_sending_again : ComesTo
    (start 0x41 ∷ Deliver ∷ Reply ∷ DeliverNoRoom ∷ Reply ∷ Deliver ∷ Reply ∷ Deliver ∷ [])
    (done_letter 0x41 ∷ [])
unfolding signal_after open_body body_fault session_frames pieces frame_bytes
no_room_is_answered_by_sending_again = refl

-- the receiver answers ENQ with ENQ; the sender waits, and asks again
contention_ends_with_the_timer : ComesTo
    (Contending ∷ start 0x41 ∷ Deliver ∷ Reply ∷ SenderTimer ∷ Deliver ∷ Reply ∷ Deliver ∷ Reply ∷ Deliver ∷ [])
    (done_letter 0x41 ∷ [])
unfolding signal_after open_body body_fault session_frames pieces frame_bytes
contention_ends_with_the_timer = refl

-- the sender is restarted before the line is open: no late reply reaches it, and its next session is whole
a_restarted_session_ends : ComesTo
    (start 0x41 ∷ Deliver ∷ RestartSender ∷ Reply ∷ start 0x42 ∷ Deliver ∷ Reply ∷ Deliver ∷ Reply ∷ Deliver ∷ [])
    (record (begun_letter 0x41) { outcome = Some Restarted } ∷ done_letter 0x42 ∷ [])
unfolding signal_after open_body body_fault session_frames pieces frame_bytes
a_restarted_session_ends = refl

-- the frame of a session that was given up is taken, and the reply to it is dropped, in the next session too
late_reply_never_comes : ComesTo
    (start 0x41 ∷ Deliver ∷ Reply ∷ SenderTimer ∷ start 0x42 ∷ Deliver ∷ Reply ∷ [])
    (unheard_letter 0x41 ∷ begun_letter 0x42 ∷ [])
unfolding signal_after open_body body_fault session_frames pieces frame_bytes
late_reply_never_comes = refl

-- the number of a frame that is sent again comes round to 0
round_trips : ℕ → List Event
round_trips zero = []
round_trips (suc n) = Deliver ∷ Reply ∷ round_trips n

nine_texts_events : List Event
nine_texts_events =
    Start (replicate 9 (0x41 ∷ []))
    ∷ (round_trips 8 ++ Deliver ∷ DamageReply 0x7f ∷ Deliver ∷ Reply ∷ Deliver ∷ Reply ∷ Deliver ∷ [])

numbered_letter : ℕ → FrameContent
numbered_letter number = record { number = number; last = true; text = 0x41 ∷ [] }

nine_frames : List FrameContent
nine_frames =
    numbered_letter 1
    ∷ numbered_letter 2
    ∷ numbered_letter 3
    ∷ numbered_letter 4
    ∷ numbered_letter 5
    ∷ numbered_letter 6
    ∷ numbered_letter 7
    ∷ numbered_letter 0
    ∷ numbered_letter 1
    ∷ []

numbers_come_round :
    (world 240 nine_texts_events).sessions
    ≡ record {
      texts = replicate 9 (0x41 ∷ []);
      sent = nine_frames;
      accepted = nine_frames;
      acknowledged = 9;
      handed = replicate 9 (0x41 ∷ []);
      outcome = Some Done;
    }
    ∷ []
unfolding signal_after open_body body_fault session_frames pieces frame_bytes nine_texts_events round_trips
    nine_frames numbered_letter
numbers_come_round = refl

-- the receiver is restarted between two frames of a text: the second is not taken, and nothing is delivered
restarted_receiver_events : List Event
restarted_receiver_events =
    Start (replicate 500 0x41 ∷ [])
    ∷ (round_trips 2 ++ RestartReceiver ∷ Deliver ∷ SenderTimer ∷ Deliver ∷ [])

restarted_receiver_delivers_nothing :
    (world 240 restarted_receiver_events).sessions
    ≡ record {
      texts = replicate 500 0x41 ∷ [];
      sent =
          record { number = 1; last = false; text = replicate 240 0x41 }
          ∷ record { number = 2; last = false; text = replicate 240 0x41 }
          ∷ [];
      accepted = record { number = 1; last = false; text = replicate 240 0x41 } ∷ [];
      acknowledged = 1;
      handed = [];
      outcome = Some TimedOut;
    }
    ∷ []
unfolding signal_after open_body body_fault session_frames pieces frame_bytes round_trips
    restarted_receiver_events
restarted_receiver_delivers_nothing = refl

-- with the long limit the same text is one frame, and the session is done before
long_frame_delivers :
    (world 63993 restarted_receiver_events).sessions
    ≡ record {
      texts = replicate 500 0x41 ∷ [];
      sent = record { number = 1; last = true; text = replicate 500 0x41 } ∷ [];
      accepted = record { number = 1; last = true; text = replicate 500 0x41 } ∷ [];
      acknowledged = 1;
      handed = replicate 500 0x41 ∷ [];
      outcome = Some Done;
    }
    ∷ []
unfolding signal_after open_body body_fault session_frames pieces frame_bytes round_trips
    restarted_receiver_events
long_frame_delivers = refl

-- a frame is lost, and the sender's timer ends its session; EOT is lost too, and the next session is carried through
abbrev untaken_letter : ℕ → Session
untaken_letter letter = record (unheard_letter letter) { accepted = []; handed = [] }

abbrev next_letter_events : List Event
next_letter_events = session_events ((0x42 ∷ []) ∷ []) (undisturbed ∷ [])

lost_frame_is_overcome : ComesTo
    (start 0x41 ∷ Deliver ∷ Reply ∷ (lost_events unit_is_lost (ReceiverTimer ∷ Deliver ∷ [])
    ++ emptying_events (is_lost ∷ []) ++ next_letter_events))
    (untaken_letter 0x41 ∷ done_letter 0x42 ∷ [])
unfolding signal_after open_body body_fault session_frames pieces frame_bytes
lost_frame_is_overcome = refl

-- its bytes give no signal, as their LF is gone
unheard_frame_is_overcome : ComesTo
    (start 0x41 ∷ Deliver ∷ Reply ∷ (lost_events (unit_is_unheard (0x02 ∷ 0x31 ∷ 0x41 ∷ [])) []
    ++ emptying_events (comes ∷ []) ++ next_letter_events))
    (untaken_letter 0x41 ∷ done_letter 0x42 ∷ [])
unfolding signal_after open_body body_fault session_frames pieces frame_bytes
unheard_frame_is_overcome = refl

-- the reply to it is lost: it was taken, and is not acknowledged
lost_reply_is_overcome : ComesTo
    (start 0x41 ∷ Deliver ∷ Reply ∷ (lost_events reply_is_lost []
    ++ emptying_events (comes_without_room ∷ []) ++ next_letter_events))
    (unheard_letter 0x41 ∷ done_letter 0x42 ∷ [])
unfolding signal_after open_body body_fault session_frames pieces frame_bytes
lost_reply_is_overcome = refl

-- a busy receiver: the first timer asks for the line once more, the second ends the session; ENQ and EOT are on the
-- link
busy_receiver_is_overcome : ComesTo
    (Busy ∷ start 0x41 ∷ Deliver ∷ Reply ∷ (rest_events two_timers
    ++ emptying_events (comes ∷ comes ∷ []) ++ next_letter_events))
    (record (untaken_letter 0x41) { sent = [] } ∷ done_letter 0x42 ∷ [])
unfolding signal_after open_body body_fault session_frames pieces frame_bytes
busy_receiver_is_overcome = refl
