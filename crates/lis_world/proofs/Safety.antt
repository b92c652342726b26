-- The invariant holds from the first event on, and what it says is safe.
use Rattle.std.proofs.Common.{◌≡◌, ℕ, ◌+◌, ◌≤◌, Bool, true, false, List, [], ◌∷◌, ◌++◌, length, refl, sym}
use Rattle.std.proofs.Common.{ap, ◌∙◌, subst, arith}
use Rattle.std.proofs.lemmas.List.{append-nil, append_assoc, length-append, nil_from_length}
use Rattle.std.proofs.lemmas.List.Elements.{All-nil, All-from_get_or}
use Rattle.lis_frame.specs.Limit.{IsLimit}
use Rattle.lis_text.specs.LinkText.{longest_text}
use Rattle.lis_text.specs.Text.{IsText}
use Rattle.lis_frame.specs.Frame.{FrameContent}
use Rattle.lis_frame.specs.Pieces.{session_frames}
use Rattle.lis_link.specs.Joining.{groups, rest}
use Rattle.lis_link.specs.Sender.{start_fault}
use Rattle.lis_link.proofs.JoiningLaws.{groups-append, groups-session_frames}
use Rattle.lis_world.specs.declared.event.Event.{Event}
use Rattle.lis_world.specs.declared.event.Event.TheVariants.{Start, Deliver, DeliverNoRoom, Damage, Lose, Reply}
use Rattle.lis_world.specs.declared.event.Event.TheVariants.{DamageReply, LoseReply, SenderTimer, ReceiverTimer}
use Rattle.lis_world.specs.declared.event.Event.TheVariants.{RestartSender, RestartReceiver, Ready, Busy, Contending}
use Rattle.lis_world.specs.Session.{Session, new_session, session_at}
use Rattle.lis_world.specs.World.{World, new_world}
use Rattle.lis_world.specs.Steps.{room_at, delivered, after_event, world}
use Rattle.lis_world.specs.inside.Playing.{runs}
use Rattle.lis_world.specs.Safe.{IsPrefix, IsSafe, DeliversAll, Safe, AlwaysSafe}
use Rattle.lis_world.proofs.Invariant.{IsSound, Holds}
use Rattle.lis_world.proofs.Delivery.{delivered_holds, damaged_holds}
use Rattle.lis_world.proofs.Replies.{replied_holds, reply_damaged_holds, reply_lost_holds}
use Rattle.lis_world.proofs.Timers.{sender_timer_holds, restart_holds, no_more_open_holds, after_receiver_timer}
use Rattle.lis_world.proofs.Starting.{sound_new, begins_holds}

-- the room of the receiver is of no account
room_holds : (limit : ℕ) (room : Bool) (w : World) → Holds limit w → Holds limit (room_at room w)
room_holds limit room w h = no_more_open_holds limit w _ (record { was_open = λ e. e; accepted_same = refl }) h

pub event_holds : (limit : ℕ) (event : Event) (w : World) → IsLimit limit → Holds limit w
    → Holds limit (after_event limit event w)
event_holds limit (Start texts) w is_limit h = begins_holds limit texts w (start_fault w.sender texts) refl h
event_holds limit Deliver w is_limit h = delivered_holds limit w.units w is_limit refl h
event_holds limit DeliverNoRoom w is_limit h =
    let without = room_at false w in
    room_holds limit true (delivered limit w.units without)
    (delivered_holds limit w.units without is_limit refl (room_holds limit false w h))
event_holds limit (Damage bytes) w is_limit h = damaged_holds limit bytes w.units w refl h
event_holds limit Lose w is_limit h = damaged_holds limit [] w.units w refl h
event_holds limit Reply w is_limit h = replied_holds limit w.replies w refl h
event_holds limit (DamageReply damage) w is_limit h = reply_damaged_holds limit damage w.replies w refl h
event_holds limit LoseReply w is_limit h = reply_lost_holds limit w.replies w refl h
event_holds limit SenderTimer w is_limit h = sender_timer_holds limit w h
event_holds limit ReceiverTimer w is_limit h = no_more_open_holds limit w _ (after_receiver_timer w.receiver) h
event_holds limit RestartSender w is_limit h = restart_holds limit w h
event_holds limit RestartReceiver w is_limit h =
    no_more_open_holds limit w _ (record { was_open = λ e. absurd (cc); accepted_same = refl }) h
event_holds limit Ready w is_limit h = no_more_open_holds limit w _
    (record { was_open = λ e. e; accepted_same = refl }) h
event_holds limit Busy w is_limit h = no_more_open_holds limit w _
    (record { was_open = λ e. e; accepted_same = refl }) h
event_holds limit Contending w is_limit h = no_more_open_holds limit w _
    (record { was_open = λ e. e; accepted_same = refl }) h

pub runs_hold : (limit : ℕ) (events : List Event) (w : World) → IsLimit limit → Holds limit w
    → Holds limit (runs limit events w)
runs_hold limit [] w is_limit h = h
runs_hold limit (event ∷ events) w is_limit h = runs_hold limit events (after_event limit event w) is_limit
    (event_holds limit event w is_limit h)

pub new_holds : (limit : ℕ) → Holds limit new_world
unfolding session_frames
new_holds limit = record {
  sound = λ k. sound_new limit [] (All-nil (IsText longest_text));
  to_drop_within = omega arith;
  line = λ e. absurd (cc);
  front = tt;
  current = record { frames_are = tt; acknowledged_is = refl; outcome_is = refl };
  phase = record { no_reply = refl; live_endings = tt };
}

pub prefix_trans : {A : Type 0} (xs ys zs : List A) → IsPrefix xs ys → IsPrefix ys zs → IsPrefix xs zs
prefix_trans xs ys zs first second = record {
  rest = first.rest ++ second.rest;
  joined = sym (append_assoc xs first.rest second.rest) ∙ ap (λ t. t ++ second.rest) first.joined ∙ second.joined;
}

-- the texts of the first frames are the first texts
groups_prefix :
    (limit : ℕ) (texts : List (List ℕ)) (frames : List FrameContent)
    → IsPrefix frames (session_frames limit texts)
    → IsPrefix (groups [] frames) texts
groups_prefix limit texts frames first = record {
  rest = groups (rest [] frames) first.rest;
  joined = sym (groups-append [] frames first.rest) ∙ ap (groups []) first.joined ∙ groups-session_frames limit texts;
}

-- a prefix that is no shorter is the whole
pub whole_prefix : {A : Type 0} (xs ys : List A) → IsPrefix xs ys → length ys ≤ length xs → xs ≡ ys
whole_prefix xs ys first long =
    let joined_length : length xs + length first.rest ≡ length ys =
    sym (length-append xs first.rest) ∙ ap length first.joined in
    let none : first.rest ≡ [] = nil_from_length first.rest (omega arith) in
    sym (append-nil xs) ∙ ap (λ t. xs ++ t) (sym none) ∙ first.joined

pub safe_from_sound : (limit : ℕ) (x : Session) → IsSound limit x → IsSafe limit x
safe_from_sound limit x h = record {
  accepted_of_sent = h.accepted_of_sent;
  sent_of_frames = h.sent_of_frames;
  acknowledged_of_accepted = h.acknowledged_of_accepted;
  delivered_whole = h.delivered_whole;
  delivered_in_order =
      subst (λ t. IsPrefix t x.texts) (sym h.delivered_whole)
      (groups_prefix limit x.texts x.accepted
      (prefix_trans x.accepted x.sent (session_frames limit x.texts) h.accepted_of_sent h.sent_of_frames));
}

pub delivers_all_from_sound : (limit : ℕ) (x : Session) → IsSound limit x → DeliversAll x
delivers_all_from_sound limit x h done =
    let first = prefix_trans x.accepted x.sent (session_frames limit x.texts) h.accepted_of_sent h.sent_of_frames in
    let acknowledged = h.done_acknowledged done in
    let enough = h.acknowledged_of_accepted in
    let whole : x.accepted ≡ session_frames limit x.texts =
    whole_prefix x.accepted (session_frames limit x.texts) first (omega arith) in
    h.delivered_whole ∙ ap (groups []) whole ∙ groups-session_frames limit x.texts

pub safe_from_holds : (limit : ℕ) (w : World) → Holds limit w → Safe limit w
safe_from_holds limit w h = (
  All-from_get_or (IsSafe limit) w.sessions (new_session [])
      (λ k within. safe_from_sound limit (session_at k w.sessions) (h.sound k)),
  All-from_get_or DeliversAll w.sessions (new_session [])
      (λ k within. delivers_all_from_sound limit (session_at k w.sessions) (h.sound k)),
)

pub always_safe : (limit : ℕ) → IsLimit limit → AlwaysSafe limit
always_safe limit is_limit events = safe_from_holds limit (world limit events)
    (runs_hold limit events new_world is_limit (new_holds limit))
