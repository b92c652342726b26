-- A session begins.
use Rattle.std.proofs.Common.{◌≡◌, ℕ, ◌+◌, inl, Bool, true, false, List, [], ◌∷◌, ◌++◌, length, drop, Option, None}
use Rattle.std.proofs.Common.{Some, refl, sym, ap, subst, arith}
use Rattle.std.specs.Prelude.{All, if◌then◌else◌, nat_lt}
use Rattle.std.specs.Option.{option_map, option_or}
use Rattle.std.proofs.lemmas.Bool.{ltb-false}
use Rattle.std.proofs.lemmas.List.{length_push, drop-append-le}
use Rattle.std.proofs.lemmas.List.Elements.{All-nil, All-cons}
use Rattle.lis_text.specs.declared.text.TextFault.{TextFault}
use Rattle.lis_text.specs.declared.text.TextFault.TheVariants.{TooLong, Forbidden}
use Rattle.lis_text.specs.LinkText.{longest_text}
use Rattle.lis_text.specs.Text.{IsText, text_fault, first_forbidden}
use Rattle.lis_frame.specs.Pieces.{session_frames}
use Rattle.lis_link.specs.declared.sender.Phase.{Phase}
use Rattle.lis_link.specs.declared.sender.Phase.TheVariants.{Neutral, AwaitLine, Busy, Contention, AwaitReply}
use Rattle.lis_link.specs.declared.sender.StartFault.{StartFault}
use Rattle.lis_link.specs.declared.sender.StartFault.TheVariants.{BadText}
use Rattle.lis_link.specs.Sender.{SenderState, bad_text, start_fault_in, start_fault, started}
use Rattle.lis_world.specs.Unit.{enquiry, Travelling}
use Rattle.lis_world.specs.Session.{Session, new_session}
use Rattle.lis_world.specs.World.{World}
use Rattle.lis_world.specs.Steps.{put_on_link, begins}
use Rattle.lis_world.proofs.SessionLemmas.{at-more, at-more_last, at-more_each}
use Rattle.lis_world.proofs.Invariant.{IsSound, Unsent, IsCurrent, AllEndings, RequestsBy, Requests, InPhase, Holds}
use Rattle.lis_world.proofs.Base.{Base, holds_of, AreSame, base_placed, front_same, line_same}

-- a text with no fault can be sent
text_from_fault : (text : List ℕ) → text_fault longest_text text ≡ None → IsText longest_text text
text_from_fault text e = go (nat_lt longest_text (length text)) refl e
  where
    clean : (place : Option ℕ) → first_forbidden text ≡ place → option_map Forbidden place ≡ None
        → first_forbidden text ≡ None
    clean None is none = is
    clean (Some p) is none = absurd (cc)

    go :
        (long : Bool)
        → nat_lt longest_text (length text) ≡ long
        → (if long then Some TooLong else option_map Forbidden (first_forbidden text)) ≡ None
        → IsText longest_text text
    go true is none = absurd (cc)
    go false is none = record {
      short = ltb-false longest_text (length text) is;
      clean = clean (first_forbidden text) refl none;
    }

texts_from_fault : (index : ℕ) (texts : List (List ℕ)) → bad_text index texts ≡ None → All (IsText longest_text) texts
texts_from_fault index [] e = All-nil (IsText longest_text)
texts_from_fault index (text ∷ texts) e = go (text_fault longest_text text) refl e (texts_from_fault (index + 1) texts)
  where
    go :
        (fault : Option TextFault)
        → text_fault longest_text text ≡ fault
        → option_or (option_map (BadText index) fault) (bad_text (index + 1) texts) ≡ None
        → (bad_text (index + 1) texts ≡ None → All (IsText longest_text) texts)
        → All (IsText longest_text) (text ∷ texts)
    go None is none later = All-cons (IsText longest_text) text texts (text_from_fault text is) (later none)
    go (Some fault) is none later = absurd (cc)

-- a start that is not rejected
pub record CanStart (s : SenderState) (texts : List (List ℕ)) : Type 0 where
  pub neutral : s.phase ≡ Neutral
  pub sendable : All (IsText longest_text) texts

pub can_start : (s : SenderState) (texts : List (List ℕ)) → start_fault s texts ≡ None → CanStart s texts
can_start s texts e = go s.phase refl texts e
  where
    go : (p : Phase) → s.phase ≡ p → (texts : List (List ℕ)) → start_fault_in p texts ≡ None → CanStart s texts
    go Neutral is [] none = absurd (cc)
    go Neutral is (text ∷ texts) none = record { neutral = is; sendable = texts_from_fault 0 (text ∷ texts) none }
    go AwaitLine is texts none = absurd (cc)
    go Busy is texts none = absurd (cc)
    go Contention is texts none = absurd (cc)
    go AwaitReply is texts none = absurd (cc)

pub sound_new : (limit : ℕ) (texts : List (List ℕ)) → All (IsText longest_text) texts
    → IsSound limit (new_session texts)
sound_new limit texts sendable = record {
  sendable = sendable;
  accepted_of_sent = record { rest = []; joined = refl };
  sent_of_frames = record { rest = session_frames limit texts; joined = refl };
  acknowledged_of_accepted = omega arith;
  delivered_whole = refl;
  done_acknowledged = λ done. absurd (cc);
}

-- endings, and one line request after them
requests_following : (c : ℕ) (us : List Travelling) → AllEndings us
    → Requests c (us ++ record { session = c; load = enquiry } ∷ [])
requests_following c [] h = ((refl, refl), λ e. tt)
requests_following c (u ∷ us) h = (
  subst (λ l. RequestsBy c u.session l (us ++ record { session = c; load = enquiry } ∷ [])) (sym h.0) tt,
  λ e. requests_following c us h.1,
)

are_same_more : (ss : List Session) (x : Session) → AreSame ss (ss ++ x ∷ [])
are_same_more ss x = record {
  longer =
      let more = length_push ss x in
      omega arith;
  sent_same = λ k within. ap (λ (y : Session). y.sent) (at-more ss x k within);
  accepted_same = λ k within. ap (λ (y : Session). y.accepted) (at-more ss x k within);
}

begun_holds :
    (limit : ℕ) (texts : List (List ℕ)) (w : World)
    → Holds limit w
    → CanStart w.sender texts
    → Holds limit (begins limit None texts w)
begun_holds limit texts w h can =
    let ss : List Session = w.sessions in
    let x : Session = new_session texts in
    let ss' : List Session = ss ++ x ∷ [] in
    let w1 : World = record w { sender = started limit texts; current = length ss; sessions = ss' } in
    let same : AreSame ss ss' = are_same_more ss x in
    let base1 : Base limit w1 = record {
      sound = at-more_each (IsSound limit) ss x (sound_new limit [] (All-nil (IsText longest_text)))
          (sound_new limit texts can.sendable) h.sound;
      to_drop_within = h.to_drop_within;
      line = line_same ss ss' w.receiver.is_open w.receiver.accepted w.opened same h.line;
      front = front_same ss ss' w.receiver.is_open w.opened w.units same h.front;
    } in
    let unsent : Unsent ss' (length ss) =
    (let more = length_push ss x in omega arith, ap (λ (y : Session). y.sent) (at-more_last ss x)) in
    let resting = subst (λ p. InPhase p w) can.neutral h.phase in
    let request : Travelling = record { session = length ss; load = enquiry } in
    holds_of limit (put_on_link enquiry w1) (base_placed limit enquiry w1 unsent base1)
    (subst (IsCurrent limit (started limit texts)) (sym (at-more_last ss x))
    (record { frames_are = refl; acknowledged_is = refl; outcome_is = refl }))
    (record {
      unsent = unsent;
      none_acknowledged = refl;
      traffic = inl (
        resting.no_reply,
        subst (Requests (length ss)) (sym (drop-append-le w.to_drop w.units (request ∷ []) h.to_drop_within))
            (requests_following (length ss) (drop w.to_drop w.units) resting.live_endings),
      );
    })

pub begins_holds :
    (limit : ℕ) (texts : List (List ℕ)) (w : World) (fault : Option StartFault)
    → start_fault w.sender texts ≡ fault
    → Holds limit w
    → Holds limit (begins limit fault texts w)
begins_holds limit texts w (Some fault) is h = h
begins_holds limit texts w None is h = begun_holds limit texts w h (can_start w.sender texts is)
