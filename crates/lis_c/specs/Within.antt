-- What a receiver's caller may set: a limit on a text, below that of the library, and room that lasts.
use Rattle.std.specs.Prelude.{◌≡◌, ℕ, ◌≤◌, ◌+◌, ◌%◌, ◌∷◌, [], List, Bool, true, false, Option, None, Some, length}
use Rattle.std.specs.Prelude.{nat_lt, if◌then◌else◌, ◌==◌, ◌&&◌}
use Rattle.lis_text.specs.Control.{NAK}
use Rattle.lis_frame.specs.declared.scanner.SignalOf.{SignalOf}
use Rattle.lis_frame.specs.declared.scanner.SignalOf.TheVariants.{Good}
use Rattle.lis_frame.specs.Stream.{signal_after}
use Rattle.lis_link.specs.declared.receiver.Note.TheVariants.{Quiet, TooLong}
use Rattle.lis_text.specs.LinkText.{longest_text}
use Rattle.lis_link.specs.Receiver.{ReceiverHearing, ReceiverState, ReceiverStep, answers, held_length, on_byte}
use Rattle.lis_link.specs.Receiver.{heard_on, on_bytes, with_heard}
use Rattle.lis_c.specs.Limits.{NewReceiver, spare_of}
use Rattle.lis_c.specs.declared.handle_state.ReceiverHandleState.{ReceiverHandleState}

-- the next frame of an open line, with which its text would have more bytes than so many
abbrev pub is_over : {limit : ℕ} → Option ℕ → Option (SignalOf limit) → ReceiverState → Bool
is_over (Some most) (Some (Good frame)) r =
    r.is_open && (frame.number == (length r.accepted + 1) % 8 && nat_lt most (held_length r + length frame.text))
is_over most signal r = false

-- it is answered NAK and not taken; all else is heard as without the limit
abbrev pub on_byte_within : (limit : ℕ) → Option ℕ → ℕ → ReceiverState → ReceiverStep
on_byte_within limit most b r =
    if is_over most (signal_after limit r.past b) r then answers (Some NAK) TooLong (record r { past = b ∷ r.past })
    else on_byte limit b r

-- bytes are heard up to the first that is not quiet, and all of them where each is quiet
abbrev pub on_bytes_within : (limit : ℕ) → Option ℕ → List ℕ → ReceiverState → ReceiverHearing
on_bytes_within limit None bytes r = on_bytes limit bytes r
on_bytes_within limit (Some most) [] r = record { count = 0; step = answers None Quiet r }
on_bytes_within limit (Some most) (b ∷ bytes) r =
    heard_on 1 (on_byte_within limit (Some most) b r).note (on_byte_within limit (Some most) b r)
    (on_bytes_within limit (Some most) bytes (with_heard (b ∷ []) r))

-- no limit is set and no room reserved
abbrev pub HasNoLimit : ReceiverHandleState → Type 0
HasNoLimit state = (state.most ≡ None) × (state.reserved ≡ 0)

-- a new receiver, which has delivered no text and heard no noise
abbrev pub NewReceiverState : ℕ → ReceiverHandleState → Type 0
NewReceiverState limit state =
    NewReceiver limit state.receiver × (state.text ≡ []) × HasNoLimit state × (state.noise ≡ 0)

-- both stay, and whether the receiver hears carefully
abbrev pub KeepsLimits : ReceiverHandleState → ReceiverHandleState → Type 0
KeepsLimits old new = (new.most ≡ old.most) × (new.reserved ≡ old.reserved) × (new.careful ≡ old.careful)

-- after a text there is the room that was reserved, unless memory ran out for it
abbrev pub HasReserved : Bool → ReceiverHandleState → Type 0
HasReserved has_text new =
    has_text ≡ true → new.lacks_room ≡ false → new.reserved ≤ longest_text → new.reserved ≤ spare_of new.receiver
