-- What a scanner holds of the stream that it has read.
use Rattle.std.specs.Prelude.{◌≡◌, ℕ, ◌+◌, ◌≤◌, List, [], ◌∷◌, Option, None, Some, length, if◌then◌else◌, nat_lt, ◌==◌}
use Rattle.std.specs.Prelude.{not, ⊤}
use Rattle.std.specs.List.{prefix_len}
use Rattle.lis_text.specs.Control.{STX}
use Rattle.lis_frame.specs.declared.scanner.SignalOf.{SignalOf}
use Rattle.lis_frame.specs.declared.scanner.SignalOf.TheVariants.{Enq, Eot, Good, Bad}
use Rattle.lis_frame.specs.declared.scanner.Heard.{Heard}
use Rattle.lis_frame.specs.declared.scanner.Heard.TheVariants as heards
use Rattle.lis_frame.specs.Frame.{FrameContent, IsContent}
use Rattle.lis_frame.specs.Stream.{is_mark, open_body}

-- it is outside a frame, in one within these bytes since STX, or in one beyond what any frame has
pub data Held : Type 0 where
  outside : Held
  within : List ℕ → Held
  beyond : Held

-- no more bytes than so many are held
abbrev pub HoldsAtMost : ℕ → Held → Type 0
HoldsAtMost most outside = ⊤
HoldsAtMost most (within body) = length body ≤ most
HoldsAtMost most beyond = ⊤

-- a frame body is held while a frame may have as many bytes
abbrev pub kept : ℕ → List ℕ → Held
kept limit body = if nat_lt (limit + 5) (length body) then beyond else within body

abbrev pub held_of : ℕ → Option (List ℕ) → Held
held_of limit None = outside
held_of limit (Some body) = kept limit body

-- what is held is all that is to be known of the stream, newest byte first
unfoldable pub StandsFor : ℕ → Held → List ℕ → Type 0
StandsFor limit held past = held ≡ held_of limit (open_body past)

-- how many bytes are before the next mark; and how many give no signal, where an STX that is first is read too
abbrev pub unmarked_length : List ℕ → ℕ
unmarked_length bytes = prefix_len (λ b. not (is_mark b)) bytes

abbrev pub quiet_length : List ℕ → ℕ
quiet_length [] = 0
quiet_length (b ∷ bytes) = if b == STX then unmarked_length bytes + 1 else unmarked_length (b ∷ bytes)

-- the signal that is heard with a borrowed frame
abbrev pub heard_signal : {limit : ℕ} → Option Heard → Option (SignalOf limit)
heard_signal None = None
heard_signal (Some heards.Enq) = Some Enq
heard_signal (Some heards.Eot) = Some Eot
heard_signal (Some (heards.Good frame)) = Some (Good frame)
heard_signal (Some (heards.Bad fault)) = Some (Bad fault)

-- a frame that is heard is within the limit
abbrev pub IsHeardWithin : ℕ → Heard → Type 0
IsHeardWithin limit heards.Enq = ⊤
IsHeardWithin limit heards.Eot = ⊤
IsHeardWithin limit (heards.Good frame) = IsContent limit frame
IsHeardWithin limit (heards.Bad fault) = ⊤

-- the signals that a borrowed frame is
abbrev pub borrowed_signals : {limit : ℕ} → Option FrameContent → List (SignalOf limit)
borrowed_signals None = []
borrowed_signals (Some frame) = Good frame ∷ []
