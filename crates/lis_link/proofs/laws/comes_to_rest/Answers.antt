use Rattle.std.proofs.Common.{◌≡◌, ℕ, refl}
use Rattle.lis_link.specs.declared.sender.Phase.{Phase}
use Rattle.lis_link.specs.declared.sender.Phase.TheVariants.{Neutral, AwaitLine, Busy, Contention, AwaitReply}
use Rattle.lis_link.specs.Sender.{SenderState, on_sender_timer, timer_in, restart_in}
use Rattle.lis_link.proofs.laws.comes_to_rest.Goals as goal

restarted : (phase : Phase) (s : SenderState) → s.phase ≡ phase → (restart_in phase s).phase ≡ Neutral
restarted Neutral s e = e
restarted AwaitLine s e = refl
restarted Busy s e = refl
restarted Contention s e = refl
restarted AwaitReply s e = refl

rests : (limit : ℕ) (phase : Phase) (s : SenderState) → s.phase ≡ phase → phase ≡ Neutral →
    (timer_in {limit = limit} phase s).after.phase ≡ Neutral
rests limit Neutral s e h = e
rests limit AwaitLine s e h = cc
rests limit Busy s e h = cc
rests limit Contention s e h = cc
rests limit AwaitReply s e h = cc

timed : (limit : ℕ) (phase : Phase) (s : SenderState) → s.phase ≡ phase →
    (on_sender_timer {limit = limit} (timer_in {limit = limit} phase s).after).after.phase ≡ Neutral
timed limit Neutral s e = rests limit s.phase s refl e
timed limit AwaitLine s e = refl
timed limit Busy s e = refl
timed limit Contention s e = refl
timed limit AwaitReply s e = refl

pub returns : goal.returns
returns c = λ limit s. (restarted s.phase s refl, timed limit s.phase s refl)
