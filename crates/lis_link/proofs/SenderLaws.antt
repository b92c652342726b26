-- How a sender's queue and its count go on together, and what it sends.
use Rattle.std.proofs.Common.{◌≡◌, ℕ, zero, suc, ◌+◌, ◌<◌, ◌≤◌, List, [], ◌∷◌, length, drop}
use Rattle.std.proofs.Common.{None, Some, refl, sym, ap, ◌∙◌, subst, arith}
use Rattle.std.specs.Prelude.{All}
use Rattle.std.proofs.lemmas.List.{drop-drop}
use Rattle.lis_frame.specs.Frame.{FrameContent}
use Rattle.lis_frame.specs.Limit.{IsLimit}
use Rattle.lis_frame.specs.Pieces.{session_frames}
use Rattle.lis_link.specs.declared.sender.Phase.{Phase}
use Rattle.lis_link.specs.declared.sender.Phase.TheVariants.{Neutral, AwaitLine}
use Rattle.lis_link.specs.Sender.{first_frame}
use Rattle.lis_link.specs.Queue.{Queue, IsSender}
use Rattle.lis_link.proofs.Counting.{few-session_frames}
use Rattle.lis_link.proofs.StartLaws.{Faultless, texts-faultless}

pub started_sender :
    (limit : ℕ) (queue : Queue) (texts : List (List ℕ))
    → IsLimit limit
    → All Faultless texts
    → length texts ≤ 65536
    → queue.texts ≡ texts
    → queue.left ≡ session_frames limit texts
    → IsSender limit (Some queue) 0 AwaitLine 0
started_sender limit queue texts is_limit faultless few texts_are left_is = record {
  is_limit = is_limit;
  represents = left_is ∙ ap (session_frames limit) (sym texts_are);
  few = subst (λ ts. length (session_frames limit ts) < 4294967295) (sym texts_are)
      (few-session_frames limit texts is_limit (texts-faultless texts faultless) few);
  fits = refl;
  few_tries = omega arith;
}

pub advanced_sender :
    (limit : ℕ) (queue next : Queue) (acknowledged : ℕ) (phase : Phase) (tries : ℕ)
    → IsSender limit (Some queue) acknowledged phase tries
    → acknowledged < length (session_frames limit queue.texts)
    → next.texts ≡ queue.texts
    → next.left ≡ drop 1 queue.left
    → IsSender limit (Some next) (acknowledged + 1) Neutral tries
advanced_sender limit queue next acknowledged phase tries h below texts_are left_is =
    let frames = session_frames limit queue.texts in
    let same : length (session_frames limit next.texts) ≡ length frames =
    ap (λ ts. length (session_frames limit ts)) texts_are in
    let few = h.few in
    record {
      is_limit = h.is_limit;
      represents =
          left_is ∙ ap (drop 1) h.represents ∙ drop-drop 1 acknowledged frames
          ∙ ap (λ ts. drop (acknowledged + 1) (session_frames limit ts)) (sym texts_are);
      few = omega arith;
      fits = tt;
      few_tries = h.few_tries;
    }

first-below :
    (n : ℕ) (frames : List FrameContent) (frame : FrameContent)
    → first_frame (drop n frames) ≡ Some frame
    → n < length frames
first-below zero [] frame some = absurd (cc)
first-below (suc n) [] frame some = absurd (cc)
first-below zero (other ∷ frames) frame some = omega arith
first-below (suc n) (other ∷ frames) frame some =
    let below = first-below n frames frame some in
    omega arith

-- what is sent, by the first frame that is left: nothing of a frame where none is
pub none_left :
    {A : Type 0} (f : List FrameContent → A) (frames : List FrameContent)
    → first_frame frames ≡ None
    → f frames ≡ f []
none_left f [] none = refl
none_left f (frame ∷ frames) none = absurd (cc)
