-- Bytes without a mark between STX and LF that are no frame are heard as one bad frame, whatever came before them.
use Rattle.std.proofs.Common.{◌≡◌, ℕ, false, List, [], ◌∷◌, ◌++◌, None, Some, refl, ap, ◌∙◌, arith}
use Rattle.std.specs.Prelude.{All}
use Rattle.std.proofs.lemmas.Bool.Decides.{nat_tests}
use Rattle.std.proofs.lemmas.List.{append-nil}
use Rattle.std.proofs.lemmas.List.Elements.{All-head, All-tail}
use Rattle.lis_text.specs.Control.{STX, LF}
use Rattle.lis_frame.specs.declared.frame.FrameFault.{FrameFault}
use Rattle.lis_frame.specs.declared.scanner.SignalOf.TheVariants.{Bad}
use Rattle.lis_frame.specs.FrameBody.{body_fault}
use Rattle.lis_frame.specs.Stream.{is_mark, look_back, open_body, signal_after, signals_after, stream_with}

abbrev pub AreInner : List ℕ → Type 0
AreInner xs = All (λ b. is_mark b ≡ false) xs

inner_is_silent : (limit : ℕ) (past : List ℕ) (b : ℕ) → is_mark b ≡ false → signal_after limit past b ≡ None
unfolding signal_after
inner_is_silent limit past b inner = grind (arith, nat_tests)

signals-inner :
    (limit : ℕ) (past xs ys : List ℕ)
    → AreInner xs
    → signals_after limit past (xs ++ ys) ≡ signals_after limit (stream_with past xs) ys
signals-inner limit past [] ys inner = refl
signals-inner limit past (x ∷ xs) ys inner =
    let here = All-head (λ b. is_mark b ≡ false) x xs inner in
    let later = All-tail (λ b. is_mark b ≡ false) x xs inner in
    rw (inner_is_silent limit past x here) (signals-inner limit (x ∷ past) xs ys later)

look_back-mark : (past since : List ℕ) (b : ℕ) → is_mark b ≡ false
    → look_back (b ∷ past) since ≡ look_back past (b ∷ since)
look_back-mark past since b inner = grind (arith, nat_tests)

look_back-inner : (past xs since : List ℕ) → AreInner xs
    → look_back (stream_with past xs) since ≡ look_back past (xs ++ since)
look_back-inner past [] since inner = refl
look_back-inner past (x ∷ xs) since inner =
    let here = All-head (λ b. is_mark b ≡ false) x xs inner in
    let later = All-tail (λ b. is_mark b ≡ false) x xs inner in
    look_back-inner (x ∷ past) xs since later ∙ look_back-mark past (xs ++ since) x here

-- a frame body of bytes without a mark that is no frame is heard as that, after any stream
pub signals-bad_body :
    (limit : ℕ) (past body : List ℕ) (fault : FrameFault)
    → AreInner body
    → body_fault limit body ≡ Some fault
    → signals_after limit past (STX ∷ (body ++ LF ∷ [])) ≡ Bad fault ∷ []
unfolding signal_after open_body
signals-bad_body limit past body fault inner bad =
    let found : look_back (stream_with (STX ∷ past) body) [] ≡ Some body =
    look_back-inner (STX ∷ past) body [] inner ∙ ap Some (append-nil body) in
    signals-inner limit (STX ∷ past) body (LF ∷ []) inner ∙ rw (found, bad) refl
