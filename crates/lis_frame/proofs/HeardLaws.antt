-- What is heard as a good frame was encoded.
use Rattle.std.proofs.Common.{◌≡◌, ℕ, Bool, true, false, List, [], ◌∷◌, ◌++◌, Option, None, Some, refl, ap, sym, ◌∙◌}
use Rattle.std.proofs.Common.{subst, arith, cond, append-nil, append_assoc}
use Rattle.std.specs.Prelude.{◌==◌, ◌||◌}
use Rattle.std.proofs.lemmas.Bool.Decides.{nat_tests}
use Rattle.lis_text.specs.Control.{STX, EOT, ENQ, LF}
use Rattle.lis_frame.specs.declared.frame.FrameFault.{FrameFault}
use Rattle.lis_frame.specs.declared.scanner.SignalOf.TheVariants.{Enq, Eot, Good}
use Rattle.lis_frame.specs.Frame.{FrameContent, IsFrame}
use Rattle.lis_frame.specs.Laws.{EndsWithFrame}
use Rattle.lis_frame.specs.FrameBody.{content_of, body_fault}
use Rattle.lis_frame.specs.Stream.{look_back, open_body, signal_of_fault, read_body, ended_body, signal_after}
use Rattle.lis_frame.specs.Stream.{stream_with}
use Rattle.lis_frame.proofs.FrameLaws.{found}
use Rattle.lis_frame.proofs.StreamLaws.{stream_with-last}

-- the frame body that is found looking back: an STX and the bytes since then are the end of the stream
record IsFound (past since s : List ℕ) : Type 0 where
  earlier : List ℕ
  bytes : List ℕ
  body_is : s ≡ bytes ++ since
  past_is : past ≡ stream_with (STX ∷ earlier) bytes

found_back : (past since s : List ℕ) → look_back past since ≡ Some s → IsFound past since s
found_back [] since s e = cc
found_back (b ∷ past) since s e = by (b == STX) refl (b == EOT || b == ENQ || b == LF) e (found_back past (b ∷ since) s)
  where
    by :
        (starts : Bool) → (b == STX) ≡ starts → (stops : Bool) →
        cond starts (Some since) (cond stops None (look_back past (b ∷ since))) ≡ Some s →
        (look_back past (b ∷ since) ≡ Some s → IsFound past (b ∷ since) s) → IsFound (b ∷ past) since s
    by true starts stops e later =
        let start : b ≡ STX = grind (arith, nat_tests) in
        record { earlier = past; bytes = []; body_is = cc; past_is = ap (λ (x : ℕ). x ∷ past) start }
    by false starts true e later = cc
    by false starts false e later =
        let back = later e in
        record {
          earlier = back.earlier;
          bytes = back.bytes ++ b ∷ [];
          body_is = back.body_is ∙ sym (append_assoc back.bytes (b ∷ []) since);
          past_is =
              ap (λ (xs : List ℕ). b ∷ xs) back.past_is
              ∙ sym (stream_with-last (STX ∷ back.earlier) back.bytes b);
        }

-- a frame body that is read as a good frame has no fault, and is the frame
read_good :
    (limit : ℕ) (s : List ℕ) (frame : FrameContent) (fault : Option FrameFault) →
    signal_of_fault {limit = limit} s fault ≡ Good frame → (fault ≡ None) × (content_of s ≡ frame)
read_good limit s frame None e = (refl, cc)
read_good limit s frame (Some fault) e = cc

-- an STX, the frame body and an LF end a stream
body_ends :
    (earlier s : List ℕ) → LF ∷ stream_with (STX ∷ earlier) s ≡ stream_with earlier (STX ∷ (s ++ LF ∷ []))
body_ends earlier s = sym (stream_with-last (STX ∷ earlier) s LF)

ended_encoded :
    (limit : ℕ) (past : List ℕ) (frame : FrameContent) (body : Option (List ℕ)) → look_back past [] ≡ body →
    ended_body limit body ≡ Some (Good frame) → EndsWithFrame limit (LF ∷ past) frame
ended_encoded limit past frame None is e = cc
ended_encoded limit past frame (Some s) is e =
    let read : read_body limit s ≡ Good frame = cc in
    let good = read_good limit s frame (body_fault limit s) read in
    let back = found_back past [] s is in
    let bytes_are : back.bytes ≡ s = sym (back.body_is ∙ append-nil back.bytes) in
    record {
      earlier = back.earlier;
      bytes = STX ∷ (s ++ LF ∷ []);
      is_frame = subst (IsFrame limit (STX ∷ (s ++ LF ∷ []))) good.1 (found limit s good.0);
      stream_is =
          ap (λ (xs : List ℕ). LF ∷ xs) (back.past_is ∙ ap (stream_with (STX ∷ back.earlier)) bytes_are)
          ∙ body_ends back.earlier s;
    }

pub heard_encoded :
    (limit : ℕ) (past : List ℕ) (b : ℕ) (frame : FrameContent) → signal_after limit past b ≡ Some (Good frame) →
    EndsWithFrame limit (b ∷ past) frame
unfolding signal_after open_body
heard_encoded limit past b frame e = by (b == ENQ) (b == EOT) (b == LF) refl e
  where
    by :
        (enquiry ending line_feed : Bool) → (b == LF) ≡ line_feed →
        cond enquiry (Some Enq) (cond ending (Some Eot) (cond line_feed (ended_body limit (look_back past [])) None))
        ≡ Some (Good frame) →
        EndsWithFrame limit (b ∷ past) frame
    by true ending line_feed is e = cc
    by false true line_feed is e = cc
    by false false false is e = cc
    by false false true is e =
        let last : b ≡ LF = grind (arith, nat_tests) in
        subst (λ (x : ℕ). EndsWithFrame limit (x ∷ past) frame) (sym last)
        (ended_encoded limit past frame (look_back past []) refl e)
