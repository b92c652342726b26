-- Hearing bytes with a limit on a text, up to the first that is not quiet.
use Rattle.std.proofs.Common.{◌≡◌, ◌≢◌, ◌≤◌, ◌<◌, ℕ, zero, suc, ◌+◌, List, [], ◌∷◌, ◌++◌, Bool, true, false}
use Rattle.std.proofs.Common.{Option, None, Some}
use Rattle.std.proofs.Common.{length, take, drop, refl, ap, sym, ◌∙◌, subst, arith, take-add}
use Rattle.std.specs.Prelude.{get_or, if◌then◌else◌}
use Rattle.lis_text.specs.Control.{NAK}
use Rattle.lis_frame.specs.Frame.{FrameContent}
use Rattle.lis_frame.specs.Stream.{signal_after, stream_with}
use Rattle.lis_frame.proofs.StreamLaws.{stream_with-append}
use Rattle.lis_link.specs.declared.receiver.Note.{Note}
use Rattle.lis_link.specs.declared.receiver.Note.TheVariants.{OutOfMemory, Quiet, TooLong}
use Rattle.lis_link.specs.declared.receiver.Step.{Step}
use Rattle.lis_link.specs.Kept.{Kept}
use Rattle.lis_link.specs.Receiver.{ReceiverHearing, ReceiverState, ReceiverStep, answers, heard_on, on_byte}
use Rattle.lis_link.specs.Receiver.{with_heard}
use Rattle.lis_link.specs.Representation.{IsIn, IsStepMade, RefusesFrame, SpareAfter}
use Rattle.lis_link.proofs.HearingLaws.{on_byte-quiet}
use Rattle.lis_c.specs.Within.{is_over, on_byte_within, on_bytes_within}
use Rattle.lis_c.specs.inside.Within.{IsHeardWithin}

-- a quiet byte changes the stream alone
quiet_byte : (limit : ℕ) (most : Option ℕ) (b : ℕ) (r : ReceiverState) → (on_byte_within limit most b r).note ≡ Quiet →
    on_byte_within limit most b r ≡ answers None Quiet (with_heard (b ∷ []) r)
quiet_byte limit most b r e = by (is_over most (signal_after limit r.past b) r) e
  where
    by : (over : Bool) →
        (if over then answers (Some NAK) TooLong (with_heard (b ∷ []) r) else on_byte limit b r).note ≡ Quiet →
        (if over then answers (Some NAK) TooLong (with_heard (b ∷ []) r) else on_byte limit b r)
        ≡ answers None Quiet (with_heard (b ∷ []) r)
    by true e = absurd cc
    by false e = on_byte-quiet limit b r e

-- so many quiet bytes, and those after them
abbrev passed : ℕ → ReceiverHearing → ReceiverHearing
passed count following = record { count = count + following.count; step = following.step }

passed-heard_on : (count : ℕ) (note : Note) (step : ReceiverStep) (following : ReceiverHearing) →
    passed count (heard_on 1 note step following) ≡ heard_on (count + 1) note step following
passed-heard_on count Quiet step following =
    ap (λ (n : ℕ). record { count = n; step = following.step }) (omega arith)
passed-heard_on count _ step following = refl

heard_on-loud : (count : ℕ) (note : Note) (step : ReceiverStep) (following : ReceiverHearing) → note ≢ Quiet →
    heard_on count note step following ≡ record { count = count; step = step }
heard_on-loud count Quiet step following loud = absurd (loud refl)
heard_on-loud count _ step following loud = refl

-- the byte at a place is the first of those from there on
pub at_place : (bytes : List ℕ) (count : ℕ) → count < length bytes →
    drop count bytes ≡ get_or bytes count 0 ∷ drop (count + 1) bytes
at_place [] count within = absurd (omega (within, arith))
at_place (b ∷ bytes) zero within = refl
at_place (b ∷ bytes) (suc count) within =
    let more : suc (count + 1) ≡ suc count + 1 = omega arith in
    at_place bytes count (omega (within, arith))
    ∙ ap (λ (n : ℕ). get_or bytes count 0 ∷ drop n (b ∷ bytes)) more

drop_all : (bytes : List ℕ) (count : ℕ) → count ≡ length bytes → drop count bytes ≡ []
drop_all [] zero all = refl
drop_all [] (suc count) all = refl
drop_all (b ∷ bytes) zero all = absurd (omega (all, arith))
drop_all (b ∷ bytes) (suc count) all = drop_all bytes count (omega (all, arith))

-- what is said of the room that there was later is true of the room before
more_spare : (spare before after : ℕ) (taken : Option FrameContent) → spare ≤ before → SpareAfter before after taken →
    SpareAfter spare after taken
more_spare spare before after None less rises = omega (arith, less, rises)
more_spare spare before after (Some frame) less rises = λ is_last. omega (arith, less, rises is_last)

more_refused : (limit spare before : ℕ) (step : ReceiverStep) (r : ReceiverState) (result : Step) (new : Kept) →
    spare ≤ before → RefusesFrame limit before step r result new → RefusesFrame limit spare step r result new
more_refused limit spare before step r result new less h = record {
  frame = h.frame;
  would_accept = h.would_accept;
  too_long = omega (arith, less, h.too_long);
  reply_is = h.reply_is;
  message_is = h.message_is;
  spare_kept = omega (arith, less, h.spare_kept);
  state = h.state;
}

-- so many bytes were heard, and each was quiet
pub record HasHeard (limit most : ℕ) (bytes : List ℕ) (r : ReceiverState) (spare count : ℕ) (kept : Kept) : Type 0
  where
    pub state : IsIn limit kept (with_heard (take count bytes) r)
    pub goes_on : on_bytes_within limit (Some most) bytes r
        ≡ passed count (on_bytes_within limit (Some most) (drop count bytes) (with_heard (take count bytes) r))
    pub spare_kept : spare ≤ kept.spare

-- and then one more
module _ (limit most : ℕ) (bytes : List ℕ) (r : ReceiverState) (spare count : ℕ) (kept : Kept) (step : Step)
    (new : Kept) where
  here : ReceiverState
  here = with_heard (take count bytes) r

  next : ReceiverState
  next = with_heard (take (count + 1) bytes) r

  meant : ReceiverStep
  meant = on_byte_within limit (Some most) (get_or bytes count 0) here

  next_is : count < length bytes → with_heard (get_or bytes count 0 ∷ []) here ≡ next
  unfolding here next
  next_is within =
      ap (λ past. record r { past = past })
      (sym (stream_with-append (take count bytes) (get_or bytes count 0 ∷ []) r.past)
      ∙ ap (λ (xs : List ℕ). stream_with r.past (take count bytes ++ xs))
      (ap (take 1) (sym (at_place bytes count within)))
      ∙ ap (stream_with r.past) (sym (take-add count 1 bytes)))

  goes_on_more : HasHeard limit most bytes r spare count kept → count < length bytes →
      on_bytes_within limit (Some most) bytes r
      ≡ heard_on (count + 1) meant.note meant (on_bytes_within limit (Some most) (drop (count + 1) bytes) next)
  unfolding here next meant
  goes_on_more heard within =
      heard.goes_on
      ∙ ap (λ (xs : List ℕ). passed count (on_bytes_within limit (Some most) xs (with_heard (take count bytes) r)))
      (at_place bytes count within)
      ∙ passed-heard_on count meant.note meant
      (on_bytes_within limit (Some most) (drop (count + 1) bytes) (with_heard (get_or bytes count 0 ∷ []) here))
      ∙ ap (λ (s : ReceiverState). heard_on (count + 1) meant.note meant
      (on_bytes_within limit (Some most) (drop (count + 1) bytes) s)) (next_is within)

  -- which is quiet too
  pub hears_more : HasHeard limit most bytes r spare count kept → count < length bytes →
      (step.note ≢ OutOfMemory → IsStepMade limit (on_byte_within limit (Some most) (get_or bytes count 0)
      (with_heard (take count bytes) r)) step new) →
      SpareAfter kept.spare new.spare (on_byte_within limit (Some most) (get_or bytes count 0)
      (with_heard (take count bytes) r)).taken →
      step.note ≡ Quiet → HasHeard limit most bytes r spare (count + 1) new
  unfolding here next meant
  hears_more heard within makes after is_quiet =
      let made = makes (λ e. cc) in
      let note_is : meant.note ≡ Quiet = sym made.answer.note_is ∙ is_quiet in
      let meant_is = quiet_byte limit (Some most) (get_or bytes count 0) here note_is in
      let after_is : meant.after ≡ next = ap (λ (s : ReceiverStep). s.after) meant_is ∙ next_is within in
      let taken_is : meant.taken ≡ None = ap (λ (s : ReceiverStep). s.taken) meant_is in
      let spare_kept : kept.spare ≤ new.spare = subst (λ t. SpareAfter kept.spare new.spare t) taken_is after in
      record {
        state = subst (λ s. IsIn limit new s) after_is made.state;
        goes_on = goes_on_more heard within
            ∙ ap (λ note. heard_on (count + 1) note meant
            (on_bytes_within limit (Some most) (drop (count + 1) bytes) next)) note_is;
        spare_kept = omega (arith, heard.spare_kept, spare_kept);
      }

  -- or which is not
  pub hears_last : HasHeard limit most bytes r spare count kept → count < length bytes →
      (step.note ≢ OutOfMemory → IsStepMade limit (on_byte_within limit (Some most) (get_or bytes count 0)
      (with_heard (take count bytes) r)) step new) →
      (step.note ≡ OutOfMemory → RefusesFrame limit kept.spare (on_byte_within limit (Some most) (get_or bytes count 0)
      (with_heard (take count bytes) r)) (with_heard (get_or bytes count 0 ∷ []) (with_heard (take count bytes) r))
      step new) →
      SpareAfter kept.spare new.spare (on_byte_within limit (Some most) (get_or bytes count 0)
      (with_heard (take count bytes) r)).taken →
      step.note ≢ Quiet → IsHeardWithin limit most bytes r spare (record { count = count + 1; step = step }) new
  unfolding here next meant
  hears_last heard within makes refuses after loud =
      let meant_loud : meant.note ≢ Quiet = λ e.
      let taken_is : meant.taken ≡ None =
      ap (λ (s : ReceiverStep). s.taken) (quiet_byte limit (Some most) (get_or bytes count 0) here e) in
      let fine : step.note ≢ OutOfMemory = λ out. let accepted = (refuses out).would_accept in cc in
      loud ((makes fine).answer.note_is ∙ e) in
      let all : on_bytes_within limit (Some most) bytes r ≡ record { count = count + 1; step = meant } =
      goes_on_more heard within ∙ heard_on-loud (count + 1) meant.note meant _ meant_loud in
      record {
        count_is = sym (ap (λ (h : ReceiverHearing). h.count) all);
        makes = λ fine. subst (λ (h : ReceiverHearing). IsStepMade limit h.step step new) (sym all) (makes fine);
        refused = λ out.
            subst (λ (h : ReceiverHearing). RefusesFrame limit spare h.step next step new) (sym all)
            (subst (λ s. RefusesFrame limit spare meant s step new) (next_is within)
            (more_refused limit spare kept.spare meant _ step new heard.spare_kept (refuses out)));
        spare_after =
            subst (λ (h : ReceiverHearing). SpareAfter spare new.spare h.step.taken) (sym all)
            (more_spare spare kept.spare new.spare meant.taken heard.spare_kept after);
      }

-- all of them are quiet
pub hears_all : (limit most : ℕ) (bytes : List ℕ) (r : ReceiverState) (spare count : ℕ) (kept : Kept) →
    HasHeard limit most bytes r spare count kept → count ≡ length bytes →
    IsHeardWithin limit most bytes r spare
    (record { count = count; step = record { reply = None; message = None; note = Quiet } }) kept
hears_all limit most bytes r spare count kept heard all =
    let quiet : Step = record { reply = None; message = None; note = Quiet } in
    let none : drop count bytes ≡ [] = drop_all bytes count all in
    let is : on_bytes_within limit (Some most) bytes r
    ≡ record { count = count; step = answers None Quiet (with_heard (take count bytes) r) } =
    heard.goes_on
    ∙ ap (λ (xs : List ℕ). passed count (on_bytes_within limit (Some most) xs (with_heard (take count bytes) r))) none
    ∙ ap (λ (n : ℕ). record { count = n; step = answers None Quiet (with_heard (take count bytes) r) })
    (omega arith) in
    record {
      count_is = sym (ap (λ (h : ReceiverHearing). h.count) is);
      makes = λ fine. subst (λ (h : ReceiverHearing). IsStepMade limit h.step quiet kept) (sym is) (record {
        answer = record { reply_is = refl; message_is = refl; note_is = refl };
        state = heard.state;
      });
      refused = λ out. absurd cc;
      spare_after = subst (λ (h : ReceiverHearing). SpareAfter spare kept.spare h.step.taken) (sym is)
          heard.spare_kept;
    }
