-- A receiver that hears the bytes of a line, step by step.
use Rattle.std.proofs.Common.{◌≡◌, ℕ, suc, ◌+◌, ◌^◌, ◌<◌, ◌≤◌, List, [], ◌∷◌, ◌++◌, Option, None, Some, Ok, Err}
use Rattle.std.proofs.Common.{length, drop, refl, sym, ◌∙◌, ap, subst, arith, append-nil, append_assoc, length-append}
use Rattle.std.proofs.Common.{Bool, true, false, length-drop, ◌≢◌, ◌*◌, inl, inr}
use Rattle.std.proofs.lemmas.Grind.{flat_map-append}
use Rattle.std.specs.Option.{option_to_list}
use Rattle.std.specs.declared.result.Result.{Result}
use Rattle.lis_capture.specs.declared.line.Line.{Line}
use Rattle.lis_capture.specs.declared.line.Line.TheVariants.{FromAnalyzer}
use Rattle.lis_link.specs.Kept.{Kept}
use Rattle.lis_link.specs.declared.receiver.Note.{Note}
use Rattle.lis_link.specs.declared.receiver.Note.TheVariants.{Quiet, OutOfMemory}
use Rattle.lis_link.specs.declared.receiver.Step.{Step}
use Rattle.lis_link.specs.Receiver.{ReceiverState, ReceiverStep, ReceiverHearing, heard_on, on_byte, on_bytes}
use Rattle.lis_link.specs.Receiver.{with_heard}
use Rattle.lis_link.specs.Representation.{IsIn, IsStepMade}
use Rattle.lis_link.proofs.HearingLaws.{on_byte-quiet}
use Rattle.lis_engine.specs.declared.fault.ToolFault.{ToolFault}
use Rattle.lis_engine.specs.declared.fault.ToolFault.TheVariants as faults
use Rattle.lis_engine.specs.Output.{Broke, IsWorking, Out, WentOn}
use Rattle.lis_engine.specs.Steps.{LineSteps}
use Rattle.lis_engine.proofs.OutputLaws.{breaks_on, nothing_put, put_on}
use Rattle.lis_run.specs.declared.playing.Playing.{Playing}
use Rattle.lis_run.specs.inside.Playing.{IsPlaying, TakesStep, playing_writes, text_part, text_parts}
use Rattle.lis_run.specs.Replay.{Played, delivered, difference_count, having_heard, played, replies, text_count}
use Rattle.lis_run.proofs.StepLaws.{broke_write}

-- a receiver, the replies that are collected, and the texts that were delivered of a line
pub record Heard : Type 0 where
  pub receiver : ReceiverState
  pub replies : List ℕ
  pub texts : List (List ℕ)

-- before the line
abbrev pub unheard : Played → Heard
unheard p = record { receiver = p.receiver; replies = p.replies; texts = [] }

-- after a step, and after bytes
abbrev pub after_step : Heard → ReceiverStep → Heard
after_step h step = record {
  receiver = step.after;
  replies = h.replies ++ option_to_list step.reply;
  texts = h.texts ++ option_to_list step.message;
}

abbrev pub after_bytes : ℕ → Heard → List ℕ → Heard
after_bytes limit h bytes = record {
  receiver = having_heard limit h.receiver bytes;
  replies = h.replies ++ replies limit h.receiver bytes;
  texts = h.texts ++ delivered limit h.receiver bytes;
}

-- after a byte that was quiet
abbrev pub quietly : ℕ → Heard → Heard
quietly b h = record { receiver = with_heard (b ∷ []) h.receiver; replies = h.replies; texts = h.texts }

-- the bytes up to the first that is not quiet are heard by one step, and those after them give the rest
heard_at_once :
    (limit : ℕ) (bytes : List ℕ) (h : Heard)
    → after_bytes limit h bytes
    ≡ after_bytes limit (after_step h (on_bytes limit bytes h.receiver).step)
    (drop (on_bytes limit bytes h.receiver).count bytes)
heard_at_once limit [] h = simp append-nil refl
heard_at_once limit (b ∷ bytes) h =
    by (on_bytes limit bytes (quietly b h).receiver) (heard_at_once limit bytes (quietly b h))
    (on_byte limit b h.receiver).note refl
  where
    one_more : (n : ℕ) → drop (1 + n) (b ∷ bytes) ≡ drop n bytes
    one_more n = let sum : 1 + n ≡ suc n = omega arith in ap (λ (k : ℕ). drop k (b ∷ bytes)) sum

    by :
        (following : ReceiverHearing)
        → after_bytes limit (quietly b h) bytes
        ≡ after_bytes limit (after_step h following.step) (drop following.count bytes)
        → (note : Note) → (on_byte limit b h.receiver).note ≡ note
        → after_bytes limit h (b ∷ bytes)
        ≡ after_bytes limit (after_step h (heard_on 1 note (on_byte limit b h.receiver) following).step)
        (drop (heard_on 1 note (on_byte limit b h.receiver) following).count (b ∷ bytes))
    by following once Quiet quiet =
        rw (on_byte-quiet limit b h.receiver quiet)
        (once ∙ ap (λ (l : List ℕ). after_bytes limit (after_step h following.step) l)
        (sym (one_more following.count)))
    by following once _ loud =
        let step = on_byte limit b h.receiver in
        rw (
          append_assoc h.replies (option_to_list step.reply) (replies limit step.after bytes),
          append_assoc h.texts (option_to_list step.message) (delivered limit step.after bytes),
        ) refl

one_message : {A : Type 0} (o : Option A) → length (option_to_list o) ≤ 1
one_message None = omega arith
one_message (Some x) = omega arith

-- while the bytes of a line are heard: the rest, heard from here, gives what all give
pub record IsHearingOn (in_lines : Bool) (limit number : ℕ) {size mode : ℕ} (p : Playing size mode) (a b : Out)
    (lines : List Line) (rest bytes : List ℕ) : Type 0 where
  pub here : Heard
  pub receiver_is : IsIn limit p.receiver here.receiver
  pub replies_are : in_lines ≡ true → p.replies.items ≡ here.replies
  pub texts_are : p.texts ≡ text_count limit lines + length here.texts
  pub differences_are : in_lines ≡ true → p.differences ≡ difference_count limit lines
  pub put : WentOn a b (text_parts in_lines number here.texts)
  pub goes_on : after_bytes limit here rest ≡ after_bytes limit (unheard (played limit lines)) bytes
  pub few : length here.texts + length rest ≤ length bytes

-- no byte was heard
pub hears_first :
    {in_lines : Bool} {limit size mode : ℕ} (number : ℕ) {p : Playing size mode} {a : Out} {lines : List Line}
    (bytes : List ℕ) → IsWorking a → IsPlaying in_lines limit p lines
    → IsHearingOn in_lines limit number p a a lines bytes bytes
hears_first {limit = limit} number {a = a} {lines = lines} bytes working playing = record {
  here = unheard (played limit lines);
  receiver_is = playing.receiver_is;
  replies_are = playing.replies_are;
  texts_are = omega (arith, playing.texts_are);
  differences_are = playing.differences_are;
  put = nothing_put a working;
  goes_on = refl;
  few = omega arith;
}

module _
    {in_lines : Bool} {limit number size mode : ℕ} {p : Playing size mode} {a b : Out} {lines : List Line}
    {rest bytes : List ℕ}
    (at : IsHearingOn in_lines limit number p a b lines rest bytes) (number_is : number ≡ length lines + 1) where
  -- the text of what was heard so far is a prefix of all
  front_of :
      (h : Heard) (left : List ℕ) → after_bytes limit h left ≡ after_bytes limit (unheard (played limit lines)) bytes
      → (playing_writes in_lines limit).line lines (FromAnalyzer bytes)
      ≡ text_parts in_lines number h.texts ++ text_parts in_lines number (delivered limit h.receiver left)
  front_of h left goes_on =
      written in_lines
      ∙ ap (λ (n : ℕ). text_parts in_lines n (delivered limit (played limit lines).receiver bytes)) (sym number_is)
      ∙ ap (λ (all : Heard). text_parts in_lines number all.texts) (sym goes_on)
      ∙ flat_map-append (text_part in_lines number) h.texts (delivered limit h.receiver left)
    where
      written : (in_lines : Bool) → (playing_writes in_lines limit).line lines (FromAnalyzer bytes)
          ≡ text_parts in_lines (length lines + 1) (delivered limit (played limit lines).receiver bytes)
      written true = refl
      written false = refl

  -- the bytes of a step
  module _
      (new : Kept) (n : ℕ) (step : Step) (n_is : n ≡ (on_bytes limit rest at.here.receiver).count)
      (made : step.note ≢ OutOfMemory → IsStepMade limit (on_bytes limit rest at.here.receiver).step step new)
      (now : Playing size mode) where
    abbrev meant : ReceiverStep
    meant = (on_bytes limit rest at.here.receiver).step

    once : after_bytes limit (after_step at.here meant) (drop n rest)
        ≡ after_bytes limit (unheard (played limit lines)) bytes
    once =
        ap (λ (k : ℕ). after_bytes limit (after_step at.here meant) (drop k rest)) n_is
        ∙ sym (heard_at_once limit rest at.here) ∙ at.goes_on

    text_with : step.note ≢ OutOfMemory
        → text_parts in_lines number at.here.texts ++ text_parts in_lines number (option_to_list step.message)
        ≡ text_parts in_lines number (after_step at.here meant).texts
    text_with heard =
        ap (λ (o : Option (List ℕ)). text_parts in_lines number at.here.texts
        ++ text_parts in_lines number (option_to_list o)) (made heard).answer.message_is
        ∙ sym (flat_map-append (text_part in_lines number) at.here.texts (option_to_list meant.message))

    -- it was taken
    pub hears_on :
        (c : Out) → TakesStep in_lines number step (record p { receiver = new }) now b c (Ok tt)
        → ((s : ReceiverState) → IsIn limit new s → IsIn limit now.receiver s) → now.differences ≡ p.differences
        → 0 < n → n ≤ length rest → text_count limit lines + length bytes ≤ 2 ^ 63
        → IsHearingOn in_lines limit number now a c lines (drop n rest) bytes
    hears_on c (inl taken) kept_on same some fits small =
        let is = (made taken.heard).answer in
        let more = length-append at.here.texts (option_to_list meant.message) in
        let one = one_message meant.message in
        record {
          here = after_step at.here meant;
          receiver_is = kept_on meant.after (made taken.heard).state;
          replies_are = λ lines.
              taken.replies_are lines ∙ ap (λ (l : List ℕ). l ++ option_to_list step.reply) (at.replies_are lines)
              ∙ ap (λ (o : Option ℕ). at.here.replies ++ option_to_list o) is.reply_is;
          texts_are =
              omega (
                arith,
                taken.texts_are,
                at.texts_are,
                ap (λ (o : Option (List ℕ)). length (option_to_list o)) is.message_is,
                more,
                one,
                at.few,
                small,
                fits,
                some,
              );
          differences_are = λ lines. same ∙ at.differences_are lines;
          put = subst (λ (t : List ℕ). WentOn a c t) (text_with taken.heard)
              (put_on a b c (Ok tt) _ _ at.put taken.put);
          goes_on = once;
          few = omega (arith, at.few, more, one, length-drop n rest, some, fits);
        }
    hears_on c (inr starved) kept_on same some fits small = absurd (not_starved starved.result_is)
      where
        not_starved : ◌≡◌ {A = Result Unit ToolFault} (Ok tt) (Err faults.OutOfMemory) → ⊥
        not_starved is = cc

    -- it was not
    pub hears_stops :
        (c : Out) (fault : ToolFault) → TakesStep in_lines number step (record p { receiver = new }) now b c (Err fault)
        → LineSteps true (IsPlaying in_lines limit now (FromAnalyzer bytes ∷ lines)) a c
        ((playing_writes in_lines limit).line lines (FromAnalyzer bytes)) (Err fault)
    hears_stops c fault (inl taken) =
        let broke : Broke a c fault ((playing_writes in_lines limit).line lines (FromAnalyzer bytes)) =
        rw (front_of (after_step at.here meant) (drop n rest) once)
        (breaks_on a c fault _ _
        (subst (λ (t : List ℕ). Broke a c fault t) (text_with taken.heard)
        (put_on a b c (Err fault) _ _ at.put taken.put))) in
        rw (broke_write a c fault _ broke).1 (rw (broke_write a c fault _ broke).1 at broke)
    hears_stops c fault (inr starved) =
        rw (fault_is starved.result_is) (
          refl,
          text_parts in_lines number at.here.texts,
          text_parts in_lines number (delivered limit at.here.receiver rest),
          front_of at.here rest at.goes_on,
          rw starved.unchanged at.put,
        )
      where
        fault_is : ◌≡◌ {A = Result Unit ToolFault} (Err fault) (Err faults.OutOfMemory) → fault ≡ faults.OutOfMemory
        fault_is is = cc

  -- no byte of the line is left
  pub all_heard :
      length rest ≡ 0 → length bytes ≤ 2047 → text_count limit lines ≤ 2047 * length lines
      → LineSteps true (IsPlaying in_lines limit p (FromAnalyzer bytes ∷ lines)) a b
      ((playing_writes in_lines limit).line lines (FromAnalyzer bytes)) (Ok tt)
  all_heard none short few =
      let is = by rest none at.goes_on in (
        subst (λ (t : List ℕ). WentOn a b t) (ap (λ (h : Heard). text_parts in_lines number h.texts) is
            ∙ sym (front_of (unheard (played limit lines)) bytes refl)) at.put,
        record {
          receiver_is = subst (λ (h : Heard). IsIn limit p.receiver h.receiver) is at.receiver_is;
          replies_are = λ lines. at.replies_are lines ∙ ap (λ (h : Heard). h.replies) is;
          texts_are = omega (arith, at.texts_are, ap (λ (h : Heard). length h.texts) is);
          differences_are = at.differences_are;
          few = omega (arith, at.few, few, short, ap (λ (h : Heard). length h.texts) is);
        },
      )
    where
      by : (rest : List ℕ) → length rest ≡ 0
          → after_bytes limit at.here rest ≡ after_bytes limit (unheard (played limit lines)) bytes
          → at.here ≡ after_bytes limit (unheard (played limit lines)) bytes
      by [] none goes_on = rw (append-nil, append-nil) at goes_on
      by (x ∷ rest) none goes_on = cc
