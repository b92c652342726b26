-- When a record or a field is rejected, and what a call that writes answers.
use Rattle.std.proofs.Common.{◌≡◌, ℕ, ◌+◌, ◌-◌, ◌<◌, ◌≤◌, Bool, true, false, cond, ltb, List, [], ◌∷◌, length, take}
use Rattle.std.proofs.Common.{drop, Option, Some, None, option_map, Result, Ok, Err, refl, sym, ap, ◌∙◌, subst}
use Rattle.std.proofs.Common.{length-append, arith, inl, inr, zero-add, zero-le}
use Rattle.std.specs.Prelude.{◌↔◌, ◌≢◌, not}
use Rattle.std.proofs.lemmas.Bool.{cases_lt, lt-ltb}
use Rattle.std.proofs.lemmas.List.{drop-take, length-drop}
use Rattle.std.specs.Option.{option_or}
use Rattle.lis_record_write.specs.declared.faults.WriteFault.{WriteFault}
use Rattle.lis_record_write.specs.declared.faults.WriteFault.TheVariants as write_faults
use Rattle.lis_record_values.specs.Delimiters.{DelimiterBytes}
use Rattle.lis_record_write.specs.WriteFaults.{bad_field_number, check_fault, field_char_fault, field_fault}
use Rattle.lis_record_write.specs.WriteFaults.{is_text_field}
use Rattle.lis_record_write.specs.WriteFaults.{long_fault}
use Rattle.lis_record_values.specs.Shape.{RecordContent, Repeats}
use Rattle.lis_record_write.specs.Encoding.{encoded, encoded_field, written}
use Rattle.lis_record_write.specs.Writing.{Wrote, WroteAny, is_io}
use Rattle.lis_record_write.specs.inside.Writing.{SentOn}
use Rattle.lis_record_values.proofs.FirstFaults.{ltb-past, ltb_decides}
use Rattle.lis_record_values.proofs.FirstFaults.{option_or-none}
use Rattle.lis_record_values.proofs.FirstFaults.{none_cond}
use Rattle.lis_record_write.proofs.Sinks.{Keeps-same}
use Rattle.lis_record_values.specs.Text.{record_limit}

-- ---- an encoding that is too long

long_fault-past : (text : List ℕ) → record_limit < length text → long_fault text ≡ Some write_faults.TooLong
long_fault-past text h = rw (lt-ltb record_limit (length text) h) refl

long_fault-within : (text : List ℕ) → length text ≤ record_limit → long_fault text ≡ None
long_fault-within text h = rw (ltb-past record_limit (length text) h) refl

within-long_fault : (text : List ℕ) → long_fault text ≡ None → length text ≤ record_limit
within-long_fault text h =
    let test = none_cond (ltb record_limit (length text)) write_faults.TooLong h in
    elim (ltb_decides record_limit (length text)) [ inl past ↦ cc (test, past.0) | inr within ↦ within.1 ]

-- ---- why a record is rejected

pub check_fault-char : (d : DelimiterBytes) (content : RecordContent) (number : ℕ)
    → bad_field_number content ≡ Some number → check_fault d content ≡ Some (write_faults.CharNotText number)
unfolding check_fault
check_fault-char d content number h =
    ap (λ (o : Option ℕ). option_or (option_map write_faults.CharNotText o) (long_fault (encoded d content))) h

pub check_fault-long : (d : DelimiterBytes) (content : RecordContent) → bad_field_number content ≡ None
    → record_limit < length (encoded d content) → check_fault d content ≡ Some write_faults.TooLong
unfolding check_fault
check_fault-long d content h long =
    ap (λ (o : Option ℕ). option_or (option_map write_faults.CharNotText o) (long_fault (encoded d content))) h
    ∙ long_fault-past (encoded d content) long

pub check_fault-none : (d : DelimiterBytes) (content : RecordContent) → bad_field_number content ≡ None
    → length (encoded d content) ≤ record_limit → check_fault d content ≡ None
unfolding check_fault
check_fault-none d content h short =
    ap (λ (o : Option ℕ). option_or (option_map write_faults.CharNotText o) (long_fault (encoded d content))) h
    ∙ long_fault-within (encoded d content) short

pub short-check_fault : (d : DelimiterBytes) (content : RecordContent) → check_fault d content ≡ None
    → length (encoded d content) ≤ record_limit
unfolding check_fault
short-check_fault d content h =
    within-long_fault (encoded d content) (option_or-none
    (option_map write_faults.CharNotText (bad_field_number content)) (long_fault (encoded d content)) h).1

-- a rejection is never a failure of the sink
no_io : (n : Option ℕ) (long : Bool) (count : ℕ)
    → option_or (option_map write_faults.CharNotText n) (cond long (Some write_faults.TooLong) None)
    ≡ Some (write_faults.Io count) → ⊥
no_io (Some number) long count h = cc
no_io None true count h = cc
no_io None false count h = cc

check_fault-io : (d : DelimiterBytes) (content : RecordContent) (count : ℕ)
    → check_fault d content ≡ Some (write_faults.Io count) → ⊥
unfolding check_fault
check_fault-io d content count h = no_io (bad_field_number content) (ltb record_limit (length (encoded d content)))
    count h

-- ---- what is answered

-- a record that is rejected, and a sink that was left alone
pub Wrote-refused : (d : DelimiterBytes) (content : RecordContent) (fault : WriteFault) (skip : ℕ) (bytes : List ℕ)
    (old : Option (List ℕ)) → check_fault d content ≡ Some fault
    → Wrote (check_fault d content) skip bytes old old (Err fault)
Wrote-refused d content (write_faults.CharNotText number) skip bytes old h = (h, Keeps-same old)
Wrote-refused d content write_faults.TooLong skip bytes old h = (h, Keeps-same old)
Wrote-refused d content (write_faults.Io count) skip bytes old h = absurd (check_fault-io d content count h)

pub is_io-refused : (d : DelimiterBytes) (content : RecordContent) (fault : WriteFault)
    → check_fault d content ≡ Some fault → false ≡ is_io (Err fault)
is_io-refused d content (write_faults.CharNotText number) h = refl
is_io-refused d content write_faults.TooLong h = refl
is_io-refused d content (write_faults.Io count) h = absurd (check_fault-io d content count h)

-- what the engine sent of a text that is no longer than a record and its CR
pub Wrote-sent : (refusal : Option WriteFault) (skip : ℕ) (bytes rest : List ℕ) (old new : Option (List ℕ))
    (r : Result Unit WriteFault) → refusal ≡ None → skip ≤ length bytes → length bytes ≤ record_limit + 1
    → rest ≡ drop skip bytes → SentOn skip rest old new r → Wrote refusal skip bytes old new r
Wrote-sent refusal skip bytes rest old new (Ok tt) none within short is sent = (none, rw is at sent)
Wrote-sent refusal skip bytes rest old new (Err (write_faults.CharNotText number)) none within short is sent =
    absurd sent
Wrote-sent refusal skip bytes rest old new (Err write_faults.TooLong) none within short is sent = absurd sent
Wrote-sent refusal skip bytes rest old new (Err (write_faults.Io reported)) none within short is
    (count, is_reported, less, taken) =
    let size : length rest ≡ length bytes - skip = ap length is ∙ length-drop skip bytes in
    let exact : reported ≡ skip + count = omega (arith, size) in
    let part : drop skip (take reported bytes) ≡ take count rest =
    ap (λ (k : ℕ). drop skip (take k bytes)) exact ∙ drop-take skip count bytes ∙ ap (take count) (sym is) in
    (none, omega arith, omega (arith, size), rw part taken)

-- ---- the test of a length

pub within_true : (b : Bool) (whole bytes : List ℕ) → (b ≡ true ↔ length whole ≤ record_limit) → whole ≡ bytes
    → b ≡ true → length bytes ≤ record_limit
within_true b whole bytes reports same h = rw same at (reports.0 h)

pub within_false : (b : Bool) (whole bytes : List ℕ) → (b ≡ true ↔ length whole ≤ record_limit) → whole ≡ bytes
    → b ≡ false → record_limit < length bytes
within_false b whole bytes reports same h =
    elim (cases_lt record_limit (length bytes)) [
      | inl past ↦ past
      | inr within ↦ let yes : b ≡ true = reports.1 (rw same within) in cc
    ]

-- the encoding of a record that isn't rejected, and CR
pub short-written : (d : DelimiterBytes) (content : RecordContent) → check_fault d content ≡ None
    → length (written d content) ≤ record_limit + 1
short-written d content h =
    let size = length-append (encoded d content) (13 ∷ []) in
    let short = short-check_fault d content h in
    omega (arith, size)

-- ---- fields

pub field_char_fault-text : (repeats : Repeats) → is_text_field repeats ≡ true → field_char_fault repeats ≡ None
unfolding field_char_fault
field_char_fault-text repeats h = rw h refl

pub field_char_fault-other : (repeats : Repeats) → is_text_field repeats ≡ false
    → field_char_fault repeats ≡ Some (write_faults.CharNotText 0)
unfolding field_char_fault
field_char_fault-other repeats h = rw h refl

pub field_fault-other : (d : DelimiterBytes) (repeats : Repeats) → is_text_field repeats ≡ false
    → field_fault d repeats ≡ Some (write_faults.CharNotText 0)
unfolding field_fault
field_fault-other d repeats h = ap (λ o. option_or o (long_fault (encoded_field d repeats)))
    (field_char_fault-other repeats h)

pub field_fault-long : (d : DelimiterBytes) (repeats : Repeats) → is_text_field repeats ≡ true
    → record_limit < length (encoded_field d repeats) → field_fault d repeats ≡ Some write_faults.TooLong
unfolding field_fault
field_fault-long d repeats h long = ap (λ o. option_or o (long_fault (encoded_field d repeats)))
    (field_char_fault-text repeats h) ∙ long_fault-past (encoded_field d repeats) long

pub field_fault-none : (d : DelimiterBytes) (repeats : Repeats) → is_text_field repeats ≡ true
    → length (encoded_field d repeats) ≤ record_limit → field_fault d repeats ≡ None
unfolding field_fault
field_fault-none d repeats h short = ap (λ o. option_or o (long_fault (encoded_field d repeats)))
    (field_char_fault-text repeats h) ∙ long_fault-within (encoded_field d repeats) short

-- what the engine sent of bytes of any number
pub WroteAny-sent : (refusal : Option WriteFault) (bytes rest : List ℕ) (old new : Option (List ℕ))
    (r : Result Unit WriteFault) → refusal ≡ None → rest ≡ bytes → SentOn 0 rest old new r
    → WroteAny refusal bytes old new r
WroteAny-sent refusal bytes rest old new (Ok tt) none is sent = (none, rw is at sent)
WroteAny-sent refusal bytes rest old new (Err (write_faults.CharNotText number)) none is sent = absurd sent
WroteAny-sent refusal bytes rest old new (Err write_faults.TooLong) none is sent = absurd sent
WroteAny-sent refusal bytes rest old new (Err (write_faults.Io reported)) none is (count, is_reported, less, taken) =
    (none, count, rw zero-add at is_reported, rw is at less, rw is at taken)

-- of bytes within the limit of a record the count is exact
pub Wrote-any : (refusal : Option WriteFault) (bytes : List ℕ) (old new : Option (List ℕ))
    (r : Result Unit WriteFault) (weaker : Option WriteFault) → refusal ≡ None → weaker ≡ None
    → length bytes ≤ record_limit
    → WroteAny weaker bytes old new r → Wrote refusal 0 bytes old new r
Wrote-any refusal bytes old new (Ok tt) weaker none weak short h = (none, h.1)
Wrote-any refusal bytes old new (Err (write_faults.Io reported)) weaker none weak short
    (_, count, is_reported, less, taken) =
    let exact : reported ≡ count = omega arith in
    (none, zero-le, rw exact less, rw exact taken)
Wrote-any refusal bytes old new (Err (write_faults.CharNotText number)) weaker none weak short h =
    let e : None ≡ Some (write_faults.CharNotText number) = sym weak ∙ h.0 in cc
Wrote-any refusal bytes old new (Err write_faults.TooLong) weaker none weak short h =
    let e : None ≡ Some write_faults.TooLong = sym weak ∙ h.0 in cc

-- what was put of bytes that aren't rejected for their length is what is written of them
fits_unless_long : (bytes : List ℕ) → long_fault bytes ≢ Some write_faults.TooLong → length bytes ≤ record_limit
fits_unless_long bytes short =
    elim (cases_lt record_limit (length bytes)) [
      | inl past ↦ absurd (short (long_fault-past bytes past))
      | inr within ↦ within
    ]

Wrote-put : (refusal : Option WriteFault) (bytes : List ℕ) (old new : Option (List ℕ)) (r : Result Unit WriteFault)
    → option_or refusal (long_fault bytes) ≢ Some write_faults.TooLong → WroteAny refusal bytes old new r
    → Wrote (option_or refusal (long_fault bytes)) 0 bytes old new r
Wrote-put None bytes old new r short h =
    let fits = fits_unless_long bytes short in
    Wrote-any (long_fault bytes) bytes old new r None (long_fault-within bytes fits) refl fits h
Wrote-put (Some fault) bytes old new (Ok tt) short h = let e : Some fault ≡ None = h.0 in cc
Wrote-put (Some fault) bytes old new (Err (write_faults.Io reported)) short h = let e : Some fault ≡ None = h.0 in cc
Wrote-put (Some fault) bytes old new (Err (write_faults.CharNotText number)) short h = h
Wrote-put (Some fault) bytes old new (Err write_faults.TooLong) short h = h

pub Wrote-field : (d : DelimiterBytes) (repeats : Repeats) (old new : Option (List ℕ)) (r : Result Unit WriteFault)
    → field_fault d repeats ≢ Some write_faults.TooLong
    → WroteAny (field_char_fault repeats) (encoded_field d repeats) old new r
    → Wrote (field_fault d repeats) 0 (encoded_field d repeats) old new r
unfolding field_fault
Wrote-field d repeats old new r short h =
    Wrote-put (field_char_fault repeats) (encoded_field d repeats) old new r short h

-- the test of a field's length says whether it is rejected for that
pub too_long_reported : (within : Bool) (d : DelimiterBytes) (repeats : Repeats) (whole : List ℕ)
    → is_text_field repeats ≡ true → (within ≡ true ↔ length whole ≤ record_limit) → whole ≡ encoded_field d repeats
    → not within ≡ true ↔ field_fault d repeats ≡ Some write_faults.TooLong
too_long_reported true d repeats whole text reports same = (
  λ long. cc,
  λ long. let none = field_fault-none d repeats text (within_true true whole _ reports same refl) in cc,
)
too_long_reported false d repeats whole text reports same =
    (λ _. field_fault-long d repeats text (within_false false whole _ reports same refl), λ _. refl)

-- bytes that are equal to those that were written
pub WroteAny-same : (bytes text : List ℕ) (old new : Option (List ℕ)) (r : Result Unit WriteFault) → bytes ≡ text
    → WroteAny None text old new r → WroteAny None bytes old new r
WroteAny-same bytes text old new r is wrote = subst (λ (l : List ℕ). WroteAny None l old new r) (sym is) wrote
