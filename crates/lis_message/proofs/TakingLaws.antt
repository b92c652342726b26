-- Why a record text can't come next, in the order in which the reader finds out.
use Rattle.std.proofs.Common.{◌≡◌, ◌≢◌, ℕ, List, [], ◌∷◌, true, false, Option, Some, None, refl, ◌∙◌, ap, sym}
use Rattle.std.specs.Prelude.{option_map, is_some, unwrap_or}
use Rattle.std.specs.Option.{option_or}
use Rattle.lis_record_values.specs.declared.faults.RecordFault.{RecordFault}
use Rattle.lis_record_values.specs.declared.kinds.Kind.{Kind}
use Rattle.lis_record_values.specs.declared.kinds.Kind.TheVariants as kinds
use Rattle.lis_record.specs.Faults.{header_fault, record_fault}
use Rattle.lis_record_values.specs.Kinds.{kind_of}
use Rattle.lis_record_values.specs.Relation.{IsRecord}
use Rattle.lis_record_values.specs.Shape.{RecordContent}
use Rattle.lis_record.proofs.FaultLaws.{record_fault-IsRecord}
use Rattle.lis_record_values.specs.declared.faults.Reason.{Reason}
use Rattle.lis_record_values.specs.declared.faults.Reason.TheVariants as reasons
use Rattle.lis_tree.specs.Begun.{Begun, level_of}
use Rattle.lis_tree.specs.Level.{misplaced}
use Rattle.lis_message.specs.Stream.{kind_refusal, letter_refusal, refusal}
use Rattle.lis_message.specs.inside.Taking.{front_refusal, letter_front}
use Rattle.lis_message.proofs.Refusals.{refusal_at, refusal-header, refusal-other}

-- ---- what the letter reports

outside_letter : (letter : ℕ) (k : Option Kind) (text : List ℕ) (e : Reason) → letter_front false letter k ≡ Some e
    → letter_refusal None letter k text ≡ Some e
unfolding kind_refusal
outside_letter letter (Some kinds.H) text e h = absurd cc
outside_letter letter kind text e h = h

inside_letter : (b : Begun) (letter : ℕ) (k : Option Kind) (text : List ℕ) (e : Reason)
    → letter_front true letter k ≡ Some e → letter_refusal (Some b) letter k text ≡ Some e
unfolding kind_refusal
inside_letter b letter None text e h = h
inside_letter b letter (Some kinds.H) text e h = h
inside_letter b letter kind text e h = absurd cc

-- what the letter reports is the first reason
pub front_refused : (left : Option Begun) (text : List ℕ) (e : Reason) → front_refusal (is_some left) text ≡ Some e
    → refusal left text ≡ Some e
unfolding refusal
front_refused None [] e h = h
front_refused None (letter ∷ bytes) e h = outside_letter letter (kind_of letter) (letter ∷ bytes) e h
front_refused (Some b) [] e h = h
front_refused (Some b) (letter ∷ bytes) e h = inside_letter b letter (kind_of letter) (letter ∷ bytes) e h

-- or, where it reports none, the fault of a text that is no such record
pub first_fault : (left : Option Begun) (text : List ℕ) (front : Option Reason) (e : RecordFault)
    → front ≡ front_refusal (is_some left) text
    → (front_refusal (is_some left) text ≡ None → refusal left text ≡ Some (reasons.BadRecord e))
    → refusal left text ≡ Some (unwrap_or front (reasons.BadRecord e))
first_fault left text None e is fault = fault (sym is)
first_fault left text (Some reason) e is fault = front_refused left text reason (sym is)

outside_header : (letter : ℕ) (k : Option Kind) (text : List ℕ) → letter_front false letter k ≡ None
    → letter_refusal None letter k text ≡ kind_refusal None kinds.H text
outside_header letter (Some kinds.H) text h = refl
outside_header letter kind text h = absurd cc

-- outside a message a text that may go on is reported by a header's faults
header_reported : (text : List ℕ) → front_refusal false text ≡ None
    → refusal None text ≡ option_map reasons.BadRecord (header_fault text)
unfolding refusal
header_reported [] h = absurd cc
header_reported (letter ∷ bytes) h = outside_header letter (kind_of letter) (letter ∷ bytes) h
    ∙ refusal-header (letter ∷ bytes)

-- the kind of a text's letter, in a message
record IsInner (b : Begun) (text : List ℕ) : Type 0 where
  kind : Kind
  other : kind ≢ kinds.H
  reported : refusal (Some b) text ≡ kind_refusal (Some b) kind text

inside_kind : (b : Begun) (letter : ℕ) (k : Option Kind) (text : List ℕ) → letter_front true letter k ≡ None
    → refusal (Some b) text ≡ letter_refusal (Some b) letter k text → IsInner b text
inside_kind b letter None text h e = absurd cc
inside_kind b letter (Some kinds.H) text h e = absurd cc
inside_kind b letter (Some kinds.P) text h e = record { kind = kinds.P; other = (λ x. cc); reported = e }
inside_kind b letter (Some kinds.O) text h e = record { kind = kinds.O; other = (λ x. cc); reported = e }
inside_kind b letter (Some kinds.R) text h e = record { kind = kinds.R; other = (λ x. cc); reported = e }
inside_kind b letter (Some kinds.C) text h e = record { kind = kinds.C; other = (λ x. cc); reported = e }
inside_kind b letter (Some kinds.Q) text h e = record { kind = kinds.Q; other = (λ x. cc); reported = e }
inside_kind b letter (Some kinds.M) text h e = record { kind = kinds.M; other = (λ x. cc); reported = e }
inside_kind b letter (Some kinds.S) text h e = record { kind = kinds.S; other = (λ x. cc); reported = e }
inside_kind b letter (Some kinds.L) text h e = record { kind = kinds.L; other = (λ x. cc); reported = e }

inner_reported : (b : Begun) (text : List ℕ) → front_refusal true text ≡ None → IsInner b text
unfolding refusal
inner_reported b [] h = absurd cc
inner_reported b (letter ∷ bytes) h = inside_kind b letter (kind_of letter) (letter ∷ bytes) h refl

-- ---- what the text reports

pub header_refused : (text : List ℕ) (e : RecordFault) → front_refusal false text ≡ None → header_fault text ≡ Some e
    → refusal None text ≡ Some (reasons.BadRecord e)
header_refused text e front f = header_reported text front ∙ ap (option_map reasons.BadRecord) f

pub inner_refused : (b : Begun) (text : List ℕ) (e : RecordFault) → front_refusal true text ≡ None
    → record_fault b.delimiters text ≡ Some e → refusal (Some b) text ≡ Some (reasons.BadRecord e)
inner_refused b text e front f =
    let inner = inner_reported b text front in
    inner.reported ∙ refusal-other b inner.kind text inner.other
    ∙ ap (λ x. option_or (option_map reasons.BadRecord x) (misplaced (level_of (Some b)) inner.kind)) f

-- where the text is a record, its place is what is left to report
pub place_refused : (b : Begun) (text : List ℕ) (r : RecordContent) (reason : Reason) → IsRecord b.delimiters text r
    → r.kind ≢ kinds.H → misplaced (level_of (Some b)) r.kind ≡ Some reason
    → refusal (Some b) text ≡ Some reason
place_refused b text r reason is other m =
    refusal_at (Some b) b.delimiters text r is ∙ refusal-other b r.kind text other
    ∙ ap (λ x. option_or (option_map reasons.BadRecord x) (misplaced (level_of (Some b)) r.kind))
    (record_fault-IsRecord b.delimiters text r other is) ∙ m
