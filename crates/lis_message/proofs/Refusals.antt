-- A stream with a rejected record has no split.
use Rattle.std.proofs.Common.{◌≡◌, ◌≢◌, ℕ, ◌+◌, ◌≤◌, ⊎_elim, List, [], ◌∷◌, ◌++◌, length, Option, Some, None, refl}
use Rattle.std.proofs.Common.{sym, ◌∙◌, ap, subst, append_assoc, arith, length-append}
use Rattle.std.proofs.lemmas.List.{append-nil}
use Rattle.std.specs.Option.{option_or}
use Rattle.std.specs.Prelude.{option_map}
use Rattle.lis_record_values.specs.declared.kinds.Kind.{Kind}
use Rattle.lis_record_values.specs.declared.kinds.Kind.TheVariants as kinds
use Rattle.lis_record_write.specs.declared.writing.TheConstants.{RECORD_LIMIT}
use Rattle.lis_record_values.specs.Delimiters.{DelimiterBytes}
use Rattle.lis_record.specs.Faults.{header_fault, record_fault}
use Rattle.lis_record_values.specs.Relation.{IsRecord, declared_part}
use Rattle.lis_record_values.specs.Shape.{RecordContent}
use Rattle.lis_record.proofs.FaultLaws.{header_fault-IsRecord, record_fault-IsRecord}
use Rattle.lis_record_values.specs.declared.faults.MessageFault.{MessageFault}
use Rattle.lis_record_values.specs.declared.faults.Reason.{Reason}
use Rattle.lis_record_values.specs.declared.faults.Reason.TheVariants as reasons
use Rattle.lis_tree.specs.Begun.{Begun, level_of}
use Rattle.lis_tree.specs.Level.{misplaced}
use Rattle.lis_message.specs.Stream.{ended, kind_refusal, letter_refusal, refusal, IsSplit, IsRefused, IsRefusedText}
use Rattle.lis_message.specs.Stream.{IsLongText, LacksReturn}
use Rattle.lis_tree.specs.Tree.{MessageTree}
use Rattle.lis_message.proofs.Lines.{line_one, lines_front, longer_front, ended_cons, no_return_in}
use Rattle.lis_message.proofs.Reading.{State, Step, StepFrom, Run, start, all_texts, split_runs, split_lines, run_lacks}
use Rattle.lis_message.proofs.Reading.{run_one, run_split, step_lacks}

-- why a text that is some record can't come next is reported by its kind
pub refusal_at : (left : Option Begun) (d : DelimiterBytes) (text : List ℕ) (r : RecordContent) → IsRecord d text r
    → refusal left text ≡ kind_refusal left r.kind text
unfolding refusal
refusal_at left d text r h =
    let rest = declared_part d r.kind ++ h.fields_text in
    ap (refusal left) h.whole ∙ ap (λ k. letter_refusal left h.letter k (h.letter ∷ rest)) h.kind_is
    ∙ ap (kind_refusal left r.kind) (sym h.whole)

pub refusal-header : (text : List ℕ) → kind_refusal None kinds.H text ≡ option_map reasons.BadRecord (header_fault text)
unfolding kind_refusal
refusal-header text = refl

pub refusal-other : (b : Begun) (k : Kind) (text : List ℕ) → k ≢ kinds.H
    → kind_refusal (Some b) k text ≡ option_or (option_map reasons.BadRecord (record_fault b.delimiters text))
    (misplaced (level_of (Some b)) k)
unfolding kind_refusal
refusal-other b kinds.H text o = absurd (o refl)
refusal-other b k text o = refl

-- a text that is read is not rejected
pub read_unrefused : (ms : List MessageTree) (left : Option Begun) (t : List ℕ) (n : State) → StepFrom ms left t n
    → refusal left t ≡ None
read_unrefused ms None t n h =
    refusal_at None h.delimiters t h.header h.is
    ∙ ap (λ k. kind_refusal None k t) h.kind
    ∙ refusal-header t
    ∙ ap (option_map reasons.BadRecord) (header_fault-IsRecord h.delimiters h.good t h.header h.kind h.is)
read_unrefused ms (Some b) t n h =
    refusal_at (Some b) b.delimiters t h.entry h.is
    ∙ refusal-other b h.entry.kind t h.other
    ∙ ap (λ f. option_or (option_map reasons.BadRecord f) (misplaced (level_of (Some b)) h.entry.kind))
    (record_fault-IsRecord b.delimiters t h.entry h.other h.is)
    ∙ h.placed

-- a text that is read is short
pub read_short : (ms : List MessageTree) (left : Option Begun) (t : List ℕ) (n : State) → StepFrom ms left t n
    → length t ≤ RECORD_LIMIT
read_short ms None t n h = h.is.short
read_short ms (Some b) t n h = h.is.short

not_none_some : {X : Type 0} (o : Option X) (x : X) → o ≡ None → o ≡ Some x → ⊥
not_none_some o x n s = let e : None ≡ Some x = sym n ∙ s in cc

-- the first line of what follows lines of a stream, or what is held
long_held : (t more h : List ℕ) → t ++ more ≡ h → length t ≤ length h
long_held t more h e = omega (arith, length-append t more, ap length e)

-- the state that a split's texts lead to, with the texts after them
tail_follows : (front : List ℕ) (ms : List MessageTree) (left : Option Begun) (split : IsSplit front ms left [])
    (stream : List ℕ) (others : List MessageTree) (rest : Option Begun) (held : List ℕ)
    (c : IsSplit stream others rest held)
    → (tail : List ℕ) → stream ≡ front ++ tail
    → (zs : List (List ℕ)) × (tail ≡ ended zs ++ held)
    × Run (record { messages = ms; left = left }) zs (record { messages = others; left = rest })
tail_follows front ms left split stream others rest held c tail e =
    let xs = all_texts split.groups ++ split.texts in
    let ys = all_texts c.groups ++ c.texts in
    let here : State = record { messages = ms; left = left } in
    let end : State = record { messages = others; left = rest } in
    let run_x = split_runs front ms left [] split in
    let run_y = split_runs stream others rest held c in
    let lines : ended xs ++ tail ≡ ended ys ++ held =
    ap (λ l. l ++ tail) (sym (split_lines front ms left [] split ∙ append-nil (ended xs))) ∙ sym e
    ∙ split_lines stream others rest held c in
    let more = lines_front xs ys tail held (run_lacks start xs here run_x) (run_lacks start ys end run_y) c.lacks
    lines in
    let halves = run_split start xs more.0 end (subst (λ ts. Run start ts end) more.1 run_y) in
    let same : halves.0 ≡ here = run_one start xs halves.0 here halves.1 run_x in
    (more.0, more.2, subst (λ s. Run s more.0 end) same halves.2)

-- a text that is after a split and that a CR ends is read, where the whole has a split
ended_read : (here end : State) (zs : List (List ℕ)) (held text rest : List ℕ) → LacksReturn text → LacksReturn held
    → text ++ 13 ∷ rest ≡ ended zs ++ held → Run here zs end → (n : State) × Step here text n
ended_read here end [] held text rest l h e run = absurd (no_return_in text rest held h e)
ended_read here end (z ∷ zs) held text rest l h e run =
    let both = line_one text z rest (ended zs ++ held) l (step_lacks here z run.0 run.1) (e ∙ ended_cons z zs held) in
    (run.0, subst (λ t. Step here t run.0) (sym both.0) run.1)

-- a text that is too long is in no split
long_unread : (here end : State) (zs : List (List ℕ)) (held text more : List ℕ) → LacksReturn text
    → length held ≤ RECORD_LIMIT → length text ≡ RECORD_LIMIT + 1 → text ++ more ≡ ended zs ++ held → Run here zs end
    → ⊥
long_unread here end [] held text more l short long e run = let h = long_held text more held e in omega arith
long_unread here end (z ∷ zs) held text more l short long e run =
    let h = longer_front text more z (ended zs ++ held) l (e ∙ ended_cons z zs held) in
    let s = read_short here.messages here.left z run.0 run.1 in
    omega arith

refused_text : (here end : State) (zs : List (List ℕ)) (held text more : List ℕ) (reason : Reason) → LacksReturn text
    → LacksReturn held → IsRefusedText here.left text more reason → text ++ more ≡ ended zs ++ held → Run here zs end
    → ⊥
refused_text here end zs held text more reason l h is e run =
    let read = ended_read here end zs held text is.rest l h (ap (λ m. text ++ m) (sym is.ended_by) ∙ e) run in
    not_none_some (refusal here.left text) reason (read_unrefused here.messages here.left text read.0 read.1) is.why

-- A stream with a rejected record has no split.
pub refused_uncut : (stream : List ℕ) (messages others : List MessageTree) (fault : MessageFault)
    (left : Option Begun) (held : List ℕ) → IsRefused stream messages fault → IsSplit stream others left held → ⊥
refused_uncut stream messages others fault left held r c =
    let following = tail_follows r.front messages r.left r.split stream others left held c (r.text ++ r.more)
    (r.whole ∙ append_assoc r.front r.text r.more) in
    let here : State = record { messages = messages; left = r.left } in
    let end : State = record { messages = others; left = left } in
    ⊎_elim (λ (is : IsRefusedText r.left r.text r.more fault.reason). refused_text here end following.0 held r.text
    r.more fault.reason r.lacks c.lacks is following.1 following.2)
    (λ (is : IsLongText r.text fault.reason). long_unread here end following.0 held r.text r.more r.lacks c.short
    is.long
    following.1 following.2)
    r.refused
