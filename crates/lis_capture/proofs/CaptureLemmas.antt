-- The lines of a stream that goes on.
use Rattle.std.proofs.Common.{◌≡◌, ℕ, suc, ◌<◌, ◌≤◌, ◌==◌, not, Bool, true, false, List, [], ◌∷◌, ◌++◌, None, length}
use Rattle.std.proofs.Common.{length-take, slice_index, take, refl, sym, ◌∙◌, ap, subst, arith, append-nil}
use Rattle.std.proofs.Common.{append_assoc, if◌then◌else◌}
use Rattle.std.proofs.lemmas.List.{get_or-take}
use Rattle.std.proofs.lemmas.Bool.{ltb-true, lt-ltb}
use Rattle.std.proofs.lemmas.Bool.Decides.{nat_tests}
use Rattle.std.proofs.Common.{length-append}
use Rattle.lis_text.specs.Control.{LF}
use Rattle.lis_frame.specs.Stream.{stream_with}
use Rattle.lis_capture.specs.declared.line.Line.{Line}
use Rattle.lis_capture.specs.Line.{longest_line, line_of, said, without_return}
use Rattle.lis_capture.specs.Capture.{Lines, begun, ended_lines, with_said, lines_with_next, read_lines, capture}
use Rattle.lis_capture.specs.Capture.{version_of}
use Rattle.lis_capture.specs.inside.Reader.{is_long}
use Rattle.lis_frame.proofs.StreamLaws.{stream_with-append}

-- ---- bytes that end no line

-- none of them is an LF
abbrev pub has_end : List ℕ → Bool
has_end [] = false
has_end (b ∷ text) = if b == LF then true else has_end text

begun_by : (test : Bool) (past text : List ℕ) (b : ℕ) → test ≡ false
    → (if test then [] else begun past ++ b ∷ []) ++ text ≡ begun past ++ b ∷ text
begun_by test past text b e = rw e (append_assoc (begun past) (b ∷ []) text)

same_end : (test : Bool) (rest : Bool) → (if test then true else rest) ≡ false → (test ≡ false) × (rest ≡ false)
same_end true rest e = cc
same_end false rest e = (refl, e)

pub begun-within : (past text : List ℕ) → has_end text ≡ false → begun (stream_with past text) ≡ begun past ++ text
begun-within past [] none = sym (append-nil (begun past))
begun-within past (b ∷ text) none =
    let parts = same_end (b == LF) (has_end text) none in
    begun-within (b ∷ past) text parts.1 ∙ begun_by (b == LF) past text b parts.0

pub ended_lines-within : (past text : List ℕ) → has_end text ≡ false
    → ended_lines (stream_with past text) ≡ ended_lines past
ended_lines-within past [] none = refl
ended_lines-within past (b ∷ text) none =
    let parts = same_end (b == LF) (has_end text) none in
    ended_lines-within (b ∷ past) text parts.1
    ∙ ap (λ (t : Bool). if t then begun past ∷ ended_lines past else ended_lines past) parts.0

-- ---- where no line is rejected

-- a text that is too long is rejected, whatever it is
refused_long : (refused : Bool) (lines : List Line) (text : List ℕ) → is_long text ≡ true
    → lines_with_next refused lines text ≡ record { lines = lines; refused = true }
refused_long true lines text long = refl
refused_long false lines text long =
    ap (λ (l : Bool). with_said lines (if l then None else said (version_of lines) (without_return text))) long

-- the lines with the one that is begun, where it counts
abbrev with_begun : Bool → List ℕ → List (List ℕ) → Lines
with_begun counted text texts = read_lines (if counted then text ∷ texts else texts)

-- the line that is begun isn't too long, and the ended lines are those of the capture
pub short_here : (past : List ℕ) (long : Bool) → is_long (begun past) ≡ long → (capture past false).refused ≡ false
    → long ≡ false
short_here past false is fine = refl
short_here past true is fine =
    let all : (read_lines (begun past ∷ ended_lines past)).refused ≡ false =
    subst (λ (t : Bool). (with_begun t (begun past) (ended_lines past)).refused ≡ false) is fine in
    sym (ap (λ (r : Lines). r.refused)
    (refused_long (read_lines (ended_lines past)).refused (read_lines (ended_lines past)).lines (begun past) is))
    ∙ all

pub capture_here : (past : List ℕ) → (capture past false).refused ≡ false
    → capture past false ≡ read_lines (ended_lines past)
capture_here past fine =
    ap (λ (t : Bool). read_lines (if t then begun past ∷ ended_lines past else ended_lines past))
    (short_here past (is_long (begun past)) refl fine)

-- the lines with one more text
abbrev pub with_text : Lines → List ℕ → Lines
with_text read text = with_said read.lines (line_of (version_of read.lines) text)

next_here : (read : Lines) (text : List ℕ) → read.refused ≡ false
    → lines_with_next read.refused read.lines text ≡ with_text read text
next_here read text fine = rw fine refl

-- the lines and the text after them
read_more : (past text : List ℕ) → (capture past false).refused ≡ false
    → read_lines (text ∷ ended_lines past) ≡ with_text (capture past false) text
read_more past text fine =
    let here = capture_here past fine in
    next_here (read_lines (ended_lines past)) text (ap (λ (r : Lines). r.refused) (sym here) ∙ fine)
    ∙ ap (λ (r : Lines). with_text r text) (sym here)

-- bytes and an LF end a line
pub capture-ended :
    (past text : List ℕ) → (capture past false).refused ≡ false → has_end text ≡ false
    → capture (stream_with past (text ++ LF ∷ [])) false ≡ with_text (capture past false) (begun past ++ text)
capture-ended past text fine none =
    ap (λ (s : List ℕ). capture s false) (stream_with-append text (LF ∷ []) past)
    ∙ ap (λ (l : List ℕ). read_lines (l ∷ ended_lines (stream_with past text))) (begun-within past text none)
    ∙ ap (λ (l : List (List ℕ)). read_lines ((begun past ++ text) ∷ l)) (ended_lines-within past text none)
    ∙ read_more past (begun past ++ text) fine

pub begun-ended : (past text : List ℕ) → begun (stream_with past (text ++ LF ∷ [])) ≡ []
begun-ended past text = ap begun (stream_with-append text (LF ∷ []) past)

-- and the end ends one that has a byte
pub capture-last :
    (past : List ℕ) → (capture past false).refused ≡ false → (length (begun past) == 0) ≡ false
    → capture past true ≡ with_text (capture past false) (begun past)
capture-last past fine some =
    ap (λ (t : Bool). read_lines (if not t then begun past ∷ ended_lines past else ended_lines past)) some
    ∙ read_more past (begun past) fine

-- bytes with no LF
lines-within :
    (past text : List ℕ) → has_end text ≡ false
    → capture (stream_with past text) false
    ≡ read_lines (if is_long (begun past ++ text) then (begun past ++ text) ∷ ended_lines past else ended_lines past)
lines-within past text none =
    ap (λ (l : List ℕ). read_lines
    (if is_long l then l ∷ ended_lines (stream_with past text) else ended_lines (stream_with past text)))
    (begun-within past text none)
    ∙ ap (λ (e : List (List ℕ)). read_lines (if is_long (begun past ++ text) then (begun past ++ text) ∷ e else e))
    (ended_lines-within past text none)

pub capture-within :
    (past text : List ℕ) → (capture past false).refused ≡ false → has_end text ≡ false
    → is_long (begun past ++ text) ≡ false
    → capture (stream_with past text) false ≡ capture past false
capture-within past text fine none short =
    lines-within past text none
    ∙ ap (λ (t : Bool). read_lines (if t then (begun past ++ text) ∷ ended_lines past else ended_lines past)) short
    ∙ sym (capture_here past fine)

-- a text that is too long says nothing
pub line_of-long : (read : Lines) (text : List ℕ) → is_long text ≡ true → line_of (version_of read.lines) text ≡ None
line_of-long read text long =
    ap (λ (l : Bool). if l then None else said (version_of read.lines) (without_return text)) long

pub capture-long :
    (past text : List ℕ) → (capture past false).refused ≡ false → has_end text ≡ false
    → is_long (begun past ++ text) ≡ true
    → capture (stream_with past text) false ≡ with_said (capture past false).lines None
capture-long past text fine none long =
    lines-within past text none
    ∙ ap (λ (t : Bool). read_lines (if t then (begun past ++ text) ∷ ended_lines past else ended_lines past)) long
    ∙ read_more past (begun past ++ text) fine
    ∙ ap (with_said (capture past false).lines) (line_of-long (capture past false) (begun past ++ text) long)

-- ---- where the first LF is

test_false : (t rest : Bool) → (t ≡ true → ⊥) → rest ≡ false → (if t then true else rest) ≡ false
test_false true rest never later = absurd (never refl)
test_false false rest never later = later

pub has_end-none : (text : List ℕ) → ((k : ℕ) → k < length text → (slice_index text k == LF) ≡ true → ⊥)
    → has_end text ≡ false
has_end-none [] none = refl
has_end-none (b ∷ text) none =
    test_false (b == LF) (has_end text) (none 0 (omega arith))
    (has_end-none text (λ k inside. none (suc k) (omega arith)))

pub has_end-before :
    (bytes : List ℕ) (place : ℕ) → place ≤ length bytes
    → ((k : ℕ) → 0 ≤ k → k < place → (slice_index bytes k == LF) ≡ true → ⊥)
    → has_end (take place bytes) ≡ false
has_end-before bytes place fits none =
    has_end-none (take place bytes) (λ k inside is.
    let below : k < place = omega (arith, length-take place bytes) in
    none k (omega arith) below (rw (get_or-take place bytes k 0 below) at is))

-- ---- where a line is rejected

-- a text after a rejected one is passed over
refused_stays : (read : Lines) (text : List ℕ) → read.refused ≡ true → lines_with_next read.refused read.lines text
    ≡ read
refused_stays read text refused =
    ap (λ (r : Bool). lines_with_next r read.lines text) refused
    ∙ ap (λ (r : Bool). let all : Lines = record { lines = read.lines; refused = r } in all) (sym refused)

refused_begun :
    (counted : Bool) (text : List ℕ) (texts : List (List ℕ)) → (read_lines texts).refused ≡ true
    → with_begun counted text texts ≡ read_lines texts
refused_begun true text texts refused = refused_stays (read_lines texts) text refused
refused_begun false text texts refused = refl

long_more : (text : List ℕ) (b : ℕ) → is_long text ≡ true → is_long (text ++ b ∷ []) ≡ true
long_more text b long =
    lt-ltb longest_line (length (text ++ b ∷ []))
    (omega (arith, ltb-true longest_line (length text) long, length-append text (b ∷ [])))

-- a byte more, whether it ends the line or not
abbrev following : Bool → ℕ → List ℕ → List (List ℕ) → Lines
following ends b text texts =
    let begun_then : List ℕ = if ends then [] else text ++ b ∷ [] in
    with_begun (is_long begun_then) begun_then (if ends then text ∷ texts else texts)

refused_byte :
    (long ends : Bool) (b : ℕ) (text : List ℕ) (texts : List (List ℕ)) → is_long text ≡ long
    → (with_begun long text texts).refused ≡ true
    → following ends b text texts ≡ with_begun long text texts
refused_byte true true b text texts is refused = refl
refused_byte true false b text texts is refused =
    let longer = long_more text b is in
    ap (λ (l : Bool). with_begun l (text ++ b ∷ []) texts) longer
    ∙ refused_long (read_lines texts).refused (read_lines texts).lines (text ++ b ∷ []) longer
    ∙ sym (refused_long (read_lines texts).refused (read_lines texts).lines text is)
refused_byte false true b text texts is refused = refused_stays (read_lines texts) text refused
refused_byte false false b text texts is refused =
    refused_begun (is_long (text ++ b ∷ [])) (text ++ b ∷ []) texts refused

refused_bytes : (past bytes : List ℕ) → (capture past false).refused ≡ true
    → capture (stream_with past bytes) false ≡ capture past false
refused_bytes past [] refused = refl
refused_bytes past (b ∷ bytes) refused =
    let once : capture (b ∷ past) false ≡ capture past false =
    refused_byte (is_long (begun past)) (b == LF) b (begun past) (ended_lines past) refl refused in
    refused_bytes (b ∷ past) bytes (ap (λ (r : Lines). r.refused) once ∙ refused) ∙ once

-- the end of the input
long_counts : (text : List ℕ) → is_long text ≡ true → not (length text == 0) ≡ true
long_counts text long =
    let some : 0 < length text = omega (arith, ltb-true longest_line (length text) long) in
    grind (arith, nat_tests)

refused_at_end :
    (long : Bool) (text : List ℕ) (texts : List (List ℕ)) → is_long text ≡ long
    → (with_begun long text texts).refused ≡ true
    → with_begun (not (length text == 0)) text texts ≡ with_begun long text texts
refused_at_end true text texts is refused = ap (λ (t : Bool). with_begun t text texts) (long_counts text is)
refused_at_end false text texts is refused = refused_begun (not (length text == 0)) text texts refused

refused_end : (past : List ℕ) (ended : Bool) → (capture past false).refused ≡ true
    → capture past ended ≡ capture past false
refused_end past true refused = refused_at_end (is_long (begun past)) (begun past) (ended_lines past) refl refused
refused_end past false refused = refl

-- whatever follows a rejected line, nothing more is carried out
pub capture-refused :
    (past bytes : List ℕ) (ended : Bool) → (capture past false).refused ≡ true
    → capture (stream_with past bytes) ended ≡ capture past false
capture-refused past bytes ended refused =
    let all = refused_bytes past bytes refused in
    refused_end (stream_with past bytes) ended (ap (λ (r : Lines). r.refused) all ∙ refused) ∙ all
