-- A capture that is taken line by line.
use Rattle.std.proofs.Common.{◌≡◌, ℕ, ◌+◌, ◌≤◌, ◌<◌, ◌^◌, ◌==◌, min, Bool, true, false, List, [], ◌∷◌, ◌++◌, Option}
use Rattle.std.proofs.Common.{None, Some, Ok, Err, length, take, drop, refl, sym, ◌∙◌, ap, subst, arith}
use Rattle.std.proofs.Common.{append-nil, append_assoc, length-append, if◌then◌else◌}
use Rattle.std.proofs.lemmas.Bool.{eqb-true, ltb-true}
use Rattle.std.specs.declared.result.Result.{Result}
use Rattle.lis_text.specs.Control.{LF}
use Rattle.lis_frame.specs.Stream.{stream_with}
use Rattle.lis_capture.specs.declared.line.Line.{Line}
use Rattle.lis_capture.specs.declared.reader.LineFound.{LineFound}
use Rattle.lis_capture.specs.declared.reader.LineFound.TheVariants as found
use Rattle.lis_capture.specs.Line.{longest_line, line_of}
use Rattle.lis_capture.specs.Capture.{Lines, begun, capture, counts, ended_lines, lines_of, lines_with_next, read_lines}
use Rattle.lis_capture.specs.Capture.{number_of, version_of, with_said}
use Rattle.lis_capture.specs.Reader.{HasRead, Known, Reading, found_lines, known_of}
use Rattle.lis_capture.specs.inside.Reader.{is_long}
use Rattle.lis_capture.proofs.CaptureLemmas.{capture-ended, capture-long, capture-refused, capture-within, has_end}
use Rattle.lis_engine.specs.declared.fault.ToolFault.{ToolFault}
use Rattle.lis_engine.specs.declared.fault.ToolFault.TheVariants.{CaptureLine, Read, Write, OutOfMemory, TooManyReads}
use Rattle.lis_report.specs.Answers.{Report, Outcome}
use Rattle.lis_run.specs.LineOutcome.{IsLined, Writes, capture_outcome, lines_outcome, lines_text}
use Rattle.lis_engine.specs.Steps.{LineEnds, LineSteps, Ends, Puts}
use Rattle.lis_engine.specs.Outcome.{whole}
use Rattle.lis_engine.specs.Output.{IsWorking, Out, WentOn}
use Rattle.lis_engine.proofs.OutputLaws.{nothing_put, put_on}
use Rattle.lis_run.proofs.ShowLaws.{front_stream}
use Rattle.lis_run.proofs.StepLaws.{broke_stops}

-- ---- lines are no more than bytes

ended-few : (past : List ℕ) → length (ended_lines past) + length (begun past) ≤ length past
ended-few [] = omega arith
ended-few (b ∷ past) = by_end (b == LF) b past (ended-few past)
  where
    by_end :
        (t : Bool) (b : ℕ) (past : List ℕ) → length (ended_lines past) + length (begun past) ≤ length past
        → length (if t then begun past ∷ ended_lines past else ended_lines past)
        + length (if t then [] else begun past ++ b ∷ []) ≤ length (b ∷ past)
    by_end true b past few = omega (arith, few)
    by_end false b past few = omega (arith, few, length-append (begun past) (b ∷ []))

-- one for a rejected line
abbrev one_refused : Bool → ℕ
one_refused true = 1
one_refused false = 0

read-few : (texts : List (List ℕ)) → length (read_lines texts).lines + one_refused (read_lines texts).refused
    ≤ length texts
read-few [] = omega arith
read-few (text ∷ texts) =
    let one_more = next (read_lines texts).refused (read_lines texts).lines text (length texts) (read-few texts) in
    let joined : length (read_lines (text ∷ texts)).lines + one_refused (read_lines (text ∷ texts)).refused
    ≤ length texts + 1 = one_more in
    omega (arith, joined)
  where
    said : (lines : List Line) (line : Option Line) (n : ℕ) → length lines ≤ n
        → length (with_said lines line).lines + one_refused (with_said lines line).refused ≤ n + 1
    said lines None n few = omega (arith, few)
    said lines (Some line) n few = omega (arith, few)

    next :
        (refused : Bool) (lines : List Line) (text : List ℕ) (n : ℕ) → length lines + one_refused refused ≤ n
        → length (lines_with_next refused lines text).lines + one_refused (lines_with_next refused lines text).refused ≤
        n + 1
    next true lines text n few = omega (arith, few)
    next false lines text n few = said lines (line_of (version_of lines) text) n (omega (arith, few))

counts-some : (ended : Bool) (text : List ℕ) → counts ended text ≡ true → 0 < length text
counts-some true [] is = cc
counts-some true (b ∷ text) is = omega arith
counts-some false text is = omega (arith, ltb-true longest_line (length text) is)

lines_of-few : (past : List ℕ) (ended : Bool) → length (lines_of past ended) ≤ length past
lines_of-few past ended = by_counts (counts ended (begun past)) refl
  where
    by_counts : (t : Bool) → counts ended (begun past) ≡ t
        → length (if t then begun past ∷ ended_lines past else ended_lines past) ≤ length past
    by_counts true is = omega (arith, ended-few past, counts-some ended (begun past) is)
    by_counts false is = omega (arith, ended-few past)

pub lines-few : (past : List ℕ) (ended : Bool)
    → length (capture past ended).lines + one_refused (capture past ended).refused ≤ length past
lines-few past ended = omega (arith, read-few (lines_of past ended), lines_of-few past ended)

pub stream-length : (past xs : List ℕ) → length (stream_with past xs) ≡ length past + length xs
stream-length past [] = omega arith
stream-length past (b ∷ xs) = omega (arith, stream-length (b ∷ past) xs)

-- ---- further bytes add to the text

pub record Longer (w : Writes) (before after : List Line) : Type 0 where
  pub tail : List ℕ
  pub joined : lines_text w after ≡ lines_text w before ++ tail

same_text : (w : Writes) (before after : List Line) → after ≡ before → Longer w before after
same_text w before after is = record {
  tail = [];
  joined =
      ap (lines_text w) is ∙ sym (append-nil (lines_text w before));
}

said_longer : (w : Writes) (lines : List Line) (line : Option Line) → Longer w lines (with_said lines line).lines
said_longer w lines None = same_text w lines lines refl
said_longer w lines (Some line) = record { tail = w.line lines line; joined = refl }

byte_longer : (w : Writes) (b : ℕ) (past : List ℕ)
    → Longer w (capture past false).lines (capture (b ∷ past) false).lines
byte_longer w b past = by_refused (capture past false).refused refl
  where
    by_long :
        (long : Bool) → is_long (begun past ++ b ∷ []) ≡ long → (capture past false).refused ≡ false
        → has_end (b ∷ []) ≡ false
        → Longer w (capture past false).lines (capture (b ∷ past) false).lines
    by_long true long fine none =
        same_text w _ _ (ap (λ (r : Lines). r.lines) (capture-long past (b ∷ []) fine none long))
    by_long false long fine none = same_text w _ _
        (ap (λ (r : Lines). r.lines) (capture-within past (b ∷ []) fine none long))

    by_end : (t : Bool) → (b == LF) ≡ t → (capture past false).refused ≡ false
        → Longer w (capture past false).lines (capture (b ∷ past) false).lines
    by_end true is fine =
        let line = line_of (version_of (capture past false).lines) (begun past ++ []) in
        let ended : capture (LF ∷ past) false ≡ with_said (capture past false).lines line =
        capture-ended past [] fine refl in
        subst (λ (x : ℕ). Longer w (capture past false).lines (capture (x ∷ past) false).lines) (sym (eqb-true b LF is))
        (subst (λ (r : Lines). Longer w (capture past false).lines r.lines) (sym ended)
        (said_longer w (capture past false).lines line))
    by_end false is fine =
        by_long (is_long (begun past ++ b ∷ [])) refl fine (ap (λ (t : Bool). if t then true else false) is)

    by_refused : (refused : Bool) → (capture past false).refused ≡ refused
        → Longer w (capture past false).lines (capture (b ∷ past) false).lines
    by_refused true refused =
        same_text w _ _ (ap (λ (r : Lines). r.lines) (capture-refused past (b ∷ []) false refused))
    by_refused false fine = by_end (b == LF) refl fine

longer_then : (w : Writes) (a b c : List Line) → Longer w a b → Longer w b c → Longer w a c
longer_then w a b c first second =
    record {
      tail = first.tail ++ second.tail;
      joined =
          second.joined ∙ ap (λ (t : List ℕ). t ++ second.tail) first.joined
          ∙ append_assoc (lines_text w a) first.tail second.tail;
    }

pub lines_longer : (w : Writes) (past bytes : List ℕ)
    → Longer w (capture past false).lines (capture (stream_with past bytes) false).lines
lines_longer w past [] = same_text w _ _ refl
lines_longer w past (b ∷ bytes) =
    longer_then w (capture past false).lines (capture (b ∷ past) false).lines _ (byte_longer w b past)
    (lines_longer w (b ∷ past) bytes)

text_is-lines : (w : Writes) (refused ended : Bool) (lines : List Line)
    → (lines_outcome w refused ended lines).text ≡ lines_text w lines
text_is-lines w true ended lines = refl
text_is-lines w false true lines = refl
text_is-lines w false false lines = refl

-- ---- while bytes are read

-- bytes were read up to the rest, and no line of them is rejected; their text was put
pub record IsAt
    (w : Writes) (represents : List Line → Type 0) (reader : Reading) (old here : Out) (text rest all : List ℕ)
    : Type 0 where
  pub read : List ℕ
  pub has_read : HasRead reader read
  pub fine : (capture read false).refused ≡ false
  pub represented : represents (capture read false).lines
  pub joined : stream_with read rest ≡ all
  pub few : length read + length rest < 2 ^ 44
  pub more : List ℕ
  pub put : WentOn old here more
  pub text_is : text ++ more ≡ lines_text w (capture read false).lines

pub at_start :
    {w : Writes} {represents : List Line → Type 0} {reader : Reading} {old : Out} {past text : List ℕ}
    (bytes : List ℕ)
    → IsWorking old → IsLined w represents reader past text → length past + length bytes < 2 ^ 44
    → IsAt w represents reader old old text bytes (stream_with (stream_with [] past) bytes)
at_start {old = old} {past} {text} bytes working lined few =
    record {
      read = stream_with [] past;
      has_read = lined.has_read;
      fine = lined.fine;
      represented = lined.represented;
      joined = refl;
      few = omega (arith, few, stream-length [] past);
      more = [];
      put = nothing_put old working;
      text_is = append-nil text ∙ lined.text_is;
    }

-- the same, where nothing has changed
pub kept :
    {w : Writes} {S : Type 0} (represents : S → List Line → Type 0) {self now : S} {reader next : Reading}
    {old here there : Out} {text rest all : List ℕ}
    → (now ≡ self) × (next ≡ reader) × (there ≡ here)
    → IsAt w (represents self) reader old here text rest all → IsAt w (represents now) next old there text rest all
kept represents (self_is, reader_is, out_is) at = rw (self_is, reader_is, out_is) at

-- all was read
pub at_end_of :
    {w : Writes} {represents : List Line → Type 0} {reader : Reading} {old here : Out} {text : List ℕ}
    (rest given : List ℕ)
    → IsAt w represents reader old here text rest (stream_with [] given) → length rest ≡ 0
    → Puts (IsLined w represents reader given) old here text
at_end_of {w} {represents} {reader} [] given at none =
    record {
      more = at.more;
      put = at.put;
      following = record {
        has_read = subst (HasRead reader) at.joined at.has_read;
        fine = subst (λ (s : List ℕ). (capture s false).refused ≡ false) at.joined at.fine;
        represented = subst (λ (s : List ℕ). represents (capture s false).lines) at.joined at.represented;
        text_is = at.text_is ∙ ap (λ (s : List ℕ). lines_text w (capture s false).lines) at.joined;
      };
    }
at_end_of (b ∷ rest) given at none = cc

-- ---- a line is looked for

-- It was looked for after lines whose text was put, and these are the lines now. The text of this outcome begins with
-- theirs, and where the last is rejected it is all of it.
pub record IsFound
    (w : Writes) (represents : List Line → Type 0) (next : Known) (result : LineFound) (old here : Out)
    (text : List ℕ) (before there : Lines) (o : Outcome) : Type 0 where
  pub fine : before.refused ≡ false
  pub represented : represents before.lines
  pub more : List ℕ
  pub put : WentOn old here more
  pub text_is : text ++ more ≡ lines_text w before.lines
  pub there_is : there ≡ found_lines before result next.line
  pub known_is : next ≡ known_of there
  pub few : length there.lines + one_refused there.refused < 2 ^ 44
  pub tail : List ℕ
  pub begins : o.text ≡ lines_text w there.lines ++ tail
  pub rejects : there.refused ≡ true → o ≡ lines_outcome w true true there.lines

-- the lines now were all taken, and their text was put
pub record AreTaken (w : Writes) (represents : List Line → Type 0) (old here : Out) (text : List ℕ) (there : Lines)
    : Type 0 where
  pub lines : List Line
  pub there_is : there ≡ record { lines = lines; refused = false }
  pub few : length lines < 2 ^ 44
  pub represented : represents lines
  pub more : List ℕ
  pub put : WentOn old here more
  pub text_is : text ++ more ≡ lines_text w lines

module _
    {w : Writes} {represents : List Line → Type 0} {next : Known} {result : LineFound} {old here : Out}
    {text : List ℕ} {before there : Lines} {o : Outcome}
    (f : IsFound w represents next result old here text before there o) where
  found_as : {kind : LineFound} → result ≡ kind → there ≡ found_lines before kind next.line
  found_as is = f.there_is ∙ ap (λ (k : LineFound). found_lines before k next.line) is

  few_are : (lines : List Line) (refused : Bool) → there ≡ record { lines = lines; refused = refused }
      → length lines + one_refused refused < 2 ^ 44
  few_are lines refused is = subst (λ (r : Lines). length r.lines + one_refused r.refused < 2 ^ 44) is f.few

  number_is : (lines : List Line) (refused : Bool) → there ≡ record { lines = lines; refused = refused }
      → next.number ≡ number_of (record { lines = lines; refused = refused })
  number_is lines refused is =
      by_refused refused (few_are lines refused is)
      (ap (λ (k : Known). k.number) f.known_is ∙ ap (λ (r : Lines). (known_of r).number) is)
    where
      by_refused : (refused : Bool) → length lines + one_refused refused < 2 ^ 44
          → next.number ≡ min (number_of (record { lines = lines; refused = refused })) 18446744073709551615
          → next.number ≡ number_of (record { lines = lines; refused = refused })
      by_refused true few known = omega (arith, few, known)
      by_refused false few known = omega (arith, few, known)

  -- it is rejected
  pub line_rejected :
      (memory : Bool) (fault : ToolFault) → result ≡ found.Refused → fault ≡ CaptureLine next.number
      → Ends memory (λ x. x ≡ o) old here text (Err fault)
  line_rejected memory fault is fault_is =
      let outcome_is = f.rejects (ap (λ (r : Lines). r.refused) (found_as is)) in
      let lines_are = ap (λ (r : Lines). r.lines) (found_as is) in
      rw fault_is
      (record {
        more = f.more;
        put = f.put;
        following = (
          o,
          refl,
          ap (λ (x : Outcome). x.halt) outcome_is
              ∙ ap (λ (n : ℕ). let r : Option (Result Report ToolFault) = Some (Err (CaptureLine n)) in r)
              (ap (λ (ls : List Line). length ls + 1) lines_are ∙ sym (number_is before.lines true (found_as is))),
          ap (λ (x : Outcome). x.text) outcome_is ∙ ap (lines_text w) lines_are ∙ sym f.text_is,
        );
      })

  -- there is none
  pub nothing_found : result ≡ found.Nothing → AreTaken w represents old here text there
  nothing_found is =
      let there_is : there ≡ record { lines = before.lines; refused = false } =
      found_as is ∙ ap (λ (b : Bool). let r : Lines = record { lines = before.lines; refused = b } in r) f.fine in
      record {
        lines = before.lines;
        there_is = there_is;
        few = omega (arith, few_are before.lines false there_is);
        represented = f.represented;
        more = f.more;
        put = f.put;
        text_is = f.text_is;
      }

  module _ (is : result ≡ found.Line) where
    -- what is known of it by its number
    by_number :
        {P : List Line → Type 0} → ((lines : List Line) → represents lines → next.number ≡ length lines + 1
        → next.number < 2 ^ 44 → P lines)
        → P before.lines
    by_number known =
        let lines = next.line ∷ before.lines in
        let number = number_is lines false (found_as is) in
        let few = few_are lines false (found_as is) in
        known before.lines f.represented (omega (arith, number)) (omega (arith, number, few))

    -- it was taken
    pub line_taken :
        {now : List Line → Type 0} {c : Out}
        → ((lines : List Line) → represents lines → next.number ≡ length lines + 1 → next.number < 2 ^ 44
        → WentOn here c (w.line lines next.line) × now (next.line ∷ lines))
        → AreTaken w now old c text there
    line_taken {c = c} steps =
        let line = w.line before.lines next.line in
        record {
          lines = next.line ∷ before.lines;
          there_is = found_as is;
          few = omega (arith, few_are (next.line ∷ before.lines) false (found_as is));
          represented = (by_number steps).1;
          more = f.more ++ line;
          put = put_on old here c (Ok tt) f.more line f.put (by_number steps).0;
          text_is = sym (append_assoc text f.more line) ∙ ap (λ (t : List ℕ). t ++ line) f.text_is;
        }

    text_there : o.text ≡ ((text ++ f.more) ++ w.line before.lines next.line) ++ f.tail
    text_there =
        f.begins
        ∙ ap (λ (t : List ℕ). t ++ f.tail)
        (ap (λ (r : Lines). lines_text w r.lines) (found_as is)
        ∙ ap (λ (t : List ℕ). t ++ w.line before.lines next.line) (sym f.text_is))

    line_ends :
        (memory : Bool) (c : Out) (P : Type 0) (fault : ToolFault)
        → LineSteps memory P here c (w.line before.lines next.line) (Err fault)
        → Ends memory (λ x. x ≡ o) old c text (Err fault)
    line_ends memory c P (Write written) broke = record {
      outcome = o;
      meant = refl;
      more = f.more ++ w.line before.lines next.line;
      rest = f.tail ++ o.closing;
      joined =
          ap (λ (t : List ℕ). t ++ o.closing) text_there
          ∙ regroup text f.more (w.line before.lines next.line) f.tail o.closing;
      broke = put_on old here c (Err (Write written)) f.more (w.line before.lines next.line) f.put broke;
    }
      where
        regroup : (a b c d e : List ℕ) → (((a ++ b) ++ c) ++ d) ++ e ≡ a ++ (b ++ c) ++ (d ++ e)
        regroup a b c d e = simp append_assoc
    line_ends memory c P OutOfMemory (wants, more, rest, joined, went) = record {
      more = f.more ++ more;
      put = put_on old here c (Ok tt) f.more more f.put went;
      following = (
        o,
        refl,
        rest ++ f.tail,
        text_there ∙ ap (λ (t : List ℕ). ((text ++ f.more) ++ t) ++ f.tail) joined
            ∙ regroup text f.more more rest f.tail,
        wants,
      );
    }
      where
        regroup : (a b c d e : List ℕ) → ((a ++ b) ++ (c ++ d)) ++ e ≡ (a ++ (b ++ c)) ++ (d ++ e)
        regroup a b c d e = simp append_assoc
    line_ends memory c P (CaptureLine line) steps = absurd steps
    line_ends memory c P Read steps = absurd steps
    line_ends memory c P TooManyReads steps = absurd steps

    -- the run stops in it
    pub line_stops :
        (memory : Bool) (now : List Line → Type 0) (c : Out) (fault : ToolFault)
        → ((lines : List Line) → represents lines → next.number ≡ length lines + 1 → next.number < 2 ^ 44
        → LineSteps memory (now (next.line ∷ lines)) here c (w.line lines next.line) (Err fault))
        → Ends memory (λ x. x ≡ o) old c text (Err fault)
    line_stops memory now c fault steps =
        line_ends memory c (now (next.line ∷ before.lines)) fault (by_number steps)

-- ---- in further bytes

module _
    {w : Writes} {represents : List Line → Type 0} {reader : Reading} {old here : Out}
    {text rest all : List ℕ} (at : IsAt w represents reader old here text rest all)
    (next : Reading) (count : ℕ)
    (reads : (read : List ℕ) → HasRead reader read → HasRead next (stream_with read (take count rest))) where
  all_is : stream_with (stream_with at.read (take count rest)) (drop count rest) ≡ all
  all_is = front_stream count at.read rest ∙ at.joined

  few_there : length (stream_with at.read (take count rest)) + length (drop count rest) < 2 ^ 44
  few_there =
      let same = ap length (front_stream count at.read rest) in
      omega (
        arith,
        same,
        at.few,
        stream-length at.read rest,
        stream-length (stream_with at.read (take count rest))
            (drop count rest),
      )

  -- a rejected line is the last
  rejects_there : (capture (stream_with at.read (take count rest)) false).refused ≡ true
      → capture_outcome w all false
      ≡ lines_outcome w true true (capture (stream_with at.read (take count rest)) false).lines
  rejects_there is =
      let stays : capture all false ≡ capture (stream_with at.read (take count rest)) false =
      ap (λ (s : List ℕ). capture s false) (sym all_is)
      ∙ capture-refused (stream_with at.read (take count rest)) (drop count rest) false is in
      ap (λ (r : Lines). lines_outcome w r.refused false r.lines) stays
      ∙ ap (λ (b : Bool). lines_outcome w b false (capture (stream_with at.read (take count rest)) false).lines) is

  pub found_on :
      (result : LineFound)
      → ((read : List ℕ) → HasRead reader read → capture (stream_with read (take count rest)) false
      ≡ found_lines (capture read false) result next.known.line)
      → IsFound w represents next.known result old here text (capture at.read false)
      (capture (stream_with at.read (take count rest)) false) (capture_outcome w all false)
  found_on result finds =
      let longer = lines_longer w (stream_with at.read (take count rest)) (drop count rest) in
      record {
        fine = at.fine;
        represented = at.represented;
        more = at.more;
        put = at.put;
        text_is = at.text_is;
        there_is = finds at.read at.has_read;
        known_is = (reads at.read at.has_read).known_is;
        few = omega (arith, few_there, lines-few (stream_with at.read (take count rest)) false);
        tail = longer.tail;
        begins =
            text_is-lines w (capture all false).refused false (capture all false).lines
            ∙ ap (λ (s : List ℕ). lines_text w (capture s false).lines) (sym all_is) ∙ longer.joined;
        rejects = rejects_there;
      }

  taken_on : {now : List Line → Type 0} {c : Out}
      → AreTaken w now old c text (capture (stream_with at.read (take count rest)) false)
      → IsAt w now next old c text (drop count rest) all
  taken_on {now} taken =
      record {
        read = stream_with at.read (take count rest);
        has_read = reads at.read at.has_read;
        fine = ap (λ (r : Lines). r.refused) taken.there_is;
        represented = subst (λ (r : Lines). now r.lines) (sym taken.there_is) taken.represented;
        joined = all_is;
        few = few_there;
        more = taken.more;
        put = taken.put;
        text_is = taken.text_is ∙ ap (λ (r : Lines). lines_text w r.lines) (sym taken.there_is);
      }

  module _
      (result : LineFound)
      (finds : (read : List ℕ) → HasRead reader read → capture (stream_with read (take count rest)) false
      ≡ found_lines (capture read false) result next.known.line) where
    pub nothing_on : result ≡ found.Nothing → IsAt w represents next old here text (drop count rest) all
    nothing_on is = taken_on (nothing_found (found_on result finds) is)

    pub line_on :
        {now : List Line → Type 0} {c : Out} → result ≡ found.Line
        → ((lines : List Line) → represents lines → next.known.number ≡ length lines + 1 → next.known.number < 2 ^ 44
        → WentOn here c (w.line lines next.known.line) × now (next.known.line ∷ lines))
        → IsAt w now next old c text (drop count rest) all
    line_on is steps = taken_on (line_taken (found_on result finds) is steps)

-- ---- at the end of the input

pub found_last :
    {w : Writes} {represents : List Line → Type 0} {reader : Reading} {old here : Out} {text all : List ℕ}
    (at : IsAt w represents reader old here text [] all) (next : Reading) (result : LineFound)
    → ((read : List ℕ) → HasRead reader read → next.known ≡ known_of (capture read true))
    → ((read : List ℕ) → HasRead reader read
    → capture read true ≡ found_lines (capture read false) result next.known.line)
    → IsFound w represents next.known result old here text (capture at.read false) (capture all true)
    (capture_outcome w all true)
found_last {w} {all = all} at next result knows finds = record {
  fine = at.fine;
  represented = at.represented;
  more = at.more;
  put = at.put;
  text_is = at.text_is;
  there_is = ap (λ (s : List ℕ). capture s true) (sym at.joined) ∙ finds at.read at.has_read;
  known_is = knows at.read at.has_read ∙ ap (λ (s : List ℕ). known_of (capture s true)) at.joined;
  few = omega (arith, at.few, ap length at.joined, lines-few all true);
  tail = [];
  begins =
      text_is-lines w (capture all true).refused true (capture all true).lines
      ∙ sym (append-nil (lines_text w (capture all true).lines));
  rejects = λ is. ap (λ (b : Bool). lines_outcome w b true (capture all true).lines) is;
}

-- the closing lines
pub closes :
    {w : Writes} {now : List Line → Type 0} {old here : Out} {text : List ℕ} (all : List ℕ) (memory : Bool) (c : Out)
    (ended : Result Report ToolFault) → AreTaken w now old here text (capture all true)
    → ((lines : List Line) → now lines → length lines < 2 ^ 44
    → LineEnds (w.report lines) here c (w.last lines) ended)
    → Ends memory (λ x. x ≡ capture_outcome w all true) old c text ended
closes {w} {now} {old} {here} {text} all memory c ended taken ends =
    by_result ended (ends taken.lines taken.represented taken.few)
  where
    outcome_is : capture_outcome w all true ≡ lines_outcome w false true taken.lines
    outcome_is = ap (λ (r : Lines). lines_outcome w r.refused true r.lines) taken.there_is

    whole_is : whole (capture_outcome w all true) ≡ text ++ (taken.more ++ w.last taken.lines)
    whole_is = ap whole outcome_is ∙ ap (λ (t : List ℕ). t ++ w.last taken.lines) (sym taken.text_is)
        ∙ append_assoc text taken.more (w.last taken.lines)

    by_result : (ended : Result Report ToolFault) → LineEnds (w.report taken.lines) here c (w.last taken.lines) ended
        → Ends memory (λ x. x ≡ capture_outcome w all true) old c text ended
    by_result (Ok report) (report_is, went) = record {
      more = taken.more ++ w.last taken.lines;
      put = put_on old here c (Ok tt) taken.more (w.last taken.lines) taken.put went;
      following = (
        capture_outcome w all true,
        refl,
        ap (λ (o : Outcome). o.halt) outcome_is
            ∙ ap (λ (r : Report). let h : Option (Result Report ToolFault) = Some (Ok r) in h) (sym report_is),
        whole_is,
      );
    }
    by_result (Err fault) broke =
        broke_stops memory fault (record {
          outcome = capture_outcome w all true;
          meant = refl;
          more = taken.more ++ w.last taken.lines;
          rest = [];
          joined = whole_is ∙ sym (append-nil (text ++ (taken.more ++ w.last taken.lines)));
          broke = put_on old here c (Err fault) taken.more (w.last taken.lines) taken.put broke;
        })
