-- The records of a stream read one by one: a machine over the texts. What it reads is the stream's one split.
use Rattle.std.proofs.Common.{◌≡◌, ◌≢◌, ℕ, List, [], ◌∷◌, ◌++◌, Option, Some, None, refl, sym, ◌∙◌, ap, subst}
use Rattle.std.proofs.Common.{append_assoc}
use Rattle.std.specs.List.{AllZip, flat_map}
use Rattle.std.proofs.lemmas.List.{append-nil}
use Rattle.lis_record_values.specs.declared.kinds.Kind.TheVariants as kinds
use Rattle.lis_record_values.specs.Delimiters.{DelimiterBytes, IsDelimiters, delimiter_list}
use Rattle.lis_record_values.specs.Relation.{IsRecord, declared_part}
use Rattle.lis_record_values.specs.Shape.{RecordContent}
use Rattle.lis_record.proofs.RecordTexts.{IsRecord-one}
use Rattle.lis_tree.specs.Begun.{Begun, level_of}
use Rattle.lis_tree.specs.Level.{Level, outside, closed, next_level}
use Rattle.lis_tree.specs.Level.{level_after, misplaced, AllowedFrom, kinds_of}
use Rattle.lis_message.specs.Taking.{begun_with}
use Rattle.lis_message.specs.Stream.{ended, AreMessage, AreLeft, IsSplit, LacksReturn}
use Rattle.lis_tree.specs.Tree.{MessageTree, IsTree, flatten, group_records}
use Rattle.lis_tree.proofs.Flatten.{flatten_one}
use Rattle.lis_tree.proofs.Levels.{IsInside, header_first, level_append, map_append, next_begun, other_kind}
use Rattle.lis_tree.proofs.Levels.{tree_leads, unclosed_first}
use Rattle.lis_message.proofs.Lines.{AllLack, text_lacks, lines_one, ended_append}

-- the messages that are read, and what is left
pub record State : Type 0 where
  pub messages : List MessageTree
  pub left : Option Begun

-- a header is read
pub record Heads (messages : List MessageTree) (text : List ℕ) (next : State) : Type 0 where
  pub delimiters : DelimiterBytes
  pub header : RecordContent
  pub is : IsRecord delimiters text header
  pub kind : header.kind ≡ kinds.H
  pub good : IsDelimiters delimiters
  pub goes : next ≡ record { messages = messages; left = begun_with delimiters (header ∷ []) }

-- what a record leads to: the message goes on, or it is whole
pub data Continues (messages : List MessageTree) (begun : Begun) (r : RecordContent) (next : State) : Type 0 where
  more : r.kind ≢ kinds.L → next ≡ record {
    messages = messages;
    left =
        begun_with begun.delimiters (begun.records ++ r ∷ []);
  } → Continues messages begun r next
  whole : r.kind ≡ kinds.L → (m : MessageTree) → IsTree m → m.delimiters ≡ begun.delimiters
      → flatten m ≡ begun.records ++ r ∷ []
      → next ≡ record { messages = messages ++ m ∷ []; left = None } → Continues messages begun r next

-- another record is read
pub record AddsRecord (messages : List MessageTree) (begun : Begun) (text : List ℕ) (next : State) : Type 0 where
  pub entry : RecordContent
  pub is : IsRecord begun.delimiters text entry
  pub good : IsDelimiters begun.delimiters
  pub other : entry.kind ≢ kinds.H
  pub placed : misplaced (level_of (Some begun)) entry.kind ≡ None
  pub continues : Continues messages begun entry next

abbrev pub StepFrom : List MessageTree → Option Begun → List ℕ → State → Type 0
StepFrom messages None text next = Heads messages text next
StepFrom messages (Some begun) text next = AddsRecord messages begun text next

abbrev pub Step : State → List ℕ → State → Type 0
Step s text next = StepFrom s.messages s.left text next

abbrev pub Run : State → List (List ℕ) → State → Type 0
Run s [] end = s ≡ end
Run s (t ∷ ts) end = (next : State) × Step s t next × Run next ts end

-- ---- one step, one run

same_delimiters : (a b : DelimiterBytes) → delimiter_list a ≡ delimiter_list b → a ≡ b
same_delimiters a b e =
    let f : a.field ≡ b.field = cc in
    let r : a.repeat ≡ b.repeat = cc in
    let c : a.component ≡ b.component = cc in
    let x : a.escape ≡ b.escape = cc in
    let make : ℕ → ℕ → ℕ → ℕ → DelimiterBytes = λ p q s t. record
    { field = p; repeat = q; component = s; escape = t } in
    ap (λ p. make p a.repeat a.component a.escape) f ∙ ap (λ q. make b.field q a.component a.escape) r
    ∙ ap (λ s. make b.field b.repeat s a.escape) c ∙ ap (make b.field b.repeat b.component) x

-- a header's text determines its delimiters
pub delimiters_one : (d e : DelimiterBytes) (text : List ℕ) (r s : RecordContent) → IsRecord d text r
    → IsRecord e text s → r.kind ≡ kinds.H → s.kind ≡ kinds.H → d ≡ e
delimiters_one d e text r s h g kr ks =
    let hw : text ≡ h.letter ∷ declared_part d kinds.H ++ h.fields_text = rw kr at h.whole in
    let gw : text ≡ g.letter ∷ declared_part e kinds.H ++ g.fields_text = rw ks at g.whole in
    let both : h.letter ∷ d.field ∷ d.repeat ∷ d.component ∷ d.escape ∷ h.fields_text ≡ g.letter ∷ e.field ∷ e.repeat
    ∷ e.component ∷ e.escape ∷ g.fields_text = sym hw ∙ gw in
    let lists : delimiter_list d ≡ delimiter_list e =
    (let f : d.field ≡ e.field = cc in let q : d.repeat ≡ e.repeat = cc in let c : d.component ≡ e.component =
    cc in let x : d.escape ≡ e.escape = cc in cc) in
    same_delimiters d e lists

heads_one : (ms : List MessageTree) (t : List ℕ) (a b : State) → Heads ms t a → Heads ms t b → a ≡ b
heads_one ms t a b h g =
    let marks : h.delimiters ≡ g.delimiters = delimiters_one h.delimiters g.delimiters t h.header g.header h.is g.is
    h.kind g.kind in
    let moved : IsRecord g.delimiters t h.header = subst (λ d. IsRecord d t h.header) marks h.is in
    let same : h.header ≡ g.header = IsRecord-one g.delimiters g.good t h.header g.header moved g.is in
    h.goes ∙ ap (λ d. record { messages = ms; left = begun_with d (h.header ∷ []) }) marks
    ∙ ap (λ r. record { messages = ms; left = begun_with g.delimiters (r ∷ []) }) same ∙ sym g.goes

continues_one : (ms : List MessageTree) (begun : Begun) (r : RecordContent) (a b : State) → Continues ms begun r a
    → Continues ms begun r b → a ≡ b
continues_one ms begun r a b (more k e) (more l f) = e ∙ sym f
continues_one ms begun r a b (more k e) (whole l m is marks records f) = absurd (k l)
continues_one ms begun r a b (whole k m is marks records e) (more l f) = absurd (l k)
continues_one ms begun r a b (whole k m is marks records e) (whole l n is' marks' records' f) =
    e ∙ ap (λ (x : MessageTree). record { messages = ms ++ x ∷ []; left = None })
    (flatten_one m n is is' (marks ∙ sym marks') (records ∙ sym records')) ∙ sym f

adds_one : (ms : List MessageTree) (begun : Begun) (t : List ℕ) (a b : State) → AddsRecord ms begun t a
    → AddsRecord ms begun t b → a ≡ b
adds_one ms begun t a b h g =
    let same : h.entry ≡ g.entry = IsRecord-one begun.delimiters g.good t h.entry g.entry h.is g.is in
    continues_one ms begun g.entry a b (subst (λ r. Continues ms begun r a) same h.continues) g.continues

step_from_one : (ms : List MessageTree) (left : Option Begun) (t : List ℕ) (a b : State) → StepFrom ms left t a
    → StepFrom ms left t b → a ≡ b
step_from_one ms None t a b h g = heads_one ms t a b h g
step_from_one ms (Some begun) t a b h g = adds_one ms begun t a b h g

pub run_one : (s : State) (ts : List (List ℕ)) (a b : State) → Run s ts a → Run s ts b → a ≡ b
run_one s [] a b h g = sym h ∙ g
run_one s (t ∷ ts) a b h g =
    let same : h.0 ≡ g.0 = step_from_one s.messages s.left t h.0 g.0 h.1 g.1 in
    run_one g.0 ts a b (subst (λ n. Run n ts a) same h.2) g.2

pub run_append : (s : State) (xs ys : List (List ℕ)) (m e : State) → Run s xs m → Run m ys e → Run s (xs ++ ys) e
run_append s [] ys m e h g = subst (λ n. Run n ys e) (sym h) g
run_append s (x ∷ xs) ys m e h g = (h.0, h.1, run_append h.0 xs ys m e h.2 g)

pub run_split : (s : State) (xs ys : List (List ℕ)) (e : State) → Run s (xs ++ ys) e → (m : State) × Run s xs m
    × Run m ys e
run_split s [] ys e h = (s, refl, h)
run_split s (x ∷ xs) ys e h = let below = run_split h.0 xs ys e h.2 in (below.0, (h.0, h.1, below.1), below.2)

-- ---- a split is a run

-- one record more
abbrev with_one : Begun → RecordContent → Begun
with_one b r = record { delimiters = b.delimiters; records = b.records ++ r ∷ [] }

level_with_one : (b : Begun) (r : RecordContent)
    → level_of (Some (with_one b r)) ≡ next_level (level_of (Some b)) r.kind
level_with_one b r =
    ap (level_after outside) (map_append b.records (r ∷ [])) ∙ level_append outside (kinds_of b.records) (r.kind ∷ [])

-- records after a begun message are read one by one
rest_runs : (ms : List MessageTree) (b : Begun) → IsDelimiters b.delimiters → level_of (Some b) ≢ outside
    → (ts : List (List ℕ)) (rs : List RecordContent) → AllZip (IsRecord b.delimiters) ts rs
    → AllowedFrom (level_of (Some b)) (kinds_of rs) → level_after (level_of (Some b)) (kinds_of rs) ≢ closed
    → Run (record { messages = ms; left = Some b }) ts
    (record { messages = ms; left = begun_with b.delimiters (b.records ++ rs) })
rest_runs ms b good o [] [] z p u = ap (λ l. record { messages = ms; left = begun_with b.delimiters l })
    (sym (append-nil b.records))
rest_runs ms b good o [] (r ∷ rs) z p u = absurd z
rest_runs ms b good o (t ∷ ts) [] z p u = absurd z
rest_runs ms b good o (t ∷ ts) (r ∷ rs) z p u =
    let goes = level_with_one b r in
    let begun : level_of (Some (with_one b r)) ≢ outside =
    subst (λ l. l ≢ outside) (sym goes) (next_begun (level_of (Some b)) r.kind o) in
    let below = rest_runs ms (with_one b r) good begun ts rs z.1
    (subst (λ l. AllowedFrom l (kinds_of rs)) (sym goes) p.1)
    (subst (λ l. level_after l (kinds_of rs) ≢ closed) (sym goes) u) in (
      record { messages = ms; left = Some (with_one b r) },
      record {
        entry = r;
        is = z.0;
        good = good;
        other = other_kind (level_of (Some b)) r.kind o p.0;
        placed =
            p.0;
        continues = more (unclosed_first (level_of (Some b)) r.kind (kinds_of rs) p u) refl;
      },
      subst (λ l. Run (record { messages = ms; left = Some (with_one b r) }) ts
          (record { messages = ms; left = begun_with b.delimiters l }))
          (append_assoc b.records (r ∷ []) rs) below,
    )

-- so is a message that begins
begun_runs : (ms : List MessageTree) (d : DelimiterBytes) → IsDelimiters d
    → (ts : List (List ℕ)) (r : RecordContent) (rs : List RecordContent) → AllZip (IsRecord d) ts (r ∷ rs)
    → AllowedFrom outside (kinds_of (r ∷ rs)) → level_after outside (kinds_of (r ∷ rs)) ≢ closed
    → Run (record { messages = ms; left = None }) ts (record { messages = ms; left = begun_with d (r ∷ rs) })
begun_runs ms d good [] r rs z p u = absurd z
begun_runs ms d good (t ∷ ts) r rs z p u =
    let is_header : r.kind ≡ kinds.H = header_first r.kind p.0 in
    let begun : next_level outside r.kind ≢ outside =
    subst (λ k. next_level outside k ≢ outside) (sym is_header) (λ e. cc) in (
      record { messages = ms; left = begun_with d (r ∷ []) },
      record { delimiters = d; header = r; is = z.0; kind = is_header; good = good; goes = refl },
      rest_runs ms (record { delimiters = d; records = r ∷ [] }) good begun ts rs z.1 p.1 u,
    )

open_runs : (ms : List MessageTree) (texts : List (List ℕ)) (d : DelimiterBytes) (rs : List RecordContent)
    → IsDelimiters d → rs ≢ [] → AllZip (IsRecord d) texts rs
    → AllowedFrom outside (kinds_of rs) → level_after outside (kinds_of rs) ≢ closed
    → Run (record { messages = ms; left = None }) texts (record { messages = ms; left = begun_with d rs })
open_runs ms texts d [] good some z p u = absurd (some refl)
open_runs ms texts d (r ∷ rs) good some z p u = begun_runs ms d good texts r rs z p u

left_runs : (ms : List MessageTree) (texts : List (List ℕ)) (left : Option Begun) → AreLeft texts left
    → Run (record { messages = ms; left = None }) texts (record { messages = ms; left = left })
left_runs ms texts None are =
    subst (λ ts. Run (record { messages = ms; left = None }) ts (record { messages = ms; left = None })) (sym are) refl
left_runs ms texts (Some begun) are = open_runs ms texts begun.delimiters begun.records are.delimiters are.some
    are.each are.placed are.unclosed

-- texts of a list and one more
record EndsZip (d : DelimiterBytes) (texts : List (List ℕ)) (rs : List RecordContent) (r : RecordContent) : Type 0 where
  front : List (List ℕ)
  last : List ℕ
  parts : texts ≡ front ++ last ∷ []
  each : AllZip (IsRecord d) front rs
  is : IsRecord d last r

ends_zip : (d : DelimiterBytes) (texts : List (List ℕ)) (rs : List RecordContent) (r : RecordContent)
    → AllZip (IsRecord d) texts (rs ++ r ∷ []) → EndsZip d texts rs r
ends_zip d [] [] r z = absurd z
ends_zip d (t ∷ []) [] r z = record { front = []; last = t; parts = refl; each = tt; is = z.0 }
ends_zip d (t ∷ u ∷ ts) [] r z = absurd z.1
ends_zip d [] (x ∷ rs) r z = absurd z
ends_zip d (t ∷ ts) (x ∷ rs) r z =
    let below = ends_zip d ts rs r z.1 in
    record {
      front = t ∷ below.front;
      last = below.last;
      parts = ap (λ l. t ∷ l) below.parts;
      each =
          (z.0, below.each);
      is = below.is;
    }

inside_open : (l : Level) → IsInside l → l ≢ closed
inside_open outside i e = elim i [ ]
inside_open closed i e = elim i [ ]
inside_open level i e = cc

inside_closes : (l : Level) → IsInside l → misplaced l kinds.L ≡ None
inside_closes outside i = elim i [ ]
inside_closes closed i = elim i [ ]
inside_closes level i = refl

message_runs : (ms : List MessageTree) (texts : List (List ℕ)) (m : MessageTree) → AreMessage texts m
    → Run (record { messages = ms; left = None }) texts (record { messages = ms ++ m ∷ []; left = None })
message_runs ms texts m are =
    let rs = m.notes ++ flat_map group_records m.groups in
    let ends = ends_zip m.delimiters texts (m.header ∷ rs) m.closing are.each in
    let leads = tree_leads m are.tree in
    let unclosed : level_after outside (kinds_of (m.header ∷ rs)) ≢ closed =
    subst (λ l. l ≢ closed) (sym leads.2.arrives) (inside_open leads.0 leads.1) in
    let front = begun_runs ms m.delimiters are.tree.delimiters ends.front m.header rs ends.each leads.2.allowed
    unclosed in
    let placed : misplaced (level_after outside (kinds_of (m.header ∷ rs))) m.closing.kind ≡ None =
    ap (misplaced (level_after outside (kinds_of (m.header ∷ rs)))) are.tree.closing
    ∙ ap (λ l. misplaced l kinds.L) leads.2.arrives ∙ inside_closes leads.0 leads.1 in
    let end : State = record { messages = ms ++ m ∷ []; left = None } in
    let last : Run (record { messages = ms; left = begun_with m.delimiters (m.header ∷ rs) }) (ends.last ∷ []) end = (
      end,
      record {
        entry = m.closing;
        is = ends.is;
        good = are.tree.delimiters;
        other =
            (λ e. let h : kinds.L ≡ kinds.H = sym are.tree.closing ∙ e in cc);
        placed = placed;
        continues =
            whole are.tree.closing m are.tree refl refl refl;
      },
      refl,
    ) in
    subst (λ ts. Run (record { messages = ms; left = None }) ts end) (sym ends.parts)
    (run_append (record { messages = ms; left = None }) ends.front (ends.last ∷ [])
    (record { messages = ms; left = begun_with m.delimiters (m.header ∷ rs) }) end front last)

-- the texts of all groups
abbrev pub all_texts : List (List (List ℕ)) → List (List ℕ)
all_texts groups = flat_map (λ g. g) groups

groups_run : (ms : List MessageTree) (groups : List (List (List ℕ))) (messages : List MessageTree)
    → AllZip AreMessage groups messages
    → Run (record { messages = ms; left = None }) (all_texts groups) (record { messages = ms ++ messages; left = None })
groups_run ms [] [] z = ap (λ l. record { messages = l; left = None }) (sym (append-nil ms))
groups_run ms [] (m ∷ messages) z = absurd z
groups_run ms (g ∷ groups) [] z = absurd z
groups_run ms (g ∷ groups) (m ∷ messages) z =
    let mid : State = record { messages = ms ++ m ∷ []; left = None } in
    let first = message_runs ms g m z.0 in
    let below = groups_run (ms ++ m ∷ []) groups messages z.1 in
    subst (λ l. Run (record { messages = ms; left = None }) (g ++ all_texts groups)
    (record { messages = l; left = None })) (append_assoc ms (m ∷ []) messages)
    (run_append (record { messages = ms; left = None }) g (all_texts groups) mid
    (record { messages = (ms ++ m ∷ []) ++ messages; left = None }) first below)

abbrev pub start : State
start = record { messages = []; left = None }

-- the texts of a split are read one by one
pub split_runs : (stream : List ℕ) (messages : List MessageTree) (left : Option Begun) (held : List ℕ)
    (c : IsSplit stream messages left held)
    → Run start (all_texts c.groups ++ c.texts) (record { messages = messages; left = left })
split_runs stream messages left held c =
    run_append start (all_texts c.groups) c.texts (record { messages = messages; left = None })
    (record { messages = messages; left = left })
    (groups_run [] c.groups messages c.read) (left_runs messages c.texts left c.begun)

-- ---- the lines of a split

ended_groups : (groups : List (List (List ℕ))) → flat_map ended groups ≡ ended (all_texts groups)
ended_groups [] = refl
ended_groups (g ∷ groups) = ap (λ l. ended g ++ l) (ended_groups groups) ∙ sym (ended_append g (all_texts groups))

-- a stream that is split is its lines and what is held
pub split_lines : (stream : List ℕ) (messages : List MessageTree) (left : Option Begun) (held : List ℕ)
    (c : IsSplit stream messages left held)
    → stream ≡ ended (all_texts c.groups ++ c.texts) ++ held
split_lines stream messages left held c =
    c.whole ∙ ap (λ l. l ++ ended c.texts ++ held) (ended_groups c.groups)
    ∙ ap (λ l. l ++ held) (sym (ended_append (all_texts c.groups) c.texts))

step_from_lacks : (ms : List MessageTree) (left : Option Begun) (t : List ℕ) (n : State) → StepFrom ms left t n
    → LacksReturn t
step_from_lacks ms None t n h = text_lacks t h.is.is_text
step_from_lacks ms (Some begun) t n h = text_lacks t h.is.is_text

-- a text that is read lacks CR
pub step_lacks : (s : State) (t : List ℕ) (n : State) → Step s t n → LacksReturn t
step_lacks s t n h = step_from_lacks s.messages s.left t n h

pub run_lacks : (s : State) (ts : List (List ℕ)) (e : State) → Run s ts e → AllLack ts
run_lacks s [] e h = tt
run_lacks s (t ∷ ts) e h = (step_lacks s t h.0 h.1, run_lacks h.0 ts e h.2)

-- A stream is split in one way at most.
pub split_one : (stream : List ℕ) (m n : List MessageTree) (l k : Option Begun) (h g : List ℕ) → IsSplit stream m l h
    → IsSplit stream n k g → (m ≡ n) × (l ≡ k) × (h ≡ g)
split_one stream m n l k h g a b =
    let ra = split_runs stream m l h a in
    let rb = split_runs stream n k g b in
    let ta = all_texts a.groups ++ a.texts in
    let tb = all_texts b.groups ++ b.texts in
    let ea : State = record { messages = m; left = l } in
    let eb : State = record { messages = n; left = k } in
    let lines = lines_one ta tb h g (run_lacks start ta ea ra) (run_lacks start tb eb rb) a.lacks b.lacks
    (sym (split_lines stream m l h a) ∙ split_lines stream n k g b) in
    let same : ea ≡ eb = run_one start tb ea eb (subst (λ ts. Run start ts ea) lines.0 ra) rb in
    (ap (λ (s : State). s.messages) same, ap (λ (s : State). s.left) same, lines.1)
