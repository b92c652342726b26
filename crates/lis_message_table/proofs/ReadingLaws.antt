-- How the table of a message grows by a record, and what is known where no further one comes.
use Rattle.std.proofs.Common.{◌≡◌, ◌≢◌, ◌≤◌, ◌<◌, ℕ, ◌+◌, ◌-◌, List, [], ◌∷◌, ◌++◌, length, map, take, drop, refl, sym}
use Rattle.std.proofs.Common.{◌∙◌, ap, subst, append_assoc, arith, length-append, Option, None, Some, Err, inl, inr}
use Rattle.std.proofs.Common.{⊎_elim}
use Rattle.std.specs.List.{AllByRecursion, AllZip}
use Rattle.std.specs.Option.{option_to_list}
use Rattle.std.specs.declared.result.Result.{Result}
use Rattle.std.proofs.Math.Seq.{drop-append_seam, take-append_seam}
use Rattle.std.proofs.lemmas.List.{append-nil, length-map, map-append}
use Rattle.lis_record_values.specs.declared.kinds.Kind.{Kind}
use Rattle.lis_record_values.specs.declared.kinds.Kind.TheVariants as kinds
use Rattle.lis_record_values.specs.declared.faults.MessageFault.{MessageFault}
use Rattle.lis_record_values.specs.declared.faults.Reason.{Reason}
use Rattle.lis_record_values.specs.declared.faults.Reason.TheVariants as reasons
use Rattle.lis_record_values.specs.Delimiters.{DelimiterBytes}
use Rattle.lis_record_values.specs.Relation.{IsRecord}
use Rattle.lis_record_values.specs.Shape.{RecordContent}
use Rattle.lis_record_values.specs.Text.{record_limit}
use Rattle.lis_record.specs.Borrowed.{Borrowed}
use Rattle.lis_bytes.specs.Capped.{capped}
use Rattle.lis_tree.specs.Begun.{Begun, level_of}
use Rattle.lis_tree.specs.Level.{closed, kinds_of, misplaced, next_level, outside}
use Rattle.lis_tree.specs.Tree.{MessageTree, flatten}
use Rattle.lis_tree.proofs.Levels.{allowed_more, level_more, map_append, next_unclosed}
use Rattle.lis_message.specs.Feeding.{IsOutOfMemory, ReadsWhole, answer_at_end, next_place}
use Rattle.lis_message.specs.Kept.{RecordsState}
use Rattle.lis_message.specs.Records.{CantCome, IsRecordRefused, IsRecordRefusedFor, ReadsRecord}
use Rattle.lis_message.specs.Stream.{AreBegun, AreLeft, AreMessage, IsRefused, IsRefusedText, IsSplit}
use Rattle.lis_message.specs.Stream.{count_of, ended}
use Rattle.lis_message.specs.Taking.{ComesNext, Completes, begun_with, header, inner, left_after, records_of}
use Rattle.lis_message.proofs.EveryStream.{completing}
use Rattle.lis_message.proofs.Lines.{ended_snoc}
use Rattle.lis_message.proofs.RecordLaws.{split_read}
use Rattle.lis_message.proofs.Refusals.{refused_uncut}
use Rattle.lis_message.proofs.Splits.{left_after-more, split_hold}
use Rattle.lis_message.proofs.Stopping.{refused_line, refused_long, starved}
use Rattle.lis_message_table.proofs.ParentLaws.{above_more, parents_are, parents_more}
use Rattle.lis_message_table.specs.Table.{IsTextFault, IsWithin, starts_from, text_at}
use Rattle.lis_message_table.specs.declared.above.Above.{Above}
use Rattle.lis_message_table.specs.declared.places.RecordPlace.{RecordPlace}
use Rattle.lis_message_table.specs.inside.Above.{above_after, above_all, nothing_above, parent_of, parents_from}
use Rattle.lis_message_table.specs.inside.Reading.{HasRead, IsReading, StopsAt}

zip_push : {A B : Type 0} (R : A → B → Type 0) (xs : List A) (ys : List B) (x : A) (y : B) → AllZip R xs ys → R x y
    → AllZip R (xs ++ x ∷ []) (ys ++ y ∷ [])
zip_push R [] [] x y z r = (r, tt)
zip_push R [] (b ∷ ys) x y z r = absurd z
zip_push R (a ∷ xs) [] x y z r = absurd z
zip_push R (a ∷ xs) (b ∷ ys) x y z r = (z.0, zip_push R xs ys x y z.1 r)

some_snoc : (rs : List RecordContent) (r : RecordContent) → rs ++ r ∷ [] ≢ []
some_snoc [] r e = cc
some_snoc (x ∷ rs) r e = cc

header_open : (k : Kind) → k ≡ kinds.H → next_level outside k ≡ closed → ⊥
header_open k h e = let f : next_level outside kinds.H ≡ closed = ap (next_level outside) (sym h) ∙ e in cc

-- ---- the texts

-- the texts of an open message with one more
pub left_more : (left : Option Begun) (texts : List (List ℕ)) (text : List ℕ) (entry : Borrowed RecordContent)
    → AreLeft texts left → ComesNext left text entry → entry.content.kind ≢ kinds.L
    → AreLeft (texts ++ text ∷ []) (left_after left entry entry.content.kind)
left_more left texts text entry are (header l good is kind) other =
    let goes : left_after left entry entry.content.kind ≡ begun_with entry.delimiters (entry.content ∷ []) =
    left_after-more left entry entry.content.kind other
    ∙ ap (λ (x : Option Begun). begun_with entry.delimiters (records_of x ++ entry.content ∷ [])) l in
    let none : texts ≡ [] = subst (AreLeft texts) l are in
    subst (λ (x : Option Begun). AreLeft (texts ++ text ∷ []) x) (sym goes)
    (subst (λ (ts : List (List ℕ)). AreLeft (ts ++ text ∷ []) (begun_with entry.delimiters (entry.content ∷ [])))
    (sym none)
    (record {
      delimiters = good;
      some = some_snoc [] entry.content;
      each = (is, tt);
      placed = (ap (misplaced outside) kind, tt);
      unclosed = header_open entry.content.kind kind;
    }))
left_more left texts text entry are (inner b l d is placed) other =
    let goes : left_after left entry entry.content.kind ≡ begun_with b.delimiters (b.records ++ entry.content ∷ []) =
    left_after-more left entry entry.content.kind other
    ∙ ap (λ (x : Option Begun). begun_with entry.delimiters (records_of x ++ entry.content ∷ [])) l
    ∙ ap (λ (x : DelimiterBytes). begun_with x (b.records ++ entry.content ∷ [])) d in
    let begun : AreBegun texts b = subst (AreLeft texts) l are in
    subst (λ (x : Option Begun). AreLeft (texts ++ text ∷ []) x) (sym goes)
    (record {
      delimiters = begun.delimiters;
      some = some_snoc b.records entry.content;
      each = zip_push (IsRecord b.delimiters) texts b.records text entry.content begun.each
          (subst (λ (x : DelimiterBytes). IsRecord x text entry.content) d is);
      placed = allowed_more b.records entry.content begun.placed placed;
      unclosed = subst (λ l. l ≢ closed) (sym (level_more b.records entry.content))
          (next_unclosed (level_of (Some b)) entry.content.kind begun.unclosed other);
    })

-- the message that a closing record completes
pub record Closes (left : Option Begun) (texts : List (List ℕ)) (text : List ℕ)
    (entry : Borrowed RecordContent) : Type 0 where
  pub message : MessageTree
  pub are : AreMessage (texts ++ text ∷ []) message
  pub delimiters : entry.delimiters ≡ message.delimiters
  pub records : flatten message ≡ records_of left ++ entry.content ∷ []

closes_with : (left : Option Begun) (texts : List (List ℕ)) (text : List ℕ) (entry : Borrowed RecordContent)
    (found : Option MessageTree) → AreLeft texts left → ComesNext left text entry → entry.content.kind ≡ kinds.L
    → Completes left entry found → Closes left texts text entry
closes_with left texts text entry None are comes last other = absurd (other last)
closes_with left texts text entry (Some m) are (header l good is kind) last whole =
    let clash : kinds.H ≡ kinds.L = sym kind ∙ last in absurd cc
closes_with left texts text entry (Some m) are (inner b l d is placed) last whole =
    let begun : AreBegun texts b = subst (AreLeft texts) l are in
    let marks : m.delimiters ≡ b.delimiters = whole.2 ∙ d in
    let records : flatten m ≡ b.records ++ entry.content ∷ [] =
    whole.3 ∙ ap (λ (x : Option Begun). records_of x ++ entry.content ∷ []) l in
    let each : AllZip (IsRecord b.delimiters) (texts ++ text ∷ []) (b.records ++ entry.content ∷ []) =
    zip_push (IsRecord b.delimiters) texts b.records text entry.content begun.each
    (subst (λ (x : DelimiterBytes). IsRecord x text entry.content) d is) in
    record {
      message = m;
      are = record {
        tree = whole.1;
        each = subst (λ (x : DelimiterBytes). AllZip (IsRecord x) (texts ++ text ∷ []) (flatten m)) (sym marks)
            (subst (AllZip (IsRecord b.delimiters) (texts ++ text ∷ [])) (sym records) each);
      };
      delimiters = sym whole.2;
      records = whole.3;
    }

pub closes : (left : Option Begun) (texts : List (List ℕ)) (text : List ℕ) (entry : Borrowed RecordContent)
    → AreLeft texts left → ComesNext left text entry → entry.content.kind ≡ kinds.L → Closes left texts text entry
closes left texts text entry are comes last =
    let found = completing left texts are text entry comes in
    closes_with left texts text entry found.0 are comes last found.1

-- ---- the places

pub comes_short : (left : Option Begun) (text : List ℕ) (entry : Borrowed RecordContent) → ComesNext left text entry
    → length text ≤ record_limit
comes_short left text entry (header l good is kind) = is.short
comes_short left text entry (inner b l d is placed) = is.short

text_here : (text front rest line following : List ℕ) (p : RecordPlace) → text ≡ front ++ rest
    → rest ≡ line ++ 13 ∷ following → p.start ≡ length text - length rest → p.len ≡ length rest - length following - 1
    → text_at text p ≡ line
text_here text front rest line following p whole first start len =
    let at_front : p.start ≡ length front = omega (arith, start, ap length whole, length-append front rest) in
    let size : p.len ≡ length line = omega (arith, len, ap length first, length-append line (13 ∷ following)) in
    ap (λ (n : ℕ). take p.len (drop n text)) at_front
    ∙ ap (λ (l : List ℕ). take p.len (drop (length front) l)) whole
    ∙ ap (take p.len) (drop-append_seam front rest) ∙ ap (λ (n : ℕ). take n rest) size
    ∙ ap (take (length line)) first ∙ take-append_seam line (13 ∷ following)

-- one text more begins after those before it
starts_more : (n : ℕ) (texts : List (List ℕ)) (text : List ℕ)
    → starts_from n (texts ++ text ∷ []) ≡ starts_from n texts ++ (n + length (ended texts)) ∷ []
starts_more n [] text = let here : n ≡ n + 0 = omega arith in ap (λ (m : ℕ). m ∷ []) here
starts_more n (t ∷ texts) text =
    let long = length-append (t ++ 13 ∷ []) (ended texts) in
    let line = length-append t (13 ∷ []) in
    let there : n + length t + 1 + length (ended texts) ≡ n + length (ended (t ∷ texts)) = omega (arith, long, line) in
    ap (λ (l : List ℕ). n ∷ l)
    (starts_more (n + length t + 1) texts text
    ∙ ap (λ (m : ℕ). starts_from (n + length t + 1) texts ++ m ∷ []) there)

within_more : (n m : ℕ) (places : List RecordPlace) (p : RecordPlace) → n ≤ m → AllByRecursion (IsWithin n) places
    → IsWithin m p → AllByRecursion (IsWithin m) (places ++ p ∷ [])
within_more n m [] p le all here = (here, tt)
within_more n m (x ∷ places) p le all here = (
  record { inside = omega (arith, le, all.0.inside); short = all.0.short },
  within_more n m places p le all.1 here,
)

module _ (reader after : RecordsState) (text : List ℕ) (places : List RecordPlace) (above : Above)
    (rest following : List ℕ) (entry : Borrowed RecordContent) (p : RecordPlace)
    (r : IsReading reader text places above rest) (read : ReadsRecord reader after r.left rest following entry)
    (start : p.start ≡ length text - length rest) (len : p.len ≡ length rest - length following - 1)
    (kind : p.kind ≡ entry.content.kind) (parent : p.parent ≡ parent_of above p.kind)
  where
    abbrev texts : List (List ℕ)
    texts = map (text_at text) places

    abbrev more : List RecordContent
    more = records_of r.left ++ entry.content ∷ []

    comes : ComesNext r.left read.text entry
    comes = subst (λ (h : List ℕ). ComesNext r.left (h ++ read.text) entry) r.empty read.comes

    here : text_at text p ≡ read.text
    here = text_here text (ended texts) rest read.text following p r.whole read.whole start len

    longer : map (text_at text) (places ++ p ∷ []) ≡ texts ++ read.text ∷ []
    longer = map-append (text_at text) places (p ∷ []) ∙ ap (λ (l : List ℕ). texts ++ l ∷ []) here

    whole_then : text ≡ ended (map (text_at text) (places ++ p ∷ [])) ++ following
    whole_then =
        r.whole ∙ ap (λ (l : List ℕ). ended texts ++ l) read.whole
        ∙ sym (append_assoc (ended texts) read.text (13 ∷ following)) ∙ sym (ended_snoc texts read.text following)
        ∙ ap (λ (ts : List (List ℕ)). ended ts ++ following) (sym longer)

    counted : length places ≡ length (records_of r.left)
    counted =
        sym (length-map places (λ (x : RecordPlace). x.kind)) ∙ ap length r.kinds
        ∙ length-map (records_of r.left) (λ (x : RecordContent). x.kind)

    starts_then : map (λ (x : RecordPlace). x.start) (places ++ p ∷ [])
        ≡ starts_from 0 (map (text_at text) (places ++ p ∷ []))
    starts_then =
        let at : p.start ≡ 0 + length (ended texts) =
        omega (arith, start, ap length r.whole, length-append (ended texts) rest) in
        map-append (λ (x : RecordPlace). x.start) places (p ∷ [])
        ∙ ap (λ (l : List ℕ). l ++ p.start ∷ []) r.starts
        ∙ ap (λ (n : ℕ). starts_from 0 texts ++ n ∷ []) at
        ∙ sym (starts_more 0 texts read.text) ∙ ap (starts_from 0) (sym longer)

    kinds_then : map (λ (x : RecordPlace). x.kind) (places ++ p ∷ []) ≡ kinds_of more
    kinds_then =
        map-append (λ (x : RecordPlace). x.kind) places (p ∷ [])
        ∙ ap (λ (l : List Kind). l ++ p.kind ∷ []) r.kinds
        ∙ ap (λ (k : Kind). kinds_of (records_of r.left) ++ k ∷ []) kind
        ∙ sym (map_append (records_of r.left) (entry.content ∷ []))

    parents_then : map (λ (x : RecordPlace). x.parent) (places ++ p ∷ []) ≡ parents_from nothing_above 0 more
    parents_then =
        map-append (λ (x : RecordPlace). x.parent) places (p ∷ [])
        ∙ ap (λ (l : List ℕ). l ++ p.parent ∷ []) r.parents
        ∙ ap (λ (n : ℕ). parents_from nothing_above 0 (records_of r.left) ++ n ∷ [])
        (parent ∙ ap (parent_of above) kind ∙ ap (λ (a : Above). parent_of a entry.content.kind) r.next)
        ∙ sym (parents_more nothing_above 0 (records_of r.left) entry.content)

    above_then : above_after above (length places) p.kind ≡ above_all nothing_above 0 more
    above_then =
        let index : length places ≡ 0 + length (records_of r.left) = omega (arith, counted) in
        ap (above_after above (length places)) kind
        ∙ ap (λ (n : ℕ). above_after above n entry.content.kind) index
        ∙ ap (λ (a : Above). above_after a (0 + length (records_of r.left)) entry.content.kind) r.next
        ∙ sym (above_more nothing_above 0 (records_of r.left) entry.content)

    within_then : AllByRecursion (IsWithin (length text - length following)) (places ++ p ∷ [])
    within_then =
        let size = ap length read.whole ∙ length-append read.text (13 ∷ following) in
        let all = ap length r.whole ∙ length-append (ended texts) rest in
        within_more (length text - length rest) (length text - length following) places p (omega (arith, size))
        r.within
        (record {
          inside = omega (arith, size, all, start, len);
          short = omega (arith, size, len, comes_short r.left read.text entry comes);
        })

    pub reads_on : entry.content.kind ≢ kinds.L → after.split ≡ None
        → IsReading after text (places ++ p ∷ []) (above_after above (length places) p.kind) following
    reads_on other uncut =
        let goes : records_of (left_after r.left entry entry.content.kind) ≡ more =
        ap records_of (left_after-more r.left entry entry.content.kind other) in
        record {
          left = left_after r.left entry entry.content.kind;
          has = read.left_then;
          empty = read.empty;
          uncut = uncut;
          whole = whole_then;
          are = subst (λ (ts : List (List ℕ)). AreLeft ts (left_after r.left entry entry.content.kind)) (sym longer)
              (left_more r.left texts read.text entry r.are comes other);
          starts = starts_then;
          kinds = kinds_then ∙ ap kinds_of (sym goes);
          parents = parents_then ∙ ap (parents_from nothing_above 0) (sym goes);
          next = above_then ∙ ap (above_all nothing_above 0) (sym goes);
          within = within_then;
        }

    pub reads_all : entry.content.kind ≡ kinds.L → HasRead entry.delimiters text (places ++ p ∷ []) following
    reads_all last =
        let closed = closes r.left texts read.text entry r.are comes last in
        record {
          message = closed.message;
          whole = whole_then;
          are = subst (λ (ts : List (List ℕ)). AreMessage ts closed.message) (sym longer) closed.are;
          starts = starts_then;
          delimiters = closed.delimiters;
          kinds = kinds_then ∙ ap kinds_of (sym closed.records);
          parents =
              parents_then ∙ ap (parents_from nothing_above 0) (sym closed.records)
              ∙ parents_are closed.message closed.are.tree;
          within = within_then;
        }

-- ---- no further record

module _ (reader : RecordsState) (text : List ℕ) (places : List RecordPlace) (above : Above) (rest : List ℕ)
    (r : IsReading reader text places above rest)
  where
    abbrev read_texts : List (List ℕ)
    read_texts = map (text_at text) places

    -- what was read is no whole message
    pub split_so_far : IsSplit (ended read_texts) [] r.left []
    split_so_far = record {
      groups = [];
      texts = read_texts;
      whole = sym (append-nil (ended read_texts));
      read = tt;
      begun = r.are;
      lacks = tt;
      short = omega arith;
    }

    pub count_so_far : length places ≡ count_of r.left
    count_so_far =
        sym (length-map places (λ (x : RecordPlace). x.kind)) ∙ ap length r.kinds
        ∙ length-map (records_of r.left) (λ (x : RecordContent). x.kind) ∙ by r.left
      where
        by : (left : Option Begun) → length (records_of left) ≡ count_of left
        by None = refl
        by (Some begun) = refl

    at_end : (fault : MessageFault) → 0 < length text → fault.place ≡ next_place r.left
        → fault.reason ≡ reasons.Unfinished → answer_at_end r.left rest ≡ Err fault
    at_end fault some place why = by r.left rest r.are r.whole place
      where
        early : ℕ → Reason → Result (Unit {0}) MessageFault
        early n x = Err (record { place = n; reason = x })

        same : (left : Option Begun) → fault.place ≡ next_place left
            → early (next_place left) reasons.Unfinished ≡ Err fault
        same left is =
            ap (λ (n : ℕ). early n reasons.Unfinished) (sym is) ∙ ap (λ (x : Reason). early fault.place x) (sym why)

        by : (left : Option Begun) (held : List ℕ) → AreLeft read_texts left → text ≡ ended read_texts ++ held
            → fault.place ≡ next_place left → answer_at_end left held ≡ Err fault
        by None [] are whole is =
            let none : text ≡ [] = whole ∙ ap (λ (ts : List (List ℕ)). ended ts ++ []) are in
            let short : length text ≡ 0 = ap length none in
            absurd (omega (arith, some, short))
        by None (b ∷ held) are whole is = same None is
        by (Some begun) held are whole is = same (Some begun) is

    refused_by : (fault : MessageFault) → fault.place ≡ next_place r.left → CantCome r.left [] rest fault.reason
        → IsRefused (ended read_texts ++ rest) [] fault
    refused_by fault place cant =
        subst (λ (l : List ℕ). IsRefused (ended read_texts ++ l) [] fault) (sym cant.whole)
        (⊎_elim (λ (is : IsRefusedText r.left cant.text cant.more fault.reason).
        subst (λ (l : List ℕ). IsRefused (ended read_texts ++ (cant.text ++ l)) [] fault) (sym is.ended_by)
        (refused_line (ended read_texts) [] r.left [] cant.text is.rest fault split_so_far cant.lacks is.short is.why
        place))
        (λ (long : (fault.reason ≡ reasons.RecordTooLong) × (record_limit < length cant.text)).
        refused_long (ended read_texts) [] r.left [] cant.text cant.more fault split_so_far cant.lacks long.1 long.0
        place) cant.refused)

    pub stops_text : (fault : MessageFault) → 0 < length text → StopsAt r.left rest fault → IsTextFault text fault
    stops_text fault some (place, inl cant) =
        inl (subst (λ (s : List ℕ). IsRefused s [] fault) (sym r.whole) (refused_by fault place cant))
    stops_text fault some (place, inr early) =
        inr (record {
          left = r.left;
          held = rest;
          split = subst (λ (s : List ℕ). IsSplit s [] r.left rest) (sym r.whole)
              (split_hold (ended read_texts) [] r.left [] rest split_so_far early.1 early.2);
          why = at_end fault some place early.0;
        })

    pub starved_whole : (fault : MessageFault) → fault.place ≡ capped (length places + 1)
        → fault.reason ≡ reasons.OutOfMemory → ReadsWhole text [] (Some fault)
    starved_whole fault place why =
        inl (inl (subst (λ (s : List ℕ). IsOutOfMemory s [] fault) (sym r.whole)
        (starved (ended read_texts) [] r.left [] rest fault split_so_far
        (place ∙ ap (λ (n : ℕ). capped (n + 1)) count_so_far) why)))

    -- a record that comes next is not rejected
    pub read_unrefused : (after : RecordsState) (following : List ℕ) (entry : Borrowed RecordContent)
        → (read : ReadsRecord reader after r.left rest following entry) → IsRecordRefused r.left read.text → ⊥
    read_unrefused after following entry read (reason, why) = by why
      where
        comes : ComesNext r.left read.text entry
        comes = subst (λ (h : List ℕ). ComesNext r.left (h ++ read.text) entry) r.empty read.comes

        by : IsRecordRefusedFor r.left read.text reason → ⊥
        by (inl long) = absurd (omega (arith, long.1, comes_short r.left read.text entry comes))
        by (inr refused) =
            let fault : MessageFault = record { place = next_place r.left; reason = reason } in
            let found = completing r.left read_texts r.are read.text entry comes in
            refused_uncut (ended read_texts ++ (read.text ++ 13 ∷ [])) [] (option_to_list found.0) fault
            (left_after r.left entry entry.content.kind) after.held
            (refused_line (ended read_texts) [] r.left [] read.text [] fault split_so_far read.lacks refused.1 refused.0
            refl)
            (split_read reader after (ended read_texts) [] r.left rest following entry found.0
            (subst (λ (h : List ℕ). IsSplit (ended read_texts) [] r.left h) (sym r.empty) split_so_far) read
            found.1)

pub text_fault_whole : (text : List ℕ) (fault : MessageFault) → IsTextFault text fault → ReadsWhole text [] (Some fault)
text_fault_whole text fault (inl refused) = inl (inr refused)
text_fault_whole text fault (inr early) = inr early
