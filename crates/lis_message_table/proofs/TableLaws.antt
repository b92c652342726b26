-- What a message's table says of it: its records, and the bytes that the message is read from.
use Rattle.std.proofs.Common.{◌≡◌, ◌≤◌, ◌<◌, ℕ, ◌+◌, ◌-◌, List, [], ◌∷◌, ◌++◌, length, map, take, drop, refl, sym, ap}
use Rattle.std.proofs.Common.{◌∙◌, subst, append_assoc, arith, length-append, Option, None, Some, false, inl, inr}
use Rattle.std.specs.List.{AllByRecursion, AllZip}
use Rattle.std.specs.Prelude.{MatchOption, is_some, option_map, slice_get, slice_index_or, suc, zero}
use Rattle.std.proofs.Math.Seq.{take-append_seam}
use Rattle.std.proofs.lemmas.List.{append-nil, drop-append-le, length-drop, length-map, take-append-le, take_all}
use Rattle.lis_record_values.specs.declared.kinds.Kind.{Kind}
use Rattle.lis_record_values.specs.declared.kinds.Kind.TheVariants as kinds
use Rattle.lis_record_values.specs.declared.faults.MessageFault.{MessageFault}
use Rattle.lis_record_values.specs.Delimiters.{DelimiterBytes, IsDelimiters}
use Rattle.lis_record_values.specs.Relation.{IsRecord, declared_part}
use Rattle.lis_record_values.specs.Shape.{Fields, RecordContent}
use Rattle.lis_record_read.specs.FrontReading.{fields_of}
use Rattle.lis_record.specs.Borrowed.{Borrowed, front_length, record_in}
use Rattle.lis_record.proofs.RecordTexts.{fields_of-AreFieldTexts}
use Rattle.lis_table.specs.Entries.{Entry, entries_of, entry_at}
use Rattle.lis_table.proofs.EntryLaws.{table_read}
use Rattle.lis_tree.specs.Begun.{Begun}
use Rattle.lis_tree.specs.Level.{kinds_of}
use Rattle.lis_tree.specs.Tree.{MessageTree, flatten}
use Rattle.lis_message.specs.Feeding.{ReadsWhole}
use Rattle.lis_message.specs.Stream.{AreMessage, IsSplit, ended}
use Rattle.lis_message.proofs.Reading.{split_one}
use Rattle.lis_message.proofs.Splits.{split_start}
use Rattle.lis_message_table.specs.Table.{IsTableOf, IsWithin, Table, contents_of, entries_in, parts_at, record_at}
use Rattle.lis_message_table.specs.Table.{starts_from, text_at, texts_of}
use Rattle.lis_message_table.specs.declared.places.RecordPlace.{RecordPlace}
use Rattle.lis_message_table.specs.inside.Reading.{HasRead}

-- ---- the records

after_front : (d : DelimiterBytes) (k : Kind) (letter : ℕ) (rest : List ℕ)
    → drop (front_length k) (letter ∷ declared_part d k ++ rest) ≡ rest
after_front d kinds.H letter rest = refl
after_front d k letter rest = refl

-- what a record's text is read as is the record
record_same : (d : DelimiterBytes) → IsDelimiters d → (text : List ℕ) (k : Kind) (r : RecordContent) → IsRecord d text r
    → k ≡ r.kind → (record_in d k text).content ≡ r
record_same d good text k r is same =
    let fields : fields_of d (drop (front_length k) text) ≡ r.fields =
    ap (λ (j : Kind). fields_of d (drop (front_length j) text)) same
    ∙ ap (λ (l : List ℕ). fields_of d (drop (front_length r.kind) l)) is.whole
    ∙ ap (fields_of d) (after_front d r.kind is.letter is.fields_text)
    ∙ sym (fields_of-AreFieldTexts d good is.fields_text r.fields is.fields_are) in
    let make : Kind → Fields → RecordContent = λ j f. record { kind = j; fields = f } in
    ap (λ (j : Kind). make j (fields_of d (drop (front_length k) text))) same ∙ ap (make r.kind) fields

contents_same : (d : DelimiterBytes) → IsDelimiters d → (text : List ℕ) (places : List RecordPlace)
    (records : List RecordContent) → AllZip (IsRecord d) (map (text_at text) places) records
    → map (λ (p : RecordPlace). p.kind) places ≡ kinds_of records
    → map (λ (p : RecordPlace). (record_in d p.kind (text_at text p)).content) places ≡ records
contents_same d good text [] [] each same = refl
contents_same d good text [] (r ∷ records) each same = absurd each
contents_same d good text (p ∷ places) [] each same = absurd each
contents_same d good text (p ∷ places) (r ∷ records) each same =
    let kind : p.kind ≡ r.kind = cc in
    let others : map (λ (x : RecordPlace). x.kind) places ≡ kinds_of records = cc in
    ap (λ (x : RecordContent). x ∷ map (λ (q : RecordPlace). (record_in d q.kind (text_at text q)).content) places)
    (record_same d good (text_at text p) p.kind r each.0 kind)
    ∙ ap (λ (l : List RecordContent). r ∷ l) (contents_same d good text places records each.1 others)

entries_same : (t : Table) (places : List RecordPlace)
    → map (λ (p : RecordPlace). map (entry_at t.delimiters (text_at t.text p)) (parts_at t p)) places
    ≡ map entries_of (map (λ (p : RecordPlace). (record_at t p).content) places)
entries_same t [] = refl
entries_same t (p ∷ places) =
    ap (λ (l : List Entry). l ∷ map (λ (q : RecordPlace). map (entry_at t.delimiters (text_at t.text q)) (parts_at t q))
    places) (table_read t.delimiters p.kind (text_at t.text p))
    ∙ ap (λ (ls : List (List Entry)). entries_of (record_at t p).content ∷ ls) (entries_same t places)

module _ (t : Table) (m : MessageTree) (is : IsTableOf t m) where
  pub contents : contents_of t ≡ flatten m
  contents =
      contents_same t.delimiters
      (subst IsDelimiters (sym is.delimiters) is.message.tree.delimiters) t.text t.places (flatten m)
      (subst (λ (d : DelimiterBytes). AllZip (IsRecord d) (texts_of t) (flatten m)) (sym is.delimiters) is.message.each)
      is.kinds

  -- their components
  pub components : entries_in t ≡ map entries_of (flatten m)
  components = entries_same t t.places ∙ ap (map entries_of) contents

  -- ---- the bytes

  -- they are the message
  pub split_alone : IsSplit t.text (m ∷ []) None []
  split_alone = record {
    groups = texts_of t ∷ [];
    texts = [];
    whole =
        is.whole ∙ sym (append-nil (ended (texts_of t)))
        ∙ sym (append-nil (ended (texts_of t) ++ [])) ∙ sym (append-nil ((ended (texts_of t) ++ []) ++ []));
    read = (is.message, tt);
    begun = refl;
    lacks = tt;
    short = omega arith;
  }

  -- what follows them is read after it
  pub split_before : (stream : List ℕ) (messages : List MessageTree) (left : Option Begun) (held : List ℕ)
      → IsSplit stream messages left held → IsSplit (t.text ++ stream) (m ∷ messages) left held
  split_before stream messages left held c = record {
    groups = texts_of t ∷ c.groups;
    texts = c.texts;
    whole =
        ap (λ (l : List ℕ). l ++ stream) is.whole ∙ ap (λ (l : List ℕ). ended (texts_of t) ++ l) c.whole
        ∙ simp append_assoc;
    read = (is.message, c.read);
    begun = c.begun;
    lacks = c.lacks;
    short = c.short;
  }

  pub reads_before : (following : List ℕ) (messages : List MessageTree) (fault : Option MessageFault)
      → ReadsWhole following messages fault → ReadsWhole (t.text ++ following) (m ∷ messages) fault
  reads_before following messages None c = split_before following messages None [] c
  reads_before following messages (Some fault) (inl (inl r)) =
      inl (inl (record {
        front = t.text ++ r.front;
        left = r.left;
        more = r.more;
        whole = ap (λ (l : List ℕ). t.text ++ l) r.whole ∙ sym (append_assoc t.text r.front r.more);
        split = split_before r.front messages r.left [] r.split;
        place = r.place;
        why = r.why;
      }))
  reads_before following messages (Some fault) (inl (inr r)) =
      inl (inr (record {
        front = t.text ++ r.front;
        left = r.left;
        text = r.text;
        more = r.more;
        whole = ap (λ (l : List ℕ). t.text ++ l) r.whole ∙ simp append_assoc;
        split = split_before r.front messages r.left [] r.split;
        lacks = r.lacks;
        place = r.place;
        refused = r.refused;
      }))
  reads_before following messages (Some fault) (inr r) =
      inr (record {
        left = r.left;
        held = r.held;
        split = split_before following messages r.left r.held r.split;
        why = r.why;
      })

-- ---- the table that was read

text_in_front : (front following : List ℕ) (p : RecordPlace) → IsWithin (length front) p
    → text_at (front ++ following) p ≡ text_at front p
text_in_front front following p within =
    ap (take p.len) (drop-append-le p.start front following (omega (arith, within.inside)))
    ∙ take-append-le p.len (drop p.start front) following
    (omega (arith, within.inside, length-drop p.start front))

texts_in_front : (front following : List ℕ) (places : List RecordPlace)
    → AllByRecursion (IsWithin (length front)) places
    → map (text_at (front ++ following)) places ≡ map (text_at front) places
texts_in_front front following [] within = refl
texts_in_front front following (p ∷ places) within =
    ap (λ (l : List ℕ). l ∷ map (text_at (front ++ following)) places) (text_in_front front following p within.0)
    ∙ ap (λ (ls : List (List ℕ)). text_at front p ∷ ls) (texts_in_front front following places within.1)

module _ (d : DelimiterBytes) (text : List ℕ) (places : List RecordPlace) (following : List ℕ)
    (r : HasRead d text places following) (front : List ℕ) (room : ℕ)
    (taken : front ≡ take (length text - length following) text)
  where
    abbrev read_texts : List (List ℕ)
    read_texts = map (text_at text) places

    size : length text - length following ≡ length (ended read_texts)
    size = omega (arith, ap length r.whole, length-append (ended read_texts) following)

    pub front_is : front ≡ ended read_texts
    front_is =
        taken ∙ ap (λ (n : ℕ). take n text) size ∙ ap (take (length (ended read_texts))) r.whole
        ∙ take-append_seam (ended read_texts) following

    pub text_is : text ≡ front ++ following
    text_is = r.whole ∙ ap (λ (l : List ℕ). l ++ following) (sym front_is)

    pub within_front : AllByRecursion (IsWithin (length front)) places
    within_front =
        subst (λ (n : ℕ). AllByRecursion (IsWithin n) places) (size ∙ ap length (sym front_is)) r.within

    texts_same : read_texts ≡ map (text_at front) places
    texts_same =
        ap (λ (l : List ℕ). map (text_at l) places) text_is ∙ texts_in_front front following places within_front

    pub table_is : IsTableOf (record { delimiters = d; text = front; places = places; room = room }) r.message
    table_is = record {
      whole = front_is ∙ ap ended texts_same;
      message = subst (λ (ts : List (List ℕ)). AreMessage ts r.message) texts_same r.are;
      starts = r.starts ∙ ap (starts_from 0) texts_same;
      delimiters = r.delimiters;
      kinds = r.kinds;
      parents = r.parents;
    }

pub one_message : (t : Table) (m n : MessageTree) → IsTableOf t m → IsTableOf t n → m ≡ n
one_message t m n is other =
    let same = split_one t.text (m ∷ []) (n ∷ []) None None [] [] (split_alone t m is) (split_alone t n other) in
    let heads : m ∷ [] ≡ n ∷ [] = same.0 in
    cc

-- ---- the tree that is made

pub one_read : (t : Table) (m : MessageTree) (messages : List MessageTree) (fault : Option MessageFault)
    → IsTableOf t m → ReadsWhole t.text messages fault → is_some fault ≡ false → messages ≡ m ∷ []
one_read t m messages None is reads none =
    (split_one t.text messages (m ∷ []) None None [] [] reads (split_alone t m is)).0
one_read t m messages (Some fault) is reads none = absurd cc

pub none_read : (text : List ℕ) (messages : List MessageTree) (fault : Option MessageFault)
    → text ≡ [] → ReadsWhole text messages fault → is_some fault ≡ false → messages ≡ []
none_read text messages None empty reads none =
    (split_one [] messages [] None None [] [] (subst (λ (s : List ℕ). IsSplit s messages None []) empty reads)
    split_start).0
none_read text messages (Some fault) empty reads none = absurd cc

pub only_item : (items : List MessageTree) (count : ℕ) (m : MessageTree) (found : Option MessageTree)
    → items ≡ m ∷ [] → count ≡ length items
    → ((d : MessageTree) → 0 < count → found ≡ Some (slice_index_or items (count - 1) d)) → found ≡ Some m
only_item items count m found is counted last =
    let one : count ≡ 1 = counted ∙ ap length is in
    last m (omega (arith, one)) ∙ ap (λ (n : ℕ). Some (slice_index_or items (n - 1) m)) one
    ∙ ap (λ (l : List MessageTree). Some (slice_index_or l 0 m)) is

pub no_item : (found : Option MessageTree) (count less : ℕ) → count ≡ 0
    → MatchOption found ((count ≡ 0) × (less ≡ 0)) (λ m. less + 1 ≡ count) → found ≡ None
no_item None count less none cases = refl
no_item (Some m) count less none cases = absurd (omega (arith, none, cases))

-- ---- one record after another

next_of : (t : Table) (places : List RecordPlace) (i : ℕ) (entry : Borrowed RecordContent)
    → option_map (record_at t) (slice_get places i) ≡ Some entry
    → take (suc i) (map (λ (p : RecordPlace). (record_at t p).content) places)
    ≡ take i (map (λ (p : RecordPlace). (record_at t p).content) places) ++ entry.content ∷ []
next_of t [] i entry is = absurd cc
next_of t (p ∷ places) zero entry is =
    let same : record_at t p ≡ entry = cc in
    ap (λ (e : Borrowed RecordContent). e.content ∷ []) same
next_of t (p ∷ places) (suc i) entry is =
    ap (λ (l : List RecordContent). (record_at t p).content ∷ l) (next_of t places i entry is)

-- the records up to one more
pub next_content : (t : Table) (i : ℕ) (entry : Borrowed RecordContent) (found : Option (Borrowed RecordContent))
    → found ≡ option_map (record_at t) (slice_get t.places i) → found ≡ Some entry
    → take (i + 1) (contents_of t) ≡ take i (contents_of t) ++ entry.content ∷ []
next_content t i entry found made is =
    let one : i + 1 ≡ suc i = omega arith in
    ap (λ (n : ℕ). take n (contents_of t)) one ∙ next_of t t.places i entry (sym made ∙ is)

-- and all of them
pub all_contents : (t : Table) (i : ℕ) → length t.places ≤ i → take i (contents_of t) ≡ contents_of t
all_contents t i end =
    take_all i (contents_of t) (omega (arith, end, length-map t.places (λ (p : RecordPlace). (record_at t p).content)))
