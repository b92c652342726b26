-- How a split goes on with the next bytes.
use Rattle.std.proofs.Common.{◌≡◌, ◌≢◌, ℕ, ◌≤◌, List, [], ◌∷◌, ◌++◌, length, Option, Some, None, refl, sym, ◌∙◌, ap}
use Rattle.std.proofs.Common.{subst, append_assoc, arith}
use Rattle.std.specs.Option.{option_to_list}
use Rattle.std.specs.List.{AllZip, flat_map}
use Rattle.std.proofs.lemmas.List.{append-nil}
use Rattle.std.proofs.lemmas.Grind.{flat_map-append}
use Rattle.lis_record_values.specs.declared.kinds.Kind.{Kind}
use Rattle.lis_record_values.specs.declared.kinds.Kind.TheVariants as kinds
use Rattle.lis_record_write.specs.declared.writing.TheConstants.{RECORD_LIMIT}
use Rattle.lis_record_values.specs.Delimiters.{DelimiterBytes, IsDelimiters}
use Rattle.lis_record_values.specs.Relation.{IsRecord}
use Rattle.lis_record_values.specs.Shape.{RecordContent}
use Rattle.lis_tree.specs.Begun.{Begun, level_of}
use Rattle.lis_tree.specs.Level.{outside, closed, next_level, misplaced}
use Rattle.lis_message.specs.Stream.{ended, AreMessage, IsSplit, LacksReturn}
use Rattle.lis_message.specs.Taking.{ComesNext, Completes, begun_with, header, inner, left_after, records_of}
use Rattle.lis_record.specs.Borrowed.{Borrowed}
use Rattle.lis_tree.specs.Tree.{MessageTree, IsTree, flatten}
use Rattle.lis_tree.proofs.Levels.{level_more, next_unclosed, allowed_more}
use Rattle.lis_message.proofs.Lines.{lacks_append}

-- nothing is read of no bytes
pub split_start : IsSplit [] [] None []
split_start = record { groups = []; texts = []; whole = refl; read = tt; begun = refl; lacks = tt; short = omega arith }

-- bytes without CR are held
pub split_hold : (stream : List ℕ) (messages : List MessageTree) (left : Option Begun) (held bytes : List ℕ)
    → IsSplit stream messages left held → LacksReturn bytes → length (held ++ bytes) ≤ RECORD_LIMIT
    → IsSplit (stream ++ bytes) messages left (held ++ bytes)
split_hold stream messages left held bytes c lacks short = record {
  groups = c.groups;
  texts = c.texts;
  whole = ap (λ l. l ++ bytes) c.whole ∙ append_assoc (flat_map ended c.groups ++ ended c.texts) held bytes;
  read = c.read;
  begun = c.begun;
  lacks = lacks_append held bytes c.lacks lacks;
  short = short;
}

zip_push : {A B : Type 0} (R : A → B → Type 0) (xs : List A) (ys : List B) (x : A) (y : B) → AllZip R xs ys → R x y
    → AllZip R (xs ++ x ∷ []) (ys ++ y ∷ [])
zip_push R [] [] x y z r = (r, tt)
zip_push R [] (b ∷ ys) x y z r = absurd z
zip_push R (a ∷ xs) [] x y z r = absurd z
zip_push R (a ∷ xs) (b ∷ ys) x y z r = (z.0, zip_push R xs ys x y z.1 r)

-- the stream with one more line, by its groups and texts
line_more : (groups : List (List (List ℕ))) (texts : List (List ℕ)) (held : List ℕ)
    → (flat_map ended groups ++ ended texts ++ held) ++ 13 ∷ [] ≡ flat_map ended groups ++ ended (texts ++ held ∷ [])
    ++ []
line_more groups texts held = simp (flat_map-append, append_assoc, append-nil)

line_closes : (groups : List (List (List ℕ))) (texts : List (List ℕ)) (held : List ℕ)
    → (flat_map ended groups ++ ended texts ++ held) ++ 13 ∷ [] ≡ flat_map ended (groups ++ (texts ++ held ∷ []) ∷ [])
    ++ ended [] ++ []
line_closes groups texts held = simp (flat_map-append, append_assoc, append-nil)

header_open : (k : Kind) → k ≡ kinds.H → next_level outside k ≡ closed → ⊥
header_open k h e = let f : next_level outside kinds.H ≡ closed = ap (next_level outside) (sym h) ∙ e in cc

some_snoc : (rs : List RecordContent) (r : RecordContent) → rs ++ r ∷ [] ≢ []
some_snoc [] r e = cc
some_snoc (x ∷ rs) r e = cc

split_header : (stream : List ℕ) (messages : List MessageTree) (held : List ℕ) (c : IsSplit stream messages None held)
    (d : DelimiterBytes) (r : RecordContent) → IsDelimiters d → IsRecord d held r → r.kind ≡ kinds.H
    → IsSplit (stream ++ 13 ∷ []) messages (begun_with d (r ∷ [])) []
split_header stream messages held c d r good is kind = record {
  groups = c.groups;
  texts = c.texts ++ held ∷ [];
  whole = ap (λ l. l ++ 13 ∷ []) c.whole ∙ line_more c.groups c.texts held;
  read = c.read;
  begun = record {
    delimiters = good;
    some = some_snoc [] r;
    each = subst (λ ts. AllZip (IsRecord d) (ts ++ held ∷ []) (r ∷ [])) (sym c.begun) (is, tt);
    placed = (ap (misplaced outside) kind, tt);
    unclosed = header_open r.kind kind;
  };
  lacks = tt;
  short = omega arith;
}

split_inner : (stream : List ℕ) (messages : List MessageTree) (held : List ℕ) (b : Begun)
    (c : IsSplit stream messages (Some b) held) (r : RecordContent) → IsRecord b.delimiters held r
    → misplaced (level_of (Some b)) r.kind ≡ None → r.kind ≢ kinds.L
    → IsSplit (stream ++ 13 ∷ []) messages (begun_with b.delimiters (b.records ++ r ∷ [])) []
split_inner stream messages held b c r is placed open' = record {
  groups = c.groups;
  texts = c.texts ++ held ∷ [];
  whole = ap (λ l. l ++ 13 ∷ []) c.whole ∙ line_more c.groups c.texts held;
  read = c.read;
  begun = record {
    delimiters = c.begun.delimiters;
    some = some_snoc b.records r;
    each = zip_push (IsRecord b.delimiters) c.texts b.records held r c.begun.each is;
    placed = allowed_more b.records r c.begun.placed placed;
    unclosed = subst (λ l. l ≢ closed) (sym (level_more b.records r))
        (next_unclosed (level_of (Some b)) r.kind c.begun.unclosed open');
  };
  lacks = tt;
  short = omega arith;
}

split_closing : (stream : List ℕ) (messages : List MessageTree) (held : List ℕ) (b : Begun)
    (c : IsSplit stream messages (Some b) held) (r : RecordContent) (m : MessageTree) → IsRecord b.delimiters held r
    → IsTree m → m.delimiters ≡ b.delimiters → flatten m ≡ b.records ++ r ∷ []
    → IsSplit (stream ++ 13 ∷ []) (messages ++ m ∷ []) None []
split_closing stream messages held b c r m is tree marks records =
    let each : AllZip (IsRecord b.delimiters) (c.texts ++ held ∷ []) (b.records ++ r ∷ []) =
    zip_push (IsRecord b.delimiters) c.texts b.records held r c.begun.each is in
    record {
      groups = c.groups ++ (c.texts ++ held ∷ []) ∷ [];
      texts = [];
      whole = ap (λ l. l ++ 13 ∷ []) c.whole ∙ line_closes c.groups c.texts held;
      read = zip_push AreMessage c.groups messages (c.texts ++ held ∷ []) m c.read (record {
        tree = tree;
        each = subst (λ d. AllZip (IsRecord d) (c.texts ++ held ∷ []) (flatten m)) (sym marks)
            (subst (AllZip (IsRecord b.delimiters) (c.texts ++ held ∷ [])) (sym records) each);
      });
      begun = refl;
      lacks = tt;
      short = omega arith;
    }

-- what is left after a record that isn't the closing one
pub left_after-more : (left : Option Begun) (entry : Borrowed RecordContent) (k : Kind) → k ≢ kinds.L
    → left_after left entry k ≡ begun_with entry.delimiters (records_of left ++ entry.content ∷ [])
left_after-more left entry kinds.L other = absurd (other refl)
left_after-more left entry k other = refl

-- the split with the text that was held and its CR
pub split_taken : (stream : List ℕ) (messages : List MessageTree) (left : Option Begun) (held : List ℕ)
    (entry : Borrowed RecordContent) (message : Option MessageTree)
    → IsSplit stream messages left held → ComesNext left held entry → Completes left entry message
    → IsSplit (stream ++ 13 ∷ []) (messages ++ option_to_list message) (left_after left entry entry.content.kind) []
split_taken stream messages left held entry None c (header l good is kind) other =
    let goes : left_after left entry entry.content.kind ≡ begun_with entry.delimiters (entry.content ∷ []) =
    left_after-more left entry entry.content.kind other
    ∙ ap (λ (x : Option Begun). begun_with entry.delimiters (records_of x ++ entry.content ∷ [])) l in
    subst (λ ms. IsSplit (stream ++ 13 ∷ []) ms (left_after left entry entry.content.kind) [])
    (sym (append-nil messages))
    (subst (λ (x : Option Begun). IsSplit (stream ++ 13 ∷ []) messages x []) (sym goes)
    (split_header stream messages held (subst (λ (x : Option Begun). IsSplit stream messages x held) l c)
    entry.delimiters
    entry.content good is kind))
split_taken stream messages left held entry (Some m) c (header l good is kind) whole = let clash : kinds.H ≡ kinds.L =
    sym kind ∙ whole.0 in absurd cc
split_taken stream messages left held entry None c (inner b l d is placed) other =
    let goes : left_after left entry entry.content.kind ≡ begun_with b.delimiters (b.records ++ entry.content ∷ []) =
    left_after-more left entry entry.content.kind other
    ∙ ap (λ (x : Option Begun). begun_with entry.delimiters (records_of x ++ entry.content ∷ [])) l
    ∙ ap (λ (x : DelimiterBytes). begun_with x (b.records ++ entry.content ∷ [])) d in
    subst (λ ms. IsSplit (stream ++ 13 ∷ []) ms (left_after left entry entry.content.kind) [])
    (sym (append-nil messages))
    (subst (λ (x : Option Begun). IsSplit (stream ++ 13 ∷ []) messages x []) (sym goes)
    (split_inner stream messages held b (subst (λ (x : Option Begun). IsSplit stream messages x held) l c) entry.content
    (subst (λ (x : DelimiterBytes). IsRecord x held entry.content) d is) placed other))
split_taken stream messages left held entry (Some m) c (inner b l d is placed) whole =
    subst (λ (x : Option Begun). IsSplit (stream ++ 13 ∷ []) (messages ++ m ∷ []) x [])
    (sym (ap (left_after left entry) whole.0))
    (split_closing stream messages held b (subst (λ (x : Option Begun). IsSplit stream messages x held) l c)
    entry.content m
    (subst (λ (x : DelimiterBytes). IsRecord x held entry.content) d is) whole.1 (whole.2 ∙ d)
    (whole.3 ∙ ap (λ (x : Option Begun). records_of x ++ entry.content ∷ []) l))
