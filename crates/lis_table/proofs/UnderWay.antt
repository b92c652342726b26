-- The pass over a text: what was put, what is begun, and one place more.
use Rattle.std.proofs.Common.{◌≡◌, ◌≤◌, ◌<◌, ℕ, ◌+◌, ◌*◌, ◌-◌, ◌^◌, false, List, []}
use Rattle.std.proofs.Common.{◌∷◌, Option, None, Some, length, take, drop, refl, sym, ap, subst, ◌∙◌, arith, inl}
use Rattle.std.proofs.Common.{inr, take-append-drop, get_or}
use Rattle.std.specs.Prelude.{IfNone, IfSome, slice_set}
use Rattle.std.specs.List.{All}
use Rattle.std.proofs.lemmas.Bool.Decides.{eqb_tells}
use Rattle.std.proofs.lemmas.List.{drop-drop, drop_all, drop_more, length-drop, length-take-le}
use Rattle.lis_record_values.specs.Delimiters.{DelimiterBytes}
use Rattle.lis_record_read.specs.inside.FrontReading.{stops}
use Rattle.std.specs.Int.Count.{count_trailing_zeros}
use Rattle.lis_record.proofs.LeftMarks.{Left, Next, end_is, left-next, none-left}
use Rattle.lis_table.specs.declared.table.LisPart.{LisPart}
use Rattle.lis_table.specs.inside.Scan.{IsRoomy, longer, next_place, scanned, scanned_by, up_to}
use Rattle.lis_table.specs.inside.Stops.{AreAhead}
use Rattle.lis_table.proofs.StopLaws.{none-before, none-pass}
use Rattle.lis_table.proofs.Written.{drop-next, put-written, scanned-free, written, written-none}

-- so many components were put, this one is begun, and the bytes from a place on are left
pub record IsUnderWay (d : DelimiterBytes) (table : List LisPart) (text : List ℕ) (before : List LisPart)
    (begun : LisPart) (at : ℕ) (out : List LisPart) (count : ℕ) : Type 0 where
  pub left : drop count table ≡ scanned d (up_to begun at) (drop at text)
  pub put : out ≡ written table before count
  pub begins : begun.offset ≤ at
  pub within : at ≤ length text
  pub room : IsRoomy (up_to begun at) (length text - at)
  pub few : count ≤ at
  pub short : length text < 2 ^ 31

pub is-roomy : (p : LisPart) (left : ℕ) → 0 < left → IsRoomy p left → IsRoomy p 1
is-roomy p left some room = record {
  place = omega (arith, room.place);
  field = omega (arith, room.field);
  repeat = omega (arith, room.repeat);
  component = omega (arith, room.component);
}

module _ (d : DelimiterBytes) where
  -- the numbers of what begins after a byte fit too
  next-roomy : (q next : LisPart) (byte left : ℕ) → IsRoomy q (left + 1) → next_place d q byte ≡ Some next
      → IsRoomy next left
  next-roomy q next byte left room is =
      elim (eqb_tells byte d.field) [
        | inl t ↦ as_is _ (rw t.0 at is) (record {
          place = omega (arith, room.place);
          field = omega (arith, room.field);
          repeat = omega (arith, room.repeat);
          component = omega (arith, room.component);
        })
        | inr t ↦
            elim (eqb_tells byte d.repeat) [
              | inl s ↦ as_is _ (rw (t.0, s.0) at is) (record {
                place = omega (arith, room.place);
                field = omega (arith, room.field);
                repeat = omega (arith, room.repeat);
                component = omega (arith, room.component);
              })
              | inr s ↦
                  elim (eqb_tells byte d.component) [
                    | inl w ↦ as_is _ (rw (t.0, s.0, w.0) at is) (record {
                      place = omega (arith, room.place);
                      field = omega (arith, room.field);
                      repeat = omega (arith, room.repeat);
                      component = omega (arith, room.component);
                    })
                    | inr w ↦ let none : None ≡ Some next = rw (t.0, s.0, w.0) at is in cc
                  ]
            ]
      ]
    where
      as_is : (r : LisPart) → Some r ≡ Some next → IsRoomy r left → IsRoomy next left
      as_is r e room = let same : r ≡ next = cc in subst (λ (x : LisPart). IsRoomy x left) same room

  longer-roomy : (q : LisPart) (byte left : ℕ) → IsRoomy q (left + 1) → IsRoomy (longer d q byte) left
  longer-roomy q byte left room = record {
    place = omega (arith, room.place);
    field = omega (arith, room.field);
    repeat = omega (arith, room.repeat);
    component = omega (arith, room.component);
  }

module _ (d : DelimiterBytes) (table : List LisPart) (text : List ℕ) (before : List LisPart) where
  -- at the start
  pub begins-under_way : (first : LisPart) → (first.offset ≤ length text) × (first.len ≡ 0)
      → IsRoomy first (length text - first.offset) → length text < 2 ^ 31
      → table ≡ scanned d first (drop first.offset text)
      → IsUnderWay d table text before first first.offset before 0
  begins-under_way first begins room short is =
      let none : 0 ≡ first.offset - first.offset = omega arith in
      let same : first ≡ up_to first first.offset =
      ap (λ (n : ℕ). record first { len = n }) (begins.1 ∙ none) in
      record {
        left = is ∙ ap (λ (p : LisPart). scanned d p (drop first.offset text)) same;
        put = written-none table before;
        begins = omega arith;
        within = begins.0;
        room = subst (λ (p : LisPart). IsRoomy p (length text - first.offset)) same room;
        few = omega arith;
        short = short;
      }

  module _ (begun : LisPart) (at : ℕ) (out : List LisPart) (count : ℕ)
      (u : IsUnderWay d table text before begun at out count)
    where
      -- so many bytes are in the component
      pub passed : (n : ℕ) → at + n ≤ length text → All (λ b. stops d d.escape b ≡ false) (take n (drop at text))
          → IsUnderWay d table text before begun (at + n) out count
      passed n within free =
          let rest = drop at text in
          let size : length (take n rest) ≡ n =
          length-take-le n rest (omega (arith, length-drop at text)) in
          let grown : (up_to begun at).len + length (take n rest) ≡ at + n - begun.offset =
          omega (arith, size, u.begins) in
          record {
            left =
                u.left ∙ ap (scanned d (up_to begun at)) (sym (take-append-drop n rest))
                ∙ scanned-free d (up_to begun at) (take n rest) (drop n rest) free
                ∙ ap (λ (k : ℕ). scanned d (record begun { len = k }) (drop n rest)) grown
                ∙ ap (scanned d (up_to begun (at + n))) (drop-drop n at text);
            put = u.put;
            begins = omega (arith, u.begins);
            within = within;
            room = record {
              place = omega (arith, u.room.place, u.begins);
              field = omega (arith, u.room.field);
              repeat = omega (arith, u.room.repeat);
              component = omega (arith, u.room.component);
            };
            few = omega (arith, u.few);
            short = u.short;
          }

      module _ (byte : ℕ) (inside : at < length text) (is : byte ≡ get_or text at 0) where
        abbrev p : LisPart
        p = up_to begun at

        abbrev more : List ℕ
        more = drop (at + 1) text

        room_left : IsRoomy p (length text - (at + 1) + 1)
        room_left =
            let size : length text - at ≡ length text - (at + 1) + 1 = omega arith in rw size at u.room

        at_byte : drop count table
            ≡ scanned_by p (next_place d p byte) (longer d p byte) (λ q. scanned d q more)
        at_byte = u.left ∙ ap (scanned d p) (drop_more text at 0 inside ∙ ap (λ (b : ℕ). b ∷ more) (sym is))

        -- it ends the component and the next one begins, or it is in it
        pub taken : (next : LisPart) (new : List LisPart) (more_count : ℕ)
            → IfSome (next_place d p byte) (λ of. (up_to next (at + 1) ≡ of) × (next.offset ≡ at + 1)
            × (more_count ≡ count + 1) × (new ≡ slice_set out count p))
            → IfNone (next_place d p byte) ((up_to next (at + 1) ≡ longer d p byte) × (next.offset ≡ begun.offset)
            × (more_count ≡ count) × (new ≡ out))
            → IsUnderWay d table text before next (at + 1) new more_count
        taken next new more_count ends goes_on = by (next_place d p byte) refl
          where
            by : (o : Option LisPart) → next_place d p byte ≡ o
                → IsUnderWay d table text before next (at + 1) new more_count
            by (Some of) e =
                let is = rw e at ends in
                let here : drop count table ≡ p ∷ scanned d (up_to next (at + 1)) more =
                at_byte ∙ ap (λ (o : Option LisPart). scanned_by p o (longer d p byte) (λ q. scanned d q more)) e
                ∙ ap (λ (q : LisPart). p ∷ scanned d q more) (sym is.0) in
                rw is.2 record {
                  left = drop-next table count p (scanned d (up_to next (at + 1)) more) here;
                  put =
                      put-written table before out new count p (scanned d (up_to next (at + 1)) more) here u.put is.3;
                  begins = omega (arith, is.1);
                  within = omega arith;
                  room =
                      subst (λ (q : LisPart). IsRoomy q (length text - (at + 1))) (sym is.0)
                      (next-roomy d p of byte (length text - (at + 1)) room_left e);
                  few = omega (arith, u.few);
                  short = u.short;
                }
            by None e =
                let is = rw e at goes_on in
                rw (is.2, is.3) record {
                  left =
                      at_byte
                      ∙ ap (λ (o : Option LisPart). scanned_by p o (longer d p byte) (λ q. scanned d q more)) e
                      ∙ ap (λ (q : LisPart). scanned d q more) (sym is.0);
                  put = u.put;
                  begins = omega (arith, u.begins, is.1);
                  within = omega arith;
                  room =
                      subst (λ (q : LisPart). IsRoomy q (length text - (at + 1))) (sym is.0)
                      (longer-roomy d p byte (length text - (at + 1)) room_left);
                  few = omega (arith, u.few);
                  short = u.short;
                }

-- the same, within bytes of which the places are known: those that are left are the bits
pub record IsAmong (d : DelimiterBytes) (table : List LisPart) (text : List ℕ) (before : List LisPart)
    (begun : LisPart) (from bits size : ℕ) (out : List LisPart) (count : ℕ) : Type 0 where
  pub place : ℕ
  pub known : ℕ
  pub reach : place + known ≡ size
  pub some : 0 < size
  pub bound : from + size ≤ length text
  pub marks : Left (stops d d.escape) (drop from text) bits place known
  pub under : IsUnderWay d table text before begun (from + place) out count

-- the next place, its bit, and what is so after its byte was taken
pub record IsNextStop (d : DelimiterBytes) (table : List LisPart) (text : List ℕ) (before : List LisPart)
    (begun : LisPart) (from bits size : ℕ) (out : List LisPart) (count end : ℕ) : Type 0 where
  pub bit : 2 ^ end ≤ bits
  pub inside : from + end < length text
  pub under : IsUnderWay d table text before begun (from + end) out count
  pub others : (next : LisPart) (new : List LisPart) (more_count : ℕ)
      → IsUnderWay d table text before next (from + end + 1) new more_count
      → IsAmong d table text before next from (bits - 2 ^ end) size new more_count

module _ (d : DelimiterBytes) (table : List LisPart) (text : List ℕ) (before : List LisPart) (begun : LisPart)
    (from bits size : ℕ) (out : List LisPart) (count : ℕ)
  where
    pub among-start : from < length text → AreAhead d (drop from text) bits size
        → IsUnderWay d table text before begun from out count
        → IsAmong d table text before begun from bits size out count
    among-start inside ahead u =
        let here : from ≡ from + 0 = omega arith in
        let one : bits ≡ 2 ^ 0 * bits = omega arith in
        record {
          place = 0;
          known = size;
          reach = omega arith;
          some = ahead.some;
          bound = omega (arith, ahead.within, length-drop from text);
          marks = record {
            room = omega (arith, ahead.few);
            within = ahead.within;
            are = one ∙ ap (λ (n : ℕ). 2 ^ 0 * n) ahead.are;
          };
          under = subst (λ (n : ℕ). IsUnderWay d table text before begun n out count) here u;
        }

    module _ (a : IsAmong d table text before begun from bits size out count) where
      bytes_left : drop a.place (drop from text) ≡ drop (from + a.place) text
      bytes_left = drop-drop a.place from text

      -- where no bit is left, the known bytes are in the component
      pub among-end : bits ≡ 0 → IsUnderWay d table text before begun (from + size) out count
      among-end none =
          let clear = none-left (stops d d.escape) (drop from text) bits a.place a.known a.marks none in
          let free = none-pass (stops d d.escape) (take a.known (drop a.place (drop from text))) clear in
          let at : from + a.place + a.known ≡ from + size = omega (arith, a.reach) in
          rw at at (
          passed d table text before begun (from + a.place) out count a.under a.known
          (omega (arith, a.reach, a.bound)) (rw bytes_left at free)
          )

      pub next-stop : (bits ≡ 0 → ⊥)
          → IsNextStop d table text before begun from bits size out count (count_trailing_zeros 64 bits)
      next-stop some =
          let f = stops d d.escape in
          let end = count_trailing_zeros 64 bits in
          let n : Next f (drop from text) bits a.place a.known end =
          left-next f (drop from text) bits a.place a.known a.marks some end
          (end_is f (drop from text) bits a.place a.known a.marks some) in
          let free = none-before f (drop a.place (drop from text)) (end - a.place) n.first in
          let inside : from + end < length text = omega (arith, n.inside, length-drop from text) in
          let at : from + a.place + (end - a.place) ≡ from + end = omega (arith, n.from) in
          record {
            bit = n.bit;
            inside = inside;
            under =
                rw at at (
                passed d table text before begun (from + a.place) out count a.under (end - a.place)
                (omega (arith, inside, n.from)) (rw bytes_left at free)
                );
            others = λ next new more_count u. record {
              place = end + 1;
              known = a.place + a.known - (end + 1);
              reach = omega (arith, a.reach, n.near);
              some = a.some;
              bound = a.bound;
              marks = n.others;
              under =
                  let later : from + end + 1 ≡ from + (end + 1) = omega arith in
                  subst (λ (k : ℕ). IsUnderWay d table text before next k new more_count) later u;
            };
          }

-- the last component ends with the text
pub ends-under_way : (d : DelimiterBytes) (table : List LisPart) (text : List ℕ) (before : List LisPart)
    (begun : LisPart) (at : ℕ) (out : List LisPart) (count : ℕ) → IsUnderWay d table text before begun at out count
    → length text ≤ at → drop count table ≡ up_to begun (length text) ∷ []
ends-under_way d table text before begun at out count u end =
    let same : at ≡ length text = omega (arith, u.within) in
    let none : drop at text ≡ [] = drop_all at text end in
    u.left ∙ ap (scanned d (up_to begun at)) none ∙ ap (λ (n : ℕ). up_to begun n ∷ []) same
