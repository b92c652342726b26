-- Where a stream is read, and where its reading stops.
use Rattle.std.proofs.Common.{◌≡◌, ℕ, ◌+◌, ◌<◌, ◌≤◌, inl, inr, List, [], ◌∷◌, ◌++◌, length, take, drop, Option, Some}
use Rattle.std.proofs.Common.{refl, zero, suc, sym, ◌∙◌, ap, subst, append_assoc, arith, length-take}
use Rattle.std.specs.List.{flat_map}
use Rattle.std.proofs.lemmas.List.{append-nil, take-append-drop}
use Rattle.lis_record_write.specs.declared.writing.TheConstants.{RECORD_LIMIT}
use Rattle.lis_record_values.specs.declared.faults.MessageFault.{MessageFault}
use Rattle.lis_record_values.specs.declared.faults.Reason.TheVariants as reasons
use Rattle.lis_tree.specs.Begun.{Begun}
use Rattle.lis_message.specs.Feeding.{IsOutOfMemory, StopsReading, next_place}
use Rattle.lis_message.specs.inside.Feeding.{Unended, LeadsTo, StopsIn}
use Rattle.lis_message.specs.Stream.{ended, refusal, IsSplit, IsRefused, LacksReturn}
use Rattle.lis_tree.specs.Tree.{MessageTree}
use Rattle.lis_message.proofs.Lines.{lacks_append}

-- the stream without what is held
front_split : (stream : List ℕ) (messages : List MessageTree) (left : Option Begun) (held : List ℕ)
    (c : IsSplit stream messages left held)
    → IsSplit (flat_map ended c.groups ++ ended c.texts) messages left []
front_split stream messages left held c = record {
  groups = c.groups;
  texts = c.texts;
  whole = sym (append-nil (flat_map ended c.groups ++ ended c.texts));
  read = c.read;
  begun = c.begun;
  lacks = tt;
  short = omega arith;
}

pub lacks_take : (n : ℕ) (xs : List ℕ) → LacksReturn xs → LacksReturn (take n xs)
lacks_take zero xs l = tt
lacks_take (suc n) [] l = tt
lacks_take (suc n) (x ∷ xs) l = (l.0, lacks_take n xs l.1)

-- a record is rejected at its CR
pub refused_line : (stream : List ℕ) (messages : List MessageTree) (left : Option Begun) (held text rest : List ℕ)
    (fault : MessageFault) → IsSplit stream messages left held → LacksReturn text → length (held ++ text) ≤ RECORD_LIMIT
    → refusal left (held ++ text) ≡ Some fault.reason → fault.place ≡ next_place left
    → IsRefused (stream ++ (text ++ 13 ∷ rest)) messages fault
refused_line stream messages left held text rest fault c lacks short why place = record {
  front = flat_map ended c.groups ++ ended c.texts;
  left = left;
  text = held ++ text;
  more = 13 ∷ rest;
  whole = ap (λ l. l ++ (text ++ 13 ∷ rest)) c.whole ∙ simp append_assoc;
  split = front_split stream messages left held c;
  lacks = lacks_append held text c.lacks lacks;
  place = place;
  refused = inl (record { rest = rest; ended_by = refl; short = short; why = why });
}

regroup : (front held text rest : List ℕ) → (front ++ held) ++ (text ++ rest) ≡ front ++ ((held ++ text) ++ rest)
regroup front held text rest = simp append_assoc

spread : (front a b rest : List ℕ) → front ++ ((a ++ b) ++ rest) ≡ front ++ a ++ (b ++ rest)
spread front a b rest = simp append_assoc

-- a record is too long, before its CR
pub refused_long : (stream : List ℕ) (messages : List MessageTree) (left : Option Begun) (held text rest : List ℕ)
    (fault : MessageFault) → IsSplit stream messages left held → LacksReturn text → RECORD_LIMIT < length (held ++ text)
    → fault.reason ≡ reasons.RecordTooLong → fault.place ≡ next_place left
    → IsRefused (stream ++ (text ++ rest)) messages fault
refused_long stream messages left held text rest fault c lacks long why place =
    let front = flat_map ended c.groups ++ ended c.texts in
    let all = held ++ text in
    let n = RECORD_LIMIT + 1 in
    let parts : take n all ++ drop n all ≡ all = take-append-drop n all in
    record {
      front = front;
      left = left;
      text = take n all;
      more = drop n all ++ rest;
      whole = ap (λ l. l ++ (text ++ rest)) c.whole ∙ regroup front held text rest
          ∙ ap (λ l. front ++ (l ++ rest)) (sym parts) ∙ spread front (take n all) (drop n all) rest;
      split = front_split stream messages left held c;
      lacks = lacks_take n all (lacks_append held text c.lacks lacks);
      place = place;
      refused = inr (record { long = length-take n all ∙ omega arith; why = why });
    }

-- memory runs out
pub starved : (stream : List ℕ) (messages : List MessageTree) (left : Option Begun) (held bytes : List ℕ)
    (fault : MessageFault) → IsSplit stream messages left held
    → fault.place ≡ next_place left → fault.reason ≡ reasons.OutOfMemory
    → IsOutOfMemory (stream ++ bytes) messages fault
starved stream messages left held bytes fault c place why = record {
  front = flat_map ended c.groups ++ ended c.texts;
  left = left;
  more = held ++ bytes;
  whole = ap (λ l. l ++ bytes) c.whole ∙ simp append_assoc;
  split = front_split stream messages left held c;
  place = place;
  why = why;
}

-- ---- the reader's steps

-- one frame body after another
pub goes_then : (a b c : Unended) (ms ns os : List MessageTree) (xs ys : List ℕ) → LeadsTo a ms xs b ns
    → LeadsTo b ns ys c os → LeadsTo a ms (xs ++ ys) c os
goes_then a b c ms ns os xs ys g h past base split =
    subst (λ s. IsSplit s (base ++ os) c.left c.held) (append_assoc past xs ys)
    (h (past ++ xs) base (g past base split))

pub goes_stops : (a b : Unended) (ms ns os : List MessageTree) (xs ys : List ℕ) (fault : MessageFault)
    → LeadsTo a ms xs b ns → StopsIn b ns ys os fault → StopsIn a ms (xs ++ ys) os fault
goes_stops a b ms ns os xs ys fault g h past base split =
    subst (λ s. StopsReading s (base ++ os) fault) (append_assoc past xs ys) (h (past ++ xs) base (g past base split))
