-- Results that were read so far, and one more; counts of them.
use Rattle.std.proofs.Common.{◌≡◌, ℕ, ◌+◌, ◌<◌, ◌≤◌, List, [], ◌∷◌, ◌++◌, Option, None, Some, length, take, take_all}
use Rattle.std.proofs.Common.{refl, sym, ap, ◌∙◌, arith}
use Rattle.std.proofs.Common.{append-nil, min, get_or, drop, Bor, Result, Ok, Err}
use Rattle.std.specs.Result.{IfErr, IsErrAnd}
use Rattle.std.proofs.lemmas.Grind.{flat_map-append}
use Rattle.std.proofs.lemmas.List.{take_more, take-append-drop}
use Rattle.std.specs.List.{AllZip, flat_map}
use Rattle.lis_message.specs.Feeding.{ReaderState, answer_at_end, finished}
use Rattle.lis_message.specs.Stream.{IsSplit}
use Rattle.lis_tree.specs.Begun.{Begun}
use Rattle.lis_tree.specs.Results.{ResultNode, results_of}
use Rattle.lis_tree.specs.Tree.{MessageTree}
use Rattle.uses.specs.declared.results.Reading.{Reading}
use Rattle.lis_bytes.specs.Capped.{capped}
use Rattle.uses.specs.Readings.{IsReading, result_count}

-- one more reading
pub one_more : (nodes : List ResultNode) (readings : List Reading) (node : ResultNode) (reading : Reading)
    → AllZip IsReading nodes readings → IsReading node reading
    → AllZip IsReading (nodes ++ node ∷ []) (readings ++ reading ∷ [])
one_more [] [] node reading all is = (is, record {})
one_more [] (r ∷ readings) node reading all is = elim all [ ]
one_more (n ∷ nodes) [] node reading all is = elim all [ ]
one_more (n ∷ nodes) (r ∷ readings) node reading all is = (all.0, one_more nodes readings node reading all.1 is)

-- the results of messages after others
pub result_count-append : (messages more : List MessageTree)
    → result_count (messages ++ more) ≡ result_count messages + result_count more
result_count-append [] more = omega arith
result_count-append (m ∷ messages) more = omega (arith, result_count-append messages more)

-- counts that stop at the greatest number
pub capped_more : (count more : ℕ) → capped (capped count + capped more) ≡ capped (count + more)
capped_more count more = omega arith

-- the results of one message more
pub counts_next : (base index : ℕ) (messages : List MessageTree) (message : MessageTree) (count more : ℕ)
    → index < length messages
    → message ≡ get_or messages index message → count ≡ capped (base + result_count (take index messages))
    → more ≡ capped (length (results_of message))
    → min (count + more) 18446744073709551615 ≡ capped (base + result_count (take (index + 1) messages))
counts_next base index messages message count more few is before next =
    rw (
      take_more messages index message few,
      sym is,
      result_count-append (take index messages) (message ∷ []),
      before,
      next,
    )
    (omega arith)

-- a stream of one piece more
pub stream_next : (pieces : List (Bor (List ℕ))) (index : ℕ) (none : Bor (List ℕ)) → index < length pieces
    → flat_map (λ (p : Bor (List ℕ)). p.now) (take (index + 1) pieces) ≡ flat_map (λ (p : Bor (List ℕ)). p.now)
    (take index pieces) ++ (get_or pieces index none).now
stream_next pieces index none few =
    rw (
      take_more pieces index none few,
      flat_map-append (λ (p : Bor (List ℕ)). p.now) (take index pieces)
          (get_or pieces index none ∷ []),
      append-nil (get_or pieces index none).now,
    ) refl

-- the pieces after a front
pub stream_rest : (pieces : List (Bor (List ℕ))) (index : ℕ)
    → flat_map (λ (p : Bor (List ℕ)). p.now) pieces ≡ flat_map (λ (p : Bor (List ℕ)). p.now) (take index pieces)
    ++ flat_map (λ (p : Bor (List ℕ)). p.now) (drop index pieces)
stream_rest pieces index =
    ap (flat_map (λ (p : Bor (List ℕ)). p.now)) (sym (take-append-drop index pieces))
    ∙ flat_map-append (λ (p : Bor (List ℕ)). p.now) (take index pieces) (drop index pieces)

-- nothing was read yet
pub nothing_read : IsSplit [] [] None []
nothing_read = record {
  groups = [];
  texts = [];
  whole = refl;
  read = record {};
  begun = refl;
  lacks = record {};
  short = omega arith;
}

ended : {stream : List ℕ} {messages : List MessageTree} (left : Option Begun) (held : List ℕ)
    → answer_at_end left held ≡ Ok tt → IsSplit stream messages left held → IsSplit stream messages None []
ended None [] well split = split
ended None (byte ∷ held) well split = cc
ended (Some begun) held well split = cc

-- an error that is passed on
pub if_err : {T E : Type 0} (P Q : E → Type 0) (result : Result T E) → IsErrAnd result P → ((e : E) → P e → Q e)
    → IfErr result Q
if_err P Q (Ok value) is implies = record {}
if_err P Q (Err e) is implies = implies e is

-- a stream that ends well ends after a message
pub ends_well : (reader : ReaderState) (pieces : List (Bor (List ℕ))) (index : ℕ) (messages : List MessageTree)
    → length pieces ≤ index → reader.fault ≡ None → finished reader ≡ Ok tt
    → IsSplit (flat_map (λ (p : Bor (List ℕ)). p.now) (take index pieces)) messages reader.left reader.held
    → IsSplit (flat_map (λ (p : Bor (List ℕ)). p.now) pieces) messages None []
ends_well reader pieces index messages all fine well split =
    let whole = rw (take_all index pieces all) at split in
    ended reader.left reader.held (rw fine at well) whole
