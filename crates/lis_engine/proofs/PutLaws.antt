-- Texts that go out one after the other.
use Rattle.std.proofs.Common.{◌≡◌, ℕ, ◌+◌, ◌≤◌, ◌<◌, List, [], ◌∷◌, ◌++◌, Option, None, Some, Ok, Err, length, take}
use Rattle.std.proofs.Common.{min, sym, ◌∙◌, ap, arith, append-nil, append_assoc, length-append, take_all}
use Rattle.std.proofs.lemmas.List.{take-append-le}
use Rattle.std.proofs.Math.Seq.{take-append-add}
use Rattle.std.specs.declared.result.Result.{Result}
use Rattle.std.specs.Io.KnownBytes.{Appends, Keeps}
use Rattle.lis_engine.specs.declared.fault.ToolFault.{ToolFault}
use Rattle.lis_engine.specs.declared.fault.ToolFault.TheVariants.{CaptureLine, Read, Write, OutOfMemory, TooManyReads}
use Rattle.lis_engine.specs.Output.{FailedIn, most_counted, WentOut}
use Rattle.lis_engine.specs.inside.Output.{Put}

pub appends_nothing : (a : Option (List ℕ)) → Appends a a []
appends_nothing None = tt
appends_nothing (Some xs) = sym (append-nil xs)

pub keeps_appends : (a b : Option (List ℕ)) → Keeps a b → Appends a b []
keeps_appends None b keeps = tt
keeps_appends (Some xs) None keeps = keeps
keeps_appends (Some xs) (Some ys) keeps = keeps ∙ sym (append-nil xs)

pub appends_then : (a b c : Option (List ℕ)) (xs ys : List ℕ) → Appends a b xs → Appends b c ys → Appends a c (xs ++ ys)
appends_then None b c xs ys first second = tt
appends_then (Some ws) None c xs ys first second = absurd first
appends_then (Some ws) (Some bs) None xs ys first second = second
appends_then (Some ws) (Some bs) (Some cs) xs ys first second =
    second ∙ ap (λ (l : List ℕ). l ++ ys) first ∙ append_assoc ws xs ys

-- bytes that a sink took whole
pub put_taken :
    (a b : Option (List ℕ)) (before after : ℕ) (text : List ℕ) → Appends a b text
    → after ≡ min (before + length text) most_counted → WentOut a b before after text (length text)
put_taken a b before after text taken counted =
    record { within = omega arith; taken = rw (take_all (length text) text (omega arith)) taken; counted = counted }

pub put_nothing : (a : Option (List ℕ)) (before : ℕ) → before ≤ most_counted → WentOut a a before before [] 0
put_nothing a before fits = put_taken a a before before [] (appends_nothing a) (omega arith)

pub put_none : (a : Option (List ℕ)) (before : ℕ) (text : List ℕ) → before ≤ most_counted → length text ≡ 0
    → WentOut a a before before text (length text)
put_none a before [] fits none = put_nothing a before fits
put_none a before (b ∷ text) fits none = cc

-- the sink failed before it took any
pub put_failed :
    (a b : Option (List ℕ)) (before : ℕ) (text : List ℕ) → before ≤ most_counted → 0 < length text → Keeps a b →
    FailedIn a b before (Write before) text
put_failed a b before text fits some keeps =
    (0, some, record { within = omega arith; taken = keeps_appends a b keeps; counted = omega arith })

pub part_then :
    (a b c : Option (List ℕ)) (before middle after count : ℕ) (xs ys : List ℕ) →
    WentOut a b before middle xs (length xs) → WentOut b c middle after ys count
    → WentOut a c before after (xs ++ ys) (length xs + count)
part_then a b c before middle after count xs ys first second =
    let whole : Appends a b xs = rw (take_all (length xs) xs (omega arith)) at first.taken in
    record {
      within = omega (arith, length-append xs ys, second.within);
      taken = rw (take-append-add xs ys count) (appends_then a b c xs (take count ys) whole second.taken);
      counted = omega (arith, first.counted, second.counted);
    }

-- a text that went out whole, and then another
pub put_then :
    (a b c : Option (List ℕ)) (before middle after : ℕ) (r : Result Unit ToolFault) (xs ys : List ℕ) →
    WentOut a b before middle xs (length xs) → Put b c middle after r ys → Put a c before after r (xs ++ ys)
put_then a b c before middle after (Ok done) xs ys first second =
    rw (length-append xs ys) (part_then a b c before middle after (length ys) xs ys first second)
put_then a b c before middle after (Err (Write written)) xs ys first second = (
  length xs + second.0,
  omega (arith, length-append xs ys, second.1),
  part_then a b c before middle written second.0 xs ys first second.2,
)
put_then a b c before middle after (Err (CaptureLine line)) xs ys first second = second
put_then a b c before middle after (Err Read) xs ys first second = second
put_then a b c before middle after (Err OutOfMemory) xs ys first second = second
put_then a b c before middle after (Err TooManyReads) xs ys first second = second

-- where the sink failed in a text, it failed in any longer one
pub put_stops :
    (a b : Option (List ℕ)) (before : ℕ) (fault : ToolFault) (xs ys : List ℕ) → FailedIn a b before fault xs
    → FailedIn a b before fault (xs ++ ys)
put_stops a b before (Write written) xs ys put = (
  put.0,
  omega (arith, length-append xs ys, put.1),
  record {
    within = omega (arith, length-append xs ys, put.1);
    taken = rw (take-append-le put.0 xs ys (omega (arith, put.1))) put.2.taken;
    counted = put.2.counted;
  },
)
put_stops a b before (CaptureLine line) xs ys put = put
put_stops a b before Read xs ys put = put
put_stops a b before OutOfMemory xs ys put = put
put_stops a b before TooManyReads xs ys put = put
