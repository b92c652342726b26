-- Texts that are put one after the other.
use Rattle.std.proofs.Common.{◌≡◌, List, [], ◌++◌, Ok, Err, sym, ◌∙◌, ap, subst, append-nil, append_assoc, refl, ℕ}
use Rattle.std.proofs.Common.{arith, is_err}
use Rattle.std.specs.declared.result.Result.{Result}
use Rattle.lis_engine.specs.declared.fault.ToolFault.{ToolFault}
use Rattle.lis_engine.specs.Output.{Broke, FailedIn, IsPut, IsWorking, Out, WentOn}
use Rattle.lis_engine.specs.inside.Output.{Put}
use Rattle.lis_engine.proofs.PutLaws.{put_nothing, put_stops, put_then}

pub nothing_put : (a : Out) → IsWorking a → WentOn a a []
nothing_put a working = record {
  working = working;
  same = refl;
  front = [];
  joined = append-nil a.waits;
  went = put_nothing a.taken a.written working.counts;
}

-- a text, and then another
pub put_on :
    (a b c : Out) (r : Result Unit ToolFault) (xs ys : List ℕ) → WentOn a b xs → IsPut b c r ys → IsPut a c r (xs ++ ys)
put_on a b c (Ok done) xs ys first second = record {
  working = second.working;
  same = second.same ∙ first.same;
  front = first.front ++ second.front;
  joined =
      sym (append_assoc a.waits xs ys) ∙ ap (λ (t : List ℕ). t ++ ys) first.joined
      ∙ append_assoc first.front b.waits ys ∙ ap (λ (t : List ℕ). first.front ++ t) second.joined
      ∙ sym (append_assoc first.front second.front c.waits);
  went =
      put_then a.taken b.taken c.taken a.written b.written c.written (Ok done) first.front second.front first.went
      second.went;
}
put_on a b c (Err fault) xs ys first second = record {
  failed = second.failed;
  same = second.same ∙ first.same;
  part =
      subst (λ (t : List ℕ). FailedIn a.taken c.taken a.written fault t)
      (sym (append_assoc first.front b.waits ys) ∙ ap (λ (t : List ℕ). t ++ ys) (sym first.joined)
      ∙ append_assoc a.waits xs ys)
      (put_then a.taken b.taken c.taken a.written b.written 0 (Err fault) first.front (b.waits ++ ys) first.went
      second.part);
}

-- where the sink failed in a text, it failed in any longer one
pub breaks_on : (a b : Out) (fault : ToolFault) (xs ys : List ℕ) → Broke a b fault xs → Broke a b fault (xs ++ ys)
breaks_on a b fault xs ys broke = record {
  failed = broke.failed;
  same = broke.same;
  part =
      subst (λ (t : List ℕ). FailedIn a.taken b.taken a.written fault t) (append_assoc a.waits xs ys)
      (put_stops a.taken b.taken a.written fault (a.waits ++ xs) ys broke.part);
}

-- a text that goes out by itself, after what waited
pub put_alone :
    (a b c : Out) (r : Result Unit ToolFault) (text : List ℕ) → WentOn a b [] → b.waits ≡ [] → c.waits ≡ b.waits
    → c.sink ≡ b.sink → c.failed ≡ is_err r → Put b.taken c.taken b.written c.written r text → IsPut a c r text
put_alone a b c (Ok done) text first none empty same works put =
    put_on a b c (Ok done) [] text first (record {
      working = record { works = works; counts = omega (arith, put.counted) };
      same = same;
      front = text;
      joined =
          ap (λ (t : List ℕ). t ++ text) none
          ∙ sym (ap (λ (t : List ℕ). text ++ t) (empty ∙ none) ∙ append-nil text);
      went = put;
    })
put_alone a b c (Err fault) text first none empty same failed put =
    put_on a b c (Err fault) [] text first (record {
      failed = failed;
      same = same;
      part = subst (λ (t : List ℕ). FailedIn b.taken c.taken b.written fault (t ++ text)) (sym none) put;
    })

-- a text that there was room for
pub waits_on :
    (a b : Out) (text : List ℕ) → IsWorking a → b ≡ record a { waits = b.waits } → b.waits ≡ a.waits ++ text
    → WentOn a b text
waits_on a b text works kept waits = record {
  working = rw kept (record { works = works.works; counts = works.counts });
  same = ap (λ (o : Out). o.sink) kept;
  front = [];
  joined = sym waits;
  went = rw kept (put_nothing a.taken a.written works.counts);
}
