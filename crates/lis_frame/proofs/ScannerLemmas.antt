-- What a scanner holds is all that is to be known of its stream.
use Rattle.std.proofs.Common.{◌≡◌, ℕ, ◌+◌, ◌<◌, Bool, true, false, List, [], ◌∷◌, ◌++◌, Option, None, Some, length}
use Rattle.std.proofs.Common.{refl, ap, sym, ◌∙◌, arith, length-append, cond}
use Rattle.std.specs.Prelude.{nat_lt, ◌==◌, ◌||◌, if◌then◌else◌}
use Rattle.std.specs.Option.{option_map}
use Rattle.std.proofs.lemmas.Bool.Decides.{nat_tests}
use Rattle.lis_text.specs.Control.{STX, EOT, ENQ, LF}
use Rattle.lis_frame.specs.declared.scanner.SignalOf.{SignalOf}
use Rattle.lis_frame.specs.declared.scanner.SignalOf.TheVariants.{Enq, Eot}
use Rattle.lis_frame.specs.Stream.{look_back, open_body, signal_after, ended_body, read_body}
use Rattle.lis_frame.specs.Scanner.{Held, outside, within, beyond, HoldsAtMost, kept, held_of, StandsFor}
use Rattle.lis_frame.specs.inside.Scanner.{with_byte, with_bytes, ended_held, held_signal, held_after}
use Rattle.lis_frame.proofs.FrameBodyLemmas.{body_fault-long}

-- the byte after what was found goes on after it
pub look_back-push :
    (past since : List ℕ) (b : ℕ) → look_back past (since ++ b ∷ [])
    ≡ option_map (λ s. s ++ b ∷ []) (look_back past since)
look_back-push [] since b = refl
look_back-push (x ∷ past) since b = by (x == STX) (x == EOT || x == ENQ || x == LF) (look_back-push past (x ∷ since) b)
  where
    by :
        (starts stops : Bool) →
        look_back past (x ∷ (since ++ b ∷ [])) ≡ option_map (λ s. s ++ b ∷ []) (look_back past (x ∷ since)) →
        cond starts (Some (since ++ b ∷ [])) (cond stops None (look_back past (x ∷ (since ++ b ∷ []))))
        ≡ option_map (λ s. s ++ b ∷ []) (cond starts (Some since) (cond stops None (look_back past (x ∷ since))))
    by true stops later = refl
    by false true later = refl
    by false false later = later

pub kept-push : (limit : ℕ) (s : List ℕ) (b : ℕ) → kept limit (s ++ b ∷ []) ≡ with_byte limit (kept limit s) b
kept-push limit s b = by (nat_lt (limit + 5) (length s)) refl
  where
    by : (test : Bool) → nat_lt (limit + 5) (length s) ≡ test
        → kept limit (s ++ b ∷ []) ≡ with_byte limit (kept limit s) b
    by true e =
        let longer : nat_lt (limit + 5) (length (s ++ b ∷ [])) ≡ true =
        rw (length-append s (b ∷ [])) (grind (arith, nat_tests)) in
        rw (e, longer) refl
    by false e = rw e refl

-- what is held is bounded, and stays so
HoldsAtMost-kept : (limit : ℕ) (s : List ℕ) → HoldsAtMost (limit + 5) (kept limit s)
HoldsAtMost-kept limit s = by (nat_lt (limit + 5) (length s)) refl
  where
    by : (test : Bool) → nat_lt (limit + 5) (length s) ≡ test → HoldsAtMost (limit + 5) (kept limit s)
    by true e = rw e tt
    by false e = rw e (grind (arith, nat_tests))

HoldsAtMost-with_byte : (limit : ℕ) (held : Held) (b : ℕ) → HoldsAtMost (limit + 5) (with_byte limit held b)
HoldsAtMost-with_byte limit outside b = tt
HoldsAtMost-with_byte limit (within s) b = HoldsAtMost-kept limit (s ++ b ∷ [])
HoldsAtMost-with_byte limit beyond b = tt

pub HoldsAtMost-with_bytes : (limit : ℕ) (held : Held) (run : List ℕ) → HoldsAtMost (limit + 5) held
    → HoldsAtMost (limit + 5) (with_bytes limit held run)
HoldsAtMost-with_bytes limit held [] h = h
HoldsAtMost-with_bytes limit held (b ∷ run) h =
    HoldsAtMost-with_bytes limit (with_byte limit held b) run (HoldsAtMost-with_byte limit held b)

pub HoldsAtMost-held_after : (limit : ℕ) (held : Held) (b : ℕ) → HoldsAtMost (limit + 5) (held_after limit held b)
HoldsAtMost-held_after limit held b = by (b == STX) (b == EOT || b == ENQ || b == LF)
  where
    by : (starts stops : Bool) → HoldsAtMost (limit + 5)
        (cond starts (within []) (cond stops outside (with_byte limit held b)))
    by true stops = omega arith
    by false true = tt
    by false false = HoldsAtMost-with_byte limit held b

held_of-push :
    (limit : ℕ) (o : Option (List ℕ)) (b : ℕ) → held_of limit (option_map (λ s. s ++ b ∷ []) o)
    ≡ with_byte limit (held_of limit o) b
held_of-push limit None b = refl
held_of-push limit (Some s) b = kept-push limit s b

ended-held_of : (limit : ℕ) (o : Option (List ℕ)) → ended_held limit (held_of limit o) ≡ ended_body limit o
ended-held_of limit None = refl
ended-held_of limit (Some s) = by (nat_lt (limit + 5) (length s)) refl
  where
    by : (test : Bool) → nat_lt (limit + 5) (length s) ≡ test
        → ended_held limit (kept limit s) ≡ Some (read_body limit s)
    by true e =
        let long : limit + 5 < length s = grind (arith, nat_tests) in
        rw (e, body_fault-long limit s long) refl
    by false e = rw e refl

kept_nothing : (limit : ℕ) → within [] ≡ kept limit []
kept_nothing limit =
    let room : nat_lt (limit + 5) 0 ≡ false = grind (arith, nat_tests) in
    rw room refl

pub represents_new : (limit : ℕ) → StandsFor limit outside []
unfolding StandsFor open_body
represents_new limit = refl

pub represents_signal :
    (limit : ℕ) (held : Held) (past : List ℕ) (b : ℕ) → StandsFor limit held past
    → held_signal limit held b ≡ signal_after limit past b
unfolding StandsFor signal_after
represents_signal limit held past b h =
    ap (λ (t : Option (SignalOf limit)). if b == ENQ then Some Enq else if b == EOT then Some Eot else if b == LF
    then t else None)
    (ap (ended_held limit) h ∙ ended-held_of limit (open_body past))

pub represents_after :
    (limit : ℕ) (held : Held) (past : List ℕ) (b : ℕ) → StandsFor limit held past
    → StandsFor limit (held_after limit held b) (b ∷ past)
unfolding StandsFor open_body
represents_after limit held past b h = by (b == STX) (b == EOT || b == ENQ || b == LF)
  where
    by :
        (starts stops : Bool) →
        cond starts (within []) (cond stops outside (with_byte limit held b))
        ≡ held_of limit (cond starts (Some []) (cond stops None (look_back past (b ∷ []))))
    by true stops = kept_nothing limit
    by false true = refl
    by false false = rw (h, look_back-push past [] b) (sym (held_of-push limit (look_back past []) b))
