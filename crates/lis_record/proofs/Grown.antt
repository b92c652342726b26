-- Texts that still begin with what they were.
use Rattle.std.proofs.Common.{◌≡◌, ℕ, ◌≤◌, List, ◌++◌, length, length-take, take, ap, refl, sym, ◌∙◌, arith}
use Rattle.std.proofs.lemmas.List.{take-append-le, take-take, take_all}
use Rattle.std.specs.Prelude.{OnErr, Result, Ok, Err}
use Rattle.std.specs.Io.{StartsWith}

-- what a text begins with is no longer than the text
pub start_within : (text start : List ℕ) → StartsWith text start → length start ≤ length text
start_within text start begins =
    omega (arith, ap length begins, length-take (length start) text)

pub starts_same : (text old : List ℕ) → text ≡ old → StartsWith text old
starts_same text old same = rw same (take_all (length old) old (omega arith))

pub starts_more : (text added start : List ℕ) → StartsWith text start → StartsWith (text ++ added) start
starts_more text added start begins =
    take-append-le (length start) text added (start_within text start begins) ∙ begins

pub starts_through : (text old start : List ℕ) → StartsWith text old → StartsWith old start → StartsWith text start
starts_through text old start begins first =
    sym (take-take (length start) (length old) text (start_within old start first))
    ∙ ap (take (length start)) begins ∙ first

-- a text with more after it, or one that is unchanged
pub starts_added : (text old added : List ℕ) → text ≡ old ++ added → StartsWith text old
starts_added text old added is = rw is (starts_more old added old (starts_same old old refl))

-- what was added and what is left to be are the whole, and the text begins with what it was
pub record Adds (start all text left : List ℕ) : Type 0 where
  pub whole : text ++ left ≡ start ++ all
  pub begins : StartsWith text start

-- a text that was added to once more
pub starts_further : (text mid old start added : List ℕ) → StartsWith text mid → mid ≡ old ++ added
    → StartsWith old start → StartsWith text start
starts_further text mid old start added begins is first =
    starts_through text mid start begins (starts_through mid old start (starts_added mid old added is) first)

-- what holds in any case holds if memory runs out
pub on_refusal : {X E : Type 0} (r : Result X E) (P : Type 0) → P → OnErr r P
on_refusal (Ok x) P p = tt
on_refusal (Err e) P p = p
