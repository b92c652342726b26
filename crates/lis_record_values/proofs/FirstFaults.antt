-- Tests of numbers, the first of two faults, and the first place that fails.
use Rattle.std.proofs.Common.{◌≡◌, ◌≢◌, ℕ, ◌<◌, ◌≤◌, ◌==◌, Bool, true, false, not, ltb, ◌⊎◌, inl, inr, List, [], ◌∷◌}
use Rattle.std.proofs.Common.{cond, length, Option, Some, None, option_map, refl, arith, get_or}
use Rattle.std.specs.Option.{option_or}
use Rattle.std.specs.List.{AllPass, position, position_or_len}
use Rattle.std.proofs.lemmas.Bool.{cases_lt, lt-ltb}
use Rattle.std.proofs.lemmas.Bool.Decides.{nat_tests, eqb_tells}
use Rattle.std.proofs.lemmas.List.Sums.{fails_before_first, position_or_len_is}

pub differ : (a b : ℕ) → (a == b) ≡ false → a ≢ b
differ a b h same = elim (eqb_tells a b) [ inl test ↦ cc (h, test.0) | inr other ↦ other.1 same ]

pub test_false : (a b : ℕ) → a ≢ b → (a == b) ≡ false
test_false a b h = grind (arith, nat_tests)

pub ltb-past : (m n : ℕ) → n ≤ m → ltb m n ≡ false
ltb-past m n h = grind (arith, nat_tests)

pub ltb_decides : (m n : ℕ) → ((ltb m n ≡ true) × (m < n)) ⊎ ((ltb m n ≡ false) × (n ≤ m))
ltb_decides m n = elim (cases_lt m n) [
  | inl below ↦ inl (lt-ltb m n below, below)
  | inr past ↦ inr
      (ltb-past m n past, past)
]

pub some_none : {X : Type 0} (x : X) → (o : Option X) → o ≡ Some x → o ≡ None → ⊥
some_none x o h k = cc

not-false : (b : Bool) → not b ≡ false → b ≡ true
not-false true h = refl
not-false false h = cc

not-true : (b : Bool) → b ≡ true → not b ≡ false
not-true true h = refl
not-true false h = cc

-- ---- the first of two faults

pub option_or-none : {X : Type 0} (o p : Option X) → option_or o p ≡ None → (o ≡ None) × (p ≡ None)
option_or-none None p h = (refl, h)
option_or-none (Some x) p h = cc

pub option_map-none : {X Y : Type 0} (f : X → Y) (o : Option X) → option_map f o ≡ None → o ≡ None
option_map-none f None h = refl
option_map-none f (Some x) h = cc

pub none_cond : {X : Type 0} (b : Bool) (x : X) → cond b (Some x) None ≡ None → b ≡ false
none_cond true x h = cc
none_cond false x h = refl

-- ---- a first place that fails

module _ {X : Type 0} (p : X → Bool) where
  pub AllPass-position : (xs : List X) → position (λ x. not (p x)) xs ≡ None → AllPass p xs
  AllPass-position xs h =
      elim (ltb_decides (position_or_len (λ x. not (p x)) xs) (length xs)) [
        | inl within ↦ let g : Some (position_or_len (λ x. not (p x)) xs) ≡ None = rw within.0 at h in cc
        | inr past ↦ λ k d below. not-false (p (get_or xs k d))
            (fails_before_first (λ x. not (p x)) xs k d (omega (arith, past.1)))
      ]

  pub position-AllPass : (xs : List X) → AllPass p xs → position (λ x. not (p x)) xs ≡ None
  position-AllPass [] h = refl
  position-AllPass (x ∷ xs) h =
      let all : position_or_len (λ y. not (p y)) (x ∷ xs) ≡ length (x ∷ xs) =
      position_or_len_is (λ y. not (p y)) (x ∷ xs) (length (x ∷ xs)) x (omega arith)
      (λ k below. not-true (p (get_or (x ∷ xs) k x)) (h k x below)) (λ below. absurd (omega arith)) in
      rw (all, ltb-past (length (x ∷ xs)) (length (x ∷ xs)) (omega arith)) refl
