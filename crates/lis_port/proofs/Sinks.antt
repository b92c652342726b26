-- What a sink takes, one write after another.
use Rattle.std.proofs.Common.{◌≡◌, ℕ, zero, suc, ◌+◌, ◌-◌, ◌≤◌, List, [], ◌∷◌, ◌++◌, length, take, drop, Option, Some}
use Rattle.std.proofs.Common.{None, refl, sym, ap, ◌∙◌, append-nil, append_assoc, zero-add, arith}
use Rattle.std.proofs.lemmas.List.{drop-drop}
use Rattle.std.specs.Io.KnownBytes.{Appends}

take-nil : {A : Type 0} (k : ℕ) → take {A = A} k [] ≡ []
take-nil zero = refl
take-nil (suc k) = refl

pub take-split : {A : Type 0} (n m : ℕ) (xs : List A) → take (n + m) xs ≡ take n xs ++ take m (drop n xs)
take-split zero m xs = rw zero-add refl
take-split (suc n) m [] = take-nil (suc n + m) ∙ sym (take-nil m)
take-split {A} (suc n) m (x ∷ xs) =
    let e : suc n + m ≡ suc (n + m) = omega arith in
    ap (λ (k : ℕ). take k (x ∷ xs)) e ∙ ap (λ (l : List A). x ∷ l) (take-split n m xs)

pub Appends-none : (old : Option (List ℕ)) → Appends old old []
Appends-none None = tt
Appends-none (Some xs) = sym (append-nil xs)

-- one write, and then another
pub Appends-then : (old mid new : Option (List ℕ)) (xs ys : List ℕ) → Appends old mid xs → Appends mid new ys
    → Appends old new (xs ++ ys)
Appends-then None mid new xs ys h g = tt
Appends-then (Some a) None new xs ys h g = absurd h
Appends-then (Some a) (Some b) None xs ys h g = absurd g
Appends-then (Some a) (Some b) (Some c) xs ys h g = g ∙ ap (λ (l : List ℕ). l ++ ys) h ∙ append_assoc a xs ys

-- a write took some of the rest
pub record WrittenOn (old new : Option (List ℕ)) (bytes others : List ℕ) : Type 0 where
  pub rest : others ≡ drop (length bytes - length others) bytes
  pub taken : Appends old new (take (length bytes - length others) bytes)

pub WrittenOn-more : (old mid new : Option (List ℕ)) (bytes rest others : List ℕ) (count : ℕ)
    → length rest ≤ length bytes
    → rest ≡ drop (length bytes - length rest) bytes → Appends old mid (take (length bytes - length rest) bytes)
    → Appends mid new (take count rest) → others ≡ drop count rest → length others + count ≡ length rest
    → WrittenOn old new bytes others
WrittenOn-more old mid new bytes rest others count within is taken more left size =
    let n = length bytes - length rest in
    let place : length bytes - length others ≡ n + count = omega arith in
    record {
      rest = left ∙ ap (drop count) is ∙ drop-drop count n bytes ∙ ap (λ (k : ℕ). drop k bytes) (sym place);
      taken =
          let both : take (length bytes - length others) bytes ≡ take n bytes ++ take count rest =
          ap (λ (k : ℕ). take k bytes) place ∙ take-split n count bytes
          ∙ ap (λ (l : List ℕ). take n bytes ++ take count l) (sym is) in
          rw both (Appends-then old mid new (take n bytes) (take count rest) taken more);
    }
