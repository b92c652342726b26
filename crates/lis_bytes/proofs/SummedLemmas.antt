-- A pass over bytes that also sums them, in the form that the goals of the searches have.
use Rattle.std.proofs.Common.{◌≡◌, ◌≤◌, ◌<◌, ℕ, ◌+◌, ◌%◌, Bool, true, List, length, map, take, drop, length-take}
use Rattle.std.proofs.Common.{ap, sym, ◌∙◌, arith}
use Rattle.std.specs.List.{sum}
use Rattle.std.specs.Int.Count.{count_trailing_zeros}
use Rattle.std.specs.Simd.Lanes.{fold_l, mask_l, sum_l, zip2}
use Rattle.std.proofs.lemmas.List.{take-take, take_all}
use Rattle.lis_bytes.specs.inside.Search.{Summed}
use Rattle.lis_bytes.proofs.SearchLemmas.{passes, found-within}
use Rattle.lis_bytes.proofs.SumLemmas.{fold-lanes, lanes-before, wrapped-before, sum_l-sum}

module _ (f : ℕ → Bool) (place : ℕ) (rest bytes sums : List ℕ) where
  -- as it is handed on with what is left
  pub summed_at : Summed f place (drop place bytes) bytes sums → rest ≡ drop place bytes → Summed f place rest bytes sums
  summed_at summed is = rw is summed

  pub summed_to : Summed f place rest bytes sums → Summed f place (drop place bytes) bytes sums
  summed_to summed = rw (← summed.passed.following) summed

  module _ (summed : Summed f place rest bytes sums) where
    -- what other lanes add, of the bytes that follow
    more_summed : (count : ℕ) (more : List ℕ) → length sums ≡ length more
        → sum_l more % 256 ≡ sum (take count rest) % 256
        → sum_l (zip2 {C = ℕ} (λ (a b : ℕ). (a + b) % 256) sums more) % 256 ≡ sum (take (place + count) bytes) % 256
    more_summed count more long added =
        lanes-before place count bytes sums more long summed.total (rw summed.passed.following at added)

    -- sixty-four bytes more, none of which is in the set
    pub summed_lacking : (lacks : Bool) (following more : List ℕ) → 64 ≤ length rest → following ≡ drop 64 rest
        → lacks ≡ true → (lacks ≡ true → mask_l (map f (take 64 rest)) ≡ 0) → length sums ≡ 16 → length more ≡ 16
        → sum_l more % 256 ≡ sum (take 64 rest) % 256
        → Summed f (place + 64) following bytes (zip2 {C = ℕ} (λ (a b : ℕ). (a + b) % 256) sums more)
    summed_lacking lacks following more many is said none long more_long added = record {
      passed = passes f 64 place rest following bytes summed.passed many is (none said);
      total = more_summed 64 more (long ∙ sym more_long) added;
    }

    -- sixteen bytes more
    pub summed_on : (bits : ℕ) (following : List ℕ) → 16 ≤ length rest → following ≡ drop 16 rest
        → bits ≡ mask_l (map f (take 16 rest)) → bits ≡ 0 → length sums ≡ 16
        → Summed f (place + 16) following bytes (zip2 {C = ℕ} (λ (a b : ℕ). (a + b) % 256) sums (take 16 rest))
    summed_on bits following many is are none long =
        let sixteen : length (take 16 rest) ≡ 16 = omega (arith, length-take 16 rest, many) in
        record {
          passed = passes f 16 place rest following bytes summed.passed many is (sym are ∙ none);
          total =
              more_summed 16 (take 16 rest) (long ∙ sym sixteen)
              (ap (λ (n : ℕ). n % 256) (sum_l-sum (take 16 rest)));
        }

    -- one of sixteen bytes is in the set: the lanes of those before it
    pub found_summed : (bits : ℕ) (front : List ℕ) → 16 ≤ length rest → bits ≡ mask_l (map f (take 16 rest))
        → (bits ≡ 0 → ⊥) → length sums ≡ 16 → length front ≡ 16
        → sum_l front ≡ sum (take (count_trailing_zeros 64 bits) (take 16 rest))
        → fold_l (λ (s x : ℕ). (s + x) % 256) 0 (zip2 {C = ℕ} (λ (a b : ℕ). (a + b) % 256) sums front)
        ≡ sum (take (place + count_trailing_zeros 64 bits) bytes) % 256
    found_summed bits front many are some long front_long added =
        let count = count_trailing_zeros 64 bits in
        let inside = found-within f 16 rest (omega arith) many (rw are at some) in
        let at : count < 16 = rw are inside in
        let taken : take count (take 16 rest) ≡ take count rest = take-take count 16 rest (omega (arith, at)) in
        fold-lanes (zip2 {C = ℕ} (λ (a b : ℕ). (a + b) % 256) sums front)
        ∙ more_summed count front (long ∙ sym front_long) (ap (λ (n : ℕ). n % 256) (added ∙ ap sum taken))

    -- none is left in the set: the sum of all
    pub rest_summed : (more : ℕ) → more ≡ sum rest % 256
        → (fold_l (λ (s x : ℕ). (s + x) % 256) 0 sums + more) % 256 ≡ sum (take (length bytes) bytes) % 256
    rest_summed more added =
        let all : take (length rest) (drop place bytes) ≡ rest =
        rw (← summed.passed.following) (take_all (length rest) rest (omega arith)) in
        rw (← summed.passed.fits)
        (wrapped-before place (length rest) bytes sums more summed.total (rw all added))

    -- one of those that are left is: the sum before it
    pub front_summed : (found more : ℕ) (front : List ℕ) → front ≡ take found rest → more ≡ sum front % 256
        → (fold_l (λ (s x : ℕ). (s + x) % 256) 0 sums + more) % 256 ≡ sum (take (place + found) bytes) % 256
    front_summed found more front is added =
        wrapped-before place found bytes sums more summed.total (rw (is, summed.passed.following) at added)

-- the first of sixteen bytes that is in the set is one of them
pub found_few : (f : ℕ → Bool) (bits : ℕ) (rest : List ℕ) → 16 ≤ length rest → bits ≡ mask_l (map f (take 16 rest))
    → (bits ≡ 0 → ⊥) → count_trailing_zeros 64 bits ≤ 16
found_few f bits rest many are some =
    let inside = found-within f 16 rest (omega arith) many (rw are at some) in
    let at : count_trailing_zeros 64 bits < 16 = rw are inside in
    omega (arith, at)
