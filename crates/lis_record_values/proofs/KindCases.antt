-- What is shown of each kind of record by itself.
use Rattle.std.proofs.Common.{◌≢◌, refl}
use Rattle.lis_record_values.specs.declared.kinds.Kind.{Kind}
use Rattle.lis_record_values.specs.declared.kinds.Kind.TheVariants as kinds

module _ (P : Kind → Type 0) where
  pub each_kind : P kinds.H → P kinds.P → P kinds.O → P kinds.R → P kinds.C → P kinds.Q → P kinds.M → P kinds.S
      → P kinds.L → (kind : Kind) → P kind
  each_kind h p o r c q m s l kinds.H = h
  each_kind h p o r c q m s l kinds.P = p
  each_kind h p o r c q m s l kinds.O = o
  each_kind h p o r c q m s l kinds.R = r
  each_kind h p o r c q m s l kinds.C = c
  each_kind h p o r c q m s l kinds.Q = q
  each_kind h p o r c q m s l kinds.M = m
  each_kind h p o r c q m s l kinds.S = s
  each_kind h p o r c q m s l kinds.L = l

-- of each but the header's
pub other_kind : (P : Kind → Type 0) → P kinds.P → P kinds.O → P kinds.R → P kinds.C → P kinds.Q → P kinds.M
    → P kinds.S → P kinds.L → (kind : Kind) → kind ≢ kinds.H → P kind
other_kind P p o r c q m s l =
    each_kind (λ kind. kind ≢ kinds.H → P kind) (λ other. absurd (other refl)) (λ _. p) (λ _. o) (λ _. r) (λ _. c)
    (λ _. q) (λ _. m) (λ _. s) (λ _. l)
