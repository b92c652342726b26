-- The machine over the kinds and the standard's words say the same.
use Rattle.std.proofs.Common.{◌≡◌, ◌≢◌, Bool, true, false, List, [], ◌∷◌, ◌++◌, Option, Some, None, refl, sym, ◌∙◌}
use Rattle.std.proofs.Common.{ap, subst, append_assoc}
use Rattle.std.specs.Prelude.{if◌then◌else◌}
use Rattle.std.specs.List.{AllByRecursion}
use Rattle.std.specs.Option.{option_or}
use Rattle.lis_record_values.specs.declared.kinds.Kind.{Kind}
use Rattle.lis_record_values.specs.declared.kinds.Kind.TheVariants as kinds
use Rattle.lis_tree.specs.Hierarchy.{last_of, is_group, is_group_or_order, HasParent, HasHeaderFirst, IsViable}
use Rattle.lis_tree.specs.Level.{Level, outside, in_header, in_patient, in_order, in_query, closed, next_level}
use Rattle.lis_tree.specs.Level.{level_after, misplaced, AllowedFrom}
use Rattle.lis_tree.proofs.Levels.{level_append, allowed_append, allowed_back, allowed_front, header_first, next_begun}
use Rattle.lis_tree.proofs.Levels.{next_unclosed, nothing_closed, other_kind, unclosed_first}

-- whether an order, or a result, is at a place
abbrev takes_order : Level → Bool
takes_order in_patient = true
takes_order in_order = true
takes_order l = false

abbrev takes_result : Level → Bool
takes_result in_order = true
takes_result l = false

-- what the last kind of a test reports; with none, what was so before
abbrev patient_or : Option Kind → Bool → Bool
patient_or None b = b
patient_or (Some kinds.P) b = true
patient_or (Some k) b = false

abbrev order_or : Option Kind → Bool → Bool
order_or None b = b
order_or (Some kinds.O) b = true
order_or (Some k) b = false

order_step : (l : Level) (k : Kind) → misplaced l k ≡ None → k ≢ kinds.L → k ≢ kinds.H
    → takes_order (next_level l k) ≡ patient_or (if is_group k then Some k else None) (takes_order l)
order_step l kinds.H p o h = absurd (h refl)
order_step in_header kinds.O p o h = absurd cc
order_step in_query kinds.O p o h = absurd cc
order_step outside kinds.O p o h = absurd cc
order_step closed kinds.O p o h = absurd cc
order_step l kinds.L p o h = absurd (o refl)
order_step l k p o h = refl

result_step : (l : Level) (k : Kind) → misplaced l k ≡ None → k ≢ kinds.L → k ≢ kinds.H
    → takes_result (next_level l k) ≡ order_or (if is_group_or_order k then Some k else None) (takes_result l)
result_step l kinds.H p o h = absurd (h refl)
result_step l kinds.L p o h = absurd (o refl)
result_step l k p o h = refl

patient_then : (a b : Option Kind) (c : Bool) → patient_or (option_or a b) c ≡ patient_or a (patient_or b c)
patient_then None b c = refl
patient_then (Some kinds.H) b c = refl
patient_then (Some k) b c = refl

order_then : (a b : Option Kind) (c : Bool) → order_or (option_or a b) c ≡ order_or a (order_or b c)
order_then None b c = refl
order_then (Some kinds.H) b c = refl
order_then (Some k) b c = refl

-- the place reports the last patient or query, and whether an order has come since
order_reported : (l : Level) (ks : List Kind) → AllowedFrom l ks → l ≢ outside → level_after l ks ≢ closed
    → takes_order (level_after l ks) ≡ patient_or (last_of is_group ks) (takes_order l)
order_reported l [] s o u = refl
order_reported l (k ∷ ks) s o u =
    order_reported (next_level l k) ks s.1 (next_begun l k o) u
    ∙ ap (patient_or (last_of is_group ks)) (order_step l k s.0 (unclosed_first l k ks s u) (other_kind l k o s.0))
    ∙ sym (patient_then (last_of is_group ks) (if is_group k then Some k else None) (takes_order l))

result_reported : (l : Level) (ks : List Kind) → AllowedFrom l ks → l ≢ outside → level_after l ks ≢ closed
    → takes_result (level_after l ks) ≡ order_or (last_of is_group_or_order ks) (takes_result l)
result_reported l [] s o u = refl
result_reported l (k ∷ ks) s o u =
    result_reported (next_level l k) ks s.1 (next_begun l k o) u
    ∙ ap (order_or (last_of is_group_or_order ks))
    (result_step l k s.0 (unclosed_first l k ks s u) (other_kind l k o s.0))
    ∙ sym (order_then (last_of is_group_or_order ks) (if is_group_or_order k then Some k else None) (takes_result l))

-- ---- each way

patient_is : (o : Option Kind) → patient_or o false ≡ true → o ≡ Some kinds.P
patient_is (Some kinds.P) e = refl
patient_is o e = absurd cc

order_is : (o : Option Kind) → order_or o false ≡ true → o ≡ Some kinds.O
order_is (Some kinds.O) e = refl
order_is o e = absurd cc

order_allowed : (l : Level) → misplaced l kinds.O ≡ None → (takes_order l ≡ true) × (l ≢ closed)
order_allowed in_patient e = (refl, λ x. cc)
order_allowed in_order e = (refl, λ x. cc)
order_allowed l e = absurd cc

result_allowed : (l : Level) → misplaced l kinds.R ≡ None → (takes_result l ≡ true) × (l ≢ closed)
result_allowed in_order e = (refl, λ x. cc)
result_allowed l e = absurd cc

takes_then_order : (l : Level) → takes_order l ≡ true → misplaced l kinds.O ≡ None
takes_then_order in_patient e = refl
takes_then_order in_order e = refl
takes_then_order l e = absurd cc

takes_then_result : (l : Level) → takes_result l ≡ true → misplaced l kinds.R ≡ None
takes_then_result in_order e = refl
takes_then_result l e = absurd cc

-- after a header: a record that is allowed has its parent, and the other way round
pub parent_from : (ks : List Kind) (k : Kind) → AllowedFrom in_header ks
    → misplaced (level_after in_header ks) k ≡ None → HasParent (kinds.H ∷ ks) k
parent_from ks kinds.O s p =
    let at = order_allowed (level_after in_header ks) p in
    let none = patient_is (last_of is_group ks) (sym (order_reported in_header ks s (λ e. cc) at.1) ∙ at.0) in
    ap (λ o. option_or o None) none
parent_from ks kinds.R s p =
    let at = result_allowed (level_after in_header ks) p in
    let none = order_is (last_of is_group_or_order ks) (sym (result_reported in_header ks s (λ e. cc) at.1) ∙ at.0) in
    ap (λ o. option_or o None) none
parent_from ks kinds.H s p = tt
parent_from ks k s p = tt

option_or_none : (o : Option Kind) → option_or o None ≡ o
option_or_none None = refl
option_or_none (Some k) = refl

inside_free : (l : Level) (k : Kind) → l ≢ outside → l ≢ closed → k ≢ kinds.H → k ≢ kinds.O → k ≢ kinds.R
    → misplaced l k ≡ None
inside_free outside k o c h x r = absurd (o refl)
inside_free closed k o c h x r = absurd (c refl)
inside_free l kinds.H o c h x r = absurd (h refl)
inside_free l kinds.O o c h x r = absurd (x refl)
inside_free l kinds.R o c h x r = absurd (r refl)
inside_free l k o c h x r = refl

pub begun_after : (l : Level) (ks : List Kind) → l ≢ outside → level_after l ks ≢ outside
begun_after l [] o = o
begun_after l (k ∷ ks) o = begun_after (next_level l k) ks (next_begun l k o)

pub place_from : (ks : List Kind) (k : Kind) → AllowedFrom in_header ks → level_after in_header ks ≢ closed
    → k ≢ kinds.H → HasParent (kinds.H ∷ ks) k → misplaced (level_after in_header ks) k ≡ None
place_from ks kinds.O s u h p =
    takes_then_order (level_after in_header ks) (order_reported in_header ks s (λ e. cc) u
    ∙ ap (λ o. patient_or o false) (sym (option_or_none (last_of is_group ks)) ∙ p))
place_from ks kinds.R s u h p =
    takes_then_result (level_after in_header ks) (result_reported in_header ks s (λ e. cc) u
    ∙ ap (λ o. order_or o false) (sym (option_or_none (last_of is_group_or_order ks)) ∙ p))
place_from ks kinds.H s u h p = absurd (h refl)
place_from ks k s u h p = inside_free (level_after in_header ks) k (begun_after in_header ks (λ e. cc)) u h (λ e. cc)
    (λ e. cc)

no_header : (l : Level) (ks : List Kind) → l ≢ outside → AllowedFrom l ks → AllByRecursion (λ j. j ≢ kinds.H) ks
no_header l [] o s = tt
no_header l (k ∷ ks) o s = (other_kind l k o s.0, no_header (next_level l k) ks (next_begun l k o) s.1)

nothing_after : (ks : List Kind) → AllowedFrom closed ks → ks ≡ []
nothing_after [] s = refl
nothing_after (k ∷ ks) s = absurd (nothing_closed k s.0)

pub in_header_at : (k : Kind) → k ≡ kinds.H → next_level outside k ≡ in_header
in_header_at k e = ap (next_level outside) e

closing_last : (ks before following : List Kind) → AllowedFrom outside ks → ks ≡ before ++ kinds.L ∷ following
    → following ≡ []
closing_last ks before following s e = nothing_after following
    (allowed_back outside before (kinds.L ∷ following) (subst (AllowedFrom outside) e s)).1

parents_are_there : (before following : List Kind) (k : Kind) → AllowedFrom outside (before ++ k ∷ following)
    → HasParent before k
parents_are_there [] following k s = subst (HasParent []) (sym (header_first k s.0)) tt
parents_are_there (b ∷ before) following k s =
    let is : b ≡ kinds.H = header_first b s.0 in
    let rest : AllowedFrom in_header (before ++ k ∷ following) =
    subst (λ l. AllowedFrom l (before ++ k ∷ following)) (in_header_at b is) s.1 in
    subst (λ h. HasParent (h ∷ before) k) (sym is)
    (parent_from before k (allowed_front in_header before (k ∷ following) rest)
    (allowed_back in_header before (k ∷ following) rest).0)

header_allowed : (ks : List Kind) → AllowedFrom outside ks → HasHeaderFirst ks
header_allowed [] s = tt
header_allowed (k ∷ ks) s =
    let is = header_first k s.0 in
    (is, no_header in_header ks (λ e. cc) (subst (λ l. AllowedFrom l ks) (in_header_at k is) s.1))

-- what the machine takes is viable
pub viable_from : (ks : List Kind) → AllowedFrom outside ks → IsViable ks
viable_from ks s = record {
  header = header_allowed ks s;
  closing = λ before following e. closing_last ks before following s e;
  parents = λ before following k e. parents_are_there before following k (subst (AllowedFrom outside) e s);
}

module _ (whole : List Kind) (viable : IsViable whole) where
  not_last : (before : List Kind) (k i : Kind) (rest : List Kind) → whole ≡ before ++ k ∷ i ∷ rest → k ≢ kinds.L
  not_last before k i rest e l =
      let none : i ∷ rest ≡ [] = viable.closing before (i ∷ rest) (subst (λ j. whole ≡ before ++ j ∷ i ∷ rest) l e) in
      cc

  rest_from : (done rest : List Kind) → whole ≡ kinds.H ∷ (done ++ rest) → AllowedFrom in_header done
      → level_after in_header done ≢ closed → AllByRecursion (λ j. j ≢ kinds.H) rest
      → AllowedFrom (level_after in_header done) rest
  rest_from done [] e s u h = tt
  rest_from done (k ∷ []) e s u h = (place_from done k s u h.0 (viable.parents (kinds.H ∷ done) [] k e), tt)
  rest_from done (k ∷ i ∷ rest) e s u h =
      let placed = place_from done k s u h.0 (viable.parents (kinds.H ∷ done) (i ∷ rest) k e) in
      let goes : level_after in_header (done ++ k ∷ []) ≡ next_level (level_after in_header done) k =
      level_append in_header done (k ∷ []) in
      let more = allowed_append in_header done (k ∷ []) s (placed, tt) in
      let still : level_after in_header (done ++ k ∷ []) ≢ closed =
      subst (λ l. l ≢ closed) (sym goes) (next_unclosed (level_after in_header done) k u
      (not_last (kinds.H ∷ done) k i rest e)) in
      let below = rest_from (done ++ k ∷ []) (i ∷ rest)
      (e ∙ ap (λ l. kinds.H ∷ l) (sym (append_assoc done (k ∷ []) (i ∷ rest)))) more still h.1 in
      (placed, subst (λ l. AllowedFrom l (i ∷ rest)) goes below)

-- what is viable the machine takes
pub from_viable : (ks : List Kind) → IsViable ks → AllowedFrom outside ks
from_viable [] v = tt
from_viable (k ∷ ks) v =
    let is = v.header.0 in
    let whole : k ∷ ks ≡ kinds.H ∷ ([] ++ ks) = ap (λ j. j ∷ ks) is in
    let rest = rest_from (k ∷ ks) v [] ks whole tt (λ e. cc) v.header.1 in
    (ap (misplaced outside) is, subst (λ l. AllowedFrom l ks) (sym (in_header_at k is)) rest)
