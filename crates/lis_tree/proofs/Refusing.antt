-- The reason by the place of the next record is that in the standard's words.
use Rattle.std.proofs.Common.{◌≡◌, ◌≢◌, ◌⊎◌, inl, inr, List, [], ◌∷◌, ◌++◌, Option, Some, None, refl, sym, ◌∙◌, ap}
use Rattle.std.proofs.Common.{subst}
use Rattle.lis_record_values.specs.declared.kinds.Kind.{Kind}
use Rattle.lis_record_values.specs.declared.kinds.Kind.TheVariants as kinds
use Rattle.lis_record_values.specs.declared.faults.Reason.{Reason}
use Rattle.lis_record_values.specs.declared.faults.Reason.TheVariants as reasons
use Rattle.lis_tree.specs.Hierarchy.{HasParent, IsViable}
use Rattle.lis_tree.specs.Level.{Level, outside, in_header, in_patient, in_query, closed, next_level}
use Rattle.lis_tree.specs.Level.{level_after, misplaced, AllowedFrom}
use Rattle.lis_tree.specs.Refusing.{IsClosed, IsRefusedFor}
use Rattle.lis_tree.proofs.Levels.{level_append, allowed_append, allowed_back, header_first, nothing_closed}
use Rattle.lis_tree.proofs.Levels.{outside_refused}
use Rattle.lis_tree.proofs.Viable.{from_viable, viable_from, parent_from, place_from, begun_after, in_header_at}

-- ---- a message is closed exactly after its closing record

closing_kind : (l : Level) (k : Kind) → l ≢ closed → next_level l k ≡ closed → k ≡ kinds.L
closing_kind l kinds.L u e = refl
closing_kind l kinds.H u e = absurd cc
closing_kind l kinds.P u e = absurd cc
closing_kind l kinds.O u e = absurd cc
closing_kind l kinds.Q u e = absurd cc
closing_kind l k u e = absurd (u e)

closed_last : (l : Level) (ks : List Kind) → AllowedFrom l ks → l ≢ closed → level_after l ks ≡ closed → IsClosed ks
closed_last l [] s u e = absurd (u e)
closed_last l (k ∷ []) s u e = ([], ap (λ j. j ∷ []) (closing_kind l k u e))
closed_last l (k ∷ j ∷ ks) s u e =
    let rest =
    closed_last (next_level l k) (j ∷ ks) s.1 (λ c. nothing_closed j (subst (λ m. misplaced m j ≡ None) c s.1.0)) e in
    (k ∷ rest.0, ap (λ xs. k ∷ xs) rest.1)

last_closed : (before : List Kind) → IsClosed before → level_after outside before ≡ closed
last_closed before is = ap (level_after outside) is.1 ∙ level_append outside is.0 (kinds.L ∷ [])

-- ---- outside a message

outside_refuses :
    (k : Kind) (reason : Reason) → misplaced outside k ≡ Some reason
    → (reason ≡ reasons.NotHeader) × (k ≢ kinds.H)
outside_refuses kinds.H reason e = absurd cc
outside_refuses k reason e = (cc, λ h. cc)

-- ---- after a header

-- a second header; a record after the closing one; or one that has no parent
abbrev IsInsideReason : Level → Kind → Reason → Type 0
IsInsideReason l k reason =
    ((k ≡ kinds.H) × (reason ≡ reasons.SecondHeader))
    ⊎ (((k ≢ kinds.H) × (l ≡ closed) × (reason ≡ reasons.NotHeader))
    ⊎ ((k ≢ kinds.H) × (l ≢ closed) × (reason ≡ reasons.NoParent k)))

inside_refuses :
    (l : Level) (k : Kind) (reason : Reason) → l ≢ outside → misplaced l k ≡ Some reason
    → IsInsideReason l k reason
inside_refuses outside k reason o e = absurd (o refl)
inside_refuses l kinds.H reason o e = inl (refl, cc)
inside_refuses closed k reason o e = inr (inl (λ h. cc, refl, cc))
inside_refuses in_header kinds.O reason o e = inr (inr (λ h. cc, λ c. cc, cc))
inside_refuses in_header kinds.R reason o e = inr (inr (λ h. cc, λ c. cc, cc))
inside_refuses in_patient kinds.R reason o e = inr (inr (λ h. cc, λ c. cc, cc))
inside_refuses in_query kinds.O reason o e = inr (inr (λ h. cc, λ c. cc, cc))
inside_refuses in_query kinds.R reason o e = inr (inr (λ h. cc, λ c. cc, cc))
inside_refuses l k reason o e = absurd cc

header_refused : (l : Level) → l ≢ outside → misplaced l kinds.H ≡ Some reasons.SecondHeader
header_refused outside o = absurd (o refl)
header_refused l o = refl

closed_refused : (k : Kind) → k ≢ kinds.H → misplaced closed k ≡ Some reasons.NotHeader
closed_refused kinds.H h = absurd (h refl)
closed_refused k h = refl

some_not_none : {A : Type 0} (x : A) (o : Option A) → o ≡ Some x → o ≡ None → ⊥
some_not_none x o some none = cc

cons_not_nil : (k : Kind) (ks : List Kind) → k ∷ ks ≢ []
cons_not_nil k ks e = cc

-- ---- each way, after records that are allowed

-- what they lead to is the place after a header
record IsAfterHeader (b : Kind) (ks : List Kind) : Type 0 where
  is_header : b ≡ kinds.H
  placed : AllowedFrom in_header ks
  level_is : level_after outside (b ∷ ks) ≡ level_after in_header ks
  begun : level_after outside (b ∷ ks) ≢ outside

following_header : (b : Kind) (ks : List Kind) → AllowedFrom outside (b ∷ ks) → IsAfterHeader b ks
following_header b ks s =
    let is = header_first b s.0 in
    let goes : next_level outside b ≡ in_header = in_header_at b is in
    let level : level_after outside (b ∷ ks) ≡ level_after in_header ks = ap (λ l. level_after l ks) goes in
    record {
      is_header = is;
      placed = subst (λ l. AllowedFrom l ks) goes s.1;
      level_is = level;
      begun = λ e. begun_after in_header ks (λ x. cc) (sym level ∙ e);
    }

reported_by :
    (b : Kind) (ks : List Kind) (k : Kind) (reason : Reason) → AllowedFrom outside (b ∷ ks)
    → misplaced (level_after outside (b ∷ ks)) k ≡ Some reason
    → IsInsideReason (level_after outside (b ∷ ks)) k reason → IsRefusedFor (b ∷ ks) k reason
reported_by b ks k reason s e (inl second) =
    subst (IsRefusedFor (b ∷ ks) k) (sym second.1) (second.0, cons_not_nil b ks)
reported_by b ks k reason s e (inr (inl following)) =
    subst (IsRefusedFor (b ∷ ks) k) (sym following.2)
    (following.0, inr (closed_last outside (b ∷ ks) s (λ x. cc) following.1))
reported_by b ks k reason s e (inr (inr none)) =
    let header = following_header b ks s in
    subst (IsRefusedFor (b ∷ ks) k) (sym none.2) (
      refl,
      cons_not_nil b ks,
      λ last. none.1 (last_closed (b ∷ ks) last),
      λ parent. some_not_none reason (misplaced (level_after outside (b ∷ ks)) k) e
          (ap (λ l. misplaced l k) header.level_is
          ∙ place_from ks k header.placed (λ c. none.1 (header.level_is ∙ c)) none.0
          (subst (λ h. HasParent (h ∷ ks) k) header.is_header parent)),
    )

reported :
    (before : List Kind) (k : Kind) (reason : Reason) → AllowedFrom outside before
    → misplaced (level_after outside before) k ≡ Some reason → IsRefusedFor before k reason
reported [] k reason s e =
    let why = outside_refuses k reason e in
    subst (IsRefusedFor [] k) (sym why.0) (why.1, inl refl)
reported (b ∷ ks) k reason s e =
    reported_by b ks k reason s e (inside_refuses (level_after outside (b ∷ ks)) k reason
    (following_header b ks s).begun e)

-- a record without its parent is rejected for that
no_parent_refused :
    (b : Kind) (ks : List Kind) (k : Kind) (found : Option Reason)
    → AllowedFrom outside (b ∷ ks)
    → (IsClosed (b ∷ ks) → ⊥)
    → (HasParent (b ∷ ks) k → ⊥)
    → misplaced (level_after outside (b ∷ ks)) k ≡ found
    → found ≡ Some (reasons.NoParent k)
no_parent_refused b ks k None s unclosed orphan is =
    let header = following_header b ks s in
    absurd (orphan (subst (λ h. HasParent (h ∷ ks) k) (sym header.is_header)
    (parent_from ks k header.placed (sym (ap (λ l. misplaced l k) header.level_is) ∙ is))))
no_parent_refused b ks k (Some reason) s unclosed orphan is =
    go (inside_refuses (level_after outside (b ∷ ks)) k reason (following_header b ks s).begun is)
  where
    go : IsInsideReason (level_after outside (b ∷ ks)) k reason → Some reason ≡ Some (reasons.NoParent k)
    go (inl second) = absurd (orphan (subst (HasParent (b ∷ ks)) (sym second.0) tt))
    go (inr (inl following)) = absurd (unclosed (closed_last outside (b ∷ ks) s (λ x. cc) following.1))
    go (inr (inr none)) = ap Some none.2

refused :
    (before : List Kind) (k : Kind) (reason : Reason) → AllowedFrom outside before → IsRefusedFor before k reason
    → misplaced (level_after outside before) k ≡ Some reason
refused [] k reasons.NotHeader s why = outside_refused k why.0
refused [] k reasons.SecondHeader s why = absurd (why.1 refl)
refused [] k (reasons.NoParent kind) s why = absurd (why.1 refl)
refused [] k reason s why = absurd why
refused (b ∷ ks) k reasons.NotHeader s why = go why.1
  where
    go : ((b ∷ ks) ≡ []) ⊎ IsClosed (b ∷ ks) → misplaced (level_after outside (b ∷ ks)) k ≡ Some reasons.NotHeader
    go (inl none) = absurd (cons_not_nil b ks none)
    go (inr last) = ap (λ l. misplaced l k) (last_closed (b ∷ ks) last) ∙ closed_refused k why.0
refused (b ∷ ks) k reasons.SecondHeader s why =
    ap (misplaced (level_after outside (b ∷ ks))) why.0
    ∙ header_refused (level_after outside (b ∷ ks)) (following_header b ks s).begun
refused (b ∷ ks) k (reasons.NoParent kind) s why =
    no_parent_refused b ks k (misplaced (level_after outside (b ∷ ks)) k) s why.2 why.3 refl
    ∙ ap (λ j. Some (reasons.NoParent j)) (sym why.0)
refused (b ∷ ks) k reason s why = absurd why

-- ---- over what is viable

pub reported_viable :
    (before : List Kind) (k : Kind) (reason : Reason) → IsViable before
    → misplaced (level_after outside before) k ≡ Some reason → IsRefusedFor before k reason
reported_viable before k reason v = reported before k reason (from_viable before v)

pub refused_viable :
    (before : List Kind) (k : Kind) (reason : Reason) → IsViable before → IsRefusedFor before k reason
    → misplaced (level_after outside before) k ≡ Some reason
refused_viable before k reason v = refused before k reason (from_viable before v)

pub taken_viable :
    (before : List Kind) (k : Kind) → IsViable before → misplaced (level_after outside before) k ≡ None
    → IsViable (before ++ k ∷ [])
taken_viable before k v e =
    viable_from (before ++ k ∷ []) (allowed_append outside before (k ∷ []) (from_viable before v) (e, tt))

pub viable_taken :
    (before : List Kind) (k : Kind) → IsViable (before ++ k ∷ [])
    → misplaced (level_after outside before) k ≡ None
viable_taken before k v = (allowed_back outside before (k ∷ []) (from_viable (before ++ k ∷ []) v)).0
