-- Reading and changing the sessions by their places.
use Rattle.std.proofs.Common.{◌≡◌, ◌≢◌, ℕ, ◌<◌, ◌≤◌, ◌⊎◌, inl, inr, List, [], ◌∷◌, ◌++◌, length, refl, sym, ap, ◌∙◌}
use Rattle.std.proofs.Common.{subst, arith, get_or-set_same, get_or-set_other}
use Rattle.std.proofs.lemmas.Bool.{cases_eq, cases_lt}
use Rattle.std.proofs.lemmas.List.{set_past, length-set, get_or_past, get_or_append_left, get_or_push, length_push}
use Rattle.lis_world.specs.Session.{Session, new_session, session_at, changed}

pub length-changed : (k : ℕ) (change : Session → Session) (ss : List Session) → length (changed k change ss) ≡ length ss
length-changed k change ss = length-set ss k (change (session_at k ss))

pub at-changed_same :
    (k : ℕ) (change : Session → Session) (ss : List Session)
    → k < length ss
    → session_at k (changed k change ss) ≡ change (session_at k ss)
at-changed_same k change ss within = get_or-set_same ss k (change (session_at k ss)) (new_session []) within

pub at-changed_other :
    (j k : ℕ) (change : Session → Session) (ss : List Session)
    → j ≢ k
    → session_at j (changed k change ss) ≡ session_at j ss
at-changed_other j k change ss apart = get_or-set_other ss k j (change (session_at k ss)) (new_session []) apart

-- what holds of the changed session and of the others holds of each
pub at-changed :
    (P : ℕ → Session → Type 0) (k : ℕ) (change : Session → Session) (ss : List Session)
    → P k (change (session_at k ss))
    → ((j : ℕ) → P j (session_at j ss))
    → (j : ℕ)
    → P j (session_at j (changed k change ss))
at-changed P k change ss here others j = go (cases_eq j k) (cases_lt k (length ss))
  where
    go : (j ≡ k) ⊎ (j ≡ k → ⊥) → (k < length ss) ⊎ (length ss ≤ k) → P j (session_at j (changed k change ss))
    go (inl same) (inl within) =
        subst (λ i. P i (session_at i (changed k change ss))) (sym same)
        (subst (P k) (sym (at-changed_same k change ss within)) here)
    go (inl same) (inr past) =
        subst (λ xs. P j (session_at j xs)) (sym (set_past ss k (change (session_at k ss)) past)) (others j)
    go (inr apart) _ = subst (P j) (sym (at-changed_other j k change ss apart)) (others j)

-- a part that the change keeps stays in each session
pub kept-changed :
    {A : Type 0} (part : Session → A) (k : ℕ) (change : Session → Session) (ss : List Session)
    → ((x : Session) → part (change x) ≡ part x)
    → (j : ℕ)
    → part (session_at j (changed k change ss)) ≡ part (session_at j ss)
kept-changed part k change ss keeps j = go (cases_eq j k) (cases_lt k (length ss))
  where
    go : (j ≡ k) ⊎ (j ≡ k → ⊥) → (k < length ss) ⊎ (length ss ≤ k)
        → part (session_at j (changed k change ss)) ≡ part (session_at j ss)
    go (inl same) (inl within) =
        subst (λ i. part (session_at i (changed k change ss)) ≡ part (session_at i ss)) (sym same)
        (ap part (at-changed_same k change ss within) ∙ keeps (session_at k ss))
    go (inl same) (inr past) = ap (λ xs. part (session_at j xs)) (set_past ss k (change (session_at k ss)) past)
    go (inr apart) _ = ap part (at-changed_other j k change ss apart)

-- the sessions with one more after them
pub at-more : (ss : List Session) (x : Session) (k : ℕ) → k < length ss → session_at k (ss ++ x ∷ []) ≡ session_at k ss
at-more ss x k within = get_or_append_left ss (x ∷ []) (new_session []) k within

pub at-more_last : (ss : List Session) (x : Session) → session_at (length ss) (ss ++ x ∷ []) ≡ x
at-more_last ss x = get_or_push ss x (new_session []) (length ss) refl

pub at-more_each :
    (P : Session → Type 0) (ss : List Session) (x : Session)
    → P (new_session [])
    → P x
    → ((k : ℕ) → P (session_at k ss))
    → (k : ℕ)
    → P (session_at k (ss ++ x ∷ []))
at-more_each P ss x none here others k = go (cases_lt k (length ss)) (cases_eq k (length ss))
  where
    go : (k < length ss) ⊎ (length ss ≤ k) → (k ≡ length ss) ⊎ (k ≡ length ss → ⊥) → P (session_at k (ss ++ x ∷ []))
    go (inl within) _ = subst P (sym (at-more ss x k within)) (others k)
    go (inr past) (inl same) =
        subst (λ i. P (session_at i (ss ++ x ∷ []))) (sym same) (subst P (sym (at-more_last ss x)) here)
    go (inr past) (inr apart) =
        let beyond : length (ss ++ x ∷ []) ≤ k = omega (arith, length_push ss x) in
        subst P (sym (get_or_past (ss ++ x ∷ []) k (new_session []) beyond)) none
