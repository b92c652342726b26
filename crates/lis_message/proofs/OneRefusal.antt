-- A stream is rejected in one way at most.
use Rattle.std.proofs.Common.{◌≡◌, ℕ, ◌⊎◌, inl, inr, ⊎_elim, List, [], ◌∷◌, ◌++◌, Option, Some, None, refl, sym, ◌∙◌}
use Rattle.std.proofs.Common.{ap, subst, append_assoc, arith}
use Rattle.std.proofs.lemmas.List.{append-nil}
use Rattle.lis_record_values.specs.declared.faults.MessageFault.{MessageFault}
use Rattle.lis_record_values.specs.declared.faults.Reason.{Reason}
use Rattle.lis_tree.specs.Begun.{Begun}
use Rattle.lis_message.specs.Feeding.{next_place}
use Rattle.lis_message.specs.Stream.{ended, refusal, IsRefused, IsRefusedText, IsLongText, LacksReturn}
use Rattle.lis_tree.specs.Tree.{MessageTree}
use Rattle.lis_message.proofs.Lines.{AllLack, line_one, longer_front, ended_cons}
use Rattle.lis_message.proofs.Reading.{State, Run, Step, start, all_texts, split_runs, split_lines, run_lacks, run_one}
use Rattle.lis_message.proofs.Reading.{run_split, step_lacks}
use Rattle.lis_message.proofs.Refusals.{read_short, read_unrefused}

-- one list of lines goes on with the rest of the other
record LinesGoOn (xs ys : List (List ℕ)) (r s : List ℕ) : Type 0 where
  more : List (List ℕ)
  lines : ys ≡ xs ++ more
  rest : r ≡ ended more ++ s

goes_on_cons : (x y : List ℕ) (xs ys : List (List ℕ)) (r s : List ℕ) → x ≡ y → LinesGoOn xs ys r s
    → LinesGoOn (x ∷ xs) (y ∷ ys) r s
goes_on_cons x y xs ys r s e g = record {
  more = g.more;
  lines = ap (λ (l : List (List ℕ)). y ∷ l) g.lines ∙ ap (λ (t : List ℕ). t ∷ (xs ++ g.more)) (sym e);
  rest = g.rest;
}

compared : (xs ys : List (List ℕ)) (r s : List ℕ) → AllLack xs → AllLack ys → ended xs ++ r ≡ ended ys ++ s
    → LinesGoOn xs ys r s ⊎ LinesGoOn ys xs s r
compared [] ys r s lx ly e = inl (record { more = ys; lines = refl; rest = e })
compared (x ∷ xs) [] r s lx ly e = inr (record { more = x ∷ xs; lines = refl; rest = sym e })
compared (x ∷ xs) (y ∷ ys) r s lx ly e =
    let both = line_one x y (ended xs ++ r) (ended ys ++ s) lx.0 ly.0
    (sym (ended_cons x xs r) ∙ e ∙ ended_cons y ys s) in
    ⊎_elim (λ (g : LinesGoOn xs ys r s). inl (goes_on_cons x y xs ys r s both.0 g))
    (λ (g : LinesGoOn ys xs s r). inr (goes_on_cons y x ys xs s r (sym both.0) g))
    (compared xs ys r s lx.1 ly.1 both.1)

abbrev IsStop : Option Begun → List ℕ → List ℕ → Reason → Type 0
IsStop left text more reason = IsRefusedText left text more reason ⊎ IsLongText text reason

-- a text that is rejected isn't read
unread : (here n : State) (text more z rest : List ℕ) (reason : Reason) → LacksReturn text → LacksReturn z
    → IsStop here.left text more reason → text ++ more ≡ z ++ 13 ∷ rest → Step here z n → ⊥
unread here n text more z rest reason l lz stop e step =
    ⊎_elim (λ (is : IsRefusedText here.left text more reason).
    let both = line_one text z is.rest rest l lz (ap (λ m. text ++ m) (sym is.ended_by) ∙ e) in
    let none = ap (refusal here.left) both.0 ∙ read_unrefused here.messages here.left z n step in
    let clash : None ≡ Some reason = sym none ∙ is.why in cc)
    (λ (is : IsLongText text reason).
    let far = longer_front text more z rest l e in
    let short = read_short here.messages here.left z n step in
    let long = is.long in omega arith) stop

-- two rejections after the same records
stop_one : (left : Option Begun) (t u a b : List ℕ) (p q : Reason) → LacksReturn t → LacksReturn u → IsStop left t a p
    → IsStop left u b q → t ++ a ≡ u ++ b → p ≡ q
stop_one left t u a b p q lt lu (inl s) (inl r) e =
    let both = line_one t u s.rest r.rest lt lu (ap (λ m. t ++ m) (sym s.ended_by) ∙ e ∙ ap (λ m. u ++ m) r.ended_by) in
    let same : Some p ≡ Some q = sym s.why ∙ ap (refusal left) both.0 ∙ r.why in cc
stop_one left t u a b p q lt lu (inl s) (inr r) e =
    let far = longer_front u b t s.rest lu (sym e ∙ ap (λ m. t ++ m) s.ended_by) in
    let short = s.short in let long = r.long in absurd (omega arith)
stop_one left t u a b p q lt lu (inr s) (inl r) e =
    let far = longer_front t a u r.rest lt (e ∙ ap (λ m. u ++ m) r.ended_by) in
    let short = r.short in let long = s.long in absurd (omega arith)
stop_one left t u a b p q lt lu (inr s) (inr r) e = s.why ∙ sym r.why

same_fault : (f g : MessageFault) → f.place ≡ g.place → f.reason ≡ g.reason → f ≡ g
same_fault f g p r =
    let make : ℕ → Reason → MessageFault = λ n x. record { place = n; reason = x } in
    ap (λ n. make n f.reason) p ∙ ap (make g.place) r

-- the records of the other go on with none, since the first of them would be the rejected one
settle : (m n : List MessageTree) (f g : MessageFault) (l k : Option Begun) (t a u b : List ℕ) (more : List (List ℕ))
    → LacksReturn t → LacksReturn u → IsStop l t a f.reason → IsStop k u b g.reason
    → f.place ≡ next_place l → g.place ≡ next_place k → t ++ a ≡ ended more ++ (u ++ b)
    → Run (record { messages = m; left = l }) more (record { messages = n; left = k }) → (m ≡ n) × (f ≡ g)
settle m n f g l k t a u b [] lt lu s r p q e run =
    let left : l ≡ k = ap (λ (x : State). x.left) run in
    let reason = stop_one k t u a b f.reason g.reason lt lu (subst (λ x. IsStop x t a f.reason) left s) r e in
    (ap (λ (x : State). x.messages) run, same_fault f g (p ∙ ap next_place left ∙ sym q) reason)
settle m n f g l k t a u b (z ∷ zs) lt lu s r p q e run =
    absurd (unread (record { messages = m; left = l }) run.0 t a z (ended zs ++ (u ++ b)) f.reason lt
    (step_lacks (record { messages = m; left = l }) z run.0 run.1) s (e ∙ ended_cons z zs (u ++ b)) run.1)

-- where one rejection's records go on with those of the other
ahead : (stream : List ℕ) (m n : List MessageTree) (f g : MessageFault) (a : IsRefused stream m f)
    (b : IsRefused stream n g)
    → LinesGoOn (all_texts a.split.groups ++ a.split.texts) (all_texts b.split.groups ++ b.split.texts)
    (a.text ++ a.more)
    (b.text ++ b.more) → (m ≡ n) × (f ≡ g)
ahead stream m n f g a b goes =
    let xs = all_texts a.split.groups ++ a.split.texts in
    let ys = all_texts b.split.groups ++ b.split.texts in
    let here : State = record { messages = m; left = a.left } in
    let end : State = record { messages = n; left = b.left } in
    let run_x = split_runs a.front m a.left [] a.split in
    let run_y = split_runs b.front n b.left [] b.split in
    let halves = run_split start xs goes.more end (subst (λ ts. Run start ts end) goes.lines run_y) in
    let same : halves.0 ≡ here = run_one start xs halves.0 here halves.1 run_x in
    settle m n f g a.left b.left a.text a.more b.text b.more goes.more a.lacks b.lacks a.refused b.refused a.place
    b.place goes.rest
    (subst (λ s. Run s goes.more end) same halves.2)

-- A stream is rejected in one way at most.
pub refused_one : (stream : List ℕ) (m n : List MessageTree) (f g : MessageFault) → IsRefused stream m f
    → IsRefused stream n g → (m ≡ n) × (f ≡ g)
refused_one stream m n f g a b =
    let xs = all_texts a.split.groups ++ a.split.texts in
    let ys = all_texts b.split.groups ++ b.split.texts in
    let lines_a : stream ≡ ended xs ++ (a.text ++ a.more) =
    a.whole ∙ append_assoc a.front a.text a.more ∙ ap (λ l. l ++ (a.text ++ a.more))
    (split_lines a.front m a.left [] a.split ∙ append-nil (ended xs)) in
    let lines_b : stream ≡ ended ys ++ (b.text ++ b.more) =
    b.whole ∙ append_assoc b.front b.text b.more ∙ ap (λ l. l ++ (b.text ++ b.more))
    (split_lines b.front n b.left [] b.split ∙ append-nil (ended ys)) in
    let lack_a = run_lacks start xs (record { messages = m; left = a.left }) (split_runs a.front m a.left [] a.split) in
    let lack_b = run_lacks start ys (record { messages = n; left = b.left }) (split_runs b.front n b.left [] b.split) in
    ⊎_elim (λ (g' : LinesGoOn xs ys (a.text ++ a.more) (b.text ++ b.more)). ahead stream m n f g a b g')
    (λ (g' : LinesGoOn ys xs (b.text ++ b.more) (a.text ++ a.more)). let back = ahead stream n m g f b a g' in
    (sym back.0, sym back.1))
    (compared xs ys (a.text ++ a.more) (b.text ++ b.more) lack_a lack_b (sym lines_a ∙ lines_b))
