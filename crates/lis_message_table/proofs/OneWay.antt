-- A text is read in one way, unless memory runs out.
use Rattle.std.proofs.Common.{◌≡◌, ◌≢◌, ℕ, List, [], Option, None, Some, IfSome, Err, Ok, inl, inr, refl, sym, ◌∙◌, ap}
use Rattle.lis_record_values.specs.declared.faults.MessageFault.{MessageFault}
use Rattle.lis_record_values.specs.declared.faults.Reason.TheVariants as reasons
use Rattle.lis_tree.specs.Begun.{Begun}
use Rattle.lis_tree.specs.Tree.{MessageTree}
use Rattle.lis_message.specs.Feeding.{EndsEarly, ReadsWhole, answer_at_end}
use Rattle.lis_message.specs.Stream.{IsSplit}
use Rattle.lis_message.proofs.OneRefusal.{refused_one}
use Rattle.lis_message.proofs.Reading.{split_one}
use Rattle.lis_message.proofs.Refusals.{refused_uncut}

-- memory is no reason
abbrev HasMemory : Option MessageFault → Type 0
HasMemory fault = IfSome fault (λ f. f.reason ≢ reasons.OutOfMemory)

-- a text that is read to its end doesn't end too early
ends_whole : (text : List ℕ) (ms ns : List MessageTree) (fault : MessageFault) → IsSplit text ms None []
    → EndsEarly text ns fault → ⊥
ends_whole text ms ns fault c e =
    let same = split_one text ms ns None e.left [] e.held c e.split in
    let fine : Ok tt ≡ answer_at_end e.left e.held =
    ap (λ (l : Option Begun). answer_at_end l []) same.1 ∙ ap (answer_at_end e.left) same.2 in
    let clash : Ok tt ≡ Err fault = fine ∙ e.why in
    cc

both_early : (text : List ℕ) (ms ns : List MessageTree) (f g : MessageFault) → EndsEarly text ms f → EndsEarly text ns g
    → (ms ≡ ns) × (Some f ≡ Some g)
both_early text ms ns f g e h =
    let same = split_one text ms ns e.left h.left e.held h.held e.split h.split in
    let ends : Err f ≡ Err g =
    sym e.why ∙ ap (λ (l : Option Begun). answer_at_end l e.held) same.1 ∙ ap (answer_at_end h.left) same.2 ∙ h.why in
    (same.0, cc)

pub read_one : (text : List ℕ) (ms ns : List MessageTree) (f g : Option MessageFault) → ReadsWhole text ms f
    → ReadsWhole text ns g → HasMemory f → HasMemory g → (ms ≡ ns) × (f ≡ g)
read_one text ms ns None None c d a b = ((split_one text ms ns None None [] [] c d).0, refl)
read_one text ms ns None (Some g) c (inl (inl d)) a b = absurd (b d.why)
read_one text ms ns None (Some g) c (inl (inr d)) a b = absurd (refused_uncut text ns ms g None [] d c)
read_one text ms ns None (Some g) c (inr d) a b = absurd (ends_whole text ms ns g c d)
read_one text ms ns (Some f) g (inl (inl c)) d a b = absurd (a c.why)
read_one text ms ns (Some f) None (inl (inr c)) d a b = absurd (refused_uncut text ms ns f None [] c d)
read_one text ms ns (Some f) None (inr c) d a b = absurd (ends_whole text ns ms f d c)
read_one text ms ns (Some f) (Some g) (inl (inr c)) (inl (inl d)) a b = absurd (b d.why)
read_one text ms ns (Some f) (Some g) (inl (inr c)) (inl (inr d)) a b =
    let same = refused_one text ms ns f g c d in (same.0, ap (λ (x : MessageFault). Some x) same.1)
read_one text ms ns (Some f) (Some g) (inl (inr c)) (inr d) a b =
    absurd (refused_uncut text ms ns f d.left d.held c d.split)
read_one text ms ns (Some f) (Some g) (inr c) (inl (inl d)) a b = absurd (b d.why)
read_one text ms ns (Some f) (Some g) (inr c) (inl (inr d)) a b =
    absurd (refused_uncut text ns ms g c.left c.held d c.split)
read_one text ms ns (Some f) (Some g) (inr c) (inr d) a b = both_early text ms ns f g c d
