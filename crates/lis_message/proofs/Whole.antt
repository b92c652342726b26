-- A stream that is read whole.
use Rattle.std.proofs.Common.{◌≡◌, ℕ, List, [], ◌∷◌, ◌++◌, Option, Some, None, Ok, Err, inl, inr, refl, sym, ◌∙◌, ap}
use Rattle.std.proofs.Common.{subst}
use Rattle.lis_record_values.specs.declared.faults.MessageFault.{MessageFault}
use Rattle.lis_tree.specs.Begun.{Begun}
use Rattle.lis_message.specs.Feeding.{ReaderState, ReadsStream, ReadsWhole, answer_at_end, finished}
use Rattle.lis_message.specs.Stream.{IsSplit}
use Rattle.lis_tree.specs.Tree.{MessageTree}
use Rattle.lis_message.proofs.Splits.{split_start}

-- what a reader gives and keeps that is fed at the start of a stream
pub start_reads : (old new : ReaderState) (piece : List ℕ) (messages : List MessageTree) (fault : Option MessageFault)
    → old ≡ record { left = None; held = []; fault = None }
    → (old.fault ≡ None → (past : List ℕ) (base : List MessageTree) → IsSplit past base old.left old.held
    → ReadsStream (past ++ piece) (base ++ messages) new fault) → ReadsStream piece messages new fault
start_reads old new piece messages fault is feeds =
    let none : old.fault ≡ None = ap (λ (r : ReaderState). r.fault) is in
    let start : IsSplit [] [] old.left old.held = subst (λ (r : ReaderState). IsSplit [] [] r.left r.held) (sym is)
    split_start in
    feeds none [] [] start

at_end_ok : (left : Option Begun) (held : List ℕ) → answer_at_end left held ≡ Ok tt → (left ≡ None) × (held ≡ [])
at_end_ok None [] e = (refl, refl)
at_end_ok None (b ∷ held) e = absurd cc
at_end_ok (Some b) held e = absurd cc

finished_open : (r : ReaderState) → r.fault ≡ None → finished r ≡ answer_at_end r.left r.held
finished_open r e = ap (λ f. elim f [ None ↦ answer_at_end r.left r.held | Some fault ↦ Err fault ]) e

-- with a fault
pub whole_fault : (new : ReaderState) (stream : List ℕ) (messages : List MessageTree) (result : Option MessageFault)
    (fault : MessageFault) → ReadsStream stream messages new result → result ≡ Some fault
    → ReadsWhole stream messages (Some fault)
whole_fault new stream messages result fault r is = inl (subst (ReadsStream stream messages new) is r).1

-- to the end
pub whole_read : (new : ReaderState) (stream : List ℕ) (messages : List MessageTree) (result : Option MessageFault)
    → ReadsStream stream messages new result → result ≡ None → finished new ≡ Ok tt → ReadsWhole stream messages None
whole_read new stream messages result r is done =
    let reads = subst (ReadsStream stream messages new) is r in
    let none = at_end_ok new.left new.held (sym (finished_open new reads.0) ∙ done) in
    subst (λ l. IsSplit stream messages l []) none.0 (subst (λ h. IsSplit stream messages new.left h) none.1 reads.1)

pub whole_short : (new : ReaderState) (stream : List ℕ) (messages : List MessageTree) (result : Option MessageFault)
    (fault : MessageFault) → ReadsStream stream messages new result → result ≡ None → finished new ≡ Err fault
    → ReadsWhole stream messages (Some fault)
whole_short new stream messages result fault r is why =
    let reads = subst (ReadsStream stream messages new) is r in
    inr (record { left = new.left; held = new.held; split = reads.1; why = sym (finished_open new reads.0) ∙ why })
