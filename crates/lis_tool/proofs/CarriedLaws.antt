-- What a session that is done delivered, where it was started with the texts of messages.
use Rattle.std.proofs.Common.{◌≡◌, ℕ, List, [], ◌∷◌, ◌++◌, Option, None, Some, Err, inl, inr, map, refl, ◌∙◌, ap}
use Rattle.std.proofs.Common.{MatchOption, All, sym, subst}
use Rattle.std.proofs.lemmas.Grind.{flat_map-append}
use Rattle.std.proofs.lemmas.List.Elements.{All-contains}
use Rattle.std.specs.List.{AllByRecursion, flat_map}
use Rattle.lis_message.specs.Feeding.{ReadsWhole, answer_at_end}
use Rattle.lis_message.specs.Stream.{IsSplit, IsRefused}
use Rattle.lis_message_texts.specs.Texts.{FitsInTexts}
use Rattle.lis_message.specs.Writing.{IsWritable, message_bytes, message_texts_of}
use Rattle.lis_message.proofs.WritingLaws.{all_writable}
use Rattle.lis_record_write.specs.Encoding.{written}
use Rattle.lis_tree.specs.Begun.{Begun}
use Rattle.lis_record_values.specs.declared.faults.MessageFault.{MessageFault}
use Rattle.lis_record_values.specs.declared.faults.Reason.TheVariants as reasons
use Rattle.lis_tree.specs.Tree.{IsTree, MessageTree, flatten}
use Rattle.lis_world.specs.Safe.{DeliversAll}
use Rattle.lis_world.specs.Session.{Session}
use Rattle.lis_tool.specs.Laws.{HasCarried, Carry, AreReadBack, delivered_bytes}

joined_map : {A : Type 0} (f : A → List ℕ) (xs : List A) → flat_map (λ (text : List ℕ). text) (map f xs) ≡ flat_map f xs
joined_map f [] = refl
joined_map f (x ∷ xs) = ap (λ (l : List ℕ). f x ++ l) (joined_map f xs)

-- the texts of messages, put together, are their bytes
texts_joined : (ms : List MessageTree) → flat_map (λ (text : List ℕ). text) (flat_map message_texts_of ms)
    ≡ flat_map message_bytes ms
texts_joined [] = refl
texts_joined (m ∷ ms) =
    flat_map-append (λ (text : List ℕ). text) (message_texts_of m) (flat_map message_texts_of ms)
    ∙ ap (λ (l : List ℕ). flat_map (λ (text : List ℕ). text) (message_texts_of m) ++ l) (texts_joined ms)
    ∙ ap (λ (l : List ℕ). l ++ flat_map message_bytes ms) (joined_map (written m.delimiters) (flatten m))

-- what has texts can be written
writable : (ms : List MessageTree) → AllByRecursion FitsInTexts ms → AllByRecursion IsWritable ms
writable [] fit = tt
writable (m ∷ ms) fit = (all_writable m.delimiters 1 (flatten m) fit.0.0, writable ms fit.1)

carried_bytes :
    (sessions : List Session) → All DeliversAll sessions → (x : Session) (ms : List MessageTree)
    → HasCarried sessions x ms
    → delivered_bytes x ≡ flat_map message_bytes ms
carried_bytes sessions all x ms has =
    let handed : x.handed ≡ x.texts = All-contains DeliversAll sessions x all has.session has.done in
    ap (flat_map (λ (text : List ℕ). text)) (handed ∙ has.texts) ∙ texts_joined ms

-- a stream that is split into these messages alone is read as them
module _ (stream : List ℕ) (ms : List MessageTree) (split : IsSplit stream ms None [])
    (alone : (others : List MessageTree) (left : Option Begun) (held : List ℕ) → IsSplit stream others left held
    → (others ≡ ms) × (left ≡ None) × (held ≡ []))
    (none : (n : List MessageTree) (fault : MessageFault) → IsRefused stream n fault → IsSplit stream ms None [] → ⊥)
  where
    read_alone :
        (read : List MessageTree) (fault : Option MessageFault) → ReadsWhole stream read fault
        → MatchOption fault (read ≡ ms) (λ f. f.reason ≡ reasons.OutOfMemory)
    read_alone read None is = (alone read None [] is).0
    read_alone read (Some fault) (inl (inl starved)) = starved.why
    read_alone read (Some fault) (inl (inr refused)) = absurd (none read fault refused split)
    read_alone read (Some fault) (inr short) =
        let left = alone read short.left short.held short.split in
        absurd (ended short.left short.held left.1 left.2 short.why)
      where
        ended : (l : Option Begun) (h : List ℕ) → l ≡ None → h ≡ [] → answer_at_end l h ≡ Err fault → ⊥
        ended None [] e f why = cc
        ended None (b ∷ h) e f why = cc
        ended (Some b) h e f why = cc

-- so, by the laws of messages, what was delivered is split into the messages, and read as them
module _
    (split : (ms : List MessageTree) → AllByRecursion IsTree ms → AllByRecursion IsWritable ms
    → IsSplit (flat_map message_bytes ms) ms None [])
    (alone : (ms : List MessageTree) → AllByRecursion IsTree ms → AllByRecursion IsWritable ms
    → (others : List MessageTree) (left : Option Begun) (held : List ℕ)
    → IsSplit (flat_map message_bytes ms) others left held
    → (others ≡ ms) × (left ≡ None) × (held ≡ []))
    (none : (stream : List ℕ) (m n : List MessageTree) (fault : MessageFault) (l : Option Begun) (h : List ℕ)
    → IsRefused stream m fault → IsSplit stream n l h → ⊥)
    (sessions : List Session) (all : All DeliversAll sessions)
  where
    pub carry : Carry sessions
    carry x messages has =
        let bytes = carried_bytes sessions all x messages has in (
          bytes,
          subst (λ (l : List ℕ). IsSplit l messages None []) (sym bytes)
              (split messages has.trees (writable messages has.fit)),
        )

    pub are_read_back : AreReadBack sessions
    are_read_back x messages has =
        let bytes = carried_bytes sessions all x messages has in
        read_alone (delivered_bytes x) messages (carry x messages has).1
        (λ others left held other. alone messages has.trees (writable messages has.fit) others left held
        (subst (λ (l : List ℕ). IsSplit l others left held) bytes other))
        (λ n f refused whole. none (delivered_bytes x) n messages f None [] refused whole)
