-- What goes on while the records of a list are taken, and why no message is made of them.
use Rattle.std.proofs.Common.{◌≡◌, ◌≢◌, suc, ◌+◌, List, [], ◌∷◌, ◌++◌, length, Option, Some, None, ◌⊎◌, inl, inr}
use Rattle.std.proofs.Common.{⊎_elim, refl, sym, ◌∙◌, ap, subst, append_assoc, arith, length-append}
use Rattle.std.specs.List.{flat_map}
use Rattle.std.specs.Option.{option_to_list}
use Rattle.std.specs.Prelude.{IfErr, IfOk, MatchOption, MatchResult, Result, Ok, Err}
use Rattle.lis_tree.proofs.Flatten.{flatten_one}
use Rattle.std.proofs.lemmas.List.{append-nil}
use Rattle.lis_record_values.specs.declared.kinds.Kind.{Kind}
use Rattle.lis_record_values.specs.declared.kinds.Kind.TheVariants as kinds
use Rattle.lis_record_values.specs.Delimiters.{DelimiterBytes}
use Rattle.lis_record_values.specs.Shape.{RecordContent}
use Rattle.lis_record_values.specs.declared.faults.MessageFault.{MessageFault}
use Rattle.lis_record_values.specs.declared.faults.Reason.TheVariants as reasons
use Rattle.lis_tree.specs.Begun.{Begun, level_of}
use Rattle.lis_tree.specs.Level.{Level, outside, closed, next_level, level_after, misplaced, AllowedFrom, kinds_of}
use Rattle.lis_bytes.specs.Capped.{capped}
use Rattle.lis_tree.specs.ListFaults.{IsListFault, IsMisplacedAt, IsUnclosed}
use Rattle.lis_tree.specs.Tree.{MessageTree, IsTree, flatten, group_records}
use Rattle.lis_tree.proofs.Levels.{map_append, allowed_back, tree_leads, inside_takes, next_unclosed, level_more}
use Rattle.lis_tree.proofs.Levels.{outside_refused, allowed_more}

-- the open message has the first records of the list, and these are left
pub record IsSoFar (delimiters : DelimiterBytes) (records : List RecordContent) (begun : Begun)
    (rest : List RecordContent) : Type 0 where
  pub marks : begun.delimiters ≡ delimiters
  pub whole : records ≡ begun.records ++ rest
  pub placed : AllowedFrom outside (kinds_of begun.records)
  pub unclosed : level_after outside (kinds_of begun.records) ≢ closed

header_unclosed : (k : Kind) → k ≡ kinds.H → next_level outside k ≢ closed
header_unclosed k h e = let f : next_level outside kinds.H ≡ closed = ap (next_level outside) (sym h) ∙ e in cc

-- at the header
pub so_far_header : (d : DelimiterBytes) (records : List RecordContent) (begun : Begun) (header : RecordContent)
    (rest : List RecordContent) → header.kind ≡ kinds.H → begun ≡ record { delimiters = d; records = header ∷ [] }
    → records ≡ header ∷ rest
    → IsSoFar d records begun rest
so_far_header d records begun header rest kind is whole =
    subst (λ (b : Begun). IsSoFar d records b rest) (sym is)
    (record {
      marks = refl;
      whole = whole;
      placed = (ap (misplaced outside) kind, tt);
      unclosed = header_unclosed
          header.kind kind;
    })

-- at a further record
pub so_far_more : (d : DelimiterBytes) (records : List RecordContent) (begun next : Begun) (r : RecordContent)
    (rest later : List RecordContent) → IsSoFar d records begun rest → rest ≡ r ∷ later
    → misplaced (level_of (Some begun)) r.kind ≡ None → r.kind ≢ kinds.L
    → next ≡ record { delimiters = begun.delimiters; records = begun.records ++ r ∷ [] }
    → IsSoFar d records next later
so_far_more d records begun next r rest later s is placed other becomes =
    subst (λ (b : Begun). IsSoFar d records b later) (sym becomes) (record {
      marks = s.marks;
      whole = s.whole ∙ ap (λ l. begun.records ++ l) is ∙ sym (append_assoc begun.records (r ∷ []) later);
      placed = allowed_more begun.records r s.placed placed;
      unclosed = subst (λ l. l ≢ closed) (sym (level_more begun.records r))
          (next_unclosed (level_of (Some begun)) r.kind s.unclosed other);
    })

kinds_length : (rs : List RecordContent) → length (kinds_of rs) ≡ length rs
kinds_length [] = refl
kinds_length (r ∷ rs) = ap suc (kinds_length rs)

kinds_whole : (records before : List RecordContent) (r : RecordContent) (later : List RecordContent)
    → records ≡ before ++ r ∷ later → kinds_of records ≡ kinds_of before ++ r.kind ∷ kinds_of later
kinds_whole records before r later e = ap kinds_of e ∙ map_append before (r ∷ later)

-- a record that can't be there
pub misplaced_fault : (d : DelimiterBytes) (records : List RecordContent) (begun : Begun) (r : RecordContent)
    (rest later : List RecordContent) (fault : MessageFault) → IsSoFar d records begun rest → rest ≡ r ∷ later
    → misplaced (level_of (Some begun)) r.kind ≡ Some fault.reason → fault.place ≡ capped (length begun.records + 1)
    → IsListFault (kinds_of records) fault
misplaced_fault d records begun r rest later fault s is why place = inl (record {
  before = kinds_of begun.records;
  kind = r.kind;
  following = kinds_of later;
  whole = kinds_whole records begun.records r later (s.whole ∙ ap (λ l. begun.records ++ l) is);
  placed = s.placed;
  why = why;
  place = place ∙ ap (λ n. capped (n + 1)) (sym (kinds_length begun.records));
})

closing_level : (l : Level) (k : Kind) → k ≡ kinds.L → next_level l k ≡ closed
closing_level l k e = ap (next_level l) e

-- a record after the closing one
pub extra_fault : (d : DelimiterBytes) (records : List RecordContent) (begun : Begun) (closing extra : RecordContent)
    (rest later : List RecordContent) (fault : MessageFault) → IsSoFar d records begun rest
    → rest ≡ closing ∷ extra ∷ later
    → closing.kind ≡ kinds.L → misplaced (level_of (Some begun)) closing.kind ≡ None
    → misplaced closed extra.kind ≡ Some fault.reason → fault.place ≡ capped (length begun.records + 2)
    → IsListFault (kinds_of records) fault
extra_fault d records begun closing extra rest later fault s is kind placed why place =
    let all = begun.records ++ closing ∷ [] in
    let level : level_after outside (kinds_of all) ≡ closed =
    level_more begun.records closing ∙ closing_level (level_of (Some begun)) closing.kind kind in
    inl (record {
      before = kinds_of all;
      kind = extra.kind;
      following = kinds_of later;
      whole = kinds_whole records all extra later (s.whole ∙ ap (λ l. begun.records ++ l) is
          ∙ sym (append_assoc begun.records (closing ∷ []) (extra ∷ later)));
      placed = allowed_more begun.records closing s.placed placed;
      why = ap (λ l. misplaced l extra.kind) level ∙ why;
      place = place ∙ ap capped (omega (arith, kinds_length all, length-append begun.records (closing ∷ [])));
    })

-- no closing record
pub unclosed_fault : (d : DelimiterBytes) (records : List RecordContent) (begun : Begun) (rest : List RecordContent)
    (fault : MessageFault) → IsSoFar d records begun rest → rest ≡ []
    → fault.reason ≡ reasons.Unfinished → fault.place ≡ capped (length begun.records + 1)
    → IsListFault (kinds_of records) fault
unclosed_fault d records begun rest fault s is why place =
    let whole : records ≡ begun.records = s.whole ∙ ap (λ l. begun.records ++ l) is ∙ append-nil begun.records in
    inr (record {
      placed = subst (λ rs. AllowedFrom outside (kinds_of rs)) (sym whole) s.placed;
      unclosed = subst (λ rs. level_after outside (kinds_of rs) ≢ closed) (sym whole) s.unclosed;
      why = why;
      place = place ∙ ap (λ n. capped (n + 1)) (ap length (sym whole) ∙ sym (kinds_length records));
    })

-- The records of a tree have no fault.
pub tree_kinds : (m : MessageTree) → IsTree m → AllowedFrom outside (kinds_of (flatten m))
    × (level_after outside (kinds_of (flatten m)) ≡ closed)
tree_kinds m is =
    let front = (m.header ∷ m.notes) ++ flat_map group_records m.groups in
    let leads = tree_leads m is in
    let placed : misplaced (level_after outside (kinds_of front)) m.closing.kind ≡ None =
    ap (misplaced (level_after outside (kinds_of front))) is.closing ∙ ap (λ l. misplaced l kinds.L) leads.2.arrives
    ∙ (inside_takes leads.0 leads.1).2 in (
      allowed_more front m.closing leads.2.allowed placed,
      level_more front m.closing
          ∙ closing_level (level_after outside (kinds_of front)) m.closing.kind is.closing,
    )

-- A list whose records are in the hierarchy and whose last one closes it has no fault.
pub faultless_kinds : (ks : List Kind) (fault : MessageFault) → AllowedFrom outside ks → level_after outside ks ≡ closed
    → IsListFault ks fault → ⊥
faultless_kinds ks fault placed ends why =
    ⊎_elim (λ (w : IsMisplacedAt ks fault).
    let allowed = allowed_back outside w.before (w.kind ∷ w.following) (subst (AllowedFrom outside) w.whole placed) in
    let e : None ≡ Some fault.reason = sym allowed.0 ∙ w.why in cc)
    (λ (w : IsUnclosed ks fault). w.unclosed ends) why

faultless : (m : MessageTree) → IsTree m → (fault : MessageFault) → IsListFault (kinds_of (flatten m)) fault → ⊥
faultless m is fault why =
    let all = tree_kinds m is in faultless_kinds (kinds_of (flatten m)) fault all.0 all.1 why

-- so where a message has these records, memory ran out
pub only_memory : (records : List RecordContent) (fault : MessageFault)
    → (fault.reason ≡ reasons.OutOfMemory) ⊎ IsListFault (kinds_of records) fault
    → (m : MessageTree) → IsTree m → flatten m ≡ records → fault.reason ≡ reasons.OutOfMemory
only_memory records fault why m is e =
    ⊎_elim (λ (oom : fault.reason ≡ reasons.OutOfMemory). oom)
    (λ (w : IsListFault (kinds_of records) fault). absurd
    (faultless m is fault (subst (λ rs. IsListFault (kinds_of rs) fault) (sym e) w))) why

-- a first record that is no header
pub header_fault : (records : List RecordContent) (r : RecordContent) (rest : List RecordContent) → records ≡ r ∷ rest
    → r.kind ≢ kinds.H → IsListFault (kinds_of records) (record { place = 1; reason = reasons.NotHeader })
header_fault records r rest e other =
    inl (record {
      before = [];
      kind = r.kind;
      following = kinds_of rest;
      whole = ap kinds_of e;
      placed = tt;
      why =
          outside_refused r.kind other;
      place = refl;
    })

-- no record at all
pub empty_fault : (records : List RecordContent) → records ≡ []
    → IsListFault (kinds_of records) (record { place = 1; reason = reasons.Unfinished })
empty_fault records e = subst (λ rs. IsListFault (kinds_of rs) (record { place = 1; reason = reasons.Unfinished }))
    (sym e)
    (inr (record { placed = tt; unclosed = (λ h. cc); why = refl; place = refl }))

-- what is after the closing record
pub close_reported : (d : DelimiterBytes) (records : List RecordContent) (begun : Begun) (closing : RecordContent)
    (rest after later : List RecordContent) (next : Option RecordContent) (fault : MessageFault)
    → IsSoFar d records begun rest → rest ≡ closing ∷ after
    → after ≡ option_to_list next ++ later → closing.kind ≡ kinds.L
    → misplaced (level_of (Some begun)) closing.kind ≡ None
    → MatchOption next ⊥
    (λ r. (misplaced closed r.kind ≡ Some fault.reason) × (fault.place ≡ capped (length begun.records + 2)))
    → (fault.reason ≡ reasons.OutOfMemory) ⊎ IsListFault (kinds_of records) fault
close_reported d records begun closing rest after later None fault s is following kind placed why = absurd why
close_reported d records begun closing rest after later (Some r) fault s is following kind placed why =
    inr (extra_fault d records begun closing r rest later fault s (is ∙ ap (λ l. closing ∷ l) following) kind placed
    why.0 why.1)

-- the records of a list whose last closes it
pub closed_records : (d : DelimiterBytes) (records : List RecordContent) (begun : Begun) (closing : RecordContent)
    (rest after later : List RecordContent) (next : Option RecordContent) → IsSoFar d records begun rest
    → rest ≡ closing ∷ after → after ≡ option_to_list next ++ later
    → next ≡ None → later ≡ [] → records ≡ begun.records ++ closing ∷ []
closed_records d records begun closing rest after later next s is following none empty =
    s.whole ∙ ap (λ l. begun.records ++ l) (is ∙ ap (λ l. closing ∷ l)
    (following ∙ ap (λ o. option_to_list o ++ later) none ∙ empty))

-- ---- at the record that closes a list

-- what is said about a list
abbrev IsReported : DelimiterBytes → List RecordContent → Result MessageTree MessageFault → Type 0
IsReported d list result = record {
  delimiters : IfOk result (λ m. m.delimiters ≡ d);
  records : IfOk result (λ m. flatten m ≡ list);
  shape : IfOk result IsTree;
  only : (m : MessageTree) → IsTree m → m.delimiters ≡ d → flatten m ≡ list
      → MatchResult result (λ found. found ≡ m) (λ fault. fault.reason ≡ reasons.OutOfMemory);
  err : IfErr result (λ fault. (fault.reason ≡ reasons.OutOfMemory) ⊎ IsListFault (kinds_of list) fault);
}

pub closed_list : (d : DelimiterBytes) (records : List RecordContent) (begun : Begun) (closing : RecordContent)
    (rest after later : List RecordContent) (next : Option RecordContent) (result : Result MessageTree MessageFault)
    → IsSoFar d records begun rest → rest ≡ closing ∷ after → after ≡ option_to_list next ++ later
    → closing.kind ≡ kinds.L → misplaced (level_of (Some begun)) closing.kind ≡ None → (next ≡ None → later ≡ [])
    → IfOk result (λ m. next ≡ None) → IfOk result (λ m. m.delimiters ≡ begun.delimiters)
    → IfOk result (λ m. flatten m ≡ begun.records ++ closing ∷ []) → IfOk result IsTree
    → IfErr result (λ fault. MatchOption next ⊥
    (λ r. (misplaced closed r.kind ≡ Some fault.reason) × (fault.place ≡ capped (length begun.records + 2))))
    → IsReported d records result
closed_list d records begun closing rest after later next (Ok found) s is following kind placed ends alone marks flat
    shape
    err =
    let marked = marks ∙ s.marks in
    let whole = flat
    ∙ sym (closed_records d records begun closing rest after later next s is following alone (ends alone)) in
    record {
      delimiters = marked;
      records = whole;
      shape = shape;
      only = λ m tree same e. flatten_one found m shape tree (marked ∙ sym same) (whole ∙ sym e);
      err = tt;
    }
closed_list d records begun closing rest after later next (Err fault) s is following kind placed ends alone marks flat
    shape err =
    let why = close_reported d records begun closing rest after later next fault s is following kind placed err in
    record {
      delimiters = tt;
      records = tt;
      shape = tt;
      only = λ m tree same e. only_memory records fault why m tree e;
      err = why;
    }
