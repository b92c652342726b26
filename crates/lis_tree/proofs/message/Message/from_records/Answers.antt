use Rattle.std.proofs.Common.{◌≡◌, [], inr, refl, sym, ◌∙◌, ap, Some}
use Rattle.std.proofs.lemmas.List.{nil_from_length}
use Rattle.lis_record_values.specs.declared.faults.MessageFault.{MessageFault}
use Rattle.lis_record_values.specs.declared.faults.Reason.TheVariants as reasons
use Rattle.lis_tree.specs.Level.{misplaced}
use Rattle.lis_tree.specs.Begun.{level_of}
use Rattle.lis_tree.proofs.ListFaults.{closed_list, so_far_more, misplaced_fault, unclosed_fault, header_fault}
use Rattle.lis_tree.proofs.ListFaults.{only_memory}
use Rattle.std.specs.Vec.Iter.{into_iter_items}
use Rattle.lis_tree.proofs.message.Message.from_records.Goals as goal

pub returns-in_default-kind : goal.returns-in_default-kind
returns-in_default-kind c =
    let whole = sym (c.into_iter-rest.ensures.rest ∙ c.into_vec.ensures) ∙ c.in-Some.ensures.items in
    let why = header_fault c.args.records c.in-Some.header (into_iter_items c.next.new.self) whole
    (λ h. c.in_default-kind.not-H (c.kind.ensures.kind ∙ h)) in
    record {
      delimiters = tt;
      records = tt;
      shape = tt;
      only = λ m is marks e. only_memory c.args.records (record { place = 1; reason = reasons.NotHeader }) (inr why) m
          is e;
      err = inr why;
    }

pub returns-in-Some-place_fault : goal.returns-in-Some-place_fault
returns-in-Some-place_fault c =
    let fault : MessageFault = record { place = c.next_place-place.result; reason = c.in-Some-place_fault.reason } in
    let why = misplaced_fault c.args.delimiters c.args.records c.loop-entry.begun c.in-Some-next.entry
    (into_iter_items c.loop-entry.rest) (into_iter_items c.next-in-loop-entry.new.self) fault c.loop-entry.invariant
    c.in-Some-next.ensures.items
    (ap (misplaced (level_of (Some c.loop-entry.begun))) (sym c.kind-kind.ensures.kind)
    ∙ sym c.in-Some-place_fault.ensures) c.next_place-place.ensures in
    record {
      delimiters = tt;
      records = tt;
      shape = tt;
      only = λ m is marks e. only_memory c.args.records fault (inr why) m is e;
      err = inr why;
    }

pub loop-entry-preserved : goal.loop-entry-preserved
loop-entry-preserved c =
    so_far_more c.args.delimiters c.args.records c.loop-entry.begun c.push.new.self c.in-Some-next.entry
    (into_iter_items c.loop-entry.rest) (into_iter_items c.next-in-loop-entry.new.self)
    c.loop-entry.invariant c.in-Some-next.ensures.items
    (ap (misplaced (level_of (Some c.loop-entry.begun))) (sym c.kind-kind.ensures.kind)
    ∙ sym c.in_default-place_fault.ensures)
    (λ e. c.in_default-kind-2.not-L (c.kind-kind.ensures.kind ∙ e)) c.in-Ok.ensures.ok

pub returns-in-L : goal.returns-in-L
returns-in-L c =
    closed_list c.args.delimiters c.args.records c.loop-entry.begun c.in-Some-next.entry
    (into_iter_items c.loop-entry.rest) (into_iter_items c.next-in-loop-entry.new.self)
    (into_iter_items c.next-in-L.new.self) c.next-in-L.result c.close.result
    c.loop-entry.invariant c.in-Some-next.ensures.items c.next-in-L.ensures.items (sym c.in-L.ensures.kind)
    (ap (misplaced (level_of (Some c.loop-entry.begun))) (sym c.kind-kind.ensures.kind)
    ∙ sym c.in_default-place_fault.ensures)
    (λ none. nil_from_length (into_iter_items c.next-in-L.new.self) (sym c.next-in-L.new.self.rest.ok.0
    ∙ (rw none at c.next-in-L.ensures.cases).1))
    c.close.ensures.alone c.close.ensures.delimiters c.close.ensures.records c.close.ensures.shape c.close.ensures.err

pub returns : goal.returns
returns c =
    let empty : into_iter_items c.loop-entry.rest ≡ [] =
    nil_from_length (into_iter_items c.loop-entry.rest)
    (sym c.loop-entry.rest.rest.ok.0 ∙ c.in_default-next.ensures.cases.0) in
    let fault : MessageFault = record { place = c.next_place-place-2.result; reason = reasons.Unfinished } in
    let why = unclosed_fault c.args.delimiters c.args.records c.loop-entry.begun (into_iter_items c.loop-entry.rest)
    fault c.loop-entry.invariant empty refl c.next_place-place-2.ensures in
    record {
      delimiters = tt;
      records = tt;
      shape = tt;
      only = λ m is marks e. only_memory c.args.records fault (inr why) m is e;
      err = inr why;
    }
