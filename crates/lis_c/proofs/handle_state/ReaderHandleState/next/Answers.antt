-- The record's text is the bytes before its CR, and no longer than a record is.
use Rattle.std.proofs.Common.{◌≡◌, ℕ, ◌-◌, List, take, ap, subst, sym, ◌∙◌, ◌≤◌, length}
use Rattle.lis_record_values.specs.Text.{record_limit}
use Rattle.lis_c.specs.Next.{ReportsTable}
use Rattle.lis_c.proofs.NextLaws.{text_short}
use Rattle.lis_c.proofs.handle_state.ReaderHandleState.next.Goals as goal

pub returns-in-Some-clause-read : goal.returns-in-Some-clause-read
returns-in-Some-clause-read c some left has =
    let bytes = c.args.bytes.now in
    let entry = c.in-Some.entry in
    let count = c.saturating_sub-count.result in
    let reads = c.in-Some.ensures.read left has in
    let text : c.split_at.result.0.now ≡ take (count - 1) bytes =
    c.split_at.ensures.front ∙ ap (λ (n : ℕ). take n bytes) c.saturating_sub.ensures in
    let short = text_short c.args.self.now.reader c.read_whole.new.self left bytes c.in-Some.following.now entry reads.1
    count c.saturating_sub-count.ensures in
    record {
      following = c.in-Some.following.now;
      entry = entry;
      reads = reads;
      count_is = c.saturating_sub-count.ensures;
      reported = c.report.ensures;
      parts_are =
          subst (λ (l : List ℕ). ReportsTable entry.delimiters entry.content.kind l c.args.parts.now
          c.report_table.new.parts c.report_table.new.table) text
          (c.report_table.ensures (subst (λ (l : List ℕ). length l ≤ record_limit) (sym text) short));
    }
