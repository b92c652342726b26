use Rattle.std.proofs.Common.{◌≡◌, ℕ, ◌+◌, List, false, take, length, arith}
use Rattle.std.proofs.lemmas.List.{take_all}
use Rattle.lis_capture.specs.Reader.{HasRead}
use Rattle.lis_capture.proofs.ReaderLemmas.{ReadsOn, reads_end, reads_within, front_of_line, no_line}
use Rattle.lis_capture.proofs.reader.LineReader.read.Goals as goal

-- after the first LF a line is ended
ended : (c : goal.After-end_line) (past : List ℕ) → HasRead c.args.self.now past
    → ReadsOn c.args.self.now c.end_line.new.self past (take (c.in-Some.place + 1) c.args.bytes.now) c.end_line.result
ended c past has =
    let fine : c.args.self.now.known.refused ≡ false =
    rw (← c.self.view_is, ← c.self-inside.view_is) c.if-self.false in
    let front = front_of_line c.args.bytes.now c.in-Some.place c.in-Some.ensures in
    rw front.1 (reads_end c.args.self.now past has fine c.end_line.new.self
    (take c.in-Some.place c.args.bytes.now) c.end_line.result front.0
    (rw c.split_at.ensures.front at c.end_line.ensures.known) c.end_line.ensures.held
    (rw c.split_at.ensures.front at c.end_line.ensures.found))

-- where there is none all the bytes are held
held : (c : goal.After-hold) (past : List ℕ) → HasRead c.args.self.now past
    → ReadsOn c.args.self.now c.hold.new.self past (take (length c.args.bytes.now) c.args.bytes.now) c.hold.result
held c past has =
    let fine : c.args.self.now.known.refused ≡ false =
    rw (← c.self.view_is, ← c.self-inside.view_is) c.if-self.false in
    rw (take_all (length c.args.bytes.now) c.args.bytes.now (omega arith))
    (reads_within c.args.self.now past has fine c.hold.new.self c.args.bytes.now c.hold.result
    (no_line c.args.bytes.now c.in-None.ensures) c.hold.ensures.after c.hold.ensures.found)

pub returns-in-Some-clause-found : goal.returns-in-Some-clause-found
returns-in-Some-clause-found c = λ past has. (ended c past has).found_is

pub returns-in-Some-clause-after : goal.returns-in-Some-clause-after
returns-in-Some-clause-after c = λ past has. (ended c past has).has_read

pub returns-in-None-clause-found : goal.returns-in-None-clause-found
returns-in-None-clause-found c = λ past has. (held c past has).found_is

pub returns-in-None-clause-after : goal.returns-in-None-clause-after
returns-in-None-clause-after c = λ past has. (held c past has).has_read
