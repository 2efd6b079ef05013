use Rattle.std.proofs.Common.{◌≤◌, length, ap, arith, rules}
use Rattle.records.specs.Files.{count}
use Rattle.records.proofs.Files.{drop_shown, drop_parts_none}
use Rattle.records.proofs.record.RecordIterIterator.next.Goals as goal

pub returns-in_err-record-clause-steps : goal.returns-in_err-record-clause-steps
returns-in_err-record-clause-steps c =
    let more : count c.args.self.now.file.now ≤ c.args.self.now.next = omega (arith, c.in_err-record.ensures) in
    let none = drop_parts_none c.args.self.now.file.now c.args.self.now.next more in
    search rules

pub returns-clause-steps : goal.returns-clause-steps
returns-clause-steps c = drop_shown c.args.self.now.file.now c.args.self.now.next c.in_ok-record.record c.in_ok-record.ensures

pub returns-clause-goes : goal.returns-clause-goes
returns-clause-goes c =
    let fewer = ap length (drop_shown c.args.self.now.file.now c.args.self.now.next c.in_ok-record.record c.in_ok-record.ensures) in
    search rules
