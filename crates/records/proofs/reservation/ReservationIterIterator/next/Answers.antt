use Rattle.std.proofs.Common.{length, Some, None, ap, rules}
use Rattle.records.proofs.Reservations.{drop_read}
use Rattle.records.proofs.reservation.ReservationIterIterator.next.Goals as goal

pub returns-in_err-reservation-clause-steps : goal.returns-in_err-reservation-clause-steps
returns-in_err-reservation-clause-steps c =
    let none = drop_read c.args.self.now.bytes.now c.args.self.now.next None c.in_err-reservation.ensures in
    search rules

pub returns-clause-steps : goal.returns-clause-steps
returns-clause-steps c = drop_read c.args.self.now.bytes.now c.args.self.now.next (Some c.in_ok-reservation.reservation) c.in_ok-reservation.ensures

pub returns-clause-goes : goal.returns-clause-goes
returns-clause-goes c =
    let fewer = ap length (drop_read c.args.self.now.bytes.now c.args.self.now.next (Some c.in_ok-reservation.reservation) c.in_ok-reservation.ensures) in
    search rules
