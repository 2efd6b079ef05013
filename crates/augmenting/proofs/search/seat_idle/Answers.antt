use Rattle.std.proofs.Common.{sym, subst, inl, inr}
use Rattle.std.proofs.lemmas.Bool.{cases_Bool}
use Rattle.augmenting.specs.Holders.{Holders, Apart}
use Rattle.augmenting.proofs.Seats.{apart_after}
use Rattle.augmenting.proofs.search.seat_idle.Goals as goal

pub returns : goal.returns
returns c =
    record {
      known = c.seat.ensures.known;
      apart = elim (cases_Bool c.seat.result) [
        | inl is ↦ apart_after c.args.rows.now c.args.holders.now c.seat.new.holders c.args.up c.args.tried.now c.seat.new.tried c.requires.idle (c.seat.ensures.seated is)
        | inr isnt ↦ (let P : Holders → Type 0 = Apart in subst P (sym (c.seat.ensures.failed isnt).1) c.requires.apart)
      ];
      seated = c.seat.ensures.seated;
      failed = c.seat.ensures.failed;
    }
