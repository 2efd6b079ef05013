-- What follows of a whole tally. Assumes nothing.
use Rattle.std.proofs.Common.{ℕ, List, Some, None, Option, sym, ◌∙◌, arith, MatchOption}
use Rattle.lines.specs.declared.Crosspoint.{Crosspoint}
use Rattle.lines.specs.Matrix.{Matrix, Same}
use Rattle.schedule.specs.Modes.{Serves}
use Rattle.schedule.proofs.Unfolded.{unfolds}
use Rattle.records.specs.Files.{count, modes_in}
use Rattle.records.proofs.Files.{all_sound}
use Rattle.checker.specs.Check.{Sized, FirstDiffers, Tallied, Served, Missed}

module _ (n : ℕ) (m : Matrix) (file : List ℕ) (long : ℕ) (p : Matrix) (sized : Sized file) (t : Tallied n file (count file) long p) where
  served : Same n p m → Served n m file long
  served same =
      let serves : Serves n (modes_in file) m =
      record { sound = all_sound n (count file) file t.proper; exact = λ i j li lj. sym (t.total i j li) ∙ same i j li lj } in
      record {
        schedules = record { whole = sized.0; few = sized.1; proper = t.proper; serves = serves };
        sum = t.lasts;
        shop = rw t.lasts (unfolds n (modes_in file) m serves);
      }

  missed : (x : Crosspoint) → FirstDiffers n p m x → Missed n m file x
  missed x first = record {
    sized = sized;
    proper = t.proper;
    first = record {
      uplink = first.uplink;
      downlink = first.downlink;
      differs = λ e. first.differs (t.total x.up.0 x.down.0 first.uplink ∙ e);
      rows = λ i j li lj. sym (t.total i j (omega (arith, first.uplink))) ∙ first.rows i j li lj;
      row = λ j lj. sym (t.total x.up.0 j first.uplink) ∙ first.row j lj;
    };
  }

  pub compared : (r : Option Crosspoint) → MatchOption r (Same n p m) (FirstDiffers n p m) → MatchOption r (Served n m file long) (Missed n m file)
  compared None same = served same
  compared (Some x) first = missed x first
