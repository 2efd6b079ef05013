-- What comes of writing a plan and reading it. Assumes nothing.
use Rattle.std.proofs.Common.{◌≡◌, ℕ, List, Ok, Err, Result, sym, subst, arith, MatchResult}
use Rattle.schedule.specs.declared.Mode.{Mode}
use Rattle.schedule.specs.Modes.{AllSound}
use Rattle.planning.specs.declared.plan.Plan.{Plan}
use Rattle.planning.specs.Plans.{plan_lines, plan_modes}
use Rattle.planning.proofs.Plans.{plan_sound}
use Rattle.plan_files.specs.declared.decline.FileDecline.{FileDecline}
use Rattle.plan_files.specs.declared.decline.FileDecline.TheVariants.{Write, Read}
use Rattle.plan_files.specs.declared.read.PlanFile.{PlanFile}
use Rattle.plan_files.specs.Back.{Done, Undone, RoundTrip, Again, NotBack}
use Rattle.plan_copies.specs.Copies.{Copied, Uncopied}

module _ (plan : Plan) (room : ℕ) where
  join : (r : Result PlanFile FileDecline) → MatchResult r (Done (plan_lines plan) (plan_modes plan) room) (Undone (plan_lines plan) (plan_modes plan) room) → MatchResult r (Again (plan_lines plan) (plan_modes plan)) NotBack → MatchResult r (Copied plan room) (Uncopied plan room)
  join (Ok p) done again = record { fits = done.fits; lines = again.lines plan.some_mode; modes = again.modes }
  join (Err (Write d)) undone _ = undone
  join (Err (Read d)) undone unread = (undone.0, unread)

  pub copied : (n : ℕ) (ms : List Mode) (r : Result PlanFile FileDecline) → n ≡ plan_lines plan → ms ≡ plan_modes plan → MatchResult r (Done n ms room) (Undone n ms room) → RoundTrip n ms r → MatchResult r (Copied plan room) (Uncopied plan room)
  copied n ms r same_lines same-modes told back =
      let sound : AllSound n ms = subst (AllSound n) (sym same-modes) (subst (λ (k : ℕ). AllSound k (plan_modes plan)) (sym same_lines) (plan_sound plan)) in
      let again = back (omega (arith, plan.lines.some), omega (arith, plan.lines.few)) sound in
      join r
      (subst (λ (k : ℕ). MatchResult r (Done k (plan_modes plan) room) (Undone k (plan_modes plan) room)) same_lines (subst (λ (xs : List Mode). MatchResult r (Done n xs room) (Undone n xs room)) same-modes told))
      (subst (λ (k : ℕ). MatchResult r (Again k (plan_modes plan)) NotBack) same_lines (subst (λ (xs : List Mode). MatchResult r (Again n xs) NotBack) same-modes again))
