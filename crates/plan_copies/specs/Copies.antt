-- A plan that is written as records and read back. Assumes nothing.
use Rattle.std.specs.Prelude.{◌≡◌, ℕ, length, Some, None, vec_items}
use Rattle.planning.specs.declared.plan.Plan.{Plan}
use Rattle.planning.specs.Plans.{plan_lines, plan_modes}
use Rattle.plan_files.specs.declared.decline.FileDecline.{FileDecline}
use Rattle.plan_files.specs.declared.decline.FileDecline.TheVariants.{Write, Read}
use Rattle.plan_files.specs.declared.read.PlanFile.{PlanFile}
use Rattle.plan_files.specs.Declines.{write_decline}
use Rattle.plan_files.specs.Back.{Unread}

-- the buffer is long enough, and what was read is the plan
pub record Copied (plan : Plan) (room : ℕ) (p : PlanFile) : Type 0 where
  pub fits : write_decline (length (plan_modes plan)) room ≡ None
  pub lines : p.lines ≡ plan_lines plan
  pub modes : vec_items p.modes ≡ plan_modes plan

-- the buffer is too short, or memory is wanting
abbrev pub Uncopied : Plan → ℕ → FileDecline → Type 0
Uncopied plan room (Write d) = write_decline (length (plan_modes plan)) room ≡ Some d
Uncopied plan room (Read d) = (write_decline (length (plan_modes plan)) room ≡ None) × Unread d
