-- What is known of any plan, from what every plan keeps true. Assumes nothing.
use Rattle.std.proofs.Common.{◌≡◌, ℕ, ◌<◌, length}
use Rattle.schedule.specs.Modes.{Sound, AllSound}
use Rattle.planning.specs.declared.plan.Plan.{Plan}
use Rattle.planning.specs.Kept.{mode_at}
use Rattle.planning.specs.Plans.{plan_lines, plan_modes}
use Rattle.planning.proofs.Keeping.{mode_kept, all_kept}

-- all its modes keep the rules
pub plan_sound : (p : Plan) → AllSound (plan_lines p) (plan_modes p)
plan_sound p = all_kept (plan_lines p) (plan_modes p) p.dwells p.fits p.units p.single

pub plan_mode_sound : (p : Plan) (k : ℕ) → k < length (plan_modes p) → Sound (plan_lines p) (mode_at (plan_modes p) k)
plan_mode_sound p = mode_kept (plan_lines p) (plan_modes p) p.dwells p.fits p.units p.single

-- each has sixteen places
pub plan_row_whole : (p : Plan) (k : ℕ) → k < length (plan_modes p) → length (mode_at (plan_modes p) k).row ≡ 16
plan_row_whole p = p.rows
