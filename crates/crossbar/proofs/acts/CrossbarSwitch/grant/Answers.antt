use Rattle.std.proofs.Common.{◌≡◌, ℕ, ◌<◌, ◌≤◌, Some, subst, rules}
use Rattle.switch.specs.Meaning.{dwell_of}
use Rattle.crossbar.specs.Kept.{units_of, down_of, units_held, down_held}
use Rattle.crossbar.proofs.Rows.{set_all}
use Rattle.crossbar.proofs.acts.CrossbarSwitch.grant.Goals as goal

pub invariant_of-fabric : goal.invariant_of-fabric
invariant_of-fabric g c =
    let s = c.args.self.now.fabric in
    let fits = c.in_ok-check_grant.ensures.fits in
    let is : s.mode ≡ Some c.in_ok-mode.mode = search rules in
    let units = subst (λ o. (i : ℕ) → units_held o i ≤ dwell_of o) is s.units_kept in
    let downs = subst (λ o. (i : ℕ) → down_held o i < 16) is s.downs_kept in
    record {
      time_left = search rules;
      rows = s.rows;
      carried_in_time = s.carried_in_time;
      units_kept = set_all (λ o. units_of o ≤ c.in_ok-mode.mode.dwell) c.in_ok-mode.mode.row _ _ units fits.1;
      downs_kept = set_all (λ o. down_of o < 16) c.in_ok-mode.mode.row _ _ downs fits.2;
      row_kept = search rules;
    }
