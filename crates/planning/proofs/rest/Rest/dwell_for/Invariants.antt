use Rattle.std.proofs.Common.{◌≡◌, ◌<◌}
use Rattle.lines.specs.Matrix.{cells}
use Rattle.schedule.specs.Modes.{longest_dwell}
use Rattle.planning.specs.Making.{dwell_of}
use Rattle.planning.proofs.rest.Rest.dwell_for.Given as goal

-- the smallest number before i, and there is none that does not fit a dwell
abbrev pub invariant-loop-i : goal.invariant-loop-i
invariant-loop-i l = (l.i ≡ 0 → l.least ≡ longest_dwell) × (0 < l.i → l.least ≡ dwell_of l.i (cells l.self.padded) l.mates)
