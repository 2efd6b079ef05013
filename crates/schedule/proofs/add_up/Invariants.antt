use Rattle.std.proofs.Common.{◌≡◌, ◌+◌, ◌<◌, drop}
use Rattle.schedule.specs.Modes.{span}
use Rattle.schedule.proofs.add_up.Given as goal

abbrev pub invariant-loop-mode : goal.invariant-loop-mode
invariant-loop-mode l = (l.total < 4294967296) × (l.total + span (drop l.mode-index l.modes) ≡ l.start + span l.modes)
