-- When a simulator can be made, and when it takes a rule. Assumes nothing.
use Rattle.std.specs.Prelude.{ℕ, cond, List, length, Some, None, Option, nat_le}
use Rattle.lines.specs.declared.Line.TheVariants.{Up, Down}
use Rattle.lines.specs.declared.Place.{Place}
use Rattle.lines.specs.declared.Place.TheVariants.{Nowhere, OnLine}
use Rattle.crossbar.specs.Made.{bad_lines}
use Rattle.simulator.specs.declared.rules.FaultRule.{FaultRule}
use Rattle.simulator.specs.declared.decline.SimulatorDecline.{SimulatorDecline}
use Rattle.simulator.specs.declared.decline.SimulatorDecline.TheVariants.{LinesOutside}
use Rattle.simulator.specs.declared.decline.RuleDecline.{RuleDecline}
use Rattle.simulator.specs.declared.decline.RuleDecline.TheVariants.{LineAbove, RulesFull}

-- the number and the place of each decline
abbrev pub number : SimulatorDecline → ℕ
number LinesOutside = 1

abbrev pub place : SimulatorDecline → Place
place LinesOutside = Nowhere

abbrev pub rule_number : RuleDecline → ℕ
rule_number (LineAbove l) = 4
rule_number RulesFull = 3

abbrev pub rule_place : RuleDecline → Place
rule_place (LineAbove l) = OnLine l
rule_place RulesFull = Nowhere

abbrev pub most_rules : ℕ
most_rules = 32

-- 1: the lines are outside 1 to 16
abbrev pub make_decline : ℕ → Option SimulatorDecline
make_decline n = cond (bad_lines n) (Some LinesOutside) None

-- 4: a line of the rule is n or more; 3: there are 32 rules
abbrev pub rule_decline : ℕ → List FaultRule → FaultRule → Option RuleDecline
rule_decline n fs f =
    cond (nat_le n f.up.0) (Some (LineAbove (Up f.up)))
    (cond (nat_le n f.down.0) (Some (LineAbove (Down f.down)))
    (cond (nat_le most_rules (length fs)) (Some RulesFull) None))
