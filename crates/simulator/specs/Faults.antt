-- What a simulator carries under its fault rules. Assumes nothing.
use Rattle.std.specs.Prelude.{◌≡◌, ℕ, ◌<◌, ◌≤◌, min, Bool, true, cond, ◌&&◌, List, length, get_or, take, ◌==◌, nat_le, slice_index_or}
use Rattle.std.specs.List.{fold}
use Rattle.lines.specs.Matrix.{uplink, downlink}
use Rattle.simulator.specs.declared.rules.FaultRule.{FaultRule}
use Rattle.simulator.specs.declared.rules.FaultRules.{FaultRules}

-- a rule holds for crosspoint (i, j) in a run that starts at clock t
abbrev pub holds : FaultRule → ℕ → ℕ → ℕ → Bool
holds f t i j = (f.up.0 == i && f.down.0 == j) && nat_le f.from t

-- a rule that holds lets through no more than its most
abbrev pub after : FaultRule → ℕ → ℕ → ℕ → ℕ → ℕ
after f t i j u = cond (holds f t i j) (min u f.most) u

-- the units that a grant (i, j, u) carries: what all rules let through
abbrev pub kept : List FaultRule → ℕ → ℕ → ℕ → ℕ → ℕ
kept fs t i j u = fold (λ left f. after f t i j left) u fs

-- the rules of a simulator
abbrev pub rules_of : FaultRules → List FaultRule
rules_of r = take r.count r.rules

-- what is read where there is no rule
abbrev pub no_rule : FaultRule
no_rule = record { up = uplink 0; down = downlink 0; most = 0; from = 0 }

-- k units are within u and within each rule that holds, and no larger number is
pub record Smallest (fs : List FaultRule) (t i j u k : ℕ) : Type 0 where
  pub granted : k ≤ u
  pub each : (n : ℕ) → n < length fs → holds (slice_index_or fs n no_rule) t i j ≡ true → k ≤ (get_or fs n no_rule).most
  pub no_more : (x : ℕ) → x ≤ u → ((n : ℕ) → n < length fs → holds (slice_index_or fs n no_rule) t i j ≡ true → x ≤ (get_or fs n no_rule).most) → x ≤ k
