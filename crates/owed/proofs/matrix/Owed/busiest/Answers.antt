use Rattle.std.proofs.Common.{ℕ, max, ap, ◌∙◌, rules, arith}
use Rattle.std.specs.List.{range_with_len}
use Rattle.std.specs.Option.{unwrap_or}
use Rattle.std.proofs.lemmas.List.Folds.{max_of_map}
use Rattle.std.proofs.lemmas.Iterator.{YieldsList-from_range, YieldsList-from_map}
use Rattle.std.proofs.lemmas.Iterator.Consumers.{reduce_from_yields_List}
use Rattle.lines.specs.Matrix.{uplink_sum, downlink_sum}
use Rattle.owed.specs.Calls.{units_of}
use Rattle.owed.proofs.Busiest.{largest_fold}
use Rattle.owed.proofs.matrix.Owed.busiest.Goals as goal

pub returns : goal.returns
returns c =
    let o = c.args.self.now in
    let n = o.lines.count in
    let h : ℕ → ℕ = λ k. max (uplink_sum n (units_of o) k) (downlink_sum n (units_of o) k) in
    c.unwrap_or.ensures
    ∙ ap (λ r. unwrap_or r 0) (reduce_from_yields_List _ c.map.result c.max.result c.max.ensures.ran (YieldsList-from_map _ h (YieldsList-from_range 0 n n (cc) (omega arith)) c.map.ensures.closure (λ x r q k. search rules)))
    ∙ max_of_map h (range_with_len 0 n)
    ∙ largest_fold (uplink_sum n (units_of o)) (downlink_sum n (units_of o)) n
