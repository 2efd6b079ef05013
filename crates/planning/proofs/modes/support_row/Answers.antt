use Rattle.std.proofs.Common.{ℕ, suc, ◌*◌, ◌^◌, Bool, ltb, get_or, ap, inl, inr, arith}
use Rattle.std.proofs.lemmas.Nat.{one_shl, pow_below}
use Rattle.std.proofs.lemmas.Bool.{cases_eq, lt-ltb, le-ltb}
use Rattle.planning.proofs.Bits.{bits_small, bits_next}
use Rattle.planning.proofs.Rounds.{one_yes, one_no}
use Rattle.planning.proofs.modes.support_row.Goals as goal
use Rattle.planning.proofs.modes.support_row.Goals.{then-number-gt0, else-number-gt0}

pub overflow_add-bits : goal.overflow_add-bits
overflow_add-bits c =
    let j : ℕ = c.loop-j.j in
    let small = bits_small j (λ j. ltb 0 (get_or c.args.row.now j 0)) in
    elim (cases_eq j 15) [
      | inl e ↦ omega (arith, one_shl j 16 (omega arith), small, ap (λ x. 2 ^ x) e)
      | inr ne ↦ omega (arith, one_shl j 16 (omega arith), small, pow_below (suc j) 16 (omega arith))
    ]

pub loop-j-preserved : goal.loop-j-preserved
loop-j-preserved c =
    let s : ℕ → Bool = λ j. ltb 0 (get_or c.args.row.now j 0) in
    let j : ℕ = c.loop-j.j in
    elim c.if-number-gt0.branch [
      | then-number-gt0 w ↦ omega (arith, w.bits-is, bits_next j s, one_shl j 16 (omega arith), ap (λ x. x * 2 ^ j) (one_yes (s j) (lt-ltb 0 (get_or c.args.row.now j 0) w.if-number-gt0.true)))
      | else-number-gt0 w ↦ omega (arith, w.bits-is, bits_next j s, ap (λ x. x * 2 ^ j) (one_no (s j) (le-ltb 0 (get_or c.args.row.now j 0) w.if-number-gt0.false)))
    ]
