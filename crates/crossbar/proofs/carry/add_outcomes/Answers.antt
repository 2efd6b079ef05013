use Rattle.std.proofs.Common.{◌≡◌, ◌+◌, ◌≤◌, [], length, get_or, None, sym, ap, ◌∙◌, inl, inr, add-zero, arith, rules}
use Rattle.std.proofs.lemmas.List.{get_or_past}
use Rattle.std.proofs.lemmas.Bool.{cases_lt}
use Rattle.switch.specs.Calls.{carried_to}
use Rattle.crossbar.proofs.carry.add_outcomes.Goals as goal

pub returns : goal.returns
returns c =
    let len : length c.args.all.now ≡ 16 = search rules in
    record {
      each = λ i j. elim (cases_lt i c.loop-i.i) [ inl h ↦ c.loop-i.invariant.1 i j h | inr h ↦ (let past : length c.args.all.now ≤ i = omega arith in ap (λ r. get_or r j 0) (c.loop-i.invariant.2 i h) ∙ sym (ap (λ o. get_or (get_or c.args.carried.now i []) j 0 + carried_to j o) (get_or_past c.args.all.now i None past) ∙ add-zero _)) ];
      rows = c.loop-i.invariant.0;
    }
