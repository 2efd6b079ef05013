use Rattle.std.proofs.Common.{◌≡◌, ℕ, ◌+◌, ◌-◌, ◌*◌, ◌<◌, ◌≤◌, List, [], ◌++◌, length, take, drop, sym, ap, ◌∙◌, subst, arith, rules}
use Rattle.std.specs.List.{flat_map, AllByRecursion as All}
use Rattle.std.proofs.lemmas.List.{take_all, take-append-drop, places}
use Rattle.std.proofs.ByRecursion.{All-more}
use Rattle.std.proofs.lemmas.Slice.{drop-put_mid}
use Rattle.plan_files.specs.Encoding.{encode, encoded, Full}
use Rattle.plan_files.proofs.RoundTrip.{comes_back, serves_on}
use Rattle.plan_files.proofs.Steps.{one_more, later}
use Rattle.plan_files.proofs.write.write_all.Goals as goal

pub loop-i-preserved : goal.loop-i-preserved
loop-i-preserved c =
    let less : c.loop-i.i < length c.args.modes.now = c.loop-i-test.true in
    let is = c.copy_from_slice.ensures.after ∙ c.encode_mode.ensures.bytes in
    let size : length c.copy_from_slice.new.self ≡ 52 = search (rules, places) in
    let fits : 52 * c.loop-i.i ≤ length c.loop-i.out = omega arith in
    let ends : 52 * (c.loop-i.i + 1) ≡ 52 * c.loop-i.i + length c.copy_from_slice.new.self = omega arith in (
      one_more (encode c.args.lines) [] c.args.modes.now _ c.loop-i.i _ _ _ c.loop-i.out c.copy_from_slice.new.self less c.loop-i.invariant.0 is fits ends,
      drop-put_mid (52 * c.loop-i.i) (52 * c.loop-i.i + 52 - 52 * c.loop-i.i) c.loop-i.out c.copy_from_slice.new.self (52 * (c.loop-i.i + 1)) (omega arith) fits (omega arith)
          ∙ later c.loop-i.out c.args.out.now (52 * c.loop-i.i) 52 (52 * (c.loop-i.i + 1)) (omega arith) c.loop-i.invariant.1,
      All-more Full c.args.modes.now c.loop-i.i _ less c.loop-i.invariant.2 c.encode_mode.ensures.full,
    )

pub returns : goal.returns
returns c =
    let all : length c.args.modes.now ≤ c.loop-i.i = c.loop-i-test.false in
    let same : c.loop-i.i ≡ length c.args.modes.now = omega arith in
    let whole = sym (take-append-drop (52 * c.loop-i.i) c.loop-i.out) in
    let front = c.loop-i.invariant.0 ∙ ap (flat_map (encode c.args.lines)) (take_all c.loop-i.i c.args.modes.now all) in
    let back = c.loop-i.invariant.1 ∙ ap (λ (k : ℕ). drop (52 * k) c.args.out.now) same in
    let full : All Full c.args.modes.now = subst (All Full) (take_all c.loop-i.i c.args.modes.now all) c.loop-i.invariant.2 in
    record {
      after = whole ∙ ap (λ (l : List ℕ). l ++ drop (52 * c.loop-i.i) c.loop-i.out) front ∙ ap (λ (l : List ℕ). encoded c.args.lines c.args.modes.now ++ l) back;
      front = ap (λ (k : ℕ). take (52 * k) c.loop-i.out) (sym same) ∙ front;
      back = comes_back c.args.lines c.args.modes.now full;
      serves = serves_on c.args.lines c.args.modes.now full;
    }
