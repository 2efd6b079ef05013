use Rattle.std.proofs.Common.{◌≡◌, ℕ, length, arith, rules}
use Rattle.std.proofs.lemmas.Result.{err_from_is_err_and}
use Rattle.switch.specs.Calls.{mode}
use Rattle.steps.proofs.Rules.{sound_accepted}
use Rattle.steps.proofs.Turns.{begins, idles, grows, stops, stopped, ends, ended, was_accepted, was_declined}
use Rattle.steps.proofs.grant_row.Goals as goal

pub loop-i-init : goal.loop-i-init
loop-i-init g c = begins (mode c.args.token.now.dwell c.args.row.now) (g.S.Switch.meaning c.args.s.now) (search rules) c.requires

pub returns-in_err-grant : goal.returns-in_err-grant
returns-in_err-grant g c =
    let m = g.S.Switch.meaning in
    let x = mode c.args.token.now.dwell c.args.row.now in
    let long : length c.args.row.now ≡ 16 = search rules in
    let no_more = was_declined _ c.grant.ensures.answer c.in_err-grant.was in
    let p = err_from_is_err_and c.from_residual.result c.from_residual.ensures.1 in
    let first = stops x (m c.args.s.now) long c.loop-i.i (m c.loop-i.s) c.in-Some.join _ c.loop-i-test.true c.loop-i.invariant c.in-Some.is no_more in
    record {
      answer = rw (p.1, p.2, first);
      sound = rw p.1 (λ keeps. let free = sound_accepted (m c.args.s.now).lines x keeps 16 in let z : ◌≡◌ {A = ℕ} 0 1 = cc in omega arith);
      after = stopped x (m c.args.s.now) long c.loop-i.i (m c.loop-i.s) (m c.grant.new.s) c.in-Some.join _ c.loop-i-test.true c.loop-i.invariant c.in-Some.is no_more c.grant.ensures.after;
    }

pub loop-i-preserved : goal.loop-i-preserved
loop-i-preserved g c =
    let m = g.S.Switch.meaning in
    let x = mode c.args.token.now.dwell c.args.row.now in
    let long : length c.args.row.now ≡ 16 = search rules in
    elim c.match-entry.branch [
      | goal.in-Some+in_ok-grant w ↦ rw w.s-is (grows x (m c.args.s.now) long c.loop-i.i (m c.loop-i.s) (m w.grant.new.s) w.in-Some.join c.loop-i-test.true c.loop-i.invariant w.in-Some.is (was_accepted _ w.grant.ensures.answer w.in_ok-grant.was) w.grant.ensures.after)
      | goal.in_default w ↦ rw w.s-is (idles x (m c.args.s.now) long c.loop-i.i (m c.loop-i.s) c.loop-i.invariant w.in_default.is)
    ]

pub returns : goal.returns
returns g c =
    let x = mode c.args.token.now.dwell c.args.row.now in
    let long : length c.args.row.now ≡ 16 = search rules in
    let m = g.S.Switch.meaning in
    record {
      answer = rw (ends x (m c.args.s.now) long c.loop-i.i (m c.loop-i.s) c.loop-i.invariant (omega arith));
      sound = tt;
      after = ended x (m c.args.s.now) long c.loop-i.i (m c.loop-i.s) c.loop-i.invariant (omega arith);
    }
