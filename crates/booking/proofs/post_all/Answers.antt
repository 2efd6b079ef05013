use Rattle.std.proofs.Common.{◌≡◌, ◌+◌, ◌≤◌, [], ◌∷◌, ◌++◌, length, sym, ap, ◌∙◌, rules, arith, length-append}
use Rattle.records.specs.Reservations.{how_many, left}
use Rattle.records.proofs.Reservations.{turn, turns_end}
use Rattle.law.specs.declared.decline.SessionDecline.TheVariants.{Record}
use Rattle.law.proofs.Said.{mapped_ok, mapped_err}
use Rattle.law.proofs.Batches.{batched_free, batched_sums}
use Rattle.booking.proofs.Batches.{failed, posting_declines, posting_more}
use Rattle.booking.proofs.post_all.Goals as goal

pub loop-number-preserved : goal.loop-number-preserved
loop-number-preserved c =
    let bytes = c.args.bytes.now in
    let k = length c.loop-number.yielded in
    let here = turn bytes k (c.in-Some.number, c.in-Some.x) _ _ c.loop-number.invariant.0 c.in-Some.ensures.steps in
    let next : length (c.loop-number.yielded ++ (c.in-Some.number, c.in-Some.x) ∷ []) ≡ k + 1 = omega (arith, length-append c.loop-number.yielded ((c.in-Some.number, c.in-Some.x) ∷ [])) in
    let ok = mapped_ok _ c.add.result _ tt c.map_err.ensures.cases c.in_ok-map_err.was in
    rw next (
      here.3,
      omega (arith, here.0),
      c.add.ensures.lines ∙ c.loop-number.invariant.2,
      posting_more bytes c.loop-number.invariant.3 c.in-Some.x here.0 here.2 _ _ c.loop-number.invariant.2 c.from.ensures (sym ok ∙ c.add.ensures.answer) _ c.add.ensures.units,
    )

pub returns-in_err-map_err : goal.returns-in_err-map_err
returns-in_err-map_err c =
    let bytes = c.args.bytes.now in
    let k = length c.loop-number.yielded in
    let here = turn bytes k (c.in-Some.number, c.in-Some.x) _ _ c.loop-number.invariant.0 c.in-Some.ensures.steps in
    let err = mapped_err _ c.add.result _ c.in_err-map_err.field-0.0 c.map_err.ensures.cases c.in_err-map_err.was in
    let post = err.2 in
    let told : c.in_err-map_err.field-0.0 ≡ Record c.in-Some.number c.in-Some.x.station err.0 = search rules in
    failed _ _ c.from_residual.result _ c.from_residual.ensures.1
    (λ d is. posting_declines bytes c.loop-number.invariant.3 c.in-Some.x here.0 here.2 _ _ c.loop-number.invariant.2 c.from.ensures err.0 (sym err.1 ∙ c.add.ensures.answer) d (is ∙ told ∙ ap (λ n. Record n c.in-Some.x.station err.0) here.1))

pub returns : goal.returns
returns c =
    let bytes = c.args.bytes.now in
    let w = c.loop-number.invariant.3 in
    let end : how_many bytes ≤ length c.loop-number.yielded = turns_end bytes (length c.loop-number.yielded) (left c.loop-number.number-iterator) c.loop-number.invariant.0 c.in-None.ensures.steps.0 in
    record { free = batched_free _ bytes _ _ _ w end; lines = c.loop-number.invariant.2; units = batched_sums _ bytes _ _ _ w end }
