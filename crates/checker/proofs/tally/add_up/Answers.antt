use Rattle.std.proofs.Common.{◌≡◌, ◌+◌, [], ◌∷◌, ◌++◌, length, refl, ap, ◌∙◌, arith, length-append}
use Rattle.std.proofs.lemmas.Result.{err_from_is_err_and}
use Rattle.lines.specs.Matrix.{cells}
use Rattle.owed.proofs.Cells.{zeros}
use Rattle.schedule.specs.declared.Mode.{Mode}
use Rattle.records.specs.Layout.{mode_of}
use Rattle.records.specs.Reader.{left}
use Rattle.records.specs.Files.{count}
use Rattle.records.proofs.Files.{turn, turns_end}
use Rattle.checker.specs.declared.decline.CheckDecline.TheVariants.{Improper}
use Rattle.checker.proofs.Tallies.{tallied_none, tallied_more, tally_within}
use Rattle.checker.proofs.tally.add_up.Goals as goal

pub loop-record-init : goal.loop-record-init
loop-record-init c = (
  ap left c.into_iter-record-iterator.ensures.into_iter_gives ∙ c.read_records-record-items.ensures,
  omega arith,
  tallied_none c.args.lines.count c.args.file.now _ (λ x y l. zeros 16 16 x y),
  omega arith,
  refl,
)

pub returns-in_err-mode : goal.returns-in_err-mode
returns-in_err-mode c =
    let k = length c.loop-record.yielded in
    let here = turn c.args.file.now k c.in-Some.record _ _ c.loop-record.invariant.0 c.in-Some.ensures.steps in
    let improper = rw (c.in_err-mode.ensures.ok_part, c.count.ensures) at c.checked_mode.ensures in
    let declined = rw c.in_err-mode.ensures.ok_part at c.in_err-mode.ensures.value in
    let place : c.place.result ≡ k = c.place.ensures ∙ here.0.place in
    let is : c.in_err-mode.field-0.0 ≡ Improper k = cc in
    let p = err_from_is_err_and c.from_residual.result c.from_residual.ensures.1 in
    rw (p.1, p.2) (
      k,
      is,
      record { there = omega (arith, here.0.there); improper = λ proper. improper (rw here.0.bytes proper); before = c.loop-record.invariant.2.proper },
    )

pub add_mode-requires-clause-small : goal.add_mode-requires-clause-small
add_mode-requires-clause-small c x y lx ly =
    let k = length c.loop-record.yielded in
    let here = turn c.args.file.now k c.in-Some.record _ _ c.loop-record.invariant.0 c.in-Some.ensures.steps in
    let mode = rw c.in_ok-mode.ensures.ok_part at c.checked_mode.ensures in
    omega (
      arith,
      tally_within c.args.lines.count c.args.file.now k c.loop-record.length (cells c.loop-record.totals) c.loop-record.invariant.2 x y lx,
      here.0.there,
      ap (λ (m : Mode). m.dwell) mode.1,
      mode.0.sound.ends,
    )

pub loop-record-preserved : goal.loop-record-preserved
loop-record-preserved c =
    let file = c.args.file.now in
    let k = length c.loop-record.yielded in
    let here = turn file k c.in-Some.record _ _ c.loop-record.invariant.0 c.in-Some.ensures.steps in
    let next : length (c.loop-record.yielded ++ c.in-Some.record ∷ []) ≡ k + 1 = omega (arith, length-append c.loop-record.yielded (c.in-Some.record ∷ [])) in
    let mode = rw (c.in_ok-mode.ensures.ok_part, c.count.ensures) at c.checked_mode.ensures in
    rw next (
      here.1,
      omega (arith, here.0.there),
      tallied_more c.args.lines.count file k c.loop-record.length c.from-length.result (cells c.loop-record.totals) (cells c.add_mode.new.totals) c.in_ok-mode.mode
          c.loop-record.invariant.2 (rw here.0.bytes at mode.0) (mode.1 ∙ ap mode_of here.0.bytes) c.from-length.ensures c.add_mode.ensures,
      omega arith,
      c.add_mode.array_long,
    )

pub returns : goal.returns
returns c =
    let all : length c.loop-record.yielded ≡ count c.args.file.now =
    omega (arith, c.loop-record.invariant.1, turns_end c.args.file.now (length c.loop-record.yielded) (left c.loop-record.record-iterator) c.loop-record.invariant.0 c.in-None.ensures.steps.0) in
    rw (← all) c.loop-record.invariant.2
