use Rattle.std.proofs.Common.{◌≡◌, ℕ, ◌+◌, List, [], ◌∷◌, ◌++◌, length, sym, ap, ◌∙◌, subst, arith, length-append, below_more}
use Rattle.schedule.specs.declared.Mode.{Mode}
use Rattle.records.specs.Layout.{mode_of}
use Rattle.records.specs.Reader.{left}
use Rattle.records.specs.Files.{count, modes_below}
use Rattle.records.proofs.Files.{modes_none, modes_more, turn, turns_end}
use Rattle.std.proofs.lemmas.Result.{err_from_is_err_and}
use Rattle.plan_files.specs.declared.decline.ReadDecline.TheVariants.{Improper}
use Rattle.plan_files.specs.Reading.{AllFit, FirstUnfit}
use Rattle.plan_files.proofs.read.read_all.Goals as goal

pub loop-record-init : goal.loop-record-init
loop-record-init c = (
  ap left c.into_iter-record-iterator.ensures.into_iter_gives ∙ c.read_records-record-items.ensures,
  omega arith,
  (λ h l. absurd (omega arith)),
  c.new-modes.ensures.items ∙ sym (modes_none c.args.file.now),
)

pub returns-in_err-mode : goal.returns-in_err-mode
returns-in_err-mode c =
    let file = c.args.file.now in
    let k = length c.loop-record.yielded in
    let here = turn file k c.in-Some.record _ _ c.loop-record.invariant.0 c.in-Some.ensures.steps in
    let unfit = rw c.in_err-mode.ensures.ok_part at c.fitting_mode.ensures in
    let declined = rw c.in_err-mode.ensures.ok_part at c.in_err-mode.ensures.value in
    let place : c.place.result ≡ k = c.place.ensures ∙ here.0.place in
    let improper : c.in_err-mode.field-0.0 ≡ Improper k = cc in
    let p = err_from_is_err_and c.from_residual.result c.from_residual.ensures.1 in
    rw (p.1, p.2, improper) (
      c.requires.whole,
      subst (λ (n : ℕ). FirstUnfit n file k) c.requires.lines (record {
        there = omega (arith, here.0.there);
        unfit = λ fits. unfit (rw here.0.bytes fits);
        before = c.loop-record.invariant.2;
      }),
    )

pub loop-record-preserved : goal.loop-record-preserved
loop-record-preserved c =
    let file = c.args.file.now in
    let k = length c.loop-record.yielded in
    let here = turn file k c.in-Some.record _ _ c.loop-record.invariant.0 c.in-Some.ensures.steps in
    let next : length (c.loop-record.yielded ++ c.in-Some.record ∷ []) ≡ k + 1 = omega (arith, length-append c.loop-record.yielded (c.in-Some.record ∷ [])) in
    let fits = rw c.in_ok-mode.ensures.ok_part at c.fitting_mode.ensures in
    let pushed = rw (← c.in_ok-map_err.ensures.variant) at c.push.ensures.items in
    rw next (
      here.1,
      omega (arith, here.0.there),
      below_more _ _ c.loop-record.invariant.2 (rw here.0.bytes at fits.0),
      pushed
          ∙ ap (λ (ms : List Mode). ms ++ c.in_ok-mode.mode ∷ []) c.loop-record.invariant.3
          ∙ ap (λ (m : Mode). modes_below k file ++ m ∷ []) (fits.1 ∙ ap mode_of here.0.bytes)
          ∙ sym (modes_more k file),
    )

pub returns : goal.returns
returns c =
    let all : length c.loop-record.yielded ≡ count c.args.file.now =
    omega (arith, c.loop-record.invariant.1, turns_end c.args.file.now (length c.loop-record.yielded) (left c.loop-record.record-iterator) c.loop-record.invariant.0 c.in-None.ensures.steps.0) in (
      subst (λ (n : ℕ). AllFit n (count c.args.file.now) c.args.file.now) c.requires.lines (λ h l. c.loop-record.invariant.2 h (omega arith)),
      c.loop-record.invariant.3 ∙ ap (λ (k : ℕ). modes_below k c.args.file.now) all,
    )
