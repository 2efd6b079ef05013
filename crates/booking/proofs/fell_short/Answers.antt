use Rattle.std.proofs.Common.{None, sym, ◌∙◌}
use Rattle.booking.proofs.Lowest.{none_lowest, shortfall_there, told_is}
use Rattle.booking.proofs.fell_short.Goals as goal

pub returns-in_err-first : goal.returns-in_err-first
returns-in_err-first c = c.from_residual.ensures ∙ none_lowest c.args.outcomes.now c.told-outcomes c.in_err-first.ensures

pub returns-in_err-outcome : goal.returns-in_err-outcome
returns-in_err-outcome c = c.from_residual-in_err-outcome.ensures ∙ sym (shortfall_there c.args.outcomes.now c.told-outcomes c.in_ok-first.first c.in_ok-first.ensures None (sym c.in_err-outcome.was))

pub returns : goal.returns
returns c = told_is c.args.outcomes.now c.told-outcomes c.in_ok-first.first c.in_ok-first.ensures c.in_ok-outcome.outcome (sym c.in_ok-outcome.was) _ _ c.missing_of.ensures c.total_missing.ensures
