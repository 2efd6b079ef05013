-- When two modes are equal, as `==` tells it. Assumes nothing.
use Rattle.std.specs.Prelude.{Bool, List, Option, ◌==◌}
use Rattle.std.specs.Cmp.{IsEquivalence}
use Rattle.std.proofs.lemmas.Cmp.{nat_eq_equiv, on_equiv, and_equiv, lists_equiv}
use Rattle.std.specs.Cmp.Lexicographic.{pointwise, options_equiv}
use Rattle.std.specs.Option.{option_eq}
use Rattle.std.specs.Ordering.{eq_of_both, on}
use Rattle.schedule.specs.declared.Join.{Join}
use Rattle.schedule.specs.declared.Mode.{Mode}

-- two grants are equal in their downlinks and their units
abbrev pub same_join : Join → Join → Bool
same_join = eq_of_both (on (λ x. x.down.0) ◌==◌) (on (λ x. x.units) ◌==◌)

-- two rows are equal entry by entry
abbrev pub same_rows : List (Option Join) → List (Option Join) → Bool
same_rows = pointwise (option_eq same_join)

-- two modes are equal in their dwells and their rows
abbrev pub same_mode : Mode → Mode → Bool
same_mode = eq_of_both (on (λ m. m.dwell) ◌==◌) (on (λ m. m.row) same_rows)

pub same_join_equiv : IsEquivalence same_join
same_join_equiv = and_equiv (on_equiv (λ x. x.down.0) nat_eq_equiv) (on_equiv (λ x. x.units) nat_eq_equiv)

-- so `==` is an equivalence
pub same_mode_equiv : IsEquivalence same_mode
same_mode_equiv = and_equiv (on_equiv (λ m. m.dwell) nat_eq_equiv) (on_equiv (λ m. m.row) (lists_equiv (options_equiv same_join_equiv)))
