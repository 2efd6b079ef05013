-- What a call answers that is declined for a reason, or accepted where there is none. Assumes nothing.
use Rattle.std.specs.Prelude.{Some, None, Ok, Err, Option, Result}

-- the reason, or else the answer
abbrev pub told : {A E : Type 0} → Option E → A → Result A E
told None a = Ok a
told (Some e) a = Err e

abbrev pub answered : {E : Type 0} → Option E → Result Unit E
answered None = Ok tt
answered (Some e) = Err e

-- what an accepted call leaves, or else what there was
abbrev pub or_same : {A E : Type 0} → Option E → A → A → A
or_same None after before = after
or_same (Some e) after before = before

-- the first reason of two
abbrev pub or_else : {E : Type 0} → Option E → Option E → Option E
or_else None next = next
or_else (Some e) next = Some e
