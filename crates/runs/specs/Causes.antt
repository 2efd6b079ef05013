-- The word for each cause. Assumes nothing.
use Rattle.std.specs.Prelude.{ℕ, List, codes}
use Rattle.runs.specs.declared.Cause.{Cause}
use Rattle.runs.specs.declared.Cause.TheVariants.{End, Short, Stop, Budget}

-- the word that a cause is printed as
abbrev pub stop_word : Cause → List ℕ
stop_word End = codes "end"
stop_word Short = codes "short"
stop_word Stop = codes "stop"
stop_word Budget = codes "budget"
