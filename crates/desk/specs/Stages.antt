-- The place of each request in a script: n first and accepted once, then fault rules until another command is read. Assumes nothing.
use Rattle.std.specs.Prelude.{Bool, true, false, cond, not, ◌||◌}
use Rattle.script.specs.Requests.{Request}
use Rattle.script.specs.declared.commands.Command.TheVariants.{Lines, Fault, Post, Withdraw, Plan, Step, Run, Drop, Owed}
use Rattle.desk.specs.declared.stage.Stage.{Stage}
use Rattle.desk.specs.declared.stage.Stage.TheVariants.{Start, Rules, Running}

abbrev pub makes_lines : Request → Bool
makes_lines (Lines n) = true
makes_lines (Fault i j c t) = false
makes_lines (Post i j u) = false
makes_lines (Withdraw i j u) = false
makes_lines Plan = false
makes_lines Step = false
makes_lines (Run b) = false
makes_lines Drop = false
makes_lines (Owed i j) = false

abbrev pub gives_rule : Request → Bool
gives_rule (Lines n) = false
gives_rule (Fault i j c t) = true
gives_rule (Post i j u) = false
gives_rule (Withdraw i j u) = false
gives_rule Plan = false
gives_rule Step = false
gives_rule (Run b) = false
gives_rule Drop = false
gives_rule (Owed i j) = false

-- whether a request is in its place
abbrev pub admits : Stage → Request → Bool
admits Start q = makes_lines q
admits Rules q = not (makes_lines q)
admits Running q = not (makes_lines q || gives_rule q)

-- the stage after a request in its place, accepted or declined
abbrev pub next : Stage → Request → Bool → Stage
next Start q accepted = cond accepted Rules Start
next Rules q accepted = cond (gives_rule q) Rules Running
next Running q accepted = Running
