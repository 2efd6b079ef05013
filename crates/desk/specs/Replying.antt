-- What each request is answered, and what it leaves. Assumes nothing.
use Rattle.std.specs.Prelude.{◌≡◌, ℕ, Bool, true, false, ◌&&◌, ◌⊎◌, List, [], ◌∷◌, ◌++◌, length, Some, None, Ok, Err, MatchBool, Option, Result, ◌==◌}
use Rattle.lines.specs.Matrix.{Matrix, busiest, nothing}
use Rattle.lines.specs.Verdicts.{or_same}
use Rattle.owed.specs.Calls as owed
use Rattle.owed.specs.Calls.{number, make_decline, line_decline, add_decline, take_decline, added, taken}
use Rattle.lines.specs.declared.Uplink.{Uplink}
use Rattle.lines.specs.declared.Downlink.{Downlink}
use Rattle.matching.specs.Answers.{Right}
use Rattle.switch.specs.Meaning.{Meaning}
use Rattle.crossbar.specs.Made.{fresh}
use Rattle.crossbar.specs.Shown.{shown}
use Rattle.simulator.specs.Faults.{rules_of}
use Rattle.simulator.specs.Made.{rule_decline, rule_number}
use Rattle.simulator.specs.declared.rules.FaultRule.{FaultRule}
use Rattle.simulator.specs.declared.decline.RuleDecline.{RuleDecline}
use Rattle.schedule.specs.declared.Mode.{Mode}
use Rattle.schedule.specs.Modes.{span}
use Rattle.planning.specs.Making.{MadeBy}
use Rattle.planning.specs.Best.{Best}
use Rattle.planning.specs.Plans.{number as plan_number}
use Rattle.planning.specs.declared.decline.PlanDecline.TheVariants.{NothingOwed, NoMemory}
use Rattle.replies.specs.declared.Reply.{Reply}
use Rattle.replies.specs.declared.Reply.TheVariants as reply
use Rattle.script.specs.Requests.{Request}
use Rattle.script.specs.declared.commands.Command.TheVariants.{Lines, Fault, Post, Withdraw, Plan, Step, Run, Drop, Owed}
use Rattle.desk.specs.declared.stage.Stage.{Stage}
use Rattle.desk.specs.declared.stage.Stage.TheVariants as stage
use Rattle.desk.specs.declared.desk.State.{State}
use Rattle.desk.specs.declared.desk.State.TheVariants.{Start, Rules, Running}
use Rattle.desk.specs.declared.desk.Desk.{Desk}
use Rattle.desk.specs.Stages.{admits, next}

-- where a script stands, how many lines there are, and what is owed
abbrev pub stage_in : State → Stage
stage_in Start = stage.Start
stage_in (Rules o) = stage.Rules
stage_in (Running o) = stage.Running

abbrev pub lines_in : State → ℕ
lines_in Start = 0
lines_in (Rules o) = owed.lines_of o
lines_in (Running o) = owed.lines_of o

abbrev pub units_in : State → Matrix
units_in Start = nothing
units_in (Rules o) = owed.units_of o
units_in (Running o) = owed.units_of o

abbrev pub stage_of : Desk → Stage
stage_of d = stage_in d.state

abbrev pub lines_of : Desk → ℕ
lines_of d = lines_in d.state

abbrev pub units_of : Desk → Matrix
units_of d = units_in d.state

-- what the simulator means, and its fault rules
abbrev pub switch_of : Desk → Meaning
switch_of d = shown d.«switch».fabric

abbrev pub faults_of : Desk → List FaultRule
faults_of d = rules_of d.«switch».carrier

-- the fault rule that a request gives
abbrev pub fault : Uplink → Downlink → ℕ → ℕ → FaultRule
fault i j c t = record { up = i; down = j; most = c; from = t }

abbrev pub fault_decline : Desk → FaultRule → Option RuleDecline
fault_decline d f = rule_decline (switch_of d).lines (faults_of d) f

-- which requests are served
abbrev pub served : Request → Bool
served (Lines n) = true
served (Fault i j c t) = true
served (Post i j u) = true
served (Withdraw i j u) = true
served Plan = true
served Step = false
served (Run b) = false
served Drop = false
served (Owed i j) = true

-- a line that is unreadable or out of its place
abbrev pub out_of_place : Reply
out_of_place = reply.No 19

-- what a call replies, or else its decline's number
abbrev pub reply_of : {E : Type 0} → (E → ℕ) → Result Reply E → Reply
reply_of n (Ok r) = r
reply_of n (Err e) = reply.No (n e)

-- a decline's number, or else the answer
abbrev pub unless : {E : Type 0} → (E → ℕ) → Option E → Reply → Reply
unless n None r = r
unless n (Some e) r = reply.No (n e)

-- what a served request in its place is answered, with n lines and the units m owed
abbrev pub answer : ℕ → Matrix → Request → Reply
answer n m (Lines k) = unless number (make_decline k) reply.Ok
answer n m (Fault i j c t) = out_of_place
answer n m (Post i j u) = unless number (add_decline n m i j u) reply.Ok
answer n m (Withdraw i j u) = unless number (take_decline n m i j u) reply.Ok
answer n m Plan = out_of_place
answer n m Step = out_of_place
answer n m (Run b) = out_of_place
answer n m Drop = out_of_place
answer n m (Owed i j) = unless number (line_decline n i j) (reply.Owed (m i.0 j.0))

-- a plan of Kuhn's engine for the units m owed on n lines, told by its number of modes, its length and the engine's letter
pub record Planned (n : ℕ) (m : Matrix) (r : Reply) : Type 0 where
  pub modes : List Mode
  pub made : MadeBy Right n m modes
  pub best : Best n m modes
  pub told : r ≡ reply.Planned (length modes) (span modes) 75

-- where units are owed, such a plan, or want of memory
abbrev pub Shown : ℕ → Matrix → Reply → Type 0
Shown n m r = Planned n m r ⊎ (r ≡ reply.No (plan_number NoMemory))

-- what is told of a plan for the units m owed on n lines
abbrev pub Shows : ℕ → Matrix → Reply → Type 0
Shows n m r = MatchBool (busiest n m == 0) (r ≡ reply.No (plan_number NothingOwed)) (Shown n m r)

-- r is an answer to a request: the one answer, but for the engine's choice of a plan
abbrev pub Replied : Desk → Request → Reply → Type 0
Replied d (Lines k) r = r ≡ answer (lines_of d) (units_of d) (Lines k)
Replied d (Fault i j c t) r = r ≡ unless rule_number (fault_decline d (fault i j c t)) reply.Ok
Replied d (Post i j u) r = r ≡ answer (lines_of d) (units_of d) (Post i j u)
Replied d (Withdraw i j u) r = r ≡ answer (lines_of d) (units_of d) (Withdraw i j u)
Replied d Plan r = Shows (lines_of d) (units_of d) r
Replied d Step r = r ≡ out_of_place
Replied d (Run b) r = r ≡ out_of_place
Replied d Drop r = r ≡ out_of_place
Replied d (Owed i j) r = r ≡ answer (lines_of d) (units_of d) (Owed i j)

-- whether it is accepted
abbrev pub is_ok : Reply → Bool
is_ok reply.Ok = true
is_ok (reply.Planned a b c) = true
is_ok (reply.Mode a b c) = true
is_ok (reply.Ran a b) = true
is_ok (reply.Owed a) = true
is_ok (reply.No a) = false

-- how many lines there are after it
abbrev pub lines_after : ℕ → Request → ℕ
lines_after n (Lines k) = or_same (make_decline k) k n
lines_after n (Fault i j c t) = n
lines_after n (Post i j u) = n
lines_after n (Withdraw i j u) = n
lines_after n Plan = n
lines_after n Step = n
lines_after n (Run b) = n
lines_after n Drop = n
lines_after n (Owed i j) = n

-- what is owed after it
abbrev pub units_after : ℕ → Matrix → Request → Matrix
units_after n m (Lines k) = m
units_after n m (Fault i j c t) = m
units_after n m (Post i j u) = or_same (add_decline n m i j u) (added m i.0 j.0 u) m
units_after n m (Withdraw i j u) = or_same (take_decline n m i j u) (taken m i.0 j.0 u) m
units_after n m Plan = m
units_after n m Step = m
units_after n m (Run b) = m
units_after n m Drop = m
units_after n m (Owed i j) = m

-- the most modes that the simulator takes
abbrev pub room : ℕ
room = 65535

-- what the simulator means after it: it is made with the lines
abbrev pub switch_after : Desk → Request → Meaning
switch_after d (Lines k) = or_same (make_decline k) (fresh k room) (switch_of d)
switch_after d (Fault i j c t) = switch_of d
switch_after d (Post i j u) = switch_of d
switch_after d (Withdraw i j u) = switch_of d
switch_after d Plan = switch_of d
switch_after d Step = switch_of d
switch_after d (Run b) = switch_of d
switch_after d Drop = switch_of d
switch_after d (Owed i j) = switch_of d

-- its fault rules after it
abbrev pub faults_after : Desk → Request → List FaultRule
faults_after d (Lines k) = or_same (make_decline k) [] (faults_of d)
faults_after d (Fault i j c t) = or_same (fault_decline d (fault i j c t)) (faults_of d ++ (fault i j c t ∷ [])) (faults_of d)
faults_after d (Post i j u) = faults_of d
faults_after d (Withdraw i j u) = faults_of d
faults_after d Plan = faults_of d
faults_after d Step = faults_of d
faults_after d (Run b) = faults_of d
faults_after d Drop = faults_of d
faults_after d (Owed i j) = faults_of d

-- e is d, in all that a script can tell
pub record Unchanged (d e : Desk) : Type 0 where
  pub stage : stage_of e ≡ stage_of d
  pub lines : lines_of e ≡ lines_of d
  pub units : (a b : ℕ) → units_of e a b ≡ units_of d a b
  pub «switch» : switch_of e ≡ switch_of d
  pub faults : faults_of e ≡ faults_of d

-- a request in its place is answered r at d, which leaves e
pub record Served (d : Desk) (q : Request) (r : Reply) (e : Desk) : Type 0 where
  pub reply : Replied d q r
  pub stage : stage_of e ≡ next (stage_of d) q (is_ok r)
  pub lines : lines_of e ≡ lines_after (lines_of d) q
  pub units : (a b : ℕ) → units_of e a b ≡ units_after (lines_of d) (units_of d) q a b
  pub «switch» : switch_of e ≡ switch_after d q
  pub faults : faults_of e ≡ faults_after d q

-- a line that is unreadable or out of its place is answered so
pub record Refused (d : Desk) (r : Reply) (e : Desk) : Type 0 where
  pub reply : r ≡ out_of_place
  pub same : Unchanged d e

-- a line that makes the request q, or none, is answered r at d, which leaves e
abbrev pub Answers : Desk → Option Request → Reply → Desk → Type 0
Answers d None r e = Refused d r e
Answers d (Some q) r e = MatchBool (served q && admits (stage_of d) q) (Served d q r e) (Refused d r e)
