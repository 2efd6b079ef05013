-- The number, the place and the layer of each decline of a session. Assumes nothing.
use Rattle.std.specs.Prelude.{ℕ}
use Rattle.lines.specs.declared.Place.{Place}
use Rattle.lines.specs.declared.Place.TheVariants.{Nowhere}
use Rattle.owed.specs.Calls.{number as owed_number, place as owed_place}
use Rattle.driver.specs.Answers.{number as driver_number, place as driver_place}
use Rattle.law.specs.declared.decline.SessionDecline.{SessionDecline}
use Rattle.law.specs.declared.decline.SessionDecline.TheVariants.{PlanStands, NoPlan, NothingOwed, NoBudget, Booking, PartRecord, Record, Mode, ShortBuffer, NoMemory}
use Rattle.law.specs.declared.decline.Layer.{Layer}
use Rattle.law.specs.declared.decline.Layer.TheVariants.{Session, Batch, Switch}

-- want of memory is no reason of the rules: it has the number 0
abbrev pub number : SessionDecline → ℕ
number PlanStands = 6
number NoPlan = 9
number NothingOwed = 10
number NoBudget = 5
number (Booking d) = owed_number d
number PartRecord = 15
number (Record k station d) = owed_number d
number (Mode k d) = driver_number d
number ShortBuffer = 16
number NoMemory = 0

abbrev pub place : SessionDecline → Place
place PlanStands = Nowhere
place NoPlan = Nowhere
place NothingOwed = Nowhere
place NoBudget = Nowhere
place (Booking d) = owed_place d
place PartRecord = Nowhere
place (Record k station d) = owed_place d
place (Mode k d) = driver_place d
place ShortBuffer = Nowhere
place NoMemory = Nowhere

-- a record of a batch adds its number and station, a mode that the switch declines its number
abbrev pub layer : SessionDecline → Layer
layer PlanStands = Session
layer NoPlan = Session
layer NothingOwed = Session
layer NoBudget = Session
layer (Booking d) = Session
layer PartRecord = Session
layer (Record k station d) = Batch k station
layer (Mode k d) = Switch k
layer ShortBuffer = Session
layer NoMemory = Session
