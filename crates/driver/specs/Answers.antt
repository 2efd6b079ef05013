-- What the driver answers: the switch's answer, with the token of an open mode. Assumes nothing.
use Rattle.std.specs.Prelude.{ℕ, false, Some, None, Option, Result}
use Rattle.lines.specs.declared.Uplink.{Uplink}
use Rattle.lines.specs.declared.Downlink.{Downlink}
use Rattle.lines.specs.declared.Place.{Place}
use Rattle.lines.specs.Verdicts.{answered, told}
use Rattle.switch.specs.declared.SwitchDecline.{SwitchDecline}
use Rattle.switch.specs.Meaning.{Meaning}
use Rattle.switch.specs.Calls.{open_decline, grant_decline, mode_decline, number as switch_number, place as switch_place}
use Rattle.driver.specs.declared.OpenMode.{OpenMode}
use Rattle.driver.specs.declared.DriverDecline.{DriverDecline}
use Rattle.driver.specs.declared.Unspent.{Unspent}

-- the number and the place of each decline are the switch's
abbrev pub number : DriverDecline → ℕ
number e = switch_number e.«switch»

abbrev pub place : DriverDecline → Place
place e = switch_place e.«switch»

-- the token of a mode of dwell d, which is not spent
abbrev pub token : ℕ → OpenMode
token d = record { dwell = d; spent = false }

-- the driver's decline, round the switch's
abbrev pub round : Option SwitchDecline → Option DriverDecline
round None = None
round (Some e) = Some (record { «switch» = e })

-- a declined run or void hands its token back
abbrev pub unspent : OpenMode → Option SwitchDecline → Option Unspent
unspent t None = None
unspent t (Some e) = Some (record { mode = t; decline = record { «switch» = e } })

abbrev pub open_answer : ℕ → Meaning → Result OpenMode DriverDecline
open_answer d m = told (round (open_decline d m)) (token d)

abbrev pub grant_answer : Uplink → Downlink → ℕ → Meaning → Result Unit DriverDecline
grant_answer i j u m = answered (round (grant_decline i j u m))

abbrev pub spend_answer : OpenMode → Meaning → Result Unit Unspent
spend_answer t m = answered (unspent t (mode_decline m))
