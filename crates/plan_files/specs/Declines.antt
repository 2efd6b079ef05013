-- Why modes are not written, or not read. Assumes nothing.
use Rattle.std.specs.Prelude.{ℕ, ◌*◌, cond, Some, None, Option, nat_lt}
use Rattle.lines.specs.declared.Place.{Place}
use Rattle.lines.specs.declared.Place.TheVariants.{Nowhere, AtRecord}
use Rattle.plan_files.specs.declared.decline.WriteDecline.{WriteDecline}
use Rattle.plan_files.specs.declared.decline.WriteDecline.TheVariants.{ShortBuffer}
use Rattle.plan_files.specs.declared.decline.ReadDecline.{ReadDecline}
use Rattle.plan_files.specs.declared.decline.ReadDecline.TheVariants.{Size, Improper, NoMemory}
use Rattle.plan_files.specs.declared.decline.FileDecline.{FileDecline}
use Rattle.plan_files.specs.declared.decline.FileDecline.TheVariants.{Write, Read}

-- the number and the place of each decline; want of memory is 0, since no rule has a number for it
abbrev pub write_number : WriteDecline → ℕ
write_number ShortBuffer = 16

abbrev pub write_place : WriteDecline → Place
write_place ShortBuffer = Nowhere

abbrev pub read_number : ReadDecline → ℕ
read_number Size = 15
read_number (Improper k) = 17
read_number NoMemory = 0

abbrev pub read_place : ReadDecline → Place
read_place Size = Nowhere
read_place (Improper k) = AtRecord k
read_place NoMemory = Nowhere

abbrev pub file_number : FileDecline → ℕ
file_number (Write d) = write_number d
file_number (Read d) = read_number d

abbrev pub file_place : FileDecline → Place
file_place (Write d) = write_place d
file_place (Read d) = read_place d

-- so many modes want 52 bytes each
abbrev pub write_decline : ℕ → ℕ → Option WriteDecline
write_decline many room = cond (nat_lt room (52 * many)) (Some ShortBuffer) None
