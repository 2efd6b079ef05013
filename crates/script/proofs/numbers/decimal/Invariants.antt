use Rattle.std.proofs.Common.{◌≡◌, ◌^◌, ◌<◌, drop}
use Rattle.script.specs.Numerals.{all_digits, read_on}
use Rattle.script.proofs.numbers.decimal.Given as goal

-- what is left, read on after n, is the whole word's number; n is below a power of ten
abbrev pub invariant-loop-b : goal.invariant-loop-b
invariant-loop-b l =
    (read_on l.n (drop l.b-index l.word) ≡ read_on 0 l.word)
    × (all_digits (drop l.b-index l.word) ≡ all_digits l.word)
    × (l.n < 10 ^ l.b-index)
