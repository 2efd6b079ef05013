-- Numbers written in decimal with one to five digits. Assumes nothing.
use Rattle.std.specs.Prelude.{◌≡◌, ℕ, ◌+◌, ◌-◌, ◌*◌, ◌≤◌, Bool, true, cond, ◌&&◌, List, [], ◌∷◌, length, Some, None, Option, nat_le}

abbrev pub is_digit : ℕ → Bool
is_digit b = nat_le 48 b && nat_le b 57

abbrev pub all_digits : List ℕ → Bool
all_digits [] = true
all_digits (b ∷ bs) = is_digit b && all_digits bs

-- the digits of bs read on after n
abbrev pub read_on : ℕ → List ℕ → ℕ
read_on n [] = n
read_on n (b ∷ bs) = read_on (10 * n + (b - 48)) bs

-- a word of 1 to 5 digits that writes n, which is at most 65,535
pub record Writes (w : List ℕ) (n : ℕ) : Type 0 where
  pub some : 1 ≤ length w
  pub few : length w ≤ 5
  pub digits : all_digits w ≡ true
  pub value : read_on 0 w ≡ n
  pub small : n ≤ 65535

-- the number that a word writes, if it writes one
abbrev pub number_of : List ℕ → Option ℕ
number_of w = cond (nat_le 1 (length w) && nat_le (length w) 5) (cond (all_digits w && nat_le (read_on 0 w) 65535) (Some (read_on 0 w)) None) None
