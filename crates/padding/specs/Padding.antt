-- Padding: units are added until every line sum is the busiest line. Assumes nothing.
use Rattle.std.specs.Prelude.{◌≡◌, ℕ, ◌+◌, ◌-◌, ◌<◌, ◌≤◌, min, List, slice_index}
use Rattle.lines.specs.Sums.{sum_below}
use Rattle.lines.specs.Matrix.{Matrix, uplink_sum, downlink_sum, busiest, Even, Same, Blank}

-- what uplink i still lacks to b when (i, j) is visited: p is m with what was added at the earlier visits
abbrev pub up_lack : ℕ → ℕ → Matrix → Matrix → Matrix
up_lack n b m p i j = b - (uplink_sum n m i + sum_below j (λ k. p i k - m i k))

-- what downlink j still lacks to b when (i, j) is visited
abbrev pub down_lack : ℕ → ℕ → Matrix → Matrix → Matrix
down_lack n b m p i j = b - (downlink_sum n m j + sum_below i (λ k. p k j - m k j))

-- the visits by rising uplink, then rising downlink, each add the smaller lack
abbrev pub PaddedTo : ℕ → ℕ → Matrix → Matrix → Type 0
PaddedTo n b m p = (i j : ℕ) → i < n → j < n → p i j ≡ m i j + min (up_lack n b m p i j) (down_lack n b m p i j)

abbrev pub Padded : ℕ → Matrix → Matrix → Type 0
Padded n m p = PaddedTo n (busiest n m) m p

-- p is m after padding: all that holds of it
pub record Padding (n : ℕ) (m p : Matrix) : Type 0 where
  pub visits : Padded n m p
  -- nothing stands outside the lines
  pub blank : Blank n p
  -- every line sum is the busiest line
  pub fills : Even n (busiest n m) p
  -- no unit is taken away
  pub keeps : (i j : ℕ) → m i j ≤ p i j
  -- there is no other result
  pub single : (q : Matrix) → Padded n m q → Same n q p

-- the number of each place; 0 where there is none
abbrev pub listed : List ℕ → ℕ → ℕ
listed xs k = slice_index xs k

-- the first n places of the row of an uplink that lacks so many units are visited: row and lacks became row' and lacks'
pub record RowVisited (n lack : ℕ) (row row' lacks lacks' : ℕ → ℕ) : Type 0 where
  pub adds : (k : ℕ) → k < n → row' k ≡ row k + min (lack - sum_below k (λ x. row' x - row x)) (lacks k)
  pub lowers : (k : ℕ) → k < n → lacks' k + (row' k - row k) ≡ lacks k
  pub row_rest : (k : ℕ) → n ≤ k → row' k ≡ row k
  pub lacks_rest : (k : ℕ) → n ≤ k → lacks' k ≡ lacks k
