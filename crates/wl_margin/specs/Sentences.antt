-- Times as text, and what goes wrong where the condition for a sound bus fails (this project's profile).
use Rattle.std.specs.Prelude.{ℕ, ◌-◌, ◌*◌, ◌/◌, ◌^◌, ◌<◌, ◌==◌, nat_le, min, max, Bool, true, false, List, [], ◌∷◌, codes, if◌then◌else◌}
use Rattle.std.specs.Int.{div_ceil}
use Rattle.wl_setup.specs.Names.{name_of}
use Rattle.wl_bound.specs.Families.{Buses, member_at}
use Rattle.wl_bound.specs.Oscillators.{shortest_of}
use Rattle.wl_bound.specs.declared.condition.Inequality.{Inequality}
use Rattle.wl_bound.specs.declared.condition.Inequality.TheVariants.{DriftFitsJump, BitIsThereAtSample, NoBitTooEarly}
use Rattle.wl_bound.specs.declared.condition.Sides.{Sides}
use Rattle.wl_bound.specs.declared.condition.Failure.{Failure}
use Rattle.wl_margin.specs.declared.sentences.Rest.{Rest}
use Rattle.wl_margin.specs.declared.sentences.Rest.TheVariants.{NotAsked, Asked}
use Rattle.wl_margin.specs.Pieces.{joined, thousandths, hundredths}

-- how many picoseconds a tick takes, and how many millionths of a tick a quantum
pub record Measure : Type 0 where
  pub tick : ℕ
  pub quantum : ℕ

pub record IsMeasure (m : Measure) : Type 0 where
  pub short : m.tick < 2 ^ 36
  pub some : 0 < m.quantum

-- Times are millionths of a tick. One of 2^100 and more, which no plan has, is said as 2^100.
abbrev pub longest_time : ℕ
longest_time = 1267650600228229401496703205376

-- They are said in picoseconds and in hundredths of a quantum, rounded down or up.
abbrev pub picoseconds_within : Measure → ℕ → ℕ
picoseconds_within m time = min time longest_time * m.tick / 1000000

abbrev pub picoseconds_around : Measure → ℕ → ℕ
picoseconds_around m time = div_ceil (min time longest_time * m.tick) 1000000

abbrev pub quanta_within : Measure → ℕ → ℕ
quanta_within m time = 100 * min time longest_time / m.quantum

abbrev pub quanta_around : Measure → ℕ → ℕ
quanta_around m time = div_ceil (100 * min time longest_time) m.quantum

abbrev pub amount_words : ℕ → ℕ → List ℕ
amount_words picoseconds quanta = joined (thousandths picoseconds ∷ codes " ns (" ∷ hundredths quanta ∷ codes " quanta)" ∷ [])

-- a time that there is, and one that is taken
abbrev pub within_words : Measure → ℕ → List ℕ
within_words m time = amount_words (picoseconds_within m time) (quanta_within m time)

abbrev pub around_words : Measure → ℕ → List ℕ
around_words m time = amount_words (picoseconds_around m time) (quanta_around m time)

-- with a sign where it is below 0
abbrev pub signed_words : Bool → ℕ → ℕ → List ℕ
signed_words true picoseconds quanta =
    joined (codes "-" ∷ thousandths picoseconds ∷ codes " ns (-" ∷ hundredths quanta ∷ codes " quanta)" ∷ [])
signed_words false picoseconds quanta = amount_words picoseconds quanta

-- what is to spare: below 0 where more is taken than there is
abbrev pub spare_words : Measure → Sides → List ℕ
spare_words m sides =
    if nat_le sides.left sides.right
    then signed_words false (picoseconds_within m (sides.right - sides.left)) (quanta_within m (sides.right - sides.left))
    else signed_words true (picoseconds_around m (sides.left - sides.right)) (quanta_around m (sides.left - sides.right))

-- the same, or none if an inequality isn't asked of a pair
abbrev pub rest_words : Rest → List ℕ
rest_words NotAsked = codes "none"
rest_words (Asked spare) = signed_words spare.is_below spare.amount.picoseconds spare.amount.quanta

-- What goes wrong where an inequality fails for a and b: what is taken, and the time that there is.
abbrev pub drift_words : List ℕ → List ℕ → List ℕ → List ℕ → List ℕ
drift_words a b taken there =
    joined (codes "in ten bits " ∷ a ∷ codes " falls behind " ∷ b ∷ codes " by up to " ∷ taken ∷ codes ", and an edge puts right "
    ∷ there ∷ [])

abbrev pub late_words : List ℕ → List ℕ → List ℕ → List ℕ → List ℕ
late_words a b taken there =
    joined (codes "a bit of " ∷ b ∷ codes " comes to " ∷ a ∷ codes " up to " ∷ taken ∷ codes " after its own began, and " ∷ a
    ∷ codes " samples after " ∷ there ∷ [])

abbrev pub loop_words : List ℕ → List ℕ → List ℕ → List ℕ
loop_words a taken there =
    joined (codes "a bit of " ∷ a ∷ codes " comes back to it " ∷ taken ∷ codes " after it began, and it samples after " ∷ there ∷ [])

abbrev pub early_words : List ℕ → List ℕ → List ℕ → List ℕ → List ℕ
early_words a b taken there =
    joined (codes "the next bit of " ∷ b ∷ codes " comes to " ∷ a ∷ codes " up to " ∷ taken ∷ codes " too early, and its PHASE_SEG2 has "
    ∷ there ∷ [])

-- the sentence of an inequality for nodes i and j with these names
abbrev pub inequality_words : Inequality → ℕ → ℕ → List ℕ → List ℕ → List ℕ → List ℕ → List ℕ
inequality_words DriftFitsJump i j a b taken there = drift_words a b taken there
inequality_words BitIsThereAtSample i j a b taken there = if i == j then loop_words a taken there else late_words a b taken there
inequality_words NoBitTooEarly i j a b taken there = early_words a b taken there

-- what goes wrong, in the units of its first node
abbrev pub sentence : Measure → List (List ℕ) → Failure → List ℕ
sentence m names failure =
    inequality_words failure.inequality failure.node failure.other (name_of names failure.node) (name_of names failure.other)
    (around_words m failure.sides.left) (within_words m failure.sides.right)

-- how long a tick and the shortest quantum of a node take, which is at least a millionth of a tick
abbrev pub measure_of : ℕ → Buses → ℕ → Measure
measure_of tick f i = record { tick = tick; quantum = max 1 (shortest_of (member_at f i).oscillator 0) }

abbrev pub failure_words : ℕ → Buses → List (List ℕ) → Failure → List ℕ
failure_words tick f names failure = sentence (measure_of tick f failure.node) names failure
