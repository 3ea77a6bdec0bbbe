-- A clock as it is held, which is this project's representation: a fixed number of rates, those after its own all the same.
use Rattle.std.specs.Prelude.{◌≡◌, ℕ, ◌-◌, ◌/◌, ◌^◌, List, [], ◌∷◌, length, take}
use Rattle.wl_clock.specs.declared.Clock.TheInside.{Inside}
use Rattle.wl_clock.specs.declared.Rate.{Rate}
use Rattle.wl_clock.specs.Timing.{Timing, IsTiming}
use Rattle.wl_clock.specs.Padded.{padded_rates}

abbrev pub timing : Inside → Timing
timing c = record { offset = c.offset; rates = take c.count c.rates }

-- by what a quotient by this number is guessed
abbrev pub inverse_of : ℕ → ℕ
inverse_of n = (2 ^ 64 - 1) / n

abbrev pub first_den : List Rate → ℕ
first_den [] = 0
first_den (r ∷ later) = r.den

abbrev pub first_num : List Rate → ℕ
first_num [] = 0
first_num (r ∷ later) = r.num

abbrev pub inside_of_timing : Timing → Inside
inside_of_timing t = record { offset = t.offset; count = length t.rates; rates = padded_rates t.rates; inverse_of_den = inverse_of (first_den t.rates); inverse_of_num = inverse_of (first_num t.rates) }

pub record IsHeld (c : Inside) : Type 0 where
  pub timing : IsTiming (timing c)
  pub count : length (take c.count c.rates) ≡ c.count
  pub padding : padded_rates (take c.count c.rates) ≡ c.rates
  pub den : inverse_of (first_den (take c.count c.rates)) ≡ c.inverse_of_den
  pub num : inverse_of (first_num (take c.count c.rates)) ≡ c.inverse_of_num

pub held_timing : (c : Inside) → IsHeld c → inside_of_timing (timing c) ≡ c
held_timing c h = λ i. record { offset = c.offset; count = h.count i; rates = h.padding i; inverse_of_den = h.den i; inverse_of_num = h.num i }
