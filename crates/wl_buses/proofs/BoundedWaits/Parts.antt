-- One measure of time for all stations of a line. This project's.
use Rattle.std.proofs.Common.{ℕ, zero, suc, ◌*◌, cond}
use Rattle.std.specs.Prelude.{◌==◌}
use Rattle.wl_phase.specs.Clocks.{instant}
use Rattle.wl_buses.specs.FrameTimes.Times.{Times}
use Rattle.wl_buses.specs.OneFrame.Stations.{Stations}

-- the product of the first n numbers, and of all of them but number i
abbrev pub product_below : (ℕ → ℕ) → ℕ → ℕ
product_below f zero = 1
product_below f (suc n) = product_below f n * f n

abbrev pub product_but : (ℕ → ℕ) → (i n : ℕ) → ℕ
product_but f i zero = 1
product_but f i (suc n) = product_but f i n * cond (i == n) 1 (f n)

-- A unit of time has so many parts that each quantum of each clock begins with one, and quantum n of station i begins with this one.
abbrev pub parts_of : Stations → ℕ
parts_of s = product_below (λ k. (s.clocks k).den) s.count

abbrev pub part_at : Stations → Times → (i n : ℕ) → ℕ
part_at s t i n = t.unit * (product_but (λ k. (s.clocks k).den) i s.count * instant (s.clocks i) n)
