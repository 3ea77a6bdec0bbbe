-- Rates that make a clock.
use Rattle.std.proofs.Common.{◌≡◌, ℕ, ◌==◌, Bool, true, false, not, List, length, cond, Result, Ok, Err, nat_lt}
use Rattle.std.specs.List.{list_any}
use Rattle.wl_clock.specs.declared.Rate.{Rate}
use Rattle.wl_clock.specs.declared.ClockFault.{ClockFault}
use Rattle.wl_clock.specs.Timing.{Timing, timing_within, has_zero_den, is_too_fast, is_too_slow, has_big_den, has_bad_from, in_order, most_rates}
use Rattle.wl_limits.specs.declared.Limits.{Limits}
use Rattle.wl_limits.specs.Limits.{offset_limit}

-- what isn't refused by the first test
past : (b : Bool) (e : ClockFault) (r : Result Timing ClockFault) (t : Timing) → cond b (Err e) r ≡ Ok t → r ≡ Ok t
past true e r t h = cc
past false e r t h = h

-- a clock has the rates that it is made of
pub rates_are : (limits : Limits) (offset : ℕ) (rates : List Rate) (t : Timing) → timing_within limits offset rates ≡ Ok t → t.rates ≡ rates
rates_are limits offset rates t h =
    let a = past (list_any has_zero_den rates) _ _ t h in
    let b = past (list_any is_too_fast rates) _ _ t a in
    let d = past (list_any is_too_slow rates) _ _ t b in
    let e = past (nat_lt (offset_limit limits) offset) _ _ t d in
    let f = past (list_any has_big_den rates) _ _ t e in
    let g = past (length rates == 0) _ _ t f in
    let i = past (nat_lt most_rates (length rates)) _ _ t g in
    let j = past (not (in_order rates)) _ _ t i in
    let k : Ok (record { offset = offset; rates = rates }) ≡ Ok t = past (list_any (has_bad_from limits) rates) _ _ t j in
    cc
