-- Worked counts and sums, by computation.
use Rattle.std.proofs.Common.{◌≡◌, refl, ◌*◌, true, cond}
use Rattle.std.specs.Prelude.{◌==◌}
use Rattle.wl_counts.specs.Counts.{sum_below, periods_in, message_count}
use Rattle.wl_counts.specs.Instances.{instance_demand, instances}
use Rattle.wl_counts.specs.Waits.{Table, demand}

-- 0 + 1 + 4 + 9
squares : sum_below (λ k. k * k) 4 ≡ 14
squares = refl

-- ceil(0 / 5), ceil(1 / 5), ceil(5 / 5), ceil(6 / 5)
none : periods_in 0 5 ≡ 0
none = refl

part : periods_in 1 5 ≡ 1
part = refl

whole : periods_in 5 5 ≡ 1
whole = refl

over : periods_in 6 5 ≡ 2
over = refl

-- the three messages of Davis, Burns, Bril, Lukkien 2007 in half milliseconds: of a period of 5 two arrive in 7, and of one of 7 one
five : periods_in 7 5 ≡ 2
five = refl

seven : periods_in 7 7 ≡ 1
seven = refl

-- frames of messages 0, 0, 0, 0: all of one
frames : message_count (λ k. 0) 0 4 ≡ 4
frames = refl

others : message_count (λ k. 0) 1 4 ≡ 0
others = refl

-- frame k is of message k: one of the frames below 4 is of message 2
each : message_count (λ k. k) 2 4 ≡ 1
each = refl

-- Those three messages, all in half milliseconds: a frame takes 2, and nothing blocks the last one. Its busy period is 14: three frames, two and two.
three : Table
three = record { messages = 3; cost = λ e. 2; tail = λ e. 2; most = λ e length. periods_in length (cond (e == 0) 5 7); blocking = λ m. 0; joins = λ m e. true; early = λ m e. 0 }

busy : demand three 2 14 ≡ 14
unfolding three
busy = refl

-- no sooner: 12 is too short
sooner : demand three 2 12 ≡ 14
unfolding three
sooner = refl

-- the first message alone, if the others don't join its windows
first_alone : demand (record { messages = 3; cost = λ e. 2; tail = λ e. 2; most = λ e length. periods_in length (cond (e == 0) 5 7); blocking = λ m. 2; joins = λ m e. e == m; early = λ m e. 0 }) 0 4 ≡ 2
first_alone = refl

-- Two of the third message are in that busy period. Before the first one of them are two other frames, and before the second one four and itself.
twice : instances three (λ m. 14) 2 ≡ 2
unfolding three
twice = refl

first_instance : instance_demand three 2 0 4 ≡ 4
unfolding three
first_instance = refl

second_instance : instance_demand three 2 1 10 ≡ 10
unfolding three
second_instance = refl
