-- What the terms of a bus stay below in any setting of a search, so that all of them fit 128 bits. This project's. Times are in units.
use Rattle.std.specs.Prelude.{ℕ, ◌-◌, ◌^◌}

-- the shortest quantum of an oscillator and the longest, in millionths of a tick
abbrev pub fast_limit : ℕ
fast_limit = 2 ^ 41

abbrev pub slow_limit : ℕ
slow_limit = 2 ^ 54

-- a tick; what a node loses at the changes of its rate, and what all others do
abbrev pub tick_limit : ℕ
tick_limit = 2 ^ 52

abbrev pub turns_limit : ℕ
turns_limit = 2 ^ 60

abbrev pub ahead_limit : ℕ
ahead_limit = 2 ^ 68

-- the shortest quantum of a node, and the longest
abbrev pub shortest_limit : ℕ
shortest_limit = 2 ^ 73

abbrev pub longest_limit : ℕ
longest_limit = 2 ^ 86

-- the quanta up to the sample, and PHASE_SEG2
abbrev pub sample_limit : ℕ
sample_limit = 2 ^ 82

-- the way of a level between two nodes, and what the longer cable adds to its ticks
abbrev pub delay_limit : ℕ
delay_limit = 2 ^ 73

abbrev pub longer_limit : ℕ
longer_limit = 2 ^ 52

abbrev pub jump_limit : ℕ
jump_limit = 2 ^ 81

-- a look, and what a sender pulls forward
abbrev pub look_limit : ℕ
look_limit = 2 ^ 87

abbrev pub trip_limit : ℕ
trip_limit = 2 ^ 88

-- how late a bit can be, and how far a node may have to catch up
abbrev pub way_limit : ℕ
way_limit = 2 ^ 89

abbrev pub drift_limit : ℕ
drift_limit = 2 ^ 95

-- what ten bits of drift take, with what a jump leaves; and how early a node can be
abbrev pub spread_limit : ℕ
spread_limit = 2 ^ 99

abbrev pub early_limit : ℕ
early_limit = 2 ^ 99

-- how late a bit can be by the edges of a third sender, after an acknowledgement, and with all that gathers
abbrev pub tour_limit : ℕ
tour_limit = 2 ^ 100

abbrev pub behind_limit : ℕ
behind_limit = 2 ^ 106 - 2 ^ 90

abbrev pub late_limit : ℕ
late_limit = 2 ^ 106

-- a left side of the condition
abbrev pub side_limit : ℕ
side_limit = 2 ^ 107

-- a look, with what gathers up to `longest_said` and what an edge leaves up to `longest_left`
abbrev pub said_limit : ℕ
said_limit = 2 ^ 101

-- the edges of a frame of 8 bytes that are ten bits apart, and all that a frame may have up to the end of its CRC sequence, two bits apart
abbrev pub sparse_edges : ℕ
sparse_edges = 14

abbrev pub frame_edges : ℕ
frame_edges = 74
