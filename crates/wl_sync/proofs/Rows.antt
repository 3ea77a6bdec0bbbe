-- Worked examples of the bit clock, by computation.
use Rattle.std.proofs.Common.{◌≡◌, ℕ, List, ◌++◌, Bool, true, false, Option, Some, None, refl, replicate, take}
use Rattle.std.specs.Prelude.{◌-◌, pos, negsuc, nat_lt, if◌then◌else◌}
use Rattle.wl_level.specs.declared.Level.{Level}
use Rattle.wl_level.specs.declared.Level.TheVariants.{Dominant, Recessive}
use Rattle.wl_segments.specs.declared.SyncRules.TheVariants.{After, Book}
use Rattle.wl_segments.specs.Lengths.{Lengths}
use Rattle.wl_sync.specs.declared.Sync.{Sync}
use Rattle.wl_sync.specs.declared.Sync.TheVariants.{Hard, Error}
use Rattle.wl_sync.specs.declared.Beat.{Beat}
use Rattle.wl_sync.specs.declared.Beat.TheVariants.{Plain, Sample, Start}
use Rattle.wl_sync.specs.Edges.{Seen, phase_error}
use Rattle.wl_sync.specs.Bits.{beat_of, sync_of}
use Rattle.wl_sync.specs.Running.{Running}
use Rattle.wl_sync.specs.Skips.{quanta_before_sample, sampled_bits}

abbrev l : ℕ → Lengths
l jump = record { prop = 3; ps1 = 3; ps2 = 3; sjw = jump; sync = After }

abbrev seen : Bool → Level → Seen
seen driving level = record { level = level; idle = false; awaits = false; integrates = false; driving = driving }

-- recessive, and dominant from a quantum on
abbrev line : Bool → ℕ → ℕ → List Seen
line driving from more = replicate from (seen driving Recessive) ++ replicate more (seen driving Dominant)

abbrev Answer : Type 0
Answer = Beat × Option Sync

-- the answer at quantum k of a line
abbrev at : ℕ → Bool → ℕ → ℕ → Answer
at jump driving from k =
    let x = seen driving (if nat_lt k from then Recessive else Dominant) in
    let before = take k (line driving from 40) in
    (beat_of (l jump) before x, sync_of (l jump) before x)

first : at 2 false 5 0 ≡ (Start, None)
first = refl

plain : at 2 false 5 1 ≡ (Plain, None)
plain = refl

-- dominant from 5
five : at 2 false 5 5 ≡ (Plain, Some (Error (pos 5)))
five = refl

five_sample : at 2 false 5 9 ≡ (Sample Dominant, None)
five_sample = refl

five_start : at 2 false 5 12 ≡ (Start, None)
five_start = refl

-- from 7
seven : at 2 false 7 7 ≡ (Sample Dominant, None)
seven = refl

seven_start : at 2 false 7 10 ≡ (Start, None)
seven_start = refl

-- from 8
eight : at 2 false 8 8 ≡ (Start, Some (Error (negsuc 1)))
eight = refl

eight_sample : at 2 false 8 15 ≡ (Sample Dominant, None)
eight_sample = refl

-- from 9
nine : at 2 false 9 9 ≡ (Start, Some (Error (negsuc 0)))
nine = refl

nine_sample : at 2 false 9 16 ≡ (Sample Dominant, None)
nine_sample = refl

-- a jump of 1, from 8
short : at 1 false 8 8 ≡ (Plain, Some (Error (negsuc 1)))
short = refl

short_start : at 1 false 8 9 ≡ (Start, None)
short_start = refl

short_sample : at 1 false 8 16 ≡ (Sample Dominant, None)
short_sample = refl

-- driving dominant, from 1
driven : at 2 true 1 1 ≡ (Plain, None)
driven = refl

driven_sample : at 2 true 1 7 ≡ (Sample Dominant, None)
driven_sample = refl

-- Where an edge lies in the quantum before the one that finds it: what quantum k of a line answers.
abbrev answered : ℕ → List Seen → ℕ → Seen → Answer
answered jump before k x =
    let m = record (l jump) { sync = Book } in
    (beat_of m (take k before) x, sync_of m (take k before) x)

abbrev in_sync_seg : ℕ → Bool → ℕ → ℕ → Answer
in_sync_seg jump driving from k =
    answered jump (line driving from 40) k (seen driving (if nat_lt k from then Recessive else Dominant))

-- no edge: as before
nothing_first : in_sync_seg 2 false 40 0 ≡ (Start, None)
nothing_first = refl

nothing_sample : in_sync_seg 2 false 40 7 ≡ (Sample Recessive, None)
nothing_sample = refl

nothing_next : in_sync_seg 2 false 40 10 ≡ (Start, None)
nothing_next = refl

-- dominant from quantum 0: the edge lies in the quantum before, so this one is place 1
zero_book : in_sync_seg 2 false 0 0 ≡ (Start, Some (Error (negsuc 0)))
zero_book = refl

zero_sample : in_sync_seg 2 false 0 6 ≡ (Sample Dominant, None)
zero_sample = refl

zero_next : in_sync_seg 2 false 0 9 ≡ (Start, None)
zero_next = refl

-- from 1: within SYNC_SEG
one_book : in_sync_seg 2 false 1 1 ≡ (Plain, Some (Error (pos 0)))
one_book = refl

one_sample : in_sync_seg 2 false 1 7 ≡ (Sample Dominant, None)
one_sample = refl

one_next : in_sync_seg 2 false 1 10 ≡ (Start, None)
one_next = refl

-- from 2: late by 1
two_book : in_sync_seg 2 false 2 2 ≡ (Plain, Some (Error (pos 1)))
two_book = refl

two_sample : in_sync_seg 2 false 2 8 ≡ (Sample Dominant, None)
two_sample = refl

two_next : in_sync_seg 2 false 2 11 ≡ (Start, None)
two_next = refl

-- from 6: late by 5, and longer by the jump width
six_book : in_sync_seg 2 false 6 6 ≡ (Plain, Some (Error (pos 5)))
six_book = refl

six_sample : in_sync_seg 2 false 6 9 ≡ (Sample Dominant, None)
six_sample = refl

-- from 7, the sample's quantum: late by 6, so the sample moves by the jump width
seven_book : in_sync_seg 2 false 7 7 ≡ (Plain, Some (Error (pos 6)))
seven_book = refl

seven_later : in_sync_seg 2 false 7 9 ≡ (Sample Dominant, None)
seven_later = refl

seven_next : in_sync_seg 2 false 7 12 ≡ (Start, None)
seven_next = refl

-- but where the node drives dominant
seven_driven : in_sync_seg 2 true 7 7 ≡ (Sample Dominant, None)
seven_driven = refl

-- from 8: early by 3, one more than the jump width, so the bit ends before this very quantum
eight_book : in_sync_seg 2 false 8 8 ≡ (Start, Some (Error (negsuc 2)))
eight_book = refl

eight_sample_book : in_sync_seg 2 false 8 15 ≡ (Sample Dominant, None)
eight_sample_book = refl

eight_next : in_sync_seg 2 false 8 18 ≡ (Start, None)
eight_next = refl

-- from 9: early by 2, so SYNC_SEG is quantum 8
nine_book : in_sync_seg 2 false 9 9 ≡ (Start, Some (Error (negsuc 1)))
nine_book = refl

nine_sample_book : in_sync_seg 2 false 9 15 ≡ (Sample Dominant, None)
nine_sample_book = refl

nine_next : in_sync_seg 2 false 9 18 ≡ (Start, None)
nine_next = refl

-- from 10, at the border: early by 1, in the last quantum of the bit before
ten_book : in_sync_seg 2 false 10 10 ≡ (Start, Some (Error (negsuc 0)))
ten_book = refl

ten_sample : in_sync_seg 2 false 10 16 ≡ (Sample Dominant, None)
ten_sample = refl

-- a jump of 1, from 8 and from 9
short_book : in_sync_seg 1 false 8 8 ≡ (Plain, Some (Error (negsuc 2)))
short_book = refl

short_next : in_sync_seg 1 false 8 9 ≡ (Start, None)
short_next = refl

short_sample_book : in_sync_seg 1 false 8 16 ≡ (Sample Dominant, None)
short_sample_book = refl

shorter_book : in_sync_seg 1 false 9 9 ≡ (Start, Some (Error (negsuc 1)))
shorter_book = refl

shorter_sample : in_sync_seg 1 false 9 16 ≡ (Sample Dominant, None)
shorter_sample = refl

-- driving dominant: an edge without error counts, a late one doesn't
driven_book : in_sync_seg 2 true 1 1 ≡ (Plain, Some (Error (pos 0)))
driven_book = refl

driven_late : in_sync_seg 2 true 2 2 ≡ (Plain, None)
driven_late = refl

-- a node that awaits a start of frame synchronises hard in any quantum, the sample's too
abbrev of_idle : Level → Seen
of_idle level = record { level = level; idle = true; awaits = true; integrates = false; driving = false }

abbrev idle_at : ℕ → ℕ → Answer
idle_at from k = answered 2 (replicate from (of_idle Recessive) ++ replicate 40 (of_idle Dominant)) k (of_idle (if nat_lt k from then Recessive else Dominant))

idle_one : idle_at 1 1 ≡ (Start, Some Hard)
idle_one = refl

idle_one_sample : idle_at 1 7 ≡ (Sample Dominant, None)
idle_one_sample = refl

idle_five : idle_at 5 5 ≡ (Start, Some Hard)
idle_five = refl

idle_five_sample : idle_at 5 11 ≡ (Sample Dominant, None)
idle_five_sample = refl

idle_seven : idle_at 7 7 ≡ (Start, Some Hard)
idle_seven = refl

idle_seven_sample : idle_at 7 13 ≡ (Sample Dominant, None)
idle_seven_sample = refl

idle_eight : idle_at 8 8 ≡ (Start, Some Hard)
idle_eight = refl

idle_ten : idle_at 10 10 ≡ (Start, Some Hard)
idle_ten = refl

idle_ten_sample : idle_at 10 16 ≡ (Sample Dominant, None)
idle_ten_sample = refl

-- also one that isn't idle, up to its own start of frame, of which the edge has an error of 0
abbrev of_decided : Bool → Level → Seen
of_decided driving level = record { level = level; idle = false; awaits = true; integrates = false; driving = driving }

abbrev decided_at : Bool → ℕ → ℕ → Answer
decided_at driving from k = answered 2 (replicate 40 (of_decided driving Recessive)) k (of_decided driving (if nat_lt k from then Recessive else Dominant))

decided_seven : decided_at false 7 7 ≡ (Start, Some Hard)
decided_seven = refl

begun_one : decided_at true 1 1 ≡ (Plain, Some (Error (pos 0)))
begun_one = refl

begun_five : decided_at true 5 5 ≡ (Plain, None)
begun_five = refl

-- dominant at quantum 2, which makes the bit one quantum longer, and again from 11, at the border: that edge lies in the bit that has synchronised
abbrev twice : ℕ → ℕ → ℕ → Level → Answer
twice first second k level =
    answered 2 (((line false first 1 ++ replicate (second - first - 1) (seen false Recessive)) ++ replicate 40 (seen false Dominant))) k (seen false level)

twice_first : twice 2 11 2 Dominant ≡ (Plain, Some (Error (pos 1)))
twice_first = refl

twice_sample : twice 2 11 8 Recessive ≡ (Sample Recessive, None)
twice_sample = refl

twice_border : twice 2 11 11 Dominant ≡ (Start, None)
twice_border = refl

twice_next : twice 2 11 18 Dominant ≡ (Sample Dominant, None)
twice_next = refl

-- and at 9, which begins a bit, and again from 11, in the bit that began so
twice_begun : twice 9 11 9 Dominant ≡ (Start, Some (Error (negsuc 1)))
twice_begun = refl

twice_in_it : twice 9 11 11 Dominant ≡ (Plain, None)
twice_in_it = refl

-- and at 8, which ends the bit, and again from 10, in the next, which has not synchronised
twice_ended : twice 8 10 8 Dominant ≡ (Start, Some (Error (negsuc 2)))
twice_ended = refl

twice_late : twice 8 10 10 Dominant ≡ (Plain, Some (Error (pos 1)))
twice_late = refl

-- A node that integrates synchronises hard by each edge, and one that awaits a start of frame else by the first in a bit: dominant at quantum 2, recessive at 3 and
-- 4, dominant from 5.
abbrev of_waiting : Bool → Level → Seen
of_waiting integrates level = record { level = level; idle = false; awaits = true; integrates = integrates; driving = false }

abbrev pulsed_level : ℕ → Level
pulsed_level k = if nat_lt k 2 then Recessive else if nat_lt k 3 then Dominant else if nat_lt k 5 then Recessive else Dominant

abbrev pulsed_line : Bool → List Seen
pulsed_line integrates =
    ((replicate 2 (of_waiting integrates Recessive) ++ replicate 1 (of_waiting integrates Dominant)) ++ replicate 2 (of_waiting integrates Recessive))
    ++ replicate 40 (of_waiting integrates Dominant)

abbrev pulsed : Bool → ℕ → Answer
pulsed integrates k = answered 2 (pulsed_line integrates) k (of_waiting integrates (pulsed_level k))

pulsed_first : pulsed true 2 ≡ (Start, Some Hard)
pulsed_first = refl

pulsed_again : pulsed true 5 ≡ (Start, Some Hard)
pulsed_again = refl

pulsed_sample : pulsed true 11 ≡ (Sample Dominant, None)
pulsed_sample = refl

pulsed_once : pulsed false 5 ≡ (Plain, None)
pulsed_once = refl

pulsed_once_sample : pulsed false 8 ≡ (Sample Dominant, None)
pulsed_once_sample = refl

-- a bit of 385 quanta has phase errors from -127 to 256
abbrev longest : Lengths
longest = record { prop = 128; ps1 = 128; ps2 = 128; sjw = 128; sync = After }

latest_error : phase_error longest 256 ≡ pos 256
latest_error = refl

earliest_error : phase_error longest 258 ≡ negsuc 126
earliest_error = refl

-- what a clock keeps, three quanta into a bit and after an edge that made it two longer
abbrev moved : ℕ → Running
moved longer = record { lengths = l 2; quanta = 3; longer = longer; shorter = 0; synced = true; level = Dominant; sample = Recessive }

-- after the next sample it is at place 8 or, longer, 10; a bit later at 8
sampled_here : (sampled_bits (moved 0) Dominant 0).quanta ≡ 8
sampled_here = refl

sampled_longer : (sampled_bits (moved 2) Dominant 0).quanta ≡ 10
sampled_longer = refl

sampled_later : (sampled_bits (moved 2) Dominant 1).quanta ≡ 8
sampled_later = refl

-- four quanta before that sample, or six; and nine from there to the next
way_here : quanta_before_sample (moved 0) ≡ 4
way_here = refl

way_longer : quanta_before_sample (moved 2) ≡ 6
way_longer = refl

way_later : quanta_before_sample (sampled_bits (moved 2) Dominant 0) ≡ 9
way_later = refl
