-- Lines of reports, computed.
use Rattle.std.specs.Prelude.{◌≡◌, ℕ, Bool, true, false, ℤ, List, [], ◌∷◌, ◌++◌, codes, refl}
use Rattle.std.specs.Fmt.{digits}
use Rattle.wl_confine.specs.Counts.{Counts, no_counts}
use Rattle.wl_frame.specs.Grammar.{Content}
use Rattle.wl_node.specs.declared.setup.Passed.{Passed}
use Rattle.wl_node.specs.Extremes.{phase_totals}
use Rattle.wl_serial.specs.declared.outcome.NodeTotals.{NodeTotals}
use Rattle.wl_report.specs.Report.{node_report_line, frame_line, verdict_line, report_text}

-- a node to which nothing happened but errors and frames that it did not send, with these counters and phase errors
abbrev told : Counts → List (ℕ × ℤ) → ℕ → ℕ → NodeTotals
told counters phases errors unsent = record {
  samples = 0;
  frames = [];
  counters = counters;
  phases = phase_totals phases;
  hards = 0;
  errors = errors;
  unsent = unsent;
}

abbrev quiet : NodeTotals
quiet = told no_counts [] 0 0

abbrev passed : Bool → ℕ → Content → Passed
passed sent quantum frame = record { sent = sent; quantum = quantum; frame = frame }

abbrev content : ℕ → Bool → ℕ → List ℕ → Content
content id remote dlc bytes = record { extended = false; id = id; remote = remote; dlc = dlc; bytes = bytes }

-- an identifier and bytes with their leading zeros, a code above the number of bytes
data_frame : frame_line 0 (passed false 1069 (content 15 false 9 (0 ∷ 10 ∷ 240 ∷ 255 ∷ 16 ∷ 155 ∷ 1 ∷ 205 ∷ [])))
    ≡ codes "frame 0 received 1069 00f data 9 000af0ff109b01cd" ++ 10 ∷ []
unfolding digits
data_frame = refl

remote_frame : frame_line 3 (passed true 30 (content 700 true 15 [])) ≡ codes "frame 3 sent 30 2bc remote 15 -" ++ 10 ∷ []
unfolding digits
remote_frame = refl

-- an extended identifier has eight digits, a base one with the same number three
extended_frame : frame_line 1 (passed false 808 (record { extended = true; id = 700; remote = false; dlc = 0; bytes = [] }))
    ≡ codes "frame 1 received 808 000002bc data 0 -" ++ 10 ∷ []
unfolding digits
extended_frame = refl

-- sixteen errors of a lone transmitter and three that leave its counter alone
lone_transmitter : node_report_line 0 (told (record { tec = 128; rec = 0 }) [] 19 1)
    ≡ codes "node 0 tec 128 rec 0 mode passive errors 19 samples 0 hard 0 sync 0 least - greatest -" ++ 10 ∷ []
unfolding digits
lone_transmitter = refl

-- a node can be off the bus without an error
off_the_bus : node_report_line 1 (told (record { tec = 256; rec = 0 }) [] 0 0)
    ≡ codes "node 1 tec 256 rec 0 mode off errors 0 samples 0 hard 0 sync 0 least - greatest -" ++ 10 ∷ []
unfolding digits
off_the_bus = refl

clean : verdict_line (quiet ∷ quiet ∷ []) ≡ codes "verdict clean" ++ 10 ∷ []
clean = refl

no_node_is_clean : report_text [] ≡ codes "verdict clean" ++ 10 ∷ []
no_node_is_clean = refl

-- a frame that was not sent is no clean verdict
unsent : verdict_line (quiet ∷ told no_counts [] 0 2 ∷ []) ≡ codes "verdict faulty errors 0 unsent 2" ++ 10 ∷ []
unfolding digits
unsent = refl

-- sums past 64 bits
sums : verdict_line (told no_counts [] 18446744073709551615 1 ∷ told no_counts [] 18446744073709551615 0 ∷ [])
    ≡ codes "verdict faulty errors 36893488147419103230 unsent 1" ++ 10 ∷ []
unfolding digits
sums = refl
