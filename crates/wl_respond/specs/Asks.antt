-- What a plan's text asks of a message: its period, by how much it is late, and within which time it has to be sent (this project's profile).
use Rattle.std.specs.Prelude.{◌≡◌, ℕ, ◌+◌, ◌-◌, ◌*◌, ◌/◌, ◌==◌, ◌&&◌, not, max, min, Bool, true, false, List, [], ◌∷◌, length, slice_get, slice_index_or, if◌then◌else◌, Option, Some, None, unwrap_or}
use Rattle.std.specs.Int.{div_ceil}
use Rattle.std.specs.Option.{option_map_or}
use Rattle.wl_frame.specs.Grammar.{Content}
use Rattle.wl_longest.specs.Longest.{longest_frame}
use Rattle.wl_setup.specs.declared.plan_text.FrameText.{FrameText}
use Rattle.wl_setup.specs.declared.plan_text.PlanText.{PlanText}
use Rattle.wl_bound.specs.Families.{Bus}
use Rattle.wl_respond.specs.declared.asked.Asked.{Asked}
use Rattle.wl_respond.specs.declared.message.MessageWait.{MessageWait}
use Rattle.wl_respond.specs.Tests.{no_message, shortest_at}

-- a message that comes once
abbrev pub once : ℕ
once = 18446744073709551615

abbrev pub same_truth : Bool → Bool → Bool
same_truth true other = other
same_truth false other = not other

-- a frame of the text has the identifier of a message, base or extended, data or remote
abbrev pub is_frame_of : Content → FrameText → Bool
is_frame_of c f = (f.id == c.id) && (same_truth f.extended c.extended && same_truth f.remote c.remote)

-- a frame has the format, identifier, kind and data length code of a frame of the text
abbrev pub IsOfText : Content → FrameText → Type 0
IsOfText c f = (c.extended ≡ f.extended) × (c.id ≡ f.id) × (c.remote ≡ f.remote) × (c.dlc ≡ f.dlc)

-- the least period of its frames, the greatest jitter, and the least deadline
abbrev pub every_in : Content → List FrameText → ℕ
every_in c [] = once
every_in c (f ∷ later) = if is_frame_of c f then min (unwrap_or f.every once) (every_in c later) else every_in c later

abbrev pub jitter_in : Content → List FrameText → ℕ
jitter_in c [] = 0
jitter_in c (f ∷ later) = if is_frame_of c f then max (unwrap_or f.jitter 0) (jitter_in c later) else jitter_in c later

abbrev pub sooner : Option ℕ → Option ℕ → Option ℕ
sooner None other = other
sooner (Some n) None = Some n
sooner (Some n) (Some m) = Some (min n m)

abbrev pub deadline_in : Content → List FrameText → Option ℕ
deadline_in c [] = None
deadline_in c (f ∷ later) = if is_frame_of c f then sooner f.deadline (deadline_in c later) else deadline_in c later

-- The most bits of its frames up to the end of the CRC sequence, with stuff bits, whatever their data are (Bosch CAN 2.0 part B, sections 3.2.1 and 6).
abbrev pub most_bits_in : Content → List FrameText → ℕ
most_bits_in c [] = 0
most_bits_in c (f ∷ later) = if is_frame_of c f then max (longest_frame f.extended f.id f.remote f.dlc) (most_bits_in c later) else most_bits_in c later

abbrev pub frames_at : PlanText → ℕ → List FrameText
frames_at text i = option_map_or (λ node. node.frame) (slice_get text.node i) []

-- a time in ticks as quanta of a node, rounded up
abbrev pub quanta_over : Bus → (i ticks : ℕ) → ℕ
quanta_over b i ticks = div_ceil (ticks * 1000000) (max 1 (shortest_at b i))

-- Two frames that should be a period apart are so, but for what the first is late (Davis, Burns, Bril, Lukkien 2007, section 2). A message that comes once has no second frame.
abbrev pub least_apart : Bus → (i every jitter : ℕ) → ℕ
least_apart b i every jitter = if every == once then once else every - quanta_over b i jitter

-- a message as the text has it: with the bits that its own frames have, or that they may have with any data
module _ (b : Bus) (any : Bool) where
  abbrev pub asked_by : MessageWait → List FrameText → Asked
  asked_by x frames = record {
    message = record x {
      bits = if any then max x.bits (most_bits_in x.frame frames) else x.bits;
      every = least_apart b x.node (min x.every (every_in x.frame frames)) (jitter_in x.frame frames);
    };
    every = min x.every (every_in x.frame frames);
    jitter = jitter_in x.frame frames;
    deadline = deadline_in x.frame frames;
  }

  abbrev pub asked_of : PlanText → MessageWait → Asked
  asked_of text x = asked_by x (frames_at text x.node)

abbrev pub message_in : Asked → MessageWait
message_in asked = asked.message

abbrev pub no_asked : Asked
no_asked = record { message = no_message; every = 0; jitter = 0; deadline = None }

abbrev pub asked_at : List Asked → ℕ → Asked
asked_at asked e = slice_index_or asked e no_asked

-- nothing is left of the period of message e
abbrev pub has_no_period : List Asked → ℕ → Bool
has_no_period asked e = (asked_at asked e).message.every == 0
