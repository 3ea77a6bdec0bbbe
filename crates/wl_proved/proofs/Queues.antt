-- The frames of a queue with their stuff bits.
use Rattle.std.proofs.Common.{◌≡◌, ◌∙◌, sym, ap, subst, false, ℕ, ◌<◌, List, [], All, get_or, length, map, Some, option_map, arith}
use Rattle.std.specs.Prelude.{slice_get}
use Rattle.std.proofs.lemmas.List.{length-map}
use Rattle.std.proofs.lemmas.Option.{get_or_from_slice_get, slice_get-get_or, slice_get-map, slice_get_within}
use Rattle.wl_level.specs.declared.Level.{Level}
use Rattle.wl_frame.specs.Grammar.{Content, bits_of}
use Rattle.wl_frame.specs.Stuffing.{Stuffs}
use Rattle.wl_node.specs.declared.setup.Queued.{Queued}
use Rattle.wl_proved.proofs.Stuffings.{stuffing_of}

abbrev pub no_frame : Queued
no_frame = record { frame = record { extended = false; id = 0; remote = false; dlc = 0; bytes = [] }; ready = 0 }

-- a frame of a queue, by its place
pub queued_frame : (queue : List Queued) (n : ℕ) (c : Content) → slice_get (map (λ q. q.frame) queue) n ≡ Some c → (n < length queue) × ((get_or queue n no_frame).frame ≡ c)
queued_frame queue n c is =
    let within = slice_get_within (map (λ q. q.frame) queue) n c is in
    let long = length-map queue (λ q. q.frame) in
    let inside : n < length queue = omega arith in
    (inside, get_frame (slice_get-get_or queue n no_frame inside))
  where
    get_frame : slice_get queue n ≡ Some (get_or queue n no_frame) → (get_or queue n no_frame).frame ≡ c
    get_frame e =
        let mapped : slice_get (map (λ q. q.frame) queue) n ≡ Some (get_or queue n no_frame).frame =
        slice_get-map (λ q. q.frame) queue n ∙ ap (option_map (λ q. q.frame)) e in
        sym (get_or_from_slice_get (map (λ q. q.frame) queue) n (get_or queue n no_frame).frame c mapped)
        ∙ get_or_from_slice_get (map (λ q. q.frame) queue) n c c is

-- what holds of each frame of a queue
pub of_each : (P : Content → Type 0) (queue : List Queued) → All (λ q. P q.frame) queue → (n : ℕ) (c : Content) → slice_get (map (λ q. q.frame) queue) n ≡ Some c → P c
of_each P queue each n c is = (let here = queued_frame queue n c is in subst P here.1 (each n no_frame here.0))

-- a frame with its stuff bits
abbrev pub stuffed_of : Content → List Level
stuffed_of c = (stuffing_of (bits_of c)).0

pub stuffs_of : (c : Content) → Stuffs (stuffed_of c) (bits_of c)
stuffs_of c = (stuffing_of (bits_of c)).1
