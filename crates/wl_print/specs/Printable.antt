-- What a plan text has to keep to, so that it is read as it is printed: the bounds of its keys, and the keys of its version (this project's profile).
use Rattle.std.specs.Prelude.{◌≡◌, ℕ, ◌==◌, ◌&&◌, ◌||◌, not, nat_le, Bool, true, false, List, [], ◌∷◌, ◌++◌, codes, Option, Some, None, is_some, is_none, Ok}
use Rattle.std.specs.List.{list_all}
use Rattle.toml_parser.specs.Lexical.{is_non_eol}
use Rattle.toml.specs.Data.{Members}
use Rattle.toml.specs.Parse.{parse_document}
use Rattle.wl_plan.specs.declared.plan.Plan.{Plan}
use Rattle.wl_units.specs.declared.scale.TheConstants.{LONGEST_TICK, LONGEST_UNIT}
use Rattle.wl_setup.specs.declared.plan_text.PlanText.{PlanText}
use Rattle.wl_setup.specs.declared.plan_text.NodeText.{NodeText}
use Rattle.wl_setup.specs.declared.plan_text.RateText.{RateText}
use Rattle.wl_setup.specs.declared.plan_text.FrameText.{FrameText}
use Rattle.wl_setup.specs.declared.plan_text.DisturbanceText.{DisturbanceText}
use Rattle.wl_setup.specs.declared.plan_text.ClockText.{ClockText}
use Rattle.wl_setup.specs.declared.plan_text.ClockText.TheVariants as text
use Rattle.wl_setup.specs.declared.plan_text.QueueText.{QueueText}
use Rattle.wl_setup.specs.declared.plan_text.QueueText.TheVariants as queue
use Rattle.wl_setup.specs.declared.plan_text.SegmentsText.{SegmentsText}
use Rattle.wl_setup.specs.declared.plan_text.SegmentsText.TheVariants as segments
use Rattle.wl_setup.specs.Document.{plan_text_of}
use Rattle.wl_setup.specs.Kinds.{is_name, is_ppm}
use Rattle.wl_setup.specs.Limits.{largest_byte, largest_number, largest_small, largest_tolerance, version_of_rates}
use Rattle.wl_setup.specs.Names.{has_repeat, names_of}
use Rattle.wl_setup.specs.Plans.{plan_of_text}
use Rattle.wl_setup.specs.Reading.{text_answer}
use Rattle.wl_setup.specs.Version.{has_controllers, has_traffic, is_known_version}
use Rattle.wl_print.specs.Written.{is_one, plan_words}

abbrev pub is_number_of_key : ℕ → Bool
is_number_of_key n = nat_le n largest_number

abbrev pub is_small_number : ℕ → Bool
is_small_number n = nat_le n largest_small

-- a number from 1 on, if there is one, in a version that has the key
abbrev pub is_positive : Bool → Option ℕ → Bool
is_positive known None = true
is_positive known (Some n) = known && (nat_le 1 n && is_number_of_key n)

-- a number, if there is one, in a version that has the key
abbrev pub is_number_if : Bool → Option ℕ → Bool
is_number_if known None = true
is_number_if known (Some n) = known && is_number_of_key n

-- a length from 1 to the longest, if there is one, in a version that has the key
abbrev pub is_scale_if : Bool → ℕ → Option ℕ → Bool
is_scale_if known longest None = true
is_scale_if known longest (Some n) = known && (nat_le 1 n && nat_le n longest)

-- a deviation is beside a fraction only in a version that has both, at a node's own clock
abbrev pub is_clock_text : Bool → ClockText → Bool
is_clock_text known (text.Rate num den) = is_number_of_key num && is_number_of_key den
is_clock_text known (text.Ppm quantum ppm) = is_number_of_key quantum && is_ppm ppm
is_clock_text known (text.Fraction num den ppm) = known && (is_number_of_key num && (is_number_of_key den && is_ppm ppm))

abbrev pub is_rate : Bool → RateText → Bool
is_rate known r = is_number_of_key r.from && is_clock_text known r.clock

-- rates are there, as keys of the node or as tables, as the version has them
abbrev pub are_rates : ℕ → List RateText → Bool
are_rates version [] = false
are_rates version (r ∷ rs) =
    list_all (is_rate (has_controllers version && is_one (r ∷ rs))) (r ∷ rs)
    && ((is_one (r ∷ rs) && not (version == version_of_rates)) || not (version == 1))

abbrev pub are_segments : Bool → SegmentsText → Bool
are_segments known (segments.Each prop ps1 ps2) = is_number_of_key prop && (is_number_of_key ps1 && is_number_of_key ps2)
are_segments known (segments.Controller tseg1 tseg2) = known && (is_number_of_key tseg1 && is_number_of_key tseg2)

abbrev pub is_tolerance : Option ℕ → Bool
is_tolerance None = true
is_tolerance (Some ppm) = nat_le ppm largest_tolerance

-- a frame with a count comes again
abbrev pub is_frame_text : ℕ → FrameText → Bool
is_frame_text version f =
    is_small_number f.id && (is_small_number f.dlc && (list_all (λ b. nat_le b largest_byte) f.bytes && (is_number_of_key f.ready
    && (is_positive (has_traffic version) f.every && (is_positive (has_traffic version) f.count && ((is_none f.count || is_some f.every)
    && (is_number_if (has_controllers version) f.deadline && is_number_if (has_controllers version) f.jitter)))))))

-- a queue that isn't first in, first out
abbrev pub is_by_priority : QueueText → Bool
is_by_priority queue.Fifo = false
is_by_priority queue.Priority = true

abbrev pub is_node : ℕ → NodeText → Bool
is_node version n =
    is_name n.name && (is_number_of_key n.offset && (are_rates version n.rates && (are_segments (has_controllers version) n.segments
    && (is_number_of_key n.sjw && (is_small_number n.x && (is_number_of_key n.out_delay && (is_number_of_key n.in_delay && (is_tolerance n.tolerance
    && ((not n.listens || has_traffic version) && ((not (is_by_priority n.queue) || has_controllers version)
    && (is_number_if (has_controllers version) n.until && list_all (is_frame_text version) n.frame)))))))))))

-- a disturbance at a node has no place
abbrev pub is_spot : Bool → Option (List ℕ) → ℕ → Bool
is_spot known None x = is_small_number x
is_spot known (Some name) x = known && (is_name name && (x == 0))

abbrev pub is_disturbance : Bool → DisturbanceText → Bool
is_disturbance known d = is_spot known d.node d.x && (is_number_of_key d.from && is_number_of_key d.to)

abbrev pub has_nodes : List NodeText → Bool
has_nodes [] = false
has_nodes (n ∷ ns) = true

-- a plan text that is read as it is printed
abbrev pub is_printable : PlanText → Bool
is_printable p =
    is_known_version p.version && (is_number_of_key p.end && (is_number_of_key p.per && (has_nodes p.node && (list_all (is_node p.version) p.node
    && (list_all (is_disturbance (has_traffic p.version)) p.disturbance && (not (has_repeat (names_of p))
    && (is_scale_if (has_controllers p.version) LONGEST_TICK p.tick && is_scale_if (has_controllers p.version) LONGEST_UNIT p.unit)))))))

-- what is printed has a document, whose plan text is the one that was printed
abbrev pub PrintedIsRead : Type 0
PrintedIsRead = (p : PlanText) → is_printable p ≡ true → (top : Members) × (parse_document (plan_words p) ≡ Some top) × (plan_text_of top ≡ Ok p)

-- and so has what is printed after a line of a comment
abbrev pub PrintedAfterComment : Type 0
PrintedAfterComment =
    (p : PlanText) (comment : List ℕ) → is_printable p ≡ true → list_all is_non_eol comment ≡ true
    → (top : Members) × (parse_document (codes "#" ++ (comment ++ (codes "\n" ++ plan_words p))) ≡ Some top) × (plan_text_of top ≡ Ok p)

-- a text is read as this plan text, if that can be printed
abbrev pub PrintsBack : PlanText → List ℕ → Type 0
PrintsBack p text = is_printable p ≡ true → text_answer text ≡ Ok p

-- A plan text that was read, and whose plan can be run, is read again as it is printed: in its own version, and in version 4.
abbrev pub ReadIsPrintable : Type 0
ReadIsPrintable =
    (text : List ℕ) (p : PlanText) (plan : Plan) → text_answer text ≡ Ok p → plan_of_text p ≡ Ok plan
    → (is_printable p ≡ true) × (is_printable (record p { version = 4 }) ≡ true)
