-- A plan with settings is read as it is printed, if the plan was.
use Rattle.std.proofs.Common.{◌≡◌, ◌≤◌, ◌∙◌, refl, sym, ap, subst, ℕ, ◌+◌, ◌*◌, ◌/◌, ◌==◌, nat_le, nat_lt, Bool, true, false, not, ◌&&◌, ◌||◌, if◌then◌else◌, List, [], ◌∷◌, map, All, arith, Option, Some, None, is_some, is_none, option_and_then, Result, Ok, Err, is_ok}
use Rattle.std.proofs.lemmas.Bool.{and_parts, le-leb, false≢true}
use Rattle.std.proofs.lemmas.List.Elements.{All-tail}
use Rattle.std.proofs.lemmas.Option.{none-some}
use Rattle.std.specs.List.{enumerate_from, list_all}
use Rattle.wl_units.specs.declared.scale.TheConstants.{LONGEST_TICK, LONGEST_UNIT}
use Rattle.wl_units.specs.Ratios.{largest_whole, whole}
use Rattle.toml.specs.Data.{Members}
use Rattle.wl_plan.specs.declared.plan.Plan.{Plan}
use Rattle.wl_setup.specs.declared.fault.SetupFault.{SetupFault}
use Rattle.wl_setup.specs.declared.plan_text.ClockText.{ClockText}
use Rattle.wl_setup.specs.declared.plan_text.ClockText.TheVariants.{Rate, Ppm, Fraction}
use Rattle.wl_setup.specs.declared.plan_text.FrameText.{FrameText}
use Rattle.wl_setup.specs.declared.plan_text.NodeText.{NodeText}
use Rattle.wl_setup.specs.declared.plan_text.PlanText.{PlanText}
use Rattle.wl_setup.specs.declared.plan_text.RateText.{RateText}
use Rattle.wl_setup.specs.declared.plan_text.SegmentsText.{SegmentsText}
use Rattle.wl_setup.specs.declared.plan_text.SegmentsText.TheVariants.{Each, Controller}
use Rattle.wl_setup.specs.declared.limits.TheConstants.{LARGEST_NUMBER}
use Rattle.wl_setup.specs.Kinds.{is_name, is_ppm}
use Rattle.wl_setup.specs.Limits.{largest_byte, largest_number, largest_number-is}
use Rattle.wl_setup.specs.Names.{has_repeat, names_of}
use Rattle.wl_setup.specs.Plans.{plan_of_text}
use Rattle.wl_setup.specs.Reading.{text_answer}
use Rattle.wl_setup.specs.Version.{has_controllers, has_traffic, is_known_version}
use Rattle.wl_print.specs.Printable.{PrintsBack, ReadIsPrintable, are_rates, are_segments, has_nodes, is_by_priority, is_clock_text, is_disturbance, is_frame_text, is_node, is_number_if, is_number_of_key, is_positive, is_printable, is_rate, is_scale_if, is_small_number, is_tolerance}
use Rattle.wl_print.specs.Written.{is_one}
use Rattle.wl_apply.specs.declared.chosen.Chosen.{Chosen}
use Rattle.wl_apply.specs.declared.fault.ApplyFault.{ApplyFault}
use Rattle.wl_apply.specs.declared.fault.ApplyFault.TheVariants.{Tick}
use Rattle.wl_apply.specs.declared.labels.Label.{Label}
use Rattle.wl_apply.specs.Answers.{each_made, if_made}
use Rattle.wl_apply.specs.Applied.{AreNumbersOfKeys, IsWritable, IsReadBack, applied, if_runs, is_tick_said, if_made_runs, named_all, node_at, set_plan}
use Rattle.wl_apply.specs.Labels.{first_fitting, first_unnamed, fits_node, labels_of}
use Rattle.wl_apply.specs.Moves.{frame_in_time, from_one, moved, moved_every, moved_frame, ratio_of, unless_late, with_times}
use Rattle.wl_apply.specs.Nodes.{by_clocks, by_old_clock, clock_for, deviating_clock, has_segments, node_by, node_made, set_node, only_clock, nominal_quantum}

-- ---- values that are the same, and answers that aren't

abbrev value_or : {A : Type 0} → A → Option A → A
value_or d (Some x) = x
value_or d None = d

same_some : {A : Type 0} (x y : A) → Some x ≡ Some y → x ≡ y
same_some x y h = ap (value_or x) h

abbrev made_or : {A : Type 0} → A → Result A ApplyFault → A
made_or d (Ok x) = x
made_or d (Err e) = d

pub same_ok : {A : Type 0} (x y : A) → ◌≡◌ {A = Result A ApplyFault} (Ok x) (Ok y) → x ≡ y
same_ok x y h = ap (made_or x) h

pub not_made : {A : Type 0} (x : A) (e : ApplyFault) → Err e ≡ Ok x → ⊥
not_made x e h = false≢true (ap is_ok h)

kept_if : {A : Type 0} (c : Bool) (x y : A) → (if c then Some x else None) ≡ Some y → (c ≡ true) × (x ≡ y)
kept_if true x y h = (refl, same_some x y h)
kept_if false x y h = absurd (none-some y h)

asked_if : {A : Type 0} (c : Bool) (o : Option A) (y : A) → (if c then o else None) ≡ Some y → (c ≡ true) × (o ≡ Some y)
asked_if true o y h = (refl, h)
asked_if false o y h = absurd (none-some y h)

and_true : (b : Bool) → (b && true) ≡ b
and_true true = refl
and_true false = refl

-- several that are true
abbrev and_all : List Bool → Bool
and_all [] = true
and_all (b ∷ []) = b
and_all (b ∷ c ∷ bs) = b && and_all (c ∷ bs)

abbrev EachTrue : List Bool → Type 0
EachTrue [] = Unit {0}
EachTrue (b ∷ []) = b ≡ true
EachTrue (b ∷ c ∷ bs) = (b ≡ true) × EachTrue (c ∷ bs)

parted : (bs : List Bool) → and_all bs ≡ true → EachTrue bs
parted [] h = tt
parted (b ∷ []) h = h
parted (b ∷ c ∷ bs) h = let (here, later) = and_parts b (and_all (c ∷ bs)) h in (here, parted (c ∷ bs) later)

joined : (bs : List Bool) → EachTrue bs → and_all bs ≡ true
joined [] h = refl
joined (b ∷ []) h = h
joined (b ∷ c ∷ bs) h = rw h.0 (joined (c ∷ bs) h.1)

-- ---- times

whole_fits : (num den m : ℕ) → whole num den ≡ Some m → is_number_of_key m ≡ true
whole_fits num den m h =
    let (holds, is) = kept_if _ (num / den) m h in
    let fits = (and_parts _ (nat_le (num / den) largest_whole) holds).1 in
    ap (λ n. nat_le n largest_number) (sym is) ∙ ap (nat_le (num / den)) largest_number-is ∙ fits

moved_fits : (ratio : Option (ℕ × ℕ)) (n m : ℕ) → moved ratio n ≡ Some m → is_number_of_key m ≡ true
moved_fits None n m h = absurd (none-some m h)
moved_fits (Some r) n m h = whole_fits (n * r.0) r.1 m h

one_fits : (known : Bool) (n : ℕ) (every : Option ℕ) → is_number_of_key n ≡ true → known ≡ true → from_one n ≡ Some every
    → (is_positive known every ≡ true) × (is_some every ≡ true)
one_fits known n every fits is h =
    let (some, same) = kept_if (nat_lt 0 n) (Some n) every h in
    subst (λ e. (is_positive known e ≡ true) × (is_some e ≡ true)) same (rw (is, some, fits) refl, refl)

every_fits : (ratio : Option (ℕ × ℕ)) (known : Bool) (old new : Option ℕ) → is_positive known old ≡ true → moved_every ratio old ≡ Some new
    → (is_positive known new ≡ true) × (is_some new ≡ is_some old)
every_fits ratio known None new fits h = subst (λ e. (is_positive known e ≡ true) × (is_some e ≡ false)) (same_some None new h) (refl, refl)
every_fits ratio known (Some n) new fits h = by_moved (moved ratio n) refl h
  where
    by_moved : (o : Option ℕ) → moved ratio n ≡ o → option_and_then from_one o ≡ Some new → (is_positive known new ≡ true) × (is_some new ≡ true)
    by_moved None is h = absurd (none-some new h)
    by_moved (Some m) is h = one_fits known m new (moved_fits ratio n m is) (and_parts known _ fits).0 h

abbrev frame_tests : ℕ → FrameText → List Bool
frame_tests version f =
    is_small_number f.id ∷ is_small_number f.dlc ∷ list_all (λ b. nat_le b largest_byte) f.bytes ∷ is_number_of_key f.ready ∷ is_positive (has_traffic version) f.every
    ∷ is_positive (has_traffic version) f.count ∷ (is_none f.count || is_some f.every) ∷ is_number_if (has_controllers version) f.deadline
    ∷ is_number_if (has_controllers version) f.jitter ∷ []

frame_fits : (version : ℕ) (ratio : Option (ℕ × ℕ)) (f g : FrameText) → is_frame_text version f ≡ true → moved_frame ratio f ≡ Some g
    → is_frame_text version g ≡ true
frame_fits version ratio f g fits h = by_times (moved ratio f.ready) (moved_every ratio f.every) refl refl h
  where
    by_times : (r : Option ℕ) (e : Option (Option ℕ)) → moved ratio f.ready ≡ r → moved_every ratio f.every ≡ e → with_times f r e ≡ Some g
        → is_frame_text version g ≡ true
    by_times None e is_ready is_every h = absurd (none-some g h)
    by_times (Some ready) None is_ready is_every h = absurd (none-some g h)
    by_times (Some ready) (Some every) is_ready is_every h =
        let (id, (dlc, (bytes, (old_ready, (old_every, (count, (again, (deadline, jitter)))))))) = parted (frame_tests version f) fits in
        let (positive, same) = every_fits ratio (has_traffic version) f.every every old_every is_every in
        subst (λ x. is_frame_text version x ≡ true) (same_some (record f { ready = ready; every = every }) g h)
        (joined (frame_tests version (record f { ready = ready; every = every }))
        (id, (dlc, (bytes, (moved_fits ratio f.ready ready is_ready, (positive, (count, (ap (λ b. is_none f.count || b) same ∙ again, (deadline, jitter)))))))))

late_fits : (version : ℕ) (ratio : Option (ℕ × ℕ)) (i n : ℕ) (f g : FrameText) → is_frame_text version f ≡ true → frame_in_time ratio i (n, f) ≡ Ok g
    → is_frame_text version g ≡ true
late_fits version ratio i n f g fits h = by_frame (moved_frame ratio f) refl h
  where
    by_frame : (o : Option FrameText) → moved_frame ratio f ≡ o → unless_late i n o ≡ Ok g → is_frame_text version g ≡ true
    by_frame None is h = absurd (not_made g _ h)
    by_frame (Some made) is h = subst (λ x. is_frame_text version x ≡ true) (same_ok made g h) (frame_fits version ratio f made fits is)

-- ---- lists

module _ {T : Type 0} (make : ℕ × T → Result T ApplyFault) where
  each_fits : (test : T → Bool) → ((n : ℕ) (x y : T) → test x ≡ true → make (n, x) ≡ Ok y → test y ≡ true) → (n : ℕ) (xs ys : List T)
      → list_all test xs ≡ true → each_made make (enumerate_from n xs) ≡ Ok ys → list_all test ys ≡ true
  each_fits test fits n [] ys all h = subst (λ l. list_all test l ≡ true) (same_ok [] ys h) refl
  each_fits test fits n (x ∷ xs) ys all h =
      let (here, later) = and_parts (test x) (list_all test xs) all in
      by_first (λ y is. fits n x y here is) (λ l is. each_fits test fits (n + 1) xs l later is) (make (n, x)) refl h
    where
      by_rest : (y : T) (r : Result (List T) ApplyFault) → test y ≡ true → ((l : List T) → r ≡ Ok l → list_all test l ≡ true) → if_made r (λ l. Ok (y ∷ l)) ≡ Ok ys
          → list_all test ys ≡ true
      by_rest y (Err e) here more h = absurd (not_made ys e h)
      by_rest y (Ok l) here more h = subst (λ l. list_all test l ≡ true) (same_ok (y ∷ l) ys h) (rw (here, more l refl) refl)

      by_first : ((y : T) → make (n, x) ≡ Ok y → test y ≡ true) → ((l : List T) → each_made make (enumerate_from (n + 1) xs) ≡ Ok l → list_all test l ≡ true)
          → (r : Result T ApplyFault) → make (n, x) ≡ r → if_made r (λ y. if_made (each_made make (enumerate_from (n + 1) xs)) (λ l. Ok (y ∷ l))) ≡ Ok ys
          → list_all test ys ≡ true
      by_first here more (Err e) is h = absurd (not_made ys e h)
      by_first here more (Ok y) is h = by_rest y (each_made make (enumerate_from (n + 1) xs)) (here y is) more h

  each_same : {A : Type 0} (part : T → A) → ((n : ℕ) (x y : T) → make (n, x) ≡ Ok y → part y ≡ part x) → (n : ℕ) (xs ys : List T)
      → each_made make (enumerate_from n xs) ≡ Ok ys → map part ys ≡ map part xs
  each_same part same n [] ys h = ap (map part) (sym (same_ok [] ys h))
  each_same part same n (x ∷ xs) ys h = by_first (λ y is. same n x y is) (λ l is. each_same part same (n + 1) xs l is) (make (n, x)) refl h
    where
      by_rest : (y : T) (r : Result (List T) ApplyFault) → part y ≡ part x → ((l : List T) → r ≡ Ok l → map part l ≡ map part xs) → if_made r (λ l. Ok (y ∷ l)) ≡ Ok ys
          → map part ys ≡ map part (x ∷ xs)
      by_rest y (Err e) here more h = absurd (not_made ys e h)
      by_rest y (Ok l) here more h =
          ap (map part) (sym (same_ok (y ∷ l) ys h)) ∙ (ap (λ a. a ∷ map part l) here ∙ ap (λ l. part x ∷ l) (more l refl))

      by_first : ((y : T) → make (n, x) ≡ Ok y → part y ≡ part x) → ((l : List T) → each_made make (enumerate_from (n + 1) xs) ≡ Ok l → map part l ≡ map part xs)
          → (r : Result T ApplyFault) → make (n, x) ≡ r → if_made r (λ y. if_made (each_made make (enumerate_from (n + 1) xs)) (λ l. Ok (y ∷ l))) ≡ Ok ys
          → map part ys ≡ map part (x ∷ xs)
      by_first here more (Err e) is h = absurd (not_made ys e h)
      by_first here more (Ok y) is h = by_rest y (each_made make (enumerate_from (n + 1) xs)) (here y is) more h

-- ---- a node

number_fits : (n : ℕ) → n ≤ LARGEST_NUMBER → is_number_of_key n ≡ true
number_fits n h = ap (nat_le n) largest_number-is ∙ le-leb n LARGEST_NUMBER h

segments_fit : (wide : Bool) (s : SegmentsText) → AreNumbersOfKeys s → has_segments wide s ≡ true → are_segments wide s ≡ true
segments_fit wide (Each prop ps1 ps2) keys h = rw (number_fits prop keys.0, number_fits ps1 keys.1, number_fits ps2 keys.2) refl
segments_fit wide (Controller tseg1 tseg2) keys h = rw (h, number_fits tseg1 keys.0, number_fits tseg2 keys.1) refl

module _ (wide : Bool) (c : Chosen) (keys : IsWritable c) where
  deviating_fits : (ppm : _) (clock : ClockText) → is_ppm ppm ≡ true → (if wide then Some (Fraction c.quantum.num c.quantum.den ppm) else None) ≡ Some clock
      → is_clock_text wide clock ≡ true
  deviating_fits ppm clock fits h =
      let (is, same) = kept_if wide (Fraction c.quantum.num c.quantum.den ppm) clock h in
      subst (λ x. is_clock_text wide x ≡ true) same (rw (is, number_fits c.quantum.num keys.num, number_fits c.quantum.den keys.den, fits) refl)

  clock_fits : (known : Bool) (old clock : ClockText) → is_clock_text known old ≡ true → deviating_clock wide c.quantum old ≡ Some clock → is_clock_text wide clock ≡ true
  clock_fits known (Rate num den) clock fits h =
      subst (λ x. is_clock_text wide x ≡ true) (same_some (Rate c.quantum.num c.quantum.den) clock h)
      (rw (number_fits c.quantum.num keys.num, number_fits c.quantum.den keys.den) refl)
  clock_fits known (Ppm quantum ppm) clock fits h = by_den (c.quantum.den == 1) (and_parts (is_number_of_key quantum) (is_ppm ppm) fits).1 h
    where
      by_den : (b : Bool) → is_ppm ppm ≡ true
          → (if b then Some (Ppm c.quantum.num ppm) else (if wide then Some (Fraction c.quantum.num c.quantum.den ppm) else None)) ≡ Some clock
          → is_clock_text wide clock ≡ true
      by_den true small h =
          subst (λ x. is_clock_text wide x ≡ true) (same_some (Ppm c.quantum.num ppm) clock h) (rw (number_fits c.quantum.num keys.num, small) refl)
      by_den false small h = deviating_fits ppm clock small h
  clock_fits known (Fraction num den ppm) clock fits h =
      let (wide_is, numbers) = and_parts known (is_number_of_key num && (is_number_of_key den && is_ppm ppm)) fits in
      let (num_is, later) = and_parts (is_number_of_key num) (is_number_of_key den && is_ppm ppm) numbers in
      let (den_is, small) = and_parts (is_number_of_key den) (is_ppm ppm) later in
      deviating_fits ppm clock small h

weaker : (a x y : Bool) → ((a && x) || y) ≡ true → ((true && x) || y) ≡ true
weaker true x y h = h
weaker false true y h = refl
weaker false false true h = refl
weaker false false false h = absurd (false≢true h)

-- what the one rate of a node says
record OneRate (version : ℕ) (old : ClockText) : Type 0 where
  known : Bool
  fits : is_clock_text known old ≡ true
  place : ((true && not (version == 2)) || not (version == 1)) ≡ true

one_rate : (version : ℕ) (rates : List RateText) (old : ClockText) → are_rates version rates ≡ true → only_clock rates ≡ Some old → OneRate version old
one_rate version [] old fits h = absurd (none-some old h)
one_rate version (r ∷ []) old fits h =
    let known : Bool = has_controllers version && is_one (r ∷ []) in
    let (all, place) =
    and_parts (list_all (is_rate known) (r ∷ [])) ((is_one (r ∷ []) && not (version == 2)) || not (version == 1)) fits in
    let (here, none) = and_parts (is_rate known r) true all in
    let (from, clock) = and_parts (is_number_of_key r.from) (is_clock_text known r.clock) here in
    record { known = known; fits = subst (λ x. is_clock_text known x ≡ true) (same_some r.clock old h) clock; place = weaker (is_one (r ∷ [])) (not (version == 2)) (not (version == 1)) place }
one_rate version (r ∷ s ∷ more) old fits h = absurd (none-some old h)

rates_fit : (version : ℕ) (old clock : ClockText) → OneRate version old → is_clock_text (has_controllers version) clock ≡ true
    → are_rates version (record { from = 0; clock = clock } ∷ []) ≡ true
rates_fit version old clock one fits =
    rw (number_fits 0 (omega arith), ap (λ b. is_clock_text b clock) (and_true (has_controllers version)) ∙ fits, one.place) refl

abbrev node_tests : ℕ → NodeText → List Bool
node_tests version n =
    is_name n.name ∷ is_number_of_key n.offset ∷ are_rates version n.rates ∷ are_segments (has_controllers version) n.segments ∷ is_number_of_key n.sjw
    ∷ is_small_number n.x ∷ is_number_of_key n.out_delay ∷ is_number_of_key n.in_delay ∷ is_tolerance n.tolerance ∷ (not n.listens || has_traffic version)
    ∷ (not (is_by_priority n.queue) || has_controllers version) ∷ is_number_if (has_controllers version) n.until ∷ list_all (is_frame_text version) n.frame ∷ []

node_fits : (version : ℕ) (c : Chosen) → IsWritable c → (i : ℕ) (n m : NodeText) → is_node version n ≡ true → set_node (has_controllers version) c (i, n) ≡ Ok m
    → is_node version m ≡ true
node_fits version c keys i n m fits h = by_old (only_clock n.rates) refl h
  where
    wide : Bool
    wide = has_controllers version

    by_frames : (old clock : ClockText) (r : Result (List FrameText) ApplyFault) → only_clock n.rates ≡ Some old → clock_for wide c old ≡ Some clock
        → each_made (frame_in_time (ratio_of (nominal_quantum old) c.quantum) i) (enumerate_from 0 n.frame) ≡ r
        → if_made r (λ frames. Ok (node_made c clock frames n)) ≡ Ok m → is_node version m ≡ true
    by_frames old clock (Err e) is_old is_clock is h = absurd (not_made m e h)
    by_frames old clock (Ok frames) is_old is_clock is h =
        let (name, (offset, (rates, (segments, (sjw, (x, (out, (into, (tolerance, (listens, (queue, (until, frame)))))))))))) = parted (node_tests version n) fits in
        let one = one_rate version n.rates old rates is_old in
        let (has, with) = asked_if (has_segments wide c.segments) (deviating_clock wide c.quantum old) clock is_clock in
        let rates' = rates_fit version old clock one (clock_fits wide c keys one.known old clock one.fits with) in
        let frames' = each_fits (frame_in_time (ratio_of (nominal_quantum old) c.quantum) i) (is_frame_text version) (λ k f g. late_fits version (ratio_of (nominal_quantum old) c.quantum) i k f g) 0 n.frame frames frame is in
        subst (λ x. is_node version x ≡ true) (same_ok (node_made c clock frames n) m h)
        (joined (node_tests version (node_made c clock frames n))
        (name, (offset, (rates', (segments_fit wide c.segments keys.segments has, (number_fits c.sjw keys.sjw, (x, (out, (into, (tolerance, (listens, (queue, (until, frames')))))))))))))

    by_clock : (old : ClockText) (o : Option ClockText) → only_clock n.rates ≡ Some old → clock_for wide c old ≡ o → by_clocks c (i, n) old o ≡ Ok m
        → is_node version m ≡ true
    by_clock old None is_old is h = absurd (not_made m _ h)
    by_clock old (Some clock) is_old is h = by_frames old clock _ is_old is refl h

    by_old : (o : Option ClockText) → only_clock n.rates ≡ o → by_old_clock wide c (i, n) o ≡ Ok m → is_node version m ≡ true
    by_old None is h = absurd (not_made m _ h)
    by_old (Some old) is h = by_clock old (clock_for wide c old) is refl h

node_named : (wide : Bool) (c : Chosen) (i : ℕ) (n m : NodeText) → set_node wide c (i, n) ≡ Ok m → m.name ≡ n.name
node_named wide c i n m h = by_old (only_clock n.rates) h
  where
    by_frames : (clock : ClockText) (r : Result (List FrameText) ApplyFault) → if_made r (λ frames. Ok (node_made c clock frames n)) ≡ Ok m → m.name ≡ n.name
    by_frames clock (Err e) h = absurd (not_made m e h)
    by_frames clock (Ok frames) h = ap (λ (x : NodeText). x.name) (sym (same_ok (node_made c clock frames n) m h))

    by_clock : (old : ClockText) (o : Option ClockText) → by_clocks c (i, n) old o ≡ Ok m → m.name ≡ n.name
    by_clock old None h = absurd (not_made m _ h)
    by_clock old (Some clock) h = by_frames clock _ h

    by_old : (o : Option ClockText) → by_old_clock wide c (i, n) o ≡ Ok m → m.name ≡ n.name
    by_old None h = absurd (not_made m _ h)
    by_old (Some old) h = by_clock old (clock_for wide c old) h

-- ---- the plan

fitting_is : (labels : List Label) (i : ℕ) (n : NodeText) (chosen : List Chosen) (c : Chosen) → All IsWritable chosen → first_fitting labels (i, n) chosen ≡ Some c
    → IsWritable c
fitting_is labels i n [] c all h = absurd (none-some c h)
fitting_is labels i n (d ∷ ds) c all h = by_fit (fits_node labels d (i, n)) (λ is. fitting_is labels i n ds c (All-tail IsWritable d ds all) is) h
  where
    by_fit : (b : Bool) → (first_fitting labels (i, n) ds ≡ Some c → IsWritable c) → (if b then Some d else first_fitting labels (i, n) ds) ≡ Some c → IsWritable c
    by_fit true more h = subst IsWritable (same_some d c h) (all 0 d (omega arith))
    by_fit false more h = more h

at_fits : (version : ℕ) (chosen : List Chosen) (labels : List Label) → All IsWritable chosen → (i : ℕ) (n m : NodeText) → is_node version n ≡ true
    → node_at (has_controllers version) chosen labels (i, n) ≡ Ok m → is_node version m ≡ true
at_fits version chosen labels all i n m fits h = by_chosen (first_fitting labels (i, n) chosen) refl h
  where
    by_chosen : (o : Option Chosen) → first_fitting labels (i, n) chosen ≡ o → node_by (has_controllers version) o (i, n) ≡ Ok m → is_node version m ≡ true
    by_chosen None is h = subst (λ x. is_node version x ≡ true) (same_ok n m h) fits
    by_chosen (Some c) is h = node_fits version c (fitting_is labels i n chosen c all is) i n m fits h

at_named : (wide : Bool) (chosen : List Chosen) (labels : List Label) (i : ℕ) (n m : NodeText) → node_at wide chosen labels (i, n) ≡ Ok m → m.name ≡ n.name
at_named wide chosen labels i n m h = by_chosen (first_fitting labels (i, n) chosen) h
  where
    by_chosen : (o : Option Chosen) → node_by wide o (i, n) ≡ Ok m → m.name ≡ n.name
    by_chosen None h = ap (λ (x : NodeText). x.name) (sym (same_ok n m h))
    by_chosen (Some c) h = node_named wide c i n m h

some_nodes : (xs ys : List NodeText) → map (λ (n : NodeText). n.name) ys ≡ map (λ (n : NodeText). n.name) xs → has_nodes xs ≡ true → has_nodes ys ≡ true
some_nodes [] ys same h = absurd (false≢true h)
some_nodes (x ∷ xs) [] same h = cc
some_nodes (x ∷ xs) (y ∷ ys) same h = refl

abbrev plan_tests : PlanText → List Bool
plan_tests p =
    is_known_version p.version ∷ is_number_of_key p.end ∷ is_number_of_key p.per ∷ has_nodes p.node ∷ list_all (is_node p.version) p.node
    ∷ list_all (is_disturbance (has_traffic p.version)) p.disturbance ∷ not (has_repeat (names_of p)) ∷ is_scale_if (has_controllers p.version) LONGEST_TICK p.tick
    ∷ is_scale_if (has_controllers p.version) LONGEST_UNIT p.unit ∷ []

pub plan_fits : (chosen : List Chosen) (labels : List Label) → All IsWritable chosen → (read made : PlanText) → is_printable read ≡ true
    → set_plan chosen labels read ≡ Ok made → is_printable made ≡ true
plan_fits chosen labels all read made fits h = by_names (named_all (first_unnamed labels read.node chosen)) h
  where
    by_nodes : (r : Result (List NodeText) ApplyFault) → each_made (node_at (has_controllers read.version) chosen labels) (enumerate_from 0 read.node) ≡ r
        → if_made r (λ nodes. Ok (record read { node = nodes })) ≡ Ok made → is_printable made ≡ true
    by_nodes (Err e) is h = absurd (not_made made e h)
    by_nodes (Ok nodes) is h =
        let (known, (end, (per, (some, (node, (disturbance, (names, (tick, unit)))))))) = parted (plan_tests read) fits in
        let same = each_same (node_at (has_controllers read.version) chosen labels) (λ (n : NodeText). n.name) (λ i n m. at_named (has_controllers read.version) chosen labels i n m) 0 read.node nodes is in
        let node' = each_fits (node_at (has_controllers read.version) chosen labels) (is_node read.version) (λ i n m. at_fits read.version chosen labels all i n m) 0 read.node nodes node is in
        subst (λ x. is_printable x ≡ true) (same_ok (record read { node = nodes }) made h)
        (joined (plan_tests (record read { node = nodes }))
        (known, (end, (per, (some_nodes read.node nodes same some, (node', (disturbance, (ap (λ l. not (has_repeat l)) same ∙ names, (tick, unit)))))))))

    by_names : (r : Result (Unit {0}) ApplyFault)
        → if_made r (λ u. if_made (each_made (node_at (has_controllers read.version) chosen labels) (enumerate_from 0 read.node)) (λ nodes. Ok (record read { node = nodes }))) ≡ Ok made
        → is_printable made ≡ true
    by_names (Err e) h = absurd (not_made made e h)
    by_names (Ok u) h = by_nodes _ refl h

-- ---- what is written of a plan that was read

runs_or : {T : Type 0} (r : Result Plan SetupFault) (a : Result T ApplyFault) (y : T) → if_runs r a ≡ Ok y → (plan : Plan) × (r ≡ Ok plan) × (a ≡ Ok y)
runs_or (Ok plan) a y h = (plan, refl, h)
runs_or (Err e) a y h = absurd (not_made y _ h)

ticks_or : {T : Type 0} (b : Bool) (a : Result T ApplyFault) (y : T) → (if b then a else Err Tick) ≡ Ok y → a ≡ Ok y
ticks_or true a y h = h
ticks_or false a y h = absurd (not_made y Tick h)

made_or_not : (r : Result PlanText ApplyFault) (y : PlanText) → if_made_runs r ≡ Ok y → r ≡ Ok y
made_or_not (Err e) y h = absurd (not_made y e h)
made_or_not (Ok made) y h =
    let (plan, runs, same) = runs_or (plan_of_text made) (Ok made) y h in same

pub read_back : (tick : ℕ) (chosen : List Chosen) (top : Members) (read made : PlanText) (text : List ℕ) → ReadIsPrintable → applied tick chosen top read ≡ Ok made
    → PrintsBack made text → IsReadBack tick chosen top read text
read_back tick chosen top read made text law is back bytes other reads all same =
    let (plan, runs, ticked) = runs_or (plan_of_text read) _ made is in
    let with = made_or_not (set_plan chosen (labels_of top) read) made (ticks_or (is_tick_said tick read.tick) _ made ticked) in
    let fits = plan_fits chosen (labels_of top) all read made (law bytes read plan reads runs).0 with in
    subst (λ (m : PlanText). text_answer text ≡ Ok m) (same_ok made other (sym is ∙ same)) (back fits)
