-- What is said of a plan's bus, line by line (this project's profile).
use Rattle.std.specs.Prelude.{◌≡◌, ℕ, ◌*◌, ◌/◌, Bool, true, false, List, [], ◌++◌, codes, Option, Some, None}
use Rattle.std.specs.Fmt.{decimal}
use Rattle.wl_setup.specs.declared.bus.Bus.{Bus}
use Rattle.wl_setup.specs.Names.{name_of}
use Rattle.wl_bound.specs.Families.{Buses, family_of}
use Rattle.wl_bound.specs.Oscillators.{Pace}
use Rattle.wl_bound.specs.declared.condition.Inequality.{Inequality}
use Rattle.wl_bound.specs.declared.condition.Inequality.TheVariants.{DriftFitsJump, BitIsThereAtSample, NoBitTooEarly}
use Rattle.wl_bound.specs.declared.condition.Senders.{Senders}
use Rattle.wl_bound.specs.declared.condition.Senders.TheVariants.{Any, One}
use Rattle.wl_bound.specs.declared.family.Change.TheVariants.{WiderJump, NarrowerJump, LaterSample, EarlierSample}
use Rattle.wl_margin.specs.Margins.{no_clock_words, paces_of, spare_of}
use Rattle.wl_margin.specs.Standings.{standing_of, standing_reasons}
use Rattle.wl_margin.specs.declared.margin.readers.Standing.{Standing}
use Rattle.wl_margin.specs.declared.margin.readers.Standing.TheVariants.{Astray, AnySenders, OneSender, Fails, Unbound}
use Rattle.wl_margin.specs.declared.margin.readers.Surety.{Surety}
use Rattle.wl_margin.specs.declared.margin.readers.Surety.TheVariants.{ProvedForAny, ProvedForOne, Searched}
use Rattle.wl_judge.specs.declared.answer.Gains.{Gains}
use Rattle.wl_judge.specs.declared.judgement.Judgement.{Judgement}
use Rattle.wl_judge.specs.declared.judgement.RunState.{RunState}
use Rattle.wl_judge.specs.declared.measure.Found.{Found}
use Rattle.wl_judge.specs.declared.measure.Measure.{Measure}
use Rattle.wl_judge.specs.declared.trial.Step.{Step}
use Rattle.wl_judge.specs.declared.trial.Step.TheVariants.{By, Finer, FinerAndLater}
use Rattle.wl_judge.specs.declared.weakest.Pair.{Pair}
use Rattle.wl_judge.specs.declared.weakest.Weakest.{Weakest}
use Rattle.wl_judge.specs.Judgements.{judgement_of, judgement_words}
use Rattle.wl_judge.specs.Measures.{IsBestOf, IsMeasured}
use Rattle.wl_judge.specs.Trials.{trials_of}
use Rattle.wl_judge.specs.Weakest.{weakest_of}

-- the command that says the lines below, if that is asked for
abbrev pub source_line : Bool → List ℕ → List ℕ
source_line true words = codes "from " ++ words ++ codes "\n"
source_line false words = []

abbrev pub run_line : List ℕ → List ℕ
run_line word = codes "run: " ++ word ++ codes "\n"

-- the pair to which an inequality leaves least
abbrev pub pair_head : (what a b : List ℕ) → List ℕ
pair_head what a b = codes "weakest " ++ what ++ codes ": " ++ a ++ codes " " ++ b ++ codes " "

abbrev pub weakest_words : ℕ → Buses → List (List ℕ) → Senders → Inequality → List ℕ → Pair → List ℕ
weakest_words tick f names senders inequality what p =
    pair_head what (name_of names p.node) (name_of names p.other) ++ spare_of tick f senders inequality p.node p.other ++ codes "\n"

abbrev pub weak_line : ℕ → Buses → List (List ℕ) → Senders → Inequality → List ℕ → Option Pair → List ℕ
weak_line tick f names senders inequality what None = []
weak_line tick f names senders inequality what (Some p) = weakest_words tick f names senders inequality what p

abbrev pub weak_lines : ℕ → Buses → List (List ℕ) → Senders → Weakest → List ℕ
weak_lines tick f names senders weak =
    weak_line tick f names senders BitIsThereAtSample (codes "late") weak.late
    ++ weak_line tick f names senders NoBitTooEarly (codes "early") weak.early
    ++ weak_line tick f names senders DriftFitsJump (codes "drift") weak.drift

-- A cable that a level goes along in these ticks, in metres at 5 ns each, rounded down.
abbrev pub metres_of : (tick per units : ℕ) → ℕ
metres_of tick per units = units * per * tick / 5000

abbrev pub longer_words : (tick per : ℕ) → Option ℕ → List ℕ
longer_words tick per None = []
longer_words tick per (Some units) = decimal (metres_of tick per units) ++ codes " m and "

abbrev pub ppm_words : Option ℕ → List ℕ
ppm_words None = codes "0 ppm"
ppm_words (Some ppm) = decimal ppm ++ codes " ppm"

-- how sure it is that so much is to spare; 'proved' if the bus is proved for any senders
abbrev pub spare_surety : Surety → List ℕ
spare_surety ProvedForAny = codes ", proved"
spare_surety ProvedForOne = codes ", as far as searched"
spare_surety Searched = codes ", as far as searched"

abbrev pub sure_words : Standing → List ℕ
sure_words (Astray i) = []
sure_words (AnySenders surety) = spare_surety surety
sure_words (OneSender surety) = codes ", for one sender at a time"
sure_words (Fails failure) = []
sure_words (Unbound cause) = []

abbrev pub spare_end : Standing → List ℕ
spare_end standing = codes " to spare" ++ sure_words standing ++ codes "\n"

abbrev pub spared_words : ℕ → Measure → List ℕ
spared_words tick m = longer_words tick m.per m.longer ++ ppm_words m.wider ++ spare_end m.standing

-- what the bus has to spare as it is; nothing is said of a bus for which the condition doesn't hold
abbrev pub reserve_line : ℕ → Measure → Option ℕ → List ℕ
reserve_line tick m None = []
reserve_line tick m (Some ppm) = codes "reserve: " ++ spared_words tick m

-- a change
abbrev pub words_of_step : Step → List ℕ
words_of_step (By WiderJump) = codes "a jump width wider by a quantum at "
words_of_step (By NarrowerJump) = codes "a jump width narrower by a quantum at "
words_of_step (By LaterSample) = codes "a sample point later by a quantum at "
words_of_step (By EarlierSample) = codes "a sample point earlier by a quantum at "
words_of_step Finer = codes "twice the quanta, each half as long, at "
words_of_step FinerAndLater = codes "twice the quanta, each half as long, and a later sample point at "

abbrev pub trial_words : Step → List ℕ → List ℕ
trial_words step name = codes "help: " ++ words_of_step step ++ name ++ codes ": "

abbrev pub gain_line : ℕ → List (List ℕ) → Option Found → List ℕ
gain_line tick names None = codes "help: no change that was tried\n"
gain_line tick names (Some found) = trial_words found.trial.step (name_of names found.trial.node) ++ spared_words tick found.measure

-- for whom what is to spare is asked
abbrev pub senders_of : Standing → Senders
senders_of (Astray i) = One
senders_of (AnySenders surety) = Any
senders_of (OneSender surety) = One
senders_of (Fails failure) = One
senders_of (Unbound cause) = One

-- pairs are compared if the condition says something of the plan
abbrev pub compares : Standing → Bool
compares (Astray i) = false
compares (AnySenders surety) = true
compares (OneSender surety) = true
compares (Fails failure) = true
compares (Unbound cause) = false

-- the first line, and that of the run
abbrev pub judged_lines : Bool → Judgement → List ℕ → List ℕ
judged_lines explain judgement word = source_line explain (codes "traffic and margin") ++ judgement_words judgement word

abbrev pub ran_lines : Bool → List ℕ → List ℕ
ran_lines explain word = source_line explain (codes "traffic, its last line") ++ run_line word

abbrev pub answer_head : Bool → Judgement → List ℕ → List ℕ
answer_head explain judgement word = judged_lines explain judgement word ++ ran_lines explain word

-- the weakest pairs, what is to spare, and what helps
abbrev pub pairs_lines : ℕ → Bool → List (List ℕ) → Buses → Senders → List ℕ
pairs_lines tick explain names f senders =
    source_line explain (codes "margin, its pairs") ++ weak_lines tick f names senders (weakest_of f senders)

abbrev pub spared_lines : ℕ → Bool → Measure → List ℕ
spared_lines tick explain base = source_line explain (codes "margin, its searches") ++ reserve_line tick base base.wider

abbrev pub help_lines : ℕ → Bool → List (List ℕ) → Option Found → List ℕ
help_lines tick explain names help = source_line explain (codes "margin, of the changed plans") ++ gain_line tick names help

abbrev pub comparison : ℕ → Bool → List (List ℕ) → Buses → Senders → Measure → Option Found → List ℕ
comparison tick explain names f senders base help =
    pairs_lines tick explain names f senders ++ spared_lines tick explain base ++ help_lines tick explain names help

-- of a bus with a clock that is none without its `ppm`, and the whole text on it
abbrev pub unclocked_lines : Bool → List ℕ
unclocked_lines explain = source_line explain (codes "margin, its first lines") ++ no_clock_words

abbrev pub unclocked_words : Bool → RunState → List ℕ → List ℕ
unclocked_words explain run word = answer_head explain (judgement_of None run) word ++ unclocked_lines explain

-- the same of a bus that is asked what it has to spare
abbrev pub gains_lines : ℕ → Bool → List (List ℕ) → Buses → Senders → Option Gains → List ℕ
gains_lines tick explain names f senders None = []
gains_lines tick explain names f senders (Some gains) = comparison tick explain names f senders gains.base gains.help

-- What the bus has to spare. The best change is one of those that are tried, measured as the bus itself.
module _ (bus : Bus) (f : Buses) (standing : Standing) where
  abbrev pub AreGains : Gains → Type 0
  AreGains gains =
      IsMeasured f standing gains.base
      × IsBestOf bus.deviations bus.plan gains.base (trials_of f (weakest_of f (senders_of standing))) None gains.help

  abbrev pub AreGainsIf : (asked : Bool) → Option Gains → Type 0
  AreGainsIf false found = found ≡ None
  AreGainsIf true found = (gains : Gains) × (found ≡ Some gains) × AreGains gains

module _ (tick : ℕ) (explain : Bool) (bus : Bus) (f : Buses) (standing : Standing) where
  -- why a margin doesn't say more
  abbrev pub why_lines : List ℕ
  why_lines =
      source_line explain (codes "margin, its first lines") ++ standing_reasons tick bus.deviations bus.plan bus.names f standing

  -- all lines
  abbrev pub answer_words : Judgement → List ℕ → Option Gains → List ℕ
  answer_words judgement word gains =
      answer_head explain judgement word ++ why_lines ++ gains_lines tick explain bus.names f (senders_of standing) gains

-- the whole text on a bus of this family, whose run says this
module _ (tick : ℕ) (explain : Bool) (run : RunState) (word : List ℕ) (bus : Bus) where
  abbrev pub IsAnswerOn : Buses → List ℕ → Type 0
  IsAnswerOn f text =
      (standing : Standing) × (gains : Option Gains) × (standing ≡ standing_of bus.deviations bus.plan f)
      × AreGainsIf bus f standing (compares standing) gains
      × (text ≡ answer_words tick explain bus f standing (judgement_of (Some standing) run) word gains)

  abbrev pub IsAnswerOf : Option (List Pace) → List ℕ → Type 0
  IsAnswerOf None text = text ≡ unclocked_words explain run word
  IsAnswerOf (Some paces) text = (f : Buses) × (f ≡ family_of bus.plan paces) × IsAnswerOn f text

  abbrev pub IsAnswer : List ℕ → Type 0
  IsAnswer text = IsAnswerOf (paces_of bus.deviations) text

-- what the margin of a bus says first, if its clocks are such
abbrev pub standing_in : Bus → Option (List Pace) → Option Standing
standing_in bus None = None
standing_in bus (Some paces) = Some (standing_of bus.deviations bus.plan (family_of bus.plan paces))

-- whether the bus works, by what its run says
abbrev pub bus_judgement : Bus → RunState → Judgement
bus_judgement bus run = judgement_of (standing_in bus (paces_of bus.deviations)) run
