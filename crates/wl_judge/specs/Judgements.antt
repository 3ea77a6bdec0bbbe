-- Whether a plan's bus works, by what its run and its margin say (this project's profile).
use Rattle.std.specs.Prelude.{ℕ, Bool, true, false, List, ◌++◌, codes, if◌then◌else◌, Option, Some, None}
use Rattle.wl_bound.specs.declared.verdict.Outside.{Outside}
use Rattle.wl_bound.specs.declared.verdict.Outside.TheVariants.{FewNodes, NoFrames, ListenerSends, NobodyAcknowledges, NotByTheBook, SameIdentifier, NobodyIdle}
use Rattle.wl_margin.specs.declared.margin.readers.Standing.{Standing}
use Rattle.wl_margin.specs.declared.margin.readers.Standing.TheVariants.{Astray, AnySenders, OneSender, Fails, Unbound}
use Rattle.wl_margin.specs.declared.margin.readers.Surety.{Surety}
use Rattle.wl_margin.specs.declared.margin.readers.Surety.TheVariants.{ProvedForAny, ProvedForOne, Searched}
use Rattle.wl_judge.specs.declared.judgement.RunState.{RunState}
use Rattle.wl_judge.specs.declared.judgement.RunState.TheVariants as run
use Rattle.wl_judge.specs.declared.judgement.Judgement.{Judgement}
use Rattle.wl_judge.specs.declared.judgement.Judgement.TheVariants.{Works, NotInThisRun, NotByCondition, NotKnown}

-- causes outside of the inequalities of which a margin says 'does not hold'; of the others no bound is known
abbrev pub fails_outside : Outside → Bool
fails_outside FewNodes = true
fails_outside NoFrames = false
fails_outside (ListenerSends i) = true
fails_outside (NobodyAcknowledges i) = true
fails_outside (NotByTheBook i) = false
fails_outside (SameIdentifier i j) = true
fails_outside (NobodyIdle i) = true

-- what a margin's first line means for a bus whose run works: for any senders it works, and for one at a time that isn't known
abbrev pub by_standing : Standing → Judgement
by_standing (Astray i) = NotByCondition
by_standing (AnySenders surety) = Works surety
by_standing (OneSender surety) = NotKnown
by_standing (Fails failure) = NotByCondition
by_standing (Unbound cause) = if fails_outside cause then NotByCondition else NotKnown

-- without `ppm` some clock is none, and no bound is known
abbrev pub by_any_standing : Option Standing → Judgement
by_any_standing None = NotKnown
by_any_standing (Some standing) = by_standing standing

-- a run that ends too early shows neither that a bus works nor that it doesn't
abbrev pub or_early : Judgement → Judgement
or_early (Works surety) = NotKnown
or_early NotInThisRun = NotInThisRun
or_early NotByCondition = NotByCondition
or_early NotKnown = NotKnown

-- The run goes first. A bus works if its run works, and the condition holds for any senders.
abbrev pub judgement_of : Option Standing → RunState → Judgement
judgement_of standing run.Works = by_any_standing standing
judgement_of standing run.EndsTooEarly = or_early (by_any_standing standing)
judgement_of standing run.Fails = NotInThisRun

-- how sure it is, in the words of a margin
abbrev pub surety_words : Surety → List ℕ
surety_words ProvedForAny = codes "works, proved: any_senders_are_clean\n"
surety_words ProvedForOne = codes "works, as far as searched; for one sender at a time, proved: one_sender_is_clean\n"
surety_words Searched = codes "works, as far as searched, not proved\n"

-- the first line; the run says this word
abbrev pub judgement_words : Judgement → List ℕ → List ℕ
judgement_words (Works surety) word = surety_words surety
judgement_words NotInThisRun word = codes "does not work, in this run: " ++ word ++ codes "\n"
judgement_words NotByCondition word = codes "does not work, by the condition\n"
judgement_words NotKnown word = codes "not known\n"
