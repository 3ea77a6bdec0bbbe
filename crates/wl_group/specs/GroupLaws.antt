-- What holds of groups on every sound line: what they emit is true, and what comes in true keeps all. Chandy and Misra 1979, for groups.
-- For a reader who knows simulation: no process ever handles an event too early, so nothing is ever rolled back.
use Rattle.std.specs.Prelude.{◌≡◌, ℕ, ◌<◌, ◌≤◌, Bool, true, List, ◌++◌, Contains, length}
use Rattle.wl_level.specs.Levels.{level_of}
use Rattle.wl_record_core.specs.declared.record.Record.{Record}
use Rattle.wl_record_core.specs.Truth.{AreTrueOf}
use Rattle.wl_replica.specs.Slots.{Contents, slots_of_records, HoldsTrue}
use Rattle.wl_replica.specs.Known.{horizon, wave_at}
use Rattle.wl_plan.specs.Line.{Line, found}
use Rattle.wl_plan.specs.Simulation.{history, level, changes}
use Rattle.wl_plan.specs.Sound.{IsSound}
use Rattle.wl_group.specs.Member.{Member, fresh, next_tick, can_run, member_after_quantum, emission, level_read}
use Rattle.wl_group.specs.Party.{Party, slots, initial_silences, initial_party, party_with}
use Rattle.wl_group.specs.Advanced.{run_next, Steps}
use Rattle.wl_group.specs.Holds.{IsMember, IsGroup, IsTold}

-- Every replica of true records agrees: below each horizon the wave is the level of the one-thread simulation.
abbrev pub WaveIsLevel : Type 0
WaveIsLevel = (l : Line) → IsSound l → (w : Contents) → HoldsTrue l.nodes (changes l) w
    → (i t : ℕ) → i < l.nodes → t < horizon w i → wave_at w i t ≡ level l i t

pub record GroupLaws : Type 0 where
  pub wave_is_level : WaveIsLevel
  -- a node's first silences are true, and so are the records of each advance
  pub firsts_true : (l : Line) → IsSound l → (test : ℕ → Bool) → AreTrueOf l.nodes (changes l) (initial_silences l test l.nodes)
  pub emission_true : (l : Line) → IsSound l → (w : Contents) → HoldsTrue l.nodes (changes l) w → (i : ℕ) (m : Member) → i < l.nodes → IsMember l i m w
      → can_run l i m w ≡ true → AreTrueOf l.nodes (changes l) (emission l i m (level_read l i m w))
  -- a quantum that may run reads what the line has there
  pub read_is_found : (l : Line) → IsSound l → (w : Contents) → HoldsTrue l.nodes (changes l) w → (i : ℕ) (m : Member) → i < l.nodes
      → can_run l i m w ≡ true → level_read l i m w ≡ level_of (found l (level l) i (next_tick l i m))
  -- a group begins as one, and stays one where it takes what is true and where it advances
  pub begun_holds : (l : Line) → IsSound l → (belongs : ℕ → Bool) → IsGroup l belongs (initial_party l belongs).members (slots (initial_party l belongs))
  pub taking_holds : (l : Line) → IsSound l → (belongs : ℕ → Bool) (rs : List Record) (p : Party) → IsGroup l belongs p.members (slots p)
      → HoldsTrue l.nodes (changes l) (slots_of_records rs) → IsGroup l belongs (party_with rs p).members (slots (party_with rs p))
  pub running_holds : (l : Line) → IsSound l → (belongs : ℕ → Bool) (i : ℕ) (p : Party) → IsGroup l belongs p.members (slots p) → i < l.nodes → belongs i ≡ true
      → can_run l i (p.members i) (slots p) ≡ true
      → IsGroup l belongs (run_next l i p).members (slots (run_next l i p))
  pub steps_hold : (l : Line) → IsSound l → (belongs : ℕ → Bool) (p q : Party) (rs : List Record) → IsGroup l belongs p.members (slots p) → Steps l belongs p rs q
      → IsGroup l belongs q.members (slots q) × AreTrueOf l.nodes (changes l) rs
  -- a member has seen what its node has seen in the simulation before the tick of its next quantum, and at the end all
  pub member_history : (l : Line) → IsSound l → (i : ℕ) (m : Member) (w : Contents) → i < l.nodes → IsMember l i m w → m.saw ≡ (history l (next_tick l i m)).seen i
  pub member_ended : (l : Line) → IsSound l → (i : ℕ) (m : Member) (w : Contents) → i < l.nodes → IsMember l i m w → l.stop ≤ next_tick l i m
      → (m.saw ≡ (history l l.stop).seen i) × (m.changed ≡ length (changes l i))
  -- what was emitted of a member: its first silence at the start, no less with more records, all with those of its next quantum
  pub told_first : (l : Line) → IsSound l → (i : ℕ) → i < l.nodes → IsTold l i fresh (slots_of_records (initial_silences l (λ j. true) l.nodes))
  pub told_more : (l : Line) → (i : ℕ) (m : Member) (es rs : List Record) → AreTrueOf l.nodes (changes l) (es ++ rs)
      → IsTold l i m (slots_of_records es) → IsTold l i m (slots_of_records (es ++ rs))
  pub told_stepped : (l : Line) → IsSound l → (w : Contents) → HoldsTrue l.nodes (changes l) w → (i : ℕ) (m : Member) → i < l.nodes → IsMember l i m w → can_run l i m w ≡ true
      → (es : List Record) → AreTrueOf l.nodes (changes l) (es ++ emission l i m (level_read l i m w)) → IsTold l i m (slots_of_records es)
      → IsTold l i (member_after_quantum l i m (level_read l i m w)) (slots_of_records (es ++ emission l i m (level_read l i m w)))
  -- who has taken all that was emitted knows each member up to its next quantum
  pub told_known : (l : Line) → IsSound l → (i : ℕ) (m : Member) (w : Contents) → i < l.nodes → IsMember l i m w → (es taken : List Record)
      → HoldsTrue l.nodes (changes l) (slots_of_records taken) → ((r : Record) → Contains es r → Contains taken r)
      → IsTold l i m (slots_of_records es) → next_tick l i m ≤ horizon (slots_of_records taken) i
