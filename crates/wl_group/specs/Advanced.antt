-- What an advance of a group replies and leaves, one node at a time and over all. Chandy and Misra 1979; the replies are this project's profile.
-- For a reader who knows simulation: the rule of the safe event, and running until no event is safe. They are definitions to cite: a body's group stands beside a `Party` by a relation `matches`, which the body's crate gives.
use Rattle.std.specs.Prelude.{◌≡◌, ◌⊎◌, ℕ, ◌<◌, Bool, true, not, ◌&&◌, List, [], ◌++◌, nat_le, if◌then◌else◌}
use Rattle.wl_record_core.specs.declared.record.Record.{Record}
use Rattle.wl_plan.specs.Line.{Line}
use Rattle.wl_group.specs.Member.{next_tick, can_run, emission, level_read}
use Rattle.wl_group.specs.Party.{Party, slots, party_after_quantum}

-- the reply: the node ran and this was emitted; it must wait, or is no member; it has come to the end
pub data Reply : Type 0 where
  emitted : List Record → Reply
  blocked : Reply
  ended : Reply

-- whether node i may run its next quantum: any number may be asked
abbrev pub can_advance : Line → (ℕ → Bool) → Party → ℕ → Bool
can_advance l belongs p i = belongs i && can_run l i (p.members i) (slots p)

-- what the next quantum of member i emits
abbrev pub emission_of : Line → Party → ℕ → List Record
emission_of l p i = emission l i (p.members i) (level_read l i (p.members i) (slots p))

-- `ended` comes before `blocked`: a member at the end waits for nothing
abbrev pub reply_of : Line → (ℕ → Bool) → Party → ℕ → Reply
reply_of l belongs p i =
    if not (belongs i) then blocked
    else if nat_le l.stop (next_tick l i (p.members i)) then ended
    else if can_run l i (p.members i) (slots p) then emitted (emission_of l p i)
    else blocked

-- the group after that quantum
abbrev pub run_next : Line → ℕ → Party → Party
run_next l i p = party_after_quantum l i (level_read l i (p.members i) (slots p)) p

-- the group after an advance: as it was, where the node may not run
abbrev pub after_advance : Line → (ℕ → Bool) → ℕ → Party → Party
after_advance l belongs i p = if can_advance l belongs p i then run_next l i p else p

-- An advance of node i answered a and made new of old, for every party that old was. Waiting and the end change nothing at all.
pub record HasAdvanced {G : Type 0} (matches : Party → G → Type 0) (l : Line) (belongs : ℕ → Bool) (i : ℕ) (old new : G) (a : Reply) : Type 0 where
  pub reply : (p : Party) → matches p old → a ≡ reply_of l belongs p i
  pub after : (p : Party) → matches p old → matches (after_advance l belongs i p) new
  pub refused : (a ≡ blocked) ⊎ (a ≡ ended) → new ≡ old

-- nodes that advance one after another, each of which may, and what they emit
pub data Steps (l : Line) (belongs : ℕ → Bool) : Party → List Record → Party → Type 0 where
  none : {p : Party} → Steps l belongs p [] p
  more : {p q : Party} {rs : List Record} (i : ℕ) → i < l.nodes → can_advance l belongs p i ≡ true
      → Steps l belongs (run_next l i p) rs q → Steps l belongs p (emission_of l p i ++ rs) q
