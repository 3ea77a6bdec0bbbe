-- What the first line of `respond` says: 'proved' only if no premise lacks.
use Rattle.std.proofs.Common.{◌≡◌, ◌∙◌, refl, ap, subst, ℕ, Bool, List, [], ◌∷◌, ◌++◌, map, get_or, Option, Some, None, arith}
use Rattle.wl_setup.specs.declared.bus.Bus.{Bus}
use Rattle.wl_bound.specs.Families.{Buses}
use Rattle.wl_lines.specs.Formats.{lines_text}
use Rattle.wl_lines.specs.Shapes.{TextLine}
use Rattle.wl_respond.specs.declared.asked.Asked.{Asked}
use Rattle.wl_respond.specs.declared.bounds.Waits.{Waits}
use Rattle.wl_respond.specs.declared.parts.Line.{Line}
use Rattle.wl_respond.specs.declared.premise.Lacking.{Lacking}
use Rattle.wl_respond.specs.declared.premise.Lacking.TheVariants.{Astray, Turning, Margin, Deciding, Table, Bounds}
use Rattle.wl_respond.specs.Asks.{message_in}
use Rattle.wl_respond.specs.Bounds.{AreWaits}
use Rattle.wl_respond.specs.Premises.{FirstLack, HasPremises}
use Rattle.wl_respond.specs.Texts.{AreLinesOf, load_line, message_lines, outcome_lines, verdict_line}
use Rattle.wl_proved.specs.Words.{AreSaidBounded, SaysBounded}

-- the first letter of a text: a p if it says 'proved', and an n in each line of what lacks
abbrev head : List ℕ → ℕ
head text = get_or text 0 0

-- the first letter of the first line's kind: a p of a proof, and an n of what lacks
abbrev kind : List TextLine → ℕ
kind [] = 0
kind (line ∷ lines) = head line.form.kind

differ : (letter : ℕ) → letter ≡ 110 → letter ≡ 112 → ⊥
differ letter n p = absurd (omega arith)

module _ (names : List (List ℕ)) (asked : List Asked) (lines : List Line) (shown : Bool) (load : ℕ) (said : List TextLine) where
  none_lacks : (lacking : Option Lacking) → said ≡ outcome_lines names asked lines (record { lacking = lacking; shown = shown; load = load }) → kind said ≡ 112 → lacking ≡ None
  none_lacks None is p = refl
  none_lacks (Some lacking) is p = absurd (differ (kind said) (ap kind is) p)

  -- the line of a proof is first if the text says so
  proof_first : (lacking : Option Lacking) → said ≡ outcome_lines names asked lines (record { lacking = lacking; shown = shown; load = load }) → head (lines_text said) ≡ 112
      → AreSaidBounded names said
  proof_first None is p = (load_line load ∷ [] ++ message_lines names asked lines ++ verdict_line names asked lines shown load ∷ [], is)
  proof_first (Some (Astray i)) is p = absurd (differ (head (lines_text said)) (ap (λ l. head (lines_text l)) is) p)
  proof_first (Some (Turning i)) is p = absurd (differ (head (lines_text said)) (ap (λ l. head (lines_text l)) is) p)
  proof_first (Some Margin) is p = absurd (differ (head (lines_text said)) (ap (λ l. head (lines_text l)) is) p)
  proof_first (Some (Deciding i)) is p = absurd (differ (head (lines_text said)) (ap (λ l. head (lines_text l)) is) p)
  proof_first (Some Table) is p = absurd (differ (head (lines_text said)) (ap (λ l. head (lines_text l)) is) p)
  proof_first (Some Bounds) is p = absurd (differ (head (lines_text said)) (ap (λ l. head (lines_text l)) is) p)

pub proved_waits : (names : List (List ℕ)) (w : Waits) (said : List TextLine) (met : Bool) → AreLinesOf names (Some w) said met → AreSaidBounded names said → w.lacking ≡ None
proved_waits names w said met is first = none_lacks names w.asked w.lines w.shown w.load said w.lacking is.0 (ap kind first.1)

-- lines whose text says 'proved' first are said to be bounded
pub lines_say : (names : List (List ℕ)) (found : Option Waits) (said : List TextLine) (met : Bool) → AreLinesOf names found said met → SaysBounded names (lines_text said)
    → AreSaidBounded names said
lines_say names None said met is first = absurd (differ (head (lines_text said)) (ap (λ l. head (lines_text l)) is.0) (ap head first.1))
lines_say names (Some w) said met is first = proof_first names w.asked w.lines w.shown w.load said w.lacking is.0 (ap head first.1)

pub premises_of : (tick : ℕ) (bus : Bus) (f : Buses) (windows : List ℕ) (asked : List Asked) (w : Waits) → AreWaits tick bus f windows asked w → w.lacking ≡ None
    → HasPremises bus.deviations bus.plan f (map message_in asked) windows
premises_of tick bus f windows asked w are none = subst (FirstLack bus.deviations bus.plan f (map message_in asked) windows) none are.first

-- a bus with a clock that is none has one line, a verdict (118 is a v)
pub has_clocks : (names : List (List ℕ)) (said : List TextLine) (met : Bool) → AreLinesOf names None said met → AreSaidBounded names said → ⊥
has_clocks names said met is first = clash (kind said) (ap kind is.0) (ap kind first.1) where
  clash : (letter : ℕ) → letter ≡ 118 → letter ≡ 112 → ⊥
  clash letter v p = absurd (omega arith)
