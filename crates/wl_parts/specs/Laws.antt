-- The laws of joining findings (this project's profile).
use Rattle.std.specs.Prelude.{◌≡◌, Option, Some, None}
use Rattle.wl_parts.specs.declared.found.FirstMember.{FirstMember}
use Rattle.wl_parts.specs.declared.found.Findings.{Findings}
use Rattle.wl_parts.specs.Found.{joined_findings, nothing}

-- a number has one line, as in what parts of one sweep say
abbrev pub AreOneIfNumbered : Option FirstMember → Option FirstMember → Type 0
AreOneIfNumbered None other = Unit {0}
AreOneIfNumbered (Some m) None = Unit {0}
AreOneIfNumbered (Some m) (Some n) = m.number ≡ n.number → m.line ≡ n.line

abbrev pub Agree : Findings → Findings → Type 0
Agree f g = AreOneIfNumbered f.unclean g.unclean × AreOneIfNumbered f.refused g.refused

-- in any grouping, in any order, and nothing is neutral
pub record JoinsInAnyOrder : Type 0 where
  pub associates : (f g h : Findings) → joined_findings (joined_findings f g) h ≡ joined_findings f (joined_findings g h)
  pub commutes : (f g : Findings) → Agree f g → joined_findings f g ≡ joined_findings g f
  pub neutral_before : (f : Findings) → joined_findings nothing f ≡ f
  pub neutral_after : (f : Findings) → joined_findings f nothing ≡ f
