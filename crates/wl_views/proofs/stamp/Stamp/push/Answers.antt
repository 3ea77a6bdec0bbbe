-- The front of a time and its last four digits.
use Rattle.std.proofs.Common.{◌≡◌, ◌∙◌, ◌++◌, ◌/◌, ◌≤◌, List, ℕ, length, ap, sym, arith, append_assoc}
use Rattle.std.specs.Fmt.{decimal}
use Rattle.wl_views.specs.declared.stamp.Stamp.{Stamp}
use Rattle.wl_views.specs.Digits.{four_digits}
use Rattle.wl_views.proofs.Times.{four_more, short_front}
use Rattle.wl_views.proofs.stamp.Stamp.push.Goals as goal
use Rattle.wl_views.proofs.stamp.Stamp.push.Goals.{then-front-self, else-front-self}

-- the front that is spelled
pub push_four-requires : goal.push_four-requires
push_four-requires c =
    let some : 10000 ≤ c.args.time = omega (arith, c.if-front-eq0.false) in
    let front : c.if-front-self.self.front ≡ c.args.time / 10000 = elim c.if-front-self.branch [
      | then-front-self w ↦ ap (λ (s : Stamp). s.front) w.self-is ∙ w.spell.ensures
      | else-front-self w ↦ ap (λ (s : Stamp). s.front) w.self-is ∙ sym w.if-front-self.false
    ] in
    let short = short_front c.args.time some c.ranges.time.fits in
    let same = ap (λ (n : ℕ). length (decimal n)) front in
    let long = ap length c.spelled.ensures.value in
    let len = c.push_bytes.ensures.len in
    let room = c.requires in
    omega arith

pub returns-clause-bytes : goal.returns-clause-bytes
returns-clause-bytes c =
    let some : 10000 ≤ c.args.time = omega (arith, c.if-front-eq0.false) in
    let front : c.if-front-self.self.front ≡ c.args.time / 10000 = elim c.if-front-self.branch [
      | then-front-self w ↦ ap (λ (s : Stamp). s.front) w.self-is ∙ w.spell.ensures
      | else-front-self w ↦ ap (λ (s : Stamp). s.front) w.self-is ∙ sym w.if-front-self.false
    ] in
    let old : List ℕ = c.args.text.now.items in
    let last : List ℕ = four_digits c.args.time in
    c.push_four.ensures.bytes ∙ ap (λ ys. ys ++ last) c.push_bytes.ensures.bytes ∙ append_assoc old c.spelled.result.now last
    ∙ ap (λ ys. old ++ (ys ++ last)) (c.spelled.ensures.value ∙ ap decimal front)
    ∙ ap (λ ys. old ++ ys) (four_more c.args.time some c.ranges.time.fits)

pub returns-clause-grown : goal.returns-clause-grown
returns-clause-grown c =
    let some : 10000 ≤ c.args.time = omega (arith, c.if-front-eq0.false) in
    let front : c.if-front-self.self.front ≡ c.args.time / 10000 = elim c.if-front-self.branch [
      | then-front-self w ↦ ap (λ (s : Stamp). s.front) w.self-is ∙ w.spell.ensures
      | else-front-self w ↦ ap (λ (s : Stamp). s.front) w.self-is ∙ sym w.if-front-self.false
    ] in
    let short = short_front c.args.time some c.ranges.time.fits in
    let same = ap (λ (n : ℕ). length (decimal n)) front in
    let long = ap length c.spelled.ensures.value in
    let len = c.push_bytes.ensures.len in
    let grown = c.push_four.ensures.grown in
    omega arith
