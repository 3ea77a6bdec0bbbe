-- A piece of a text, and how reading goes on with it.
use Rattle.std.specs.Prelude.{◌≡◌, ℕ, ◌+◌, ◌-◌, ◌<◌, ◌≤◌, List, ◌++◌, length, take, drop, Bool, true, false}
use Rattle.std.specs.List.{copy_within}
use Rattle.std.proofs.Common.{inr, sym, ap, ◌∙◌, subst, arith, take-append-drop, length-append, length-drop}
use Rattle.std.proofs.Math.Seq.{drop-append_seam, take-append_seam}
use Rattle.std.proofs.lemmas.List.{length-take-le, drop-take, take-take}
use Rattle.wl_limits.specs.declared.Limits.{Limits}
use Rattle.wl_record_core.specs.declared.record.Record.{Record}
use Rattle.wl_record.specs.declared.fault.TextFault.{TextFault}
use Rattle.wl_record.specs.declared.parse.Stop.{Stop}
use Rattle.wl_record.specs.declared.parse.Stop.TheVariants.{Open}
use Rattle.wl_record.specs.Parsing.{TakesLines, TakesPiece, IsStop, IsPieceFault, stop_fault, past_len}

-- the first bytes of a list are the first of them, and then the others
pub cut_at : (xs : List ℕ) (n m : ℕ) → n ≤ m → m ≤ length xs → (take m xs ≡ take n xs ++ drop n (take m xs)) × (length (drop n (take m xs)) ≡ m - n)
cut_at xs n m h w =
    (sym (take-append-drop n (take m xs)) ∙ ap (λ z. z ++ drop n (take m xs)) (take-take n m xs h), omega (arith, length-drop n (take m xs), length-take-le m xs w))

pub piece_fault : (limits : Limits) (buffer : List ℕ) (filled allowed : ℕ) (past : Bool) (lines m : ℕ) (rs : List Record) (rest : List ℕ) (stop : Stop) (fault : TextFault)
    → filled ≤ length buffer → allowed + past_len past ≡ filled → TakesLines limits (take allowed buffer) rs rest → IsStop limits rest stop → (stop ≡ Open → past ≡ true)
    → m ≡ lines + length rs + 1 → fault ≡ stop_fault stop m → IsPieceFault limits (take filled buffer) past lines fault
piece_fault limits buffer filled allowed past lines m rs rest stop fault within cut taken stops opened count is =
    let parts = cut_at buffer allowed filled (omega (arith, cut)) within in
    inr (
      rs,
      stop,
      record { allowed = take allowed buffer; beyond = drop allowed (take filled buffer); rest = rest; parts = parts.0; beyond_is = omega (arith, parts.1, cut); taken = taken; stops = stops; open_is_past = opened },
      is ∙ ap (stop_fault stop) count,
    )

-- what is moved to the front of the buffer
pub moved_front : (limits : Limits) (buffer new : List ℕ) (allowed : ℕ) (rs : List Record) (rest : List ℕ) → allowed ≤ length buffer → TakesLines limits (take allowed buffer) rs rest
    → new ≡ copy_within buffer (allowed - length rest) allowed 0 → take (length rest) new ≡ rest
moved_front limits buffer new allowed rs rest within taken is =
    let whole : allowed ≡ length taken.front + length rest = omega (arith, length-take-le allowed buffer within, ap length taken.parts, length-append taken.front rest) in
    let start : allowed - length rest ≡ length taken.front = omega (arith, whole) in
    let here : new ≡ copy_within buffer (length taken.front) (length taken.front + length rest) 0 = is ∙ (λ i. copy_within buffer (start i) (whole i) 0) in
    let size : length taken.front + length rest - length taken.front ≡ length rest = omega arith in
    let inner : take (length taken.front + length rest - length taken.front) (drop (length taken.front) buffer) ≡ rest =
    ap (λ n. take n (drop (length taken.front) buffer)) size
    ∙ (sym (drop-take (length taken.front) (length rest) buffer)
    ∙ (ap (λ n. drop (length taken.front) (take n buffer)) (sym whole) ∙ (ap (drop (length taken.front)) taken.parts ∙ drop-append_seam taken.front rest))) in
    ap (take (length rest)) here
    ∙ (ap (λ z. take (length rest) (z ++ drop (0 + (length taken.front + length rest - length taken.front)) buffer)) inner ∙ take-append_seam rest (drop (0 + (length taken.front + length rest - length taken.front)) buffer))

pub cut_past : (filled allowed : ℕ) (past : Bool) → past ≡ true → 0 < filled → allowed ≡ filled - 1 → allowed + past_len past ≡ filled
cut_past filled allowed past set some is = omega (arith, ap past_len set, some, is)

pub cut_none : (filled allowed : ℕ) (past : Bool) → past ≡ false → allowed ≡ filled → allowed + past_len past ≡ filled
cut_none filled allowed past set is = omega (arith, ap past_len set, is)

-- nothing is past those of a text, and a line is open
pub whole_piece : (limits : Limits) (buffer new : List ℕ) (filled allowed : ℕ) (past : Bool) (rs : List Record) (rest : List ℕ) → filled ≤ length buffer → past ≡ false → allowed + past_len past ≡ filled
    → TakesLines limits (take allowed buffer) rs rest → IsStop limits rest Open → take (length rest) new ≡ rest → TakesPiece limits (take filled buffer) past rs (take (length rest) new)
whole_piece limits buffer new filled allowed past rs rest within none cut taken opened is =
    let same : allowed ≡ filled = omega (arith, ap past_len none, cut) in
    subst (TakesPiece limits (take filled buffer) past rs) (sym is) (record { taken = subst (λ z. TakesLines limits (take z buffer) rs rest) same taken; one_line = opened.0; short = opened.1; none_past = none })

pub rest_fits : (limits : Limits) (buffer : List ℕ) (allowed : ℕ) (rs : List Record) (rest : List ℕ) → allowed ≤ length buffer → TakesLines limits (take allowed buffer) rs rest → length rest ≤ allowed
rest_fits limits buffer allowed rs rest within taken = omega (arith, length-take-le allowed buffer within, ap length taken.parts, length-append taken.front rest)
