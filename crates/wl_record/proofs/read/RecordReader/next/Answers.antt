use Rattle.std.proofs.Common.{arith, sym, ap, subst, refl, ◌∙◌, ◌≡◌, ◌+◌, ◌-◌, ◌≤◌, ◌++◌, ℕ, List, [], ◌∷◌, length, take, drop, nat_lt}
use Rattle.std.proofs.lemmas.List.{length-take-le, append-nil, nil_from_length}
use Rattle.wl_device.specs.Limits.{most_calls-is}
use Rattle.wl_record.specs.Limits.{most_record_bytes-is}
use Rattle.wl_record.specs.declared.limits.TheConstants.{MOST_BYTES}
use Rattle.wl_device.specs.Devices.{moved, again}
use Rattle.std.specs.List.{AllByRecursion}
use Rattle.wl_record_core.specs.Within.{IsWithinBy}
use Rattle.wl_record.specs.declared.fault.TextFault.TheVariants.{Read, Truncated}
use Rattle.wl_record.specs.Reading.{ReadProgress, HasRead, RecordsOf, FaultOf}
use Rattle.wl_record.specs.Parsing.{TakesPiece, IsPieceFault}
use Rattle.wl_record.proofs.ReadLemmas.{read_again, read_piece, read_all, read_truncated, read_failed, read_fault, read_out, kept_call, kept_spent, kept_piece, piece_count, piece_bytes, past_means}
use Rattle.wl_record.proofs.read.RecordReader.next.Goals as goal

pub overflow_sub-self-inside : goal.overflow_sub-self-inside
overflow_sub-self-inside g c = omega (arith, c.self.invariant.4, most_record_bytes-is)

pub read_behind-requires-clause-some : goal.read_behind-requires-clause-some
read_behind-requires-clause-some g c = omega (arith, c.self.invariant.4, most_record_bytes-is)

pub invariant_of-self : goal.invariant_of-self
invariant_of-self g c = kept_call _ _ _ _ _ _ c.self.invariant c.if-self-ge-MOST_CALLS.false c.in-Again.ensures.len

pub invariant_of-self-in-Failed : goal.invariant_of-self-in-Failed
invariant_of-self-in-Failed g c = kept_spent _ _ _ _ _ _ c.self.invariant c.in-Failed.ensures.len

pub invariant_of-self-then-self-gt0 : goal.invariant_of-self-then-self-gt0
invariant_of-self-then-self-gt0 g c = kept_spent _ _ _ _ _ _ c.self.invariant c.in-End.ensures.len

pub invariant_of-self-in-End : goal.invariant_of-self-in-End
invariant_of-self-in-End g c = kept_spent _ _ _ _ _ _ c.self.invariant c.in-End.ensures.len

pub invariant_of-self-in-Err : goal.invariant_of-self-in-Err
invariant_of-self-in-Err g c = kept_spent _ _ _ _ _ _ c.self.invariant (c.in-Err.ensures.len ∙ c.in-Bytes.ensures.len)

pub invariant_of-self-in-Bytes : goal.invariant_of-self-in-Bytes
invariant_of-self-in-Bytes g c =
    let piece = piece_bytes c.self.inside.buffer.items c.read_behind.new.buffer.items c.self.inside.begun c.in-Bytes.n (MOST_BYTES + 1 - c.self.inside.bytes) (omega (arith, c.self.invariant.0, c.self.invariant.1)) c.in-Bytes.ensures.len c.in-Bytes.ensures.kept c.in-Bytes.ensures.fits.1 in
    let means = past_means (c.self.inside.bytes + c.in-Bytes.n) (nat_lt MOST_BYTES (c.self.inside.bytes + c.in-Bytes.n)) refl (omega (arith, piece.3, c.self.invariant.4, most_record_bytes-is)) in
    let told = c.in-Ok.ensures.ok in
    let count = piece_count c.self.inside.limits _ _ told.0 _ told.1 in
    kept_piece _ _ _ _ _ c.self.inside.lines _ _ _ c.self.invariant c.if-self-ge-MOST_CALLS.false (c.in-Ok.ensures.len ∙ c.in-Bytes.ensures.len) (omega (arith, told.1.short, told.2)) (means.1 told.1.none_past) (omega (arith, count, piece.2, told.2, told.3, c.self.invariant.5))

pub returns-then-self-ge-MOST_CALLS-clause-fault : goal.returns-then-self-ge-MOST_CALLS-clause-fault
returns-then-self-ge-MOST_CALLS-clause-fault g c = λ s answers told h.
    let gives = g.R.Source.gives in
    let here = subst (λ p. HasRead gives s answers told p c.args.reader.now) (sym c.self.view_is) h in
    subst (λ l. FaultOf l gives s Read c.args.reader.now) (ap (λ (p : ReadProgress). p.limits) c.self.view_is)
    (read_out gives s answers told _ c.args.reader.now here (omega (arith, c.self.invariant.3, c.if-self-ge-MOST_CALLS.true, most_calls-is)))

pub returns-in-Again-clause-came : goal.returns-in-Again-clause-came
returns-in-Again-clause-came g c = (
  [],
  sym (append-nil c.args.records.now.items),
  (
    tt,
    λ s answers told h.
        let gives = g.R.Source.gives in
        let here = subst (λ p. HasRead gives s answers told p c.args.reader.now) (sym c.self.view_is) h in
        let P : List ℕ → Type 0 = λ b. HasRead gives s (answers ++ again ∷ []) (told ++ []) (record { limits = c.self.inside.limits; calls = c.self.inside.calls + 1; bytes = c.self.inside.bytes; lines = c.self.inside.lines; begun = b }) c.read_behind.new.reader in
        (answers ++ again ∷ [], subst P (sym c.in-Again.ensures.kept) (read_again gives s answers told _ c.args.reader.now here c.read_behind.new.reader c.in-Again.ensures.gives)),
  ),
)

pub returns-in-Again-clause-steps : goal.returns-in-Again-clause-steps
returns-in-Again-clause-steps g c = (ap (λ (p : ReadProgress). p.calls + 1) c.self.view_is, omega (arith, c.if-self-ge-MOST_CALLS.false, most_calls-is))

pub returns-in-Failed-clause-fault : goal.returns-in-Failed-clause-fault
returns-in-Failed-clause-fault g c = λ s answers told h.
    let gives = g.R.Source.gives in
    let here = subst (λ p. HasRead gives s answers told p c.args.reader.now) (sym c.self.view_is) h in
    subst (λ l. FaultOf l gives s Read c.read_behind.new.reader) (ap (λ (p : ReadProgress). p.limits) c.self.view_is)
    (read_failed gives s answers told _ c.args.reader.now here (omega (arith, c.if-self-ge-MOST_CALLS.false, most_calls-is)) c.read_behind.new.reader c.in-Failed.ensures.gives)

pub returns-then-self-gt0-clause-fault : goal.returns-then-self-gt0-clause-fault
returns-then-self-gt0-clause-fault g c = λ s answers told h.
    let gives = g.R.Source.gives in
    let here = subst (λ p. HasRead gives s answers told p c.args.reader.now) (sym c.self.view_is) h in
    let few : c.self.inside.begun ≤ length c.self.inside.buffer.items = omega (arith, c.self.invariant.0, c.self.invariant.1) in
    subst (λ l. FaultOf l gives s Truncated c.read_behind.new.reader) (ap (λ (p : ReadProgress). p.limits) c.self.view_is)
    (read_truncated gives s answers told _ c.args.reader.now here (omega (arith, c.if-self-ge-MOST_CALLS.false, most_calls-is)) c.read_behind.new.reader c.in-End.ensures.gives
    (λ none. let some : length (take c.self.inside.begun c.self.inside.buffer.items) ≡ c.self.inside.begun = length-take-le c.self.inside.begun c.self.inside.buffer.items few in
    let zero : length (take c.self.inside.begun c.self.inside.buffer.items) ≡ 0 = ap length none in omega (arith, c.if-self-gt0.true, some, zero)))

pub returns-else-self-gt0-clause-came : goal.returns-else-self-gt0-clause-came
returns-else-self-gt0-clause-came g c = (
  [],
  sym (append-nil c.args.records.now.items),
  (
    tt,
    λ s answers told h.
        let gives = g.R.Source.gives in
        let here = subst (λ p. HasRead gives s answers told p c.args.reader.now) (sym c.self.view_is) h in
        let few : c.self.inside.begun ≤ length c.self.inside.buffer.items = omega (arith, c.self.invariant.0, c.self.invariant.1) in
        let none : c.self.inside.begun ≡ 0 = omega (arith, c.if-self-gt0.false) in
        let all = read_all gives s answers told _ c.args.reader.now here (omega (arith, c.if-self-ge-MOST_CALLS.false, most_calls-is)) c.read_behind.new.reader c.in-End.ensures.gives
        (nil_from_length (take c.self.inside.begun c.self.inside.buffer.items) (length-take-le c.self.inside.begun c.self.inside.buffer.items few ∙ none)) in
        subst (λ l. RecordsOf l gives s (told ++ []) c.read_behind.new.reader) (ap (λ (p : ReadProgress). p.limits) c.self.view_is)
        (subst (λ t. RecordsOf c.self.inside.limits gives s t c.read_behind.new.reader) (sym (append-nil told)) all),
  ),
)

pub returns-in-Err-clause-fault : goal.returns-in-Err-clause-fault
returns-in-Err-clause-fault g c = λ s answers told h.
    let gives = g.R.Source.gives in
    let here = subst (λ p. HasRead gives s answers told p c.args.reader.now) (sym c.self.view_is) h in
    let piece = piece_bytes c.self.inside.buffer.items c.read_behind.new.buffer.items c.self.inside.begun c.in-Bytes.n (MOST_BYTES + 1 - c.self.inside.bytes) (omega (arith, c.self.invariant.0, c.self.invariant.1)) c.in-Bytes.ensures.len c.in-Bytes.ensures.kept c.in-Bytes.ensures.fits.1 in
    let means = past_means (c.self.inside.bytes + c.in-Bytes.n) (nat_lt MOST_BYTES (c.self.inside.bytes + c.in-Bytes.n)) refl (omega (arith, piece.3, c.self.invariant.4, most_record_bytes-is)) in
    let bytes = c.self.inside.bytes + c.in-Bytes.n in
    let came = take c.in-Bytes.n (drop c.self.inside.begun c.read_behind.new.buffer.items) in
    let is : IsPieceFault c.self.inside.limits (take c.self.inside.begun c.self.inside.buffer.items ++ came) (nat_lt MOST_BYTES bytes) c.self.inside.lines c.in-Err.fault = subst (λ b. IsPieceFault c.self.inside.limits b (nat_lt MOST_BYTES bytes) c.self.inside.lines c.in-Err.fault) piece.0 c.in-Err.ensures.fault in
    subst (λ l. FaultOf l gives s c.in-Err.fault c.read_behind.new.reader) (ap (λ (p : ReadProgress). p.limits) c.self.view_is)
    (read_fault gives s answers told _ c.args.reader.now here (omega (arith, c.if-self-ge-MOST_CALLS.false, most_calls-is)) c.read_behind.new.reader came (nat_lt MOST_BYTES bytes) bytes c.in-Err.fault c.in-Bytes.ensures.gives is (ap (λ z. c.self.inside.bytes + z) (sym piece.1)) means.0 means.1)

pub returns-in-Ok-clause-came : goal.returns-in-Ok-clause-came
returns-in-Ok-clause-came g c =
    let piece = piece_bytes c.self.inside.buffer.items c.read_behind.new.buffer.items c.self.inside.begun c.in-Bytes.n (MOST_BYTES + 1 - c.self.inside.bytes) (omega (arith, c.self.invariant.0, c.self.invariant.1)) c.in-Bytes.ensures.len c.in-Bytes.ensures.kept c.in-Bytes.ensures.fits.1 in
    let means = past_means (c.self.inside.bytes + c.in-Bytes.n) (nat_lt MOST_BYTES (c.self.inside.bytes + c.in-Bytes.n)) refl (omega (arith, piece.3, c.self.invariant.4, most_record_bytes-is)) in
    let told_all = c.in-Ok.ensures.ok in
    let bytes = c.self.inside.bytes + c.in-Bytes.n in
    let came = take c.in-Bytes.n (drop c.self.inside.begun c.read_behind.new.buffer.items) in
    let begun = take c.in-Ok.taken.0 c.take_piece-taken.new.buffer.items in
    let taken : TakesPiece c.self.inside.limits (take c.self.inside.begun c.self.inside.buffer.items ++ came) (nat_lt MOST_BYTES bytes) told_all.0 begun = subst (λ b. TakesPiece c.self.inside.limits b (nat_lt MOST_BYTES bytes) told_all.0 begun) piece.0 told_all.1 in (
      told_all.0,
      told_all.4,
      (
        subst (λ l. AllByRecursion (IsWithinBy l) told_all.0) (ap (λ (p : ReadProgress). p.limits) c.self.view_is) told_all.1.taken.within,
        λ s answers told h.
            let gives = g.R.Source.gives in
            let here = subst (λ p. HasRead gives s answers told p c.args.reader.now) (sym c.self.view_is) h in
            (answers ++ moved came ∷ [], read_piece gives s answers told _ c.args.reader.now here c.read_behind.new.reader came (nat_lt MOST_BYTES bytes) told_all.0 begun bytes c.in-Ok.taken.1 c.in-Bytes.ensures.gives taken (ap (λ z. c.self.inside.bytes + z) (sym piece.1)) (means.1 told_all.1.none_past) told_all.3),
      ),
    )

pub returns-in-Ok-clause-steps : goal.returns-in-Ok-clause-steps
returns-in-Ok-clause-steps g c = (ap (λ (p : ReadProgress). p.calls + 1) c.self.view_is, omega (arith, c.if-self-ge-MOST_CALLS.false, most_calls-is))

pub returns-in-Again-clause-over : goal.returns-in-Again-clause-over
returns-in-Again-clause-over g c = λ is. absurd (omega (arith, is, ap (λ (p : ReadProgress). p.calls) c.self.view_is, c.if-self-ge-MOST_CALLS.false, most_calls-is))

pub returns-in-Failed-clause-over : goal.returns-in-Failed-clause-over
returns-in-Failed-clause-over g c = λ is. absurd (omega (arith, is, ap (λ (p : ReadProgress). p.calls) c.self.view_is, c.if-self-ge-MOST_CALLS.false, most_calls-is))

pub returns-then-self-gt0-clause-over : goal.returns-then-self-gt0-clause-over
returns-then-self-gt0-clause-over g c = λ is. absurd (omega (arith, is, ap (λ (p : ReadProgress). p.calls) c.self.view_is, c.if-self-ge-MOST_CALLS.false, most_calls-is))

pub returns-else-self-gt0-clause-over : goal.returns-else-self-gt0-clause-over
returns-else-self-gt0-clause-over g c = λ is. absurd (omega (arith, is, ap (λ (p : ReadProgress). p.calls) c.self.view_is, c.if-self-ge-MOST_CALLS.false, most_calls-is))

pub returns-in-Err-clause-over : goal.returns-in-Err-clause-over
returns-in-Err-clause-over g c = λ is. absurd (omega (arith, is, ap (λ (p : ReadProgress). p.calls) c.self.view_is, c.if-self-ge-MOST_CALLS.false, most_calls-is))

pub returns-in-Ok-clause-over : goal.returns-in-Ok-clause-over
returns-in-Ok-clause-over g c = λ is. absurd (omega (arith, is, ap (λ (p : ReadProgress). p.calls) c.self.view_is, c.if-self-ge-MOST_CALLS.false, most_calls-is))

pub returns-in-Failed-clause-spent : goal.returns-in-Failed-clause-spent
returns-in-Failed-clause-spent g c = sym most_calls-is

pub returns-then-self-gt0-clause-spent : goal.returns-then-self-gt0-clause-spent
returns-then-self-gt0-clause-spent g c = sym most_calls-is

pub returns-in-Err-clause-spent : goal.returns-in-Err-clause-spent
returns-in-Err-clause-spent g c = sym most_calls-is

pub returns-else-self-gt0-clause-steps : goal.returns-else-self-gt0-clause-steps
returns-else-self-gt0-clause-steps g c = sym most_calls-is

pub returns-then-self-ge-MOST_CALLS-clause-spent : goal.returns-then-self-ge-MOST_CALLS-clause-spent
returns-then-self-ge-MOST_CALLS-clause-spent g c = omega (arith, ap (λ (p : ReadProgress). p.calls) c.self.view_is, c.self.invariant.3, c.if-self-ge-MOST_CALLS.true, most_calls-is)
