use Rattle.std.proofs.Common.{arith, subst, ap, ◌∙◌, sym, true, ◌≡◌, ◌+◌, ◌-◌, ◌≤◌, take, length, length-append}
use Rattle.wl_record.specs.declared.parse.Stop.TheVariants.{Open}
use Rattle.wl_record.specs.Parsing.{TakesLines, IsStop, past_len}
use Rattle.wl_record.proofs.PieceLemmas.{piece_fault, moved_front, whole_piece, cut_past, cut_none, rest_fits}
use Rattle.wl_record.proofs.read.take_piece.Goals as goal
use Rattle.wl_record.proofs.read.take_piece.Goals.{then-past, else-past, then-past-2-via-then-past-2, then-past-2-via-else-past-2+then-not-is_open}

pub returns-then-past-2-clause-fault : goal.returns-then-past-2-clause-fault
returns-then-past-2-clause-fault c =
    let rs = c.in-Ok.ensures.told.0 in
    let told : TakesLines c.args.limits (take c.if-past.allowed c.args.buffer.now.items) rs c.in-Ok.rest.now = subst (λ b. TakesLines c.args.limits (take c.if-past.allowed b) c.in-Ok.ensures.told.0 c.in-Ok.rest.now) c.deref.ensures.value c.in-Ok.ensures.told.1 in
    let grown : length c.take_lines.new.records.items ≡ length c.args.records.now.items + length rs = ap length c.in-Ok.ensures.told.2 ∙ length-append c.args.records.now.items rs in
    let count : c.args.lines + (c.len.result - c.len-before.result) + 1 ≡ c.args.lines + length rs + 1 = omega (arith, grown, c.len.ensures, c.len-before.ensures, c.take_lines.new.records.ok.0, c.args.records.now.ok.0) in
    let cut : c.if-past.allowed + past_len c.args.past ≡ c.args.filled = elim c.if-past.branch [
      | then-past w ↦ cut_past c.args.filled c.if-past.allowed c.args.past w.if-past.true c.requires.some w.allowed-is
      | else-past w ↦ cut_none c.args.filled c.if-past.allowed c.args.past w.if-past.false w.allowed-is
    ] in
    let opened : c.in-Ok.stop ≡ Open → c.args.past ≡ true = elim c.then-past-2.branch [
      | then-past-2-via-then-past-2 w ↦ λ _. w.if-past-2.true
      | then-past-2-via-else-past-2+then-not-is_open w ↦ λ is. absurd (let set : w.is_open.result ≡ true = w.is_open.ensures.1 is in cc (w.if-not-is_open.true))
    ] in
    piece_fault c.args.limits c.args.buffer.now.items c.args.filled c.if-past.allowed c.args.past c.args.lines _ rs c.in-Ok.rest.now c.in-Ok.stop c.fault_of.result c.requires.within cut told c.in-Ok.ensures.stop opened count c.fault_of.ensures

pub overflow_sub-allowed-2 : goal.overflow_sub-allowed-2
overflow_sub-allowed-2 c =
    let told : TakesLines c.args.limits (take c.if-past.allowed c.args.buffer.now.items) c.in-Ok.ensures.told.0 c.in-Ok.rest.now = subst (λ b. TakesLines c.args.limits (take c.if-past.allowed b) c.in-Ok.ensures.told.0 c.in-Ok.rest.now) c.deref.ensures.value c.in-Ok.ensures.told.1 in
    let within : c.if-past.allowed ≤ length c.args.buffer.now.items = elim c.if-past.branch [ then-past w ↦ omega (arith, w.allowed-is, c.requires.within) | else-past w ↦ omega (arith, w.allowed-is, c.requires.within) ] in
    rest_fits c.args.limits c.args.buffer.now.items c.if-past.allowed c.in-Ok.ensures.told.0 c.in-Ok.rest.now within told

pub returns-clause-ok : goal.returns-clause-ok
returns-clause-ok c =
    let rs = c.in-Ok.ensures.told.0 in
    let told : TakesLines c.args.limits (take c.if-past.allowed c.args.buffer.now.items) rs c.in-Ok.rest.now = subst (λ b. TakesLines c.args.limits (take c.if-past.allowed b) c.in-Ok.ensures.told.0 c.in-Ok.rest.now) c.deref.ensures.value c.in-Ok.ensures.told.1 in
    let grown : length c.take_lines.new.records.items ≡ length c.args.records.now.items + length rs = ap length c.in-Ok.ensures.told.2 ∙ length-append c.args.records.now.items rs in
    let count : c.args.lines + (c.len.result - c.len-before.result) ≡ c.args.lines + length rs = omega (arith, grown, c.len.ensures, c.len-before.ensures, c.take_lines.new.records.ok.0, c.args.records.now.ok.0) in
    let within : c.if-past.allowed ≤ length c.args.buffer.now.items = elim c.if-past.branch [ then-past w ↦ omega (arith, w.allowed-is, c.requires.within) | else-past w ↦ omega (arith, w.allowed-is, c.requires.within) ] in
    let cut : c.if-past.allowed + past_len c.args.past ≡ c.args.filled = elim c.if-past.branch [
      | then-past w ↦ cut_past c.args.filled c.if-past.allowed c.args.past w.if-past.true c.requires.some w.allowed-is
      | else-past w ↦ cut_none c.args.filled c.if-past.allowed c.args.past w.if-past.false w.allowed-is
    ] in
    let moved = moved_front c.args.limits c.args.buffer.now.items c.copy_within.new.self.items c.if-past.allowed rs c.in-Ok.rest.now within told c.copy_within.ensures.items in
    let opened : IsStop c.args.limits c.in-Ok.rest.now Open = subst (IsStop c.args.limits c.in-Ok.rest.now) (c.is_open.ensures.0 c.if-not-is_open.false) c.in-Ok.ensures.stop in
    (rs, whole_piece c.args.limits c.args.buffer.now.items c.copy_within.new.self.items c.args.filled c.if-past.allowed c.args.past rs c.in-Ok.rest.now c.requires.within c.if-past-2.false cut told opened moved, sym (ap length moved), count, c.in-Ok.ensures.told.2)
