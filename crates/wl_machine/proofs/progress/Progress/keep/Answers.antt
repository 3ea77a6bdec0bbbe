use Rattle.std.proofs.Common.{◌∙◌, sym, subst}
use Rattle.wl_machine.specs.Keeps.{with_sample}
use Rattle.wl_machine.specs.States.{IsIn}
use Rattle.wl_machine.proofs.Keeping.{delimiter_on, in_delimiter, in_end, in_intermission, in_sent_tail, intermission_on, sent_tail_on, tail_on}
use Rattle.wl_machine.proofs.Kept.{receiving_small, receiving_room}
use Rattle.wl_machine.proofs.progress.Progress.keep.Goals as goal

pub keep_bit-requires-clause-small : goal.keep_bit-requires-clause-small
keep_bit-requires-clause-small c = receiving_small c.args.self.now c.in-Receiving.last c.in-Receiving.run' c.in-Receiving.is c.requires

pub keep_bit-requires-clause-room : goal.keep_bit-requires-clause-room
keep_bit-requires-clause-room c = receiving_room c.args.self.now c.in-Receiving.last c.in-Receiving.run' c.in-Receiving.is c.requires

pub returns-in-ReceivedTail-clause-next : goal.returns-in-ReceivedTail-clause-next
returns-in-ReceivedTail-clause-next c e s i =
    subst (λ m. IsIn m (with_sample s c.args.level)) (sym (c.keep_tail.ensures.next e))
    (tail_on c.args.self.now s c.in-ReceivedTail.place c.in-ReceivedTail.is_crc_right c.args.level
    (in_end c.in-ReceivedTail.is_crc_right c.in-ReceivedTail.place c.args.level (sym c.keep_tail.ensures.value ∙ e)).to c.in-ReceivedTail.is i)

pub returns-in-SentTail-clause-next : goal.returns-in-SentTail-clause-next
returns-in-SentTail-clause-next c e s i =
    subst (λ m. IsIn m (with_sample s c.args.level)) (sym (c.keep_sent_tail.ensures.next e))
    (sent_tail_on c.args.self.now s c.in-SentTail.place c.args.level
    (in_sent_tail c.in-SentTail.place c.args.level (sym c.keep_sent_tail.ensures.value ∙ e)).below c.in-SentTail.is i)

pub returns-in-Delimiter-clause-next : goal.returns-in-Delimiter-clause-next
returns-in-Delimiter-clause-next c e s i =
    subst (λ m. IsIn m (with_sample s c.args.level)) (sym (c.keep_delimiter.ensures.next e))
    (delimiter_on c.args.self.now s c.in-Delimiter.role c.in-Delimiter.count c.args.level
    (in_delimiter c.in-Delimiter.count c.args.level (sym c.keep_delimiter.ensures.value ∙ e)).below c.in-Delimiter.is i)

pub returns-in-Intermission-clause-next : goal.returns-in-Intermission-clause-next
returns-in-Intermission-clause-next c e s i =
    subst (λ m. IsIn m (with_sample s c.args.level)) (sym (c.keep_intermission.ensures.next e))
    (intermission_on c.args.self.now s c.in-Intermission.role c.in-Intermission.count c.args.level
    (in_intermission c.in-Intermission.count c.args.level (sym c.keep_intermission.ensures.value ∙ e)).below c.in-Intermission.is i)
