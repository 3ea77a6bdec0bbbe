use Rattle.wl_formats.proofs.Lines.{others, no_others}
use Rattle.wl_formats.proofs.formats.next_line.Goals as goal

pub returns-then-len-text-clause-lines : goal.returns-then-len-text-clause-lines
returns-then-len-text-clause-lines c = others c.args.text.now c.line_len-len.result c.requires c.line_len-len.ensures.value

pub returns-else-len-text-clause-lines : goal.returns-else-len-text-clause-lines
returns-else-len-text-clause-lines c =
    no_others c.args.text.now c.line_len-len.result c.requires c.line_len-len.ensures.value c.if-len-text.false
