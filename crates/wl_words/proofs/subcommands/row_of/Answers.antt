use Rattle.std.proofs.Common.{◌∙◌, sym, []}
use Rattle.wl_words.specs.declared.tables.SubcommandRow.{SubcommandRow}
use Rattle.wl_words.proofs.Tabled.{row_at}
use Rattle.wl_words.proofs.subcommands.row_of.Goals as goal

pub returns-then-eq : goal.returns-then-eq
returns-then-eq c =
    let past : SubcommandRow = record {
      word = record { ref_ptr = (0, 0); now = [] };
      about = record { ref_ptr = (0, 0); now = [] };
      options = record { ref_ptr = (0, 0); now = [] };
    } in
    row_at c.args.rows.now c.loop-row.row-index past c.args.word.now c.requires c.loop-row-test.true (sym c.eq.ensures ∙ c.if-eq.true)
