use Rattle.std.proofs.Common.{◌≡◌, ◌∙◌, ap, string_bytes}
use Rattle.toml.specs.View.{view, members_view, table_view}
use Rattle.wl_plain.specs.Tables.{with_member}
use Rattle.wl_plain.proofs.TableLemmas.{inserted}
use Rattle.wl_plain.proofs.tables.with_member.Goals as goal

pub returns : goal.returns
returns c =
    ap members_view c.in_ok-insert.ensures.entries ∙ inserted c.args.table.now.entries c.in_ok-name.name c.args.value
    ∙ ap (λ k. with_member k (view c.args.value) (table_view c.args.table.now)) c.in_ok-name.ensures.ok
